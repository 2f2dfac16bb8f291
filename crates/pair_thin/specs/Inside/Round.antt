-- The two sides of a merge, and what a round of turns does to them.
use Rattle.std.specs.Prelude.{◌≡◌, List, [], ◌++◌, ℕ, ◌+◌, ◌≤◌, ◌<◌, min, ltb, length, get_or, take}
use Rattle.lists.specs.Choice.{pick}
use Rattle.lists.specs.Parts.{part}
use Rattle.lists.specs.Stores.{Brief}
use Rattle.rules.specs.Limits.{no_step}
use Rattle.image_walk.specs.Walk.{ahead}
use Rattle.pair_operation.specs.declared.Operation.{Operation}
use Rattle.pair_operation.specs.Result.{result_of}
use Rattle.pair_operation.proofs.Merging.{Below}
use Rattle.pair_feed.specs.declared.Feed.{Feed}
use Rattle.pair_feed.specs.Feed.{Fed}
use Rattle.pair_thin.specs.declared.Sides.{Sides}

-- the steps that are to come from a feed: those that its buffer shows, and those ahead of its walk
unfoldable pub to_come : List ℕ → List ℕ → Feed → List ℕ → List ℕ
to_come s pay f steps = pick (ltb (get_or steps f.at 0) no_step) (part steps f.at f.end) [] ++ ahead s pay f.walk

-- a feed from which no step below `o` is to come, and which shows a number
pub record Comes (o : ℕ) (s pay : List ℕ) (f : Feed) (steps : List ℕ) : Type 0 where
  pub fed : Fed s pay f steps (to_come s pay f steps)
  pub below : Below o no_step (to_come s pay f steps)
  pub shows : f.at < f.end

-- the two sides, and the lower of the numbers that they show first
pub record Ready (s pay t tail : List ℕ) (m : Sides) (left right : List ℕ) : Type 0 where
  pub from : ℕ
  pub first : Comes from s pay m.left left
  pub second : Comes from t tail m.right right
  pub lower : m.next ≡ min (get_or left m.left.at 0) (get_or right m.right.at 0)

-- buffers that have numbers, and not many
abbrev pub Small : List ℕ → Type 0
Small steps = (0 < length steps) × Brief steps

-- what an operation makes of the steps that are to come, and how many these are
abbrev pub result_to_come : Operation → (s pay t tail : List ℕ) → Sides → (left right : List ℕ) → List ℕ
result_to_come op s pay t tail m left right = result_of op (to_come s pay m.left left) (to_come t tail m.right right)

abbrev pub steps_to_come : (s pay t tail : List ℕ) → Sides → (left right : List ℕ) → ℕ
steps_to_come s pay t tail m left right = length (to_come s pay m.left left) + length (to_come t tail m.right right)

-- WHAT A ROUND DOES: the kept steps stand in front of `kept`, and fewer steps are to come
pub record Goes (op : Operation) (s pay t tail : List ℕ) (m : Sides) (left right : List ℕ) (r : Sides) (left' right' kept : List ℕ) : Type 0 where
  pub ready : Ready s pay t tail r left' right'
  pub within : r.kept ≤ length kept
  pub is : result_to_come op s pay t tail m left right ≡ take r.kept kept ++ result_to_come op s pay t tail r left' right'
  pub less : steps_to_come s pay t tail r left' right' < steps_to_come s pay t tail m left right
