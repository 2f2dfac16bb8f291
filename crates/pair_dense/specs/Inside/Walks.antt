-- Two walks that go together, window by window.
use Rattle.std.specs.Prelude.{◌≡◌, List, ◌++◌, ℕ, ◌-◌, ◌≤◌, ◌<◌, min, length}
use Rattle.rules.specs.Limits.{no_step}
use Rattle.image.specs.Taken.{steps_of}
use Rattle.image_walk.specs.declared.Walk.{Walk}
use Rattle.image_walk.specs.Walk.{ahead, Stands}
use Rattle.pair_operation.specs.declared.Operation.{Operation}
use Rattle.pair_operation.specs.Result.{result_of}
use Rattle.pair_operation.proofs.Merging.{Below}
use Rattle.pair_dense.specs.declared.Walks.{Walks}
use Rattle.pair_dense.specs.Inside.Words.{steps_in}

-- a walk that has no step below `o` ahead
pub record Along (o : ℕ) (s pay : List ℕ) (w : Walk) : Type 0 where
  pub stands : Stands s pay w
  pub below : Below o no_step (ahead s pay w)

-- the walks over `s` and over `t`, and the lower of their steps
pub record Together (s pay t tail : List ℕ) (m : Walks) : Type 0 where
  pub from : ℕ
  pub first : Along from s pay m.first
  pub second : Along from t tail m.second
  pub lower : m.next ≡ min m.first.step m.second.step

-- what an operation makes of the steps that the two have ahead
abbrev pub result_ahead : Operation → (s pay t tail : List ℕ) → Walks → List ℕ
result_ahead op s pay t tail m = result_of op (ahead s pay m.first) (ahead t tail m.second)

-- the walks at the first steps of two accepted images: all of the result is ahead, and it is not too long to be counted
pub record Begins (s pay t tail : List ℕ) (m : Walks) : Type 0 where
  pub together : Together s pay t tail m
  pub all : (op : Operation) → result_ahead op s pay t tail m ≡ result_of op (steps_of s) (steps_of t)
  pub few : (op : Operation) → length (result_of op (steps_of s) (steps_of t)) ≤ no_step

-- WHAT A WINDOW DOES: the result has the steps of the joined words, and then what it has of the steps after the window
pub record Passes (s pay t tail : List ℕ) (m : Walks) (left right : List ℕ) (r : Walks) : Type 0 where
  pub together : Together s pay t tail r
  pub same : length left ≡ length right
  pub past : no_step - r.next < no_step - m.next
  pub turn : (op : Operation) → result_ahead op s pay t tail m ≡ steps_in op m.next left right ++ result_ahead op s pay t tail r
