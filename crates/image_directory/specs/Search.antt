-- Where the directory of an image says that an answer is.
use Rattle.std.specs.Prelude.{Bool, List, [], ◌∷◌, ℕ, Option, None, Some, ltb, leb}
use Rattle.lists.specs.Choice.{pick}
use Rattle.image.specs.declared.Entry.{Entry}
use Rattle.image.specs.declared.Before.{Before}
use Rattle.image.specs.Entry.{start, after_entry}
use Rattle.image.specs.Taken.{entries_in}
use Rattle.image_directory.specs.declared.Question.{Question}
use Rattle.image_directory.specs.declared.Question.TheVariants.{Rank, Bound}
use Rattle.image_directory.specs.declared.Spot.{Spot}

-- a block has the step of a rank where its upto is above the rank, and the first step at or after a bound where its last step reaches the bound;
-- if no block before it has
abbrev pub passes : Question → Entry → Bool
passes (Rank k) e = ltb k e.upto
passes (Bound x) e = leb x e.last

-- the first entry that passes, with what stands before its block
abbrev pub spot_of : Question → Before → List Entry → Option Spot
spot_of q b [] = None
spot_of q b (e ∷ es) = pick (passes q e) (Some (record { before = b; entry = e })) (spot_of q (after_entry e) es)

-- where the first such entry of an image is
abbrev pub spot_in : Question → List ℕ → Option Spot
spot_in q s = spot_of q start (entries_in s)
