-- What the functions that answer a question say to each other.
use Rattle.std.specs.Prelude.{◌≡◌, List, ℕ, Option, None, Some}
use Rattle.image_directory.specs.declared.Question.{Question}
use Rattle.image_directory.specs.Search.{spot_in}
use Rattle.image_directory.specs.Part.{part_in}
use Rattle.image_block.specs.declared.Block.{Block}

-- the block where the directory says that the answer is, with its part, or none
abbrev pub Found : Question → List ℕ → Option Block → Type 0
Found q s None = spot_in q s ≡ None
Found q s (Some b) = (spot_in q s ≡ Some (record { before = b.before; entry = b.entry })) × (b.part.now ≡ part_in s b.before b.entry)
