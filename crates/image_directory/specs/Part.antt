-- A block's part of the payload.
use Rattle.std.specs.Prelude.{List, ℕ, ◌+◌, ◌≤◌, length}
use Rattle.lists.specs.Parts.{part}
use Rattle.rules.specs.Numbers.{number_at}
use Rattle.image.specs.declared.Entry.{Entry}
use Rattle.image.specs.declared.Before.{Before}
use Rattle.image.specs.Entry.{payload_place}
use Rattle.image.specs.Taken.{payload_in}

-- from the end of the block before it to its own
abbrev pub part_in : List ℕ → Before → Entry → List ℕ
part_in s b e = part (payload_in s) b.end e.end

-- the part lies within the image
pub record Within (s : List ℕ) (b : Before) (e : Entry) : Type 0 where
  pub order : b.end ≤ e.end
  pub within : payload_place (number_at s 0) + e.end ≤ length s
