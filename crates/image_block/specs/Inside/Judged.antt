-- What the functions that find the refusal of a block say to each other.
use Rattle.std.specs.Prelude.{ℕ, ◌+◌, ◌-◌, eqb}
use Rattle.lists.specs.Choice.{pick}
use Rattle.rules.specs.Refusals.{wrong_count, wrong_last}
use Rattle.image.specs.declared.Entry.{Entry}
use Rattle.image.specs.declared.Before.{Before}

-- 8 and 9 by how many steps a block has and by one past the last of them
abbrev pub judged_number : Before → Entry → ℕ → ℕ → ℕ
judged_number b e count next = pick (eqb count (e.upto - b.upto)) (pick (eqb next (e.last + 1)) 0 wrong_last) wrong_count
