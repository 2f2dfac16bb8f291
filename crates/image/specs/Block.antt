-- One block: the steps that its part of the payload stands for, or the number of its refusal.
use Rattle.std.specs.Prelude.{List, ℕ, ◌+◌, ◌-◌, leb, eqb, length}
use Rattle.lists.specs.Choice.{pick}
use Rattle.lists.specs.Rising.{beyond}
use Rattle.rules.specs.Refusals.{bad_code, wrong_count, wrong_last, bad_row}
use Rattle.codes.specs.Codes.{Values, all, bad, steps_from}
use Rattle.row.specs.Row.{row_steps, row_size}
use Rattle.image.specs.declared.Entry.{Entry}
use Rattle.image.specs.declared.Before.{Before}

pub data Found : Type 0 where
  steps : List ℕ → Found
  wrong : ℕ → Found

-- codes: 7 where one of them fails
abbrev pub in_codes : Values → Found
in_codes (all xs) = steps xs
in_codes (bad w n) = wrong bad_code

-- a row from step `o` up to, and not at, `top`: 10 where its length is wrong or a 1 stands past the span
unfoldable pub in_row : ℕ → ℕ → List ℕ → Found
in_row o top part =
    pick (eqb (length part) (row_size (top - o)))
    (pick (leb (beyond o (row_steps o part)) top) (steps (row_steps o part)) (wrong bad_row))
    (wrong bad_row)

-- by the kind: 0 codes, 1 bit row
abbrev pub in_part : Before → Entry → List ℕ → Found
in_part b e part = pick (eqb e.kind 0) (in_codes (steps_from b.next part 0)) (in_row b.next (e.last + 1) part)

-- 8 where the number of steps is not upto less the earlier upto; then 9 where the last step is not the stated one
unfoldable pub judged : Before → Entry → Found → Found
judged b e (steps xs) =
    pick (eqb (length xs) (e.upto - b.upto))
    (pick (eqb (beyond b.next xs) (e.last + 1)) (steps xs) (wrong wrong_last))
    (wrong wrong_count)
judged b e (wrong n) = wrong n

-- the block of an entry, after `b`, in its part
unfoldable pub block_of : Before → Entry → List ℕ → Found
unfolding in_row judged
block_of b e part = judged b e (in_part b e part)
