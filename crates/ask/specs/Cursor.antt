-- A cursor: starting it, its next step, and skipping with it: what is promised.
use Rattle.std.specs.Prelude.{List, [], ◌∷◌, ℕ, ◌+◌, ltb, length, get_or, drop, Result, Ok, Err}
use Rattle.lists.specs.Choice.{pick}
use Rattle.lists.specs.Below.{below}
use Rattle.rules.specs.Refusals.{no_such_cursor, refusal}
use Rattle.rules.specs.Paper.{Paper, accepting, refusing}
use Rattle.rules.specs.declared.Refusal.{Refusal}
use Rattle.image.specs.Verdict.{Verdict, taken, refused, verdict}
use Rattle.ask.specs.declared.Next.TheVariants as next
use Rattle.ask.specs.declared.Next.{Next}
use Rattle.ask.specs.declared.Cursor.{Cursor}

-- the values of an answer: whether a step was given (1, else 0), the step, and the rank of the cursor that is handed back
abbrev pub values : ℕ
values = 3

-- a step was given, or none; the cursor stands at a rank
abbrev pub giving : ℕ → ℕ → Paper
giving s k = accepting (1 ∷ s ∷ k ∷ [])

abbrev pub standing : ℕ → Paper
standing k = accepting (0 ∷ 0 ∷ k ∷ [])

-- the numbers of each case
abbrev pub next_paper : Result Next Refusal → Paper
next_paper (Ok (next.Step m)) = giving m.step m.cursor.rank
next_paper (Ok (next.End c)) = standing c.rank
next_paper (Err r) = refusing values r

abbrev pub placed_paper : Result Cursor Refusal → Paper
placed_paper (Ok c) = standing c.rank
placed_paper (Err r) = refusing values r

-- 19 where the image has no cursor of this rank: its cursors have the ranks 0 to n
abbrev pub on_rank : List ℕ → ℕ → Paper → Paper
on_rank xs k p = pick (ltb (length xs) k) (refusing values (refusal no_such_cursor 0)) p

-- a cursor starts at rank 0
abbrev pub start_in : Verdict → Paper
start_in (taken xs) = standing 0
start_in (refused r) = refusing values r

-- "next" gives the step at its rank and moves by one; at rank n it gives nothing and stays
abbrev pub next_in : ℕ → Verdict → Paper
next_in k (taken xs) = on_rank xs k (pick (ltb k (length xs)) (giving (get_or xs k 0) (k + 1)) (standing k))
next_in k (refused r) = refusing values r

-- "skip to x" moves to the first rank not below its own whose step is at least x, or to n
abbrev pub skip_in : ℕ → ℕ → Verdict → Paper
skip_in k x (taken xs) = on_rank xs k (standing (k + below (drop k xs) x))
skip_in k x (refused r) = refusing values r

abbrev pub start_promise : List ℕ → Paper
start_promise image = start_in (verdict image)

abbrev pub next_promise : ℕ → List ℕ → Paper
next_promise k image = next_in k (verdict image)

abbrev pub skip_promise : ℕ → List ℕ → ℕ → Paper
skip_promise k image x = skip_in k x (verdict image)
