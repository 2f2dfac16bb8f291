-- What checking an image and reading it back promise.
use Rattle.std.specs.Prelude.{List, [], ◌∷◌, ◌++◌, ℕ, ltb, length, drop, Result, Ok, Err}
use Rattle.lists.specs.Choice.{pick}
use Rattle.rules.specs.Refusals.{steps_too_short, refusal}
use Rattle.rules.specs.Paper.{Paper, accepting, refusing}
use Rattle.rules.specs.declared.Refusal.{Refusal}
use Rattle.image.specs.Verdict.{Verdict, taken, refused, verdict}

-- the values of an answer: the number of steps
abbrev pub values : ℕ
values = 1

-- the numbers of each case
abbrev pub paper_of : Result ℕ Refusal → Paper
paper_of (Ok n) = accepting (n ∷ [])
paper_of (Err r) = refusing values r

-- checking: the number of steps of an image that is taken, else its refusal
abbrev pub check_paper : Verdict → Paper
check_paper (taken xs) = accepting (length xs ∷ [])
check_paper (refused r) = refusing values r

abbrev pub check_promise : List ℕ → Paper
check_promise b = check_paper (verdict b)

-- reading back into a buffer of `n` places: 16 at the number of steps where that is too short
abbrev pub read_paper : ℕ → Verdict → Paper
read_paper n (taken xs) = pick (ltb n (length xs)) (refusing values (refusal steps_too_short (length xs))) (accepting (length xs ∷ []))
read_paper n (refused r) = refusing values r

abbrev pub read_promise : List ℕ → List ℕ → Paper
read_promise b buffer = read_paper (length buffer) (verdict b)

-- what the buffer then holds: the steps in its first places and the rest unchanged, or, after a refusal, what it held
abbrev pub steps_after : List ℕ → Verdict → List ℕ
steps_after buffer (taken xs) = pick (ltb (length buffer) (length xs)) buffer (xs ++ drop (length xs) buffer)
steps_after buffer (refused r) = buffer

abbrev pub read_steps : List ℕ → List ℕ → List ℕ
read_steps b buffer = steps_after buffer (verdict b)
