-- The step at a rank: what is promised.
use Rattle.std.specs.Prelude.{List, [], ◌∷◌, ℕ, ltb, length, get_or, Result, Ok, Err}
use Rattle.lists.specs.Choice.{pick}
use Rattle.rules.specs.Refusals.{rank_too_large, refusal}
use Rattle.rules.specs.Paper.{Paper, accepting, refusing}
use Rattle.rules.specs.declared.Refusal.{Refusal}
use Rattle.image.specs.Verdict.{Verdict, taken, refused, verdict}

-- the values of an answer: the step
abbrev pub values : ℕ
values = 1

-- the numbers of each case
abbrev pub paper_of : Result ℕ Refusal → Paper
paper_of (Ok s) = accepting (s ∷ [])
paper_of (Err r) = refusing values r

-- the step at rank k, or 17 at the number of steps where k is not below it
abbrev pub rank_in : ℕ → Verdict → Paper
rank_in k (taken xs) = pick (ltb k (length xs)) (accepting (get_or xs k 0 ∷ [])) (refusing values (refusal rank_too_large (length xs)))
rank_in k (refused r) = refusing values r

abbrev pub promised : List ℕ → ℕ → Paper
promised image k = rank_in k (verdict image)
