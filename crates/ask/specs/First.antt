-- The first step at or after a bound: what is promised.
use Rattle.std.specs.Prelude.{List, [], ◌∷◌, ℕ, ltb, length, get_or}
use Rattle.lists.specs.Choice.{pick}
use Rattle.lists.specs.Below.{below}
use Rattle.rules.specs.Paper.{Paper, accepting, refusing}
use Rattle.image.specs.Verdict.{Verdict, taken, refused, verdict}
use Rattle.ask.specs.declared.First.{First}
use Rattle.ask.specs.declared.First.TheVariants.{Found, Nothing, Refused}

-- the values of an answer: whether a step was found (1, else 0), the step, its rank
abbrev pub values : ℕ
values = 3

-- a step with its rank, and "nothing", which is not a refusal
abbrev pub finding : ℕ → ℕ → Paper
finding s k = accepting (1 ∷ s ∷ k ∷ [])

abbrev pub nothing : Paper
nothing = accepting (0 ∷ 0 ∷ 0 ∷ [])

-- the numbers of each case
abbrev pub paper_of : First → Paper
paper_of (Found h) = finding h.step h.rank
paper_of Nothing = nothing
paper_of (Refused r) = refusing values r

-- the step at a rank with that rank, or nothing where there is none
abbrev pub at_rank : List ℕ → ℕ → Paper
at_rank xs k = pick (ltb k (length xs)) (finding (get_or xs k 0) k) nothing

-- the first step that is at least x: as many steps stand before it as are below x
abbrev pub first_in : ℕ → Verdict → Paper
first_in x (taken xs) = at_rank xs (below xs x)
first_in x (refused r) = refusing values r

abbrev pub promised : List ℕ → ℕ → Paper
promised image x = first_in x (verdict image)
