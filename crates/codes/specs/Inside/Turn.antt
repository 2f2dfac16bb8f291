-- What a loop over the codes of a block that was checked goes by: one code of it.
use Rattle.std.specs.Prelude.{◌≡◌, List, ◌∷◌, ℕ, ◌+◌, ◌^◌, ◌≤◌, ◌<◌, length}
use Rattle.codes.specs.Codes.{steps_from, list_of, Sound}

-- the code at `at` stands for `step` and ends before `n`, in such a block: what is left after it is one too
pub record Turn (o : ℕ) (s : List ℕ) (at step n : ℕ) : Type 0 where
  pub is : list_of (steps_from o s at) ≡ step ∷ list_of (steps_from (step + 1) s n)
  pub sound : Sound (step + 1) (steps_from (step + 1) s n)
  pub fits : step < 2 ^ 32
  pub on : at < n
  pub within : n ≤ length s
