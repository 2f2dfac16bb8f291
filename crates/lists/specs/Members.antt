-- What a list holds, as a set of numbers.
use Rattle.std.specs.Prelude.{Bool, true, false, List, [], ◌∷◌, ℕ, eqb}
use Rattle.lists.specs.Choice.{pick}

-- is `z` among the elements?
unfoldable pub has : ℕ → List ℕ → Bool
has z [] = false
has z (x ∷ xs) = pick (eqb z x) true (has z xs)
