-- Where a bound falls in a list.
use Rattle.std.specs.Prelude.{List, [], ◌∷◌, ℕ, suc, leb}
use Rattle.lists.specs.Choice.{pick}

-- how many elements stand before the first that is at or after `x`: its rank, or the length where there is none
unfoldable pub below : List ℕ → ℕ → ℕ
below [] x = 0
below (y ∷ ys) x = pick (leb x y) 0 (suc (below ys x))
