-- Both, either and first-without-second of two lists, as sets of steps.
use Rattle.std.specs.Prelude.{Bool, ◌&&◌, ◌||◌, not, List, [], ◌∷◌, ℕ, zero, suc, max}
use Rattle.lists.specs.Choice.{pick}
use Rattle.lists.specs.Rising.{beyond}
use Rattle.lists.specs.Members.{has}
use Rattle.pair_operation.specs.declared.Operation.{Operation}
use Rattle.pair_operation.specs.declared.Operation.TheVariants.{Both, Either, Without}

-- whether an operation keeps a step, by whether the first has it and whether the second has it
abbrev pub keeps : Operation → Bool → Bool → Bool
keeps Both p q = p && q
keeps Either p q = p || q
keeps Without p q = p && not q

-- the numbers among `o`, `o + 1`, .., `k` of them, that pass a test, in order
unfoldable pub sieve : ℕ → ℕ → (ℕ → Bool) → List ℕ
sieve zero o p = []
sieve (suc k) o p = pick (p o) (o ∷ sieve k (suc o) p) (sieve k (suc o) p)

-- the steps of the result: those that the operation keeps, in order, up to the last step of either list
unfoldable pub result_of : Operation → List ℕ → List ℕ → List ℕ
result_of op xs ys = sieve (max (beyond 0 xs) (beyond 0 ys)) 0 (λ (z : ℕ). keeps op (has z xs) (has z ys))
