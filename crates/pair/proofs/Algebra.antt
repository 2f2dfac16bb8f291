-- Laws that users of sets expect, of the bytes that chains end in: both and either are commutative, associative and idempotent, and the first
-- without the empty image comes back as its shortest image.
-- Assumes nothing.
use mathlib.Core.Path.{◌≡◌, sym, ap, ◌∙◌}
use mathlib.Core.List.{List, []}
use Prim.Native.Nat.{ℕ}
use Rattle.lists.specs.Members.{has}
use Rattle.lists.proofs.Members.{has_none}
use Rattle.image.specs.Grammar.{Accepted}
use Rattle.write.specs.Written.{Written}
use Rattle.pair_operation.specs.declared.Operation.{Operation}
use Rattle.pair_operation.specs.declared.Operation.TheVariants.{Without}
use Rattle.pair_operation.specs.Result.{keeps}
use Rattle.pair.specs.Chain.{Thing, given, made, means, Ends}
use Rattle.pair_operation.proofs.Sets.{Even, keeps_comm, keeps_assoc, keeps_self, keeps_all}
use Rattle.pair.proofs.Chains.{chain_writes, chains_same}

module _ {op : Operation} (even : Even op) where
  -- IN EITHER ORDER
  pub bytes_comm : (t u : Thing) {b c : List ℕ} → Ends (made op t u) b → Ends (made op u t) c → b ≡ c
  bytes_comm t u e f = chains_same op t u op u t e f (λ z. keeps_comm even (means t z) (means u z))

  -- HOWEVER THREE ARE GROUPED
  pub bytes_assoc : (t u v : Thing) {b c : List ℕ} → Ends (made op (made op t u) v) b → Ends (made op t (made op u v)) c → b ≡ c
  bytes_assoc t u v e f =
      chains_same op (made op t u) v op t (made op u v) e f (λ z. keeps_assoc even (means t z) (means u z) (means v z))

  -- WITH ITSELF an image gives the shortest image of its list
  pub bytes_self : (image xs : List ℕ) (a : Accepted image xs) {b : List ℕ} → Ends (made op (given image xs a) (given image xs a)) b → Written xs b
  bytes_self image xs a e =
      chain_writes op (given image xs a) (given image xs a) e xs a.listed (λ z. sym (keeps_self even (has z xs)))

-- WITHOUT THE EMPTY IMAGE so does the first
pub bytes_without_none : (image xs none : List ℕ) (a : Accepted image xs) (n : Accepted none []) {b : List ℕ}
    → Ends (made Without (given image xs a) (given none [] n)) b
    → Written xs b
bytes_without_none image xs none a n e =
    chain_writes Without (given image xs a) (given none [] n) e xs a.listed
    (λ z. sym (ap (keeps Without (has z xs)) (has_none z) ∙ keeps_all (has z xs)))
