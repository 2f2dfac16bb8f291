-- What a chain ends in is what writing its set leaves; where an operation accepts, what it leaves at the front of the output is a link.
-- Assumes nothing.
use mathlib.Core.Path.{◌≡◌, refl, ◌∙◌, subst}
use mathlib.Core.List.{List}
use Prim.Native.Nat.{ℕ}
use Rattle.lists.specs.Members.{has}
use Rattle.image.specs.Grammar.{Accepted}
use Rattle.image.proofs.Accepted.{Accepted-Bytes}
use Rattle.write.proofs.Written.{written_one}
use Rattle.write.proofs.RoundTrip.{accepted_placed}
use Rattle.pair_operation.specs.declared.Operation.{Operation}
use Rattle.pair_operation.specs.Result.{keeps}
use Rattle.pair.specs.Chain.{Thing, given, made, means, Link, Ends}
use Rattle.pair.proofs.Links.{accepted_Link}
use Rattle.pair.proofs.Chains.{chain_writes}
use Rattle.demands.specs.Promises.{Wrote, Made}

-- what a chain ends in, and what writing its set leaves, are the same bytes
pub Ends_write : (op : Operation) (t u : Thing) {b : List ℕ} → Ends (made op t u) b
    → {zs c : List ℕ} → ((z : ℕ) → has z zs ≡ means (made op t u) z) → Wrote zs c
    → b ≡ c
Ends_write op t u e {zs} h w =
    let r = accepted_placed w.kept in
    written_one (chain_writes op t u e zs r.listed h) r.written ∙ w.front

module _ (op : Operation) {one two xs ys : List ℕ} (a : Accepted one xs) (c : Accepted two ys) where
  pub Made_links : {b : List ℕ} → Made op one two b → Link op one two b
  Made_links m = subst (Link op one two) m.front (accepted_Link op one two (Accepted-Bytes a) (Accepted-Bytes c) m.kept)

  -- an operation is the shortest chain
  pub Made_writes : {zs b d : List ℕ} → ((z : ℕ) → has z zs ≡ keeps op (has z xs) (has z ys)) → Made op one two b → Wrote zs d → b ≡ d
  Made_writes h m w = Ends_write op (given one xs a) (given two ys c) (one, two, refl, refl, Made_links m) h w
