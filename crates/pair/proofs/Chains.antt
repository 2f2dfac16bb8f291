-- Demand 3: chains of operations over accepted images, with no link refused. Two chains that mean the same set end in identical bytes; no
-- accepted image of that set is shorter; and what a chain ends in is what writing the set gives.
-- Assumes nothing.
use mathlib.Core.Path.{◌≡◌, refl, sym, ap, ◌∙◌, subst}
use mathlib.Core.Bool.{Bool}
use mathlib.Core.List.{List}
use Prim.Native.Nat.{ℕ, ◌≤◌}
use lib.ListN.{length}
use Rattle.lists.specs.Members.{has}
use Rattle.lists.proofs.Members.{same_members}
use Rattle.rules.specs.Listed.{Listed}
use Rattle.image.specs.Grammar.{Accepted}
use Rattle.image.proofs.Accepted.{Accepted_one}
use Rattle.write.specs.Written.{Written}
use Rattle.write.proofs.Written.{written_one, written_Accepted, written_least}
use Rattle.pair_operation.specs.declared.Operation.{Operation}
use Rattle.pair_operation.specs.Result.{keeps, result_of}
use Rattle.pair.specs.Chain.{Thing, given, made, means, Link, Ends}
use Rattle.pair_operation.proofs.Result.{result_Listed, has_result}

-- the result of a link is one of document 01's lists
pub Link-Listed : {op : Operation} {c d b : List ℕ} (l : Link op c d b) → Listed (result_of op l.first l.second)
Link-Listed {op} l = result_Listed op l.first_accepted.listed l.second_accepted.listed l.few

-- what a thing ends in: an accepted image of the list that has what the thing means
pub record Ended (t : Thing) (b : List ℕ) : Type 0 where
  pub list : List ℕ
  pub image : Accepted b list
  pub members : (z : ℕ) → has z list ≡ means t z

linked : (op : Operation) (t u : Thing) (b : List ℕ) (c d : List ℕ) → Ended t c → Ended u d → Link op c d b → Ended (made op t u) b
linked op t u b c d e f l =
    let p : l.first ≡ e.list = Accepted_one l.first_accepted e.image in
    let q : l.second ≡ f.list = Accepted_one l.second_accepted f.image in
    record {
      list = result_of op l.first l.second;
      image = written_Accepted l.written (Link-Listed l);
      members = λ z.
          has_result op l.first l.second l.first_accepted.listed.rising l.second_accepted.listed.rising z
          ∙ ap (λ (xs : List ℕ). keeps op (has z xs) (has z l.second)) p
          ∙ ap (λ (ys : List ℕ). keeps op (has z e.list) (has z ys)) q
          ∙ ap (λ (m : Bool). keeps op m (has z f.list)) (e.members z)
          ∙ ap (keeps op (means t z)) (f.members z);
    }

pub ends : (t : Thing) (b : List ℕ) → Ends t b → Ended t b
ends (given image xs a) b e = record { list = xs; image = subst (λ (s : List ℕ). Accepted s xs) e a; members = λ z. refl }
ends (made op t u) b (c, d, e, f, l) = linked op t u b c d (ends t c e) (ends u d f) l

-- two lists of document 01 with the same members are one list
same_list : {xs ys : List ℕ} → Listed xs → Listed ys → ((z : ℕ) → has z xs ≡ has z ys) → xs ≡ ys
same_list {xs} {ys} l m h = same_members 0 0 xs ys l.rising m.rising h

module _ (op : Operation) (t u : Thing) {b : List ℕ} (e : Ends (made op t u) b) where
  link : Link op e.0 e.1 b
  link = e.4

  -- WHAT A CHAIN ENDS IN IS WHAT WRITING ITS SET GIVES
  pub chain_writes : (xs : List ℕ) → Listed xs → ((z : ℕ) → has z xs ≡ means (made op t u) z) → Written xs b
  unfolding linked
  chain_writes xs l h =
      let r = linked op t u b e.0 e.1 (ends t e.0 e.2) (ends u e.1 e.3) link in
      subst (λ (ys : List ℕ). Written ys b) (same_list (Link-Listed link) l (λ z. r.members z ∙ sym (h z))) link.written

  -- NO ACCEPTED IMAGE OF THE SET IS SHORTER
  pub chain_least : {c xs : List ℕ} → Accepted c xs → ((z : ℕ) → has z xs ≡ means (made op t u) z) → length b ≤ length c
  chain_least {c} {xs} a h = written_least (chain_writes xs a.listed h) a

-- CHAINS THAT MEAN THE SAME SET END IN IDENTICAL BYTES
pub chains_same : (op : Operation) (t u : Thing) (op' : Operation) (t' u' : Thing) {b c : List ℕ}
    → Ends (made op t u) b → Ends (made op' t' u') c → ((z : ℕ) → means (made op t u) z ≡ means (made op' t' u') z) → b ≡ c
chains_same op t u op' t' u' {b} {c} e f h =
    let r = ends (made op t u) b e in
    written_one (chain_writes op t u e r.list r.image.listed r.members)
    (chain_writes op' t' u' f r.list r.image.listed (λ z. r.members z ∙ h z))
