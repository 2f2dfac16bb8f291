-- Laws of runs of stores that leave four places loose: one after the other, one that leaves none loose, and what is put back.
-- Assumes nothing.
use mathlib.Core.Path.{◌≡◌, refl, sym, ap, ◌∙◌}
use mathlib.Core.List.{List, [], ◌∷◌, ◌++◌, append_assoc}
use Prim.Native.Nat.{ℕ, zero, suc, ◌+◌, ◌≤◌, ◌<◌}
use native.Mathlib.Omega.{arith}
use lib.ListN.{length, get_or, length-append}
use lib.Seq.{sets}
use Rattle.lists.specs.Stores.{Puts}
use Rattle.lists.proofs.Stores.{sets-append, get_or-sets_after, sets_same}
use Rattle.row_word.specs.Groups.{group_bits, Loose, PutsLoose}

-- of `vs`, `ws` are left, which go to `k`
pub record Loosely (out₀ : List ℕ) (at : ℕ) (vs out : List ℕ) (k : ℕ) (ws : List ℕ) : Type 0 where
  pub same : length out ≡ length out₀
  pub place : k + length ws ≡ at + length vs
  pub stores : (rest : List ℕ) → group_bits ≤ length rest → sets out k (ws ++ rest) ≡ sets out₀ at (vs ++ rest)

pub Loosely_start : (out : List ℕ) (at : ℕ) (vs ws : List ℕ) → ws ≡ vs → Loosely out at vs out at ws
Loosely_start out at vs ws e = record {
  same = refl;
  place = ap (λ (l : List ℕ). at + length l) e;
  stores = λ rest h. ap (λ (l : List ℕ). sets out at (l ++ rest)) e;
}

module _ {out₀ : List ℕ} {at : ℕ} {vs out : List ℕ} {k : ℕ} {ws : List ℕ} (s : Loosely out₀ at vs out k ws) where
  -- one run more
  pub Loosely_run : (us rest : List ℕ) {out' : List ℕ} {k' : ℕ} → ws ≡ us ++ rest → length out' ≡ length out → PutsLoose out k us out' k'
      → Loosely out₀ at vs out' k' rest
  Loosely_run us rest {out'} {k'} e n w = record {
    same = n ∙ s.same;
    place = omega (arith, w.place, s.place, ap length e ∙ length-append us rest);
    stores = λ more h.
        ap (λ (p : ℕ). sets out' p (rest ++ more)) w.place
        ∙ w.loose (rest ++ more) (omega (arith, length-append rest more))
        ∙ ap (sets out k) (sym (append_assoc us rest more) ∙ ap (λ (t : List ℕ). t ++ more) (sym e))
        ∙ s.stores more h;
  }

  pub loosely_end : ws ≡ [] → PutsLoose out₀ at vs out k
  loosely_end e =
      let q : k ≡ at + length vs = omega (arith, s.place, ap length e) in
      record {
        place = q;
        loose = λ rest h. ap (λ (p : ℕ). sets out p rest) (sym q) ∙ ap (λ (t : List ℕ). sets out k (t ++ rest)) (sym e) ∙ s.stores rest h;
      }

-- a run that leaves none loose
pub exact_loose : {l : List ℕ} {at : ℕ} {vs l' : List ℕ} {k : ℕ} → Puts l at vs l' k → PutsLoose l at vs l' k
exact_loose {l} {at} {vs} w = record {
  place = w.place;
  loose = λ rest h. ap (λ (r : List ℕ). sets r (at + length vs) rest) w.stores ∙ sym (sets-append l at vs rest);
}

-- the four numbers that stood after `vs`
pub put_back : (l : List ℕ) (at : ℕ) (vs l' : List ℕ) (e k w x y z : ℕ) → Loose l at vs l' → e ≡ at + length vs → k ≡ at + length vs → w ≡ get_or l e 0
    → x ≡ get_or l (e + 1) 0 → y ≡ get_or l (e + 2) 0 → z ≡ get_or l (e + 3) 0
    → sets l' k (w ∷ x ∷ y ∷ z ∷ []) ≡ sets l at vs
put_back l at vs l' e k w x y z f ee ek ew ex ey ez =
    ap (λ (n : ℕ). sets l' n saved) ek
    ∙ f saved (omega arith)
    ∙ sets-append l at vs saved
    ∙ sets_same (sets l at vs) (at + length vs) saved stood
  where
    saved : List ℕ
    saved = w ∷ x ∷ y ∷ z ∷ []

    here : (i v p : ℕ) → v ≡ get_or l p 0 → p ≡ at + length vs + i → v ≡ get_or (sets l at vs) (at + length vs + i) 0
    here i v p ev ep = ev ∙ ap (λ (n : ℕ). get_or l n 0) ep ∙ sym (get_or-sets_after l at vs (at + length vs + i) (omega arith))

    stood : (i : ℕ) → i < 4 → get_or saved i 0 ≡ get_or (sets l at vs) (at + length vs + i) 0
    stood zero h = here 0 w e ew (omega arith)
    stood (suc zero) h = here 1 x (e + 1) ex (omega arith)
    stood (suc (suc zero)) h = here 2 y (e + 2) ey (omega arith)
    stood (suc (suc (suc zero))) h = here 3 z (e + 3) ez (omega arith)
    stood (suc (suc (suc (suc i)))) h = absurd (omega arith)
