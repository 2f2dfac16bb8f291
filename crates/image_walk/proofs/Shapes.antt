-- Laws of what a walk has ahead, by where it stands: at a code, in a row, past the last step; and that these steps rise.
-- Assumes nothing.
use mathlib.Core.Path.{◌≡◌, sym, ap, ◌∙◌, subst}
use mathlib.Core.List.{List, [], ◌∷◌, ◌++◌}
use Prim.Native.Nat.{ℕ, suc, ◌+◌, ◌-◌, ◌≤◌, ◌<◌}
use native.Mathlib.Omega.{arith}
use native.Mathlib.Decide.{ℕ_discrete}
use native.Mathlib.Numerals.{add-one}
use borrow.Author.Tests.{lt-ltb, le-ltb, eq-eqb, ne_eqb}
use lib.Dec.{ltb, eqb}
use lib.ListN.{take, drop}
use Rattle.lists.specs.Rising.{Rising, beyond}
use Rattle.lists.specs.Parts.{part}
use Rattle.lists.proofs.Choice.{pick_yes, pick_no}
use Rattle.lists.proofs.Rising.{Rising_weaken, Rising-beyond}
use Rattle.rules.specs.Limits.{no_step}
use Rattle.codes.specs.Codes.{all, list_of, steps_from}
use Rattle.codes.proofs.Codes.{steps_end, Rising_steps}
use Rattle.row.specs.Row.{bits_from, row_steps}
use Rattle.row.specs.Words.{word_bits}
use Rattle.row.proofs.Row.{row_none, Rising_row}
use Rattle.image_walk.specs.declared.Walk.{Walk}
use Rattle.image_walk.specs.declared.Rest.{Rest}
use Rattle.image_walk.specs.Blocks.{later}
use Rattle.image_walk.specs.Walk.{codes_in, row_in, others, here, ahead}
use Rattle.image_walk.specs.Turns.{left, Readable}
use Rattle.image_walk.specs.Inside.Moves.{Met}

-- ---- a part that is read to its end

part_none : (pay : List ℕ) (at end : ℕ) → end ≤ at → part pay at end ≡ []
part_none pay at end h = let q : end - at ≡ 0 = omega arith in ap (λ (k : ℕ). take k (drop at pay)) q

module _ (o : ℕ) (pay : List ℕ) (at end : ℕ) (h : end ≤ at) where
  pub whole_none : steps_from o (part pay at end) 0 ≡ all []
  whole_none = ap (λ (l : List ℕ). steps_from o l 0) (part_none pay at end h) ∙ steps_end o [] 0 (omega arith)

  pub codes_none : codes_in o pay at end ≡ []
  codes_none = ap list_of whole_none

  pub row_in_none : row_in o pay at end ≡ []
  row_in_none = ap (row_steps o) (part_none pay at end h) ∙ row_none o

-- ---- the steps of the open block

module _ (pay : List ℕ) (w : Walk) where
  pub here_codes : w.bits ≡ 0 → here pay w ≡ codes_in (w.step + 1) pay w.at w.end
  unfolding here
  here_codes h = pick_yes (eqb w.bits 0) _ _ (eq-eqb w.bits 0 h)

  pub here_row : (w.bits ≡ 0 → ⊥)
      → here pay w ≡ bits_from word_bits w.low (others w.bits) ++ row_in (w.low + word_bits) pay w.at w.end
  unfolding here
  here_row h = pick_no (eqb w.bits 0) _ _ (ne_eqb w.bits 0 h)

module _ (pay : List ℕ) (p : Rest) where
  pub left_codes : p.kind ≡ 0 → left pay p ≡ codes_in p.next pay p.at p.end
  unfolding left
  left_codes h = pick_yes (eqb p.kind 0) _ _ (eq-eqb p.kind 0 h)

  pub left_row : (p.kind ≡ 0 → ⊥) → left pay p ≡ row_in p.from pay p.at p.end
  unfolding left
  left_row h = pick_no (eqb p.kind 0) _ _ (ne_eqb p.kind 0 h)

  -- by the kind of the open block
  pub by_kind : {X : Type 0} → (p.kind ≡ 0 → X) → ((p.kind ≡ 0 → ⊥) → X) → X
  by_kind f g = elim (ℕ_discrete p.kind 0) [ yes h ↦ f h | no h ↦ g h ]

  pub left_none : p.end ≤ p.at → left pay p ≡ []
  left_none h =
      by_kind (λ k. left_codes k ∙ codes_none p.next pay p.at p.end h) (λ k. left_row k ∙ row_in_none p.from pay p.at p.end h)

  pub rising_left : Readable pay p → Rising p.next (left pay p)
  rising_left r =
      by_kind (λ k. rw (left_codes k) (Rising_steps p.next (part pay p.at p.end) 0))
      (λ k. rw (left_row k) (Rising_weaken (row_in p.from pay p.at p.end) (r.order k) (Rising_row p.from (part pay p.at p.end))))

-- where a list with a first element ends, the element is below
pub first_below : (o u x : ℕ) (xs ys : List ℕ) (e : ℕ) → Rising u xs → xs ≡ x ∷ ys → beyond o xs ≤ e → x < e
first_below o u x xs ys e r q l =
    let t : Rising u (x ∷ ys) = subst (Rising u) q r in
    omega (arith, Rising-beyond (suc x) ys t.1, ap (beyond o) q)

-- what is beyond the rest is beyond the whole
pub beyond_first : (o x : ℕ) (xs ys : List ℕ) → xs ≡ x ∷ ys → beyond (x + 1) ys ≡ beyond o xs
beyond_first o x xs ys q = ap (λ (n : ℕ). beyond n ys) (add-one x) ∙ sym (ap (beyond o) q)

-- ---- all steps ahead

module _ (s pay : List ℕ) (w : Walk) where
  pub ahead_step : w.step < no_step → ahead s pay w ≡ w.step ∷ (here pay w ++ later s pay w.block)
  unfolding ahead
  ahead_step h = pick_yes (ltb w.step no_step) _ _ (lt-ltb w.step no_step h)

  pub ahead_none : no_step ≤ w.step → ahead s pay w ≡ []
  unfolding ahead
  ahead_none h = pick_no (ltb w.step no_step) _ _ (le-ltb w.step no_step h)

-- the walk at the first step of what is left has a step
pub Met_step : (pay : List ℕ) (p : Rest) (r : Walk) → Readable pay p → Met pay p r → r.step < no_step
Met_step pay p r a m = first_below p.next p.next r.step (left pay p) (here pay r) no_step (rising_left pay p a) m.is a.small
