-- Four codes of one byte, read as one number, and their steps laid into a window: four turns in one.
-- Assumes nothing.
use mathlib.Core.Path.{◌≡◌, refl, sym, ap, ◌∙◌, subst}
use mathlib.Core.List.{List, [], ◌∷◌, ◌++◌}
use Prim.Native.Nat.{ℕ, ◌+◌, ◌-◌, ◌*◌, ◌/◌, ◌%◌, ◌≤◌, ◌<◌}
use native.Mathlib.Omega.{arith}
use lib.ListN.{length, get_or}
use Rattle.lists.specs.Parts.{part}
use Rattle.lists.specs.Bytes.{Bytes}
use Rattle.lists.proofs.Parts.{part-append, part_one}
use Rattle.rules.specs.Numbers.{number_at}
use Rattle.rules.proofs.Numbers.{number_four}
use Rattle.std.specs.Prelude.{Ok}
use Rattle.code.specs.Code.{one_group, flag, code_of, code_size, reading}
use Rattle.code.proofs.Laws.{code_single, length_code, read_code}
use Rattle.row.specs.Words.{word_bits}
use Rattle.pair_window.specs.Window.{Adds}
use Rattle.image_walk.specs.declared.Walk.{Walk}
use Rattle.image_walk.specs.Walk.{Placed}
use Rattle.image_walk.specs.Turns.{coded_walk}
use Rattle.pair_lay.specs.Inside.Runs.{Ran}
use Rattle.pair_lay.specs.Inside.Fours.{at_once, ones, Plain, Leads, Leading}
use Rattle.pair_lay.proofs.Running.{Ran_start, Ran_turn}

-- ---- the bytes of a number, to the base 256: the lowest, and the others

low_plain : (n a q : ℕ) → a < 256 → n ≡ a + 256 * q → n / flag % 2 ≡ 0 → a < one_group
low_plain n a q h e z = omega arith

low_digit : (n a q : ℕ) → a < 256 → n ≡ a + 256 * q → n % 256 ≡ a
low_digit n a q h e = omega arith

others : (n a q : ℕ) → a < 256 → n ≡ a + 256 * q → n / 256 ≡ q
others n a q h e = omega arith

pub plain : (n : ℕ) → n / flag % 2 ≡ 0 → n / 256 / flag % 2 ≡ 0 → n / 256 / 256 / flag % 2 ≡ 0 → n / 256 / 256 / 256 / flag % 2 ≡ 0 → Plain n
plain n z1 z2 z3 z4 a b c d ha hb hc hd e =
    let e2 = others n a (b + 256 * (c + 256 * d)) ha e in
    let e3 = others (n / 256) b (c + 256 * d) hb e2 in
    let e4 : n / 256 / 256 / 256 ≡ d + 256 * 0 = omega (arith, others (n / 256 / 256) c d hc e3) in (
      low_plain n a (b + 256 * (c + 256 * d)) ha e z1,
      (low_plain (n / 256) b (c + 256 * d) hb e2 z2, (low_plain (n / 256 / 256) c d hc e3 z3, low_plain (n / 256 / 256 / 256) d 0 hd e4 z4)),
    )

-- ---- a byte that is a code

module _ (pay : List ℕ) (at gap : ℕ) (h : at < length pay) (e : gap ≡ get_or pay at 0) (l : gap < one_group) where
  front : (end : ℕ) → at < end → part pay at end ≡ code_of gap ++ part pay (at + 1) end
  front end g =
      sym (part-append pay at (at + 1) end (omega arith) (omega arith))
      ∙ ap (λ (xs : List ℕ). xs ++ part pay (at + 1) end) (part_one pay at 0 h ∙ ap (λ (x : ℕ). x ∷ []) (sym e) ∙ sym (code_single gap l))

  one_byte : 0 + code_size gap ≡ 1
  one_byte = let q : code_size gap ≡ 1 = sym (length_code gap) ∙ ap length (code_single gap l) in omega arith

  leads : (stride : ℕ) → stride ≡ gap + 1 → Leads pay at stride
  leads stride q =
      record {
        gap = gap;
        small = l;
        is = q;
        reads =
            λ end g within.
            read_code (part pay at end) 0 gap (part pay (at + 1) end) (omega arith) (front end g) ∙ ap (λ (n : ℕ). Ok (reading gap n)) one_byte;
      }

-- the number of four such bytes, with 1 added to each, has the strides as its bytes
pub leading : (pay : List ℕ) (at n m : ℕ) → Bytes pay → at + at_once ≤ length pay → n ≡ number_at pay at → m ≡ n + ones → Plain n
    → Leading pay at (m % 256) (m / 256 % 256) (m / 256 / 256 % 256) (m / 256 / 256 / 256)
leading pay at n m y h e q p =
    let a = get_or pay at 0 in
    let b = get_or pay (at + 1) 0 in
    let c = get_or pay (at + 2) 0 in
    let d = get_or pay (at + 3) 0 in
    let is : n ≡ a + 256 * (b + 256 * (c + 256 * d)) = e ∙ sym (number_four pay at a b c d h refl refl refl refl) in
    let k = p a b c d (y at) (y (at + 1)) (y (at + 2)) (y (at + 3)) is in
    let m1 : m ≡ (a + 1) + 256 * ((b + 1) + 256 * ((c + 1) + 256 * (d + 1))) = omega (arith, q, is) in
    let m2 = others m (a + 1) ((b + 1) + 256 * ((c + 1) + 256 * (d + 1))) (omega (arith, k.0)) m1 in
    let m3 = others (m / 256) (b + 1) ((c + 1) + 256 * (d + 1)) (omega (arith, k.1.0)) m2 in
    let m4 = others (m / 256 / 256) (c + 1) (d + 1) (omega (arith, k.1.1.0)) m3 in
    record {
      one = leads pay at a (omega arith) refl k.0 (m % 256) (low_digit m (a + 1) _ (omega (arith, k.0)) m1);
      two = leads pay (at + 1) b (omega arith) refl k.1.0 (m / 256 % 256) (low_digit (m / 256) (b + 1) _ (omega (arith, k.1.0)) m2);
      three =
          leads pay (at + 2) c (omega arith) refl k.1.1.0 (m / 256 / 256 % 256)
          (low_digit (m / 256 / 256) (c + 1) _ (omega (arith, k.1.1.0)) m3);
      four = leads pay (at + 3) d (omega arith) refl k.1.1.1 (m / 256 / 256 / 256) m4;
    }

-- ---- the steps of a run, by their places in the window

module _ (pay : List ℕ) (w : Walk) (o : ℕ) (words : List ℕ) where
  pub Ran_from : Placed pay w → w.bits ≡ 0 → w.at < w.end → o ≤ w.step
      → Ran pay w o words words (coded_walk (o + (w.step - o)) w.at w.end w.block)
  Ran_from p b h l =
      let q : w.step ≡ o + (w.step - o) = omega arith in
      subst (λ (m : ℕ). Ran pay w o words words (coded_walk m w.at w.end w.block)) q (Ran_start pay w o words p b h l)

  -- the walk that is made of what a run came to
  pub Ran_coded : (words' : List ℕ) (step at : ℕ) (r : Walk) → Ran pay w o words words' (coded_walk step at w.end w.block)
      → r ≡ coded_walk step at w.end w.block
      → Ran pay w o words words' r × (r ≡ coded_walk r.step r.at w.end w.block)
  Ran_coded words' step at r s e =
      subst (λ (v : Walk). Ran pay w o words words' v × (v ≡ coded_walk v.step v.at w.end w.block)) (sym e) (s, refl)

  module _ (y : Bytes pay) where
    Ran-stride : (words' : List ℕ) (place at after stride : ℕ) → Ran pay w o words words' (coded_walk (o + place) at w.end w.block)
        → at + 1 ≡ after → at < w.end → place < word_bits * length words → Leads pay at stride
        → (words'' : List ℕ) → length words'' ≡ length words' → Adds words' (λ (p : ℕ). (p + place) ∷ []) words''
        → Ran pay w o words words'' (coded_walk (o + (place + stride)) after w.end w.block)
    Ran-stride words' place at after stride s n h l k words'' z a =
        let back : place ≡ o + place - o = omega arith in
        let on : o + place + (k.gap + 1) ≡ o + (place + stride) = omega (arith, k.is) in
        subst (λ (m : ℕ). Ran pay w o words words'' (coded_walk (o + (place + stride)) m w.end w.block)) n
        (subst (λ (m : ℕ). Ran pay w o words words'' (coded_walk m (at + 1) w.end w.block)) on
        (Ran_turn pay w o words words' (o + place) at s y h (omega arith) k.gap 1 (k.reads w.end h (s.placed.on s.on).within) words'' z
        (subst (λ (m : ℕ). Adds words' (λ (p : ℕ). (p + m) ∷ []) words'') back a)))

    pub Ran_four : (words₀ : List ℕ) (place at first second third fourth : ℕ)
        → Ran pay w o words words₀ (coded_walk (o + place) at w.end w.block)
        → at + at_once ≤ w.end → place + first + second + third < word_bits * length words → Leading pay at first second third fourth
        → (words₁ : List ℕ) → length words₁ ≡ length words₀ → Adds words₀ (λ (p : ℕ). (p + place) ∷ []) words₁
        → (words₂ : List ℕ) → length words₂ ≡ length words₁ → Adds words₁ (λ (p : ℕ). (p + (place + first)) ∷ []) words₂
        → (words₃ : List ℕ) → length words₃ ≡ length words₂ → Adds words₂ (λ (p : ℕ). (p + (place + first + second)) ∷ []) words₃
        → (words₄ : List ℕ) → length words₄ ≡ length words₃ → Adds words₃ (λ (p : ℕ). (p + (place + first + second + third)) ∷ []) words₄
        → Ran pay w o words words₄ (coded_walk (o + (place + first + second + third + fourth)) (at + at_once) w.end w.block)
    Ran_four words₀ place at first second third fourth s h l k words₁ z₁ a₁ words₂ z₂ a₂ words₃ z₃ a₃ words₄ z₄ a₄ =
        let s₁ = Ran-stride words₀ place at (at + 1) first s refl (omega arith) (omega arith) k.one words₁ z₁ a₁ in
        let s₂ = Ran-stride words₁ (place + first) (at + 1) (at + 2) second s₁ (omega arith) (omega arith) (omega arith) k.two words₂ z₂ a₂ in
        let p : ℕ = place + first + second in
        let s₃ = Ran-stride words₂ p (at + 2) (at + 3) third s₂ (omega arith) (omega arith) (omega arith) k.three words₃ z₃ a₃ in
        Ran-stride words₃ (place + first + second + third) (at + 3) (at + at_once) fourth s₃ (omega arith) (omega arith) l k.four words₄ z₄ a₄

-- ---- how far four codes of one byte lead

pub strides : {pay : List ℕ} {at first second third fourth : ℕ} → Leading pay at first second third fourth
    → (first ≤ one_group) × ((second ≤ one_group) × ((third ≤ one_group) × (fourth ≤ one_group)))
strides k = (omega (arith, k.one.is, k.one.small), (omega (arith, k.two.is, k.two.small), (omega (arith, k.three.is, k.three.small), omega (arith, k.four.is, k.four.small))))
