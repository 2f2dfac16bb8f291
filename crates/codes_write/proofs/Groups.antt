-- What a loop goes by that writes many codes at once.
-- Assumes nothing.
use mathlib.Core.Path.{◌≡◌, sym, ap, ◌∙◌, subst}
use mathlib.Core.List.{List, [], ◌∷◌, ◌++◌, append_assoc}
use Prim.Native.Nat.{ℕ, suc, ◌+◌, ◌-◌, ◌≤◌, ◌<◌}
use native.Mathlib.Omega.{arith}
use native.Mathlib.Numerals.{add-one}
use lib.ListN.{length, get_or, drop, length-append, drop_of_length-le}
use lib.Seq.{sets, get_or-take, get_or-drop}
use Rattle.lists.specs.Rising.{Rising, beyond}
use Rattle.lists.specs.Parts.{part}
use Rattle.lists.specs.Stores.{Puts}
use Rattle.lists.proofs.Rising.{Rising-beyond, Rising_front, Rising_back, beyond-append, beyond-last}
use Rattle.lists.proofs.Parts.{drop_one, length_part, part-drop}
use Rattle.lists.proofs.Stores.{Storing}
use Rattle.code.specs.Code.{one_group, code_values, code_of}
use Rattle.code.proofs.Laws.{code_single}
use Rattle.codes.specs.Codes.{codes_for}
use Rattle.codes_write.specs.Inside.Groups.{Near}
use Rattle.codes.proofs.Codes.{codes_nil, codes_cons}
use Rattle.codes_write.proofs.Writing.{Next}

pub near_none : (o : ℕ) (xs : List ℕ) (i : ℕ) → length xs ≤ i → Near o (drop i xs)
near_none o xs i h = subst (Near o) (sym (drop_of_length-le xs h)) tt

module _ (o : ℕ) (xs : List ℕ) (i : ℕ) (h : i < length xs) where
  -- the gap at rank `i`, and those after it
  pub Near-cons : get_or xs i 0 - o < one_group → Near (get_or xs i 0 + 1) (drop (i + 1) xs) → Near o (drop i xs)
  Near-cons g t =
      let x = get_or xs i 0 in
      let v : Near (suc x) (drop (i + 1) xs) = subst (λ (n : ℕ). Near n (drop (i + 1) xs)) (add-one x) t in
      subst (Near o) (sym (drop_one xs i 0 h)) (g, v)

  pub Near_uncons : Near o (drop i xs) → (get_or xs i 0 - o < one_group) × Near (get_or xs i 0 + 1) (drop (i + 1) xs)
  Near_uncons t =
      let x = get_or xs i 0 in
      let v : Near o (x ∷ drop (i + 1) xs) = subst (Near o) (drop_one xs i 0 h) t in
      (v.0, subst (λ (n : ℕ). Near n (drop (i + 1) xs)) (sym (add-one x)) v.1)

  -- then its code is a single byte
  pub Near_codes : Next o xs i → Near o (drop i xs)
      → codes_for o (drop i xs) ≡ (get_or xs i 0 - o) ∷ codes_for (get_or xs i 0 + 1) (drop (i + 1) xs)
  Near_codes t n =
      t.codes
      ∙ ap (λ (l : List ℕ). l ++ codes_for (get_or xs i 0 + 1) (drop (i + 1) xs)) (code_single (get_or xs i 0 - o) (Near_uncons n).0)

-- ---- a part of what is left

codes_append : (o : ℕ) (xs ys : List ℕ) → codes_for o (xs ++ ys) ≡ codes_for o xs ++ codes_for (beyond o xs) ys
codes_append o [] ys = ap (λ (l : List ℕ). l ++ codes_for o ys) (sym (codes_nil o))
codes_append o (x ∷ xs) ys =
    codes_cons o x (xs ++ ys)
    ∙ ap (λ (l : List ℕ). code_of (x - o) ++ l) (codes_append (suc x) xs ys)
    ∙ sym (append_assoc (code_of (x - o)) (codes_for (suc x) xs) (codes_for (beyond (suc x) xs) ys))
    ∙ ap (λ (l : List ℕ). l ++ codes_for (beyond (suc x) xs) ys) (sym (codes_cons o x xs))

-- of the steps from rank `i` on, which are at least `o`, those before rank `j` are written first
pub record Parted (o : ℕ) (xs : List ℕ) (i j : ℕ) : Type 0 where
  pub rising : Rising o (part xs i j)
  pub end : beyond o (part xs i j) ≤ code_values
  pub room : length (codes_for o (part xs i j)) ≤ length (codes_for o (drop i xs))
  pub codes : codes_for o (drop i xs) ≡ codes_for o (part xs i j) ++ codes_for (get_or xs (j - 1) 0 + 1) (drop j xs)
  pub rising_left : Rising (get_or xs (j - 1) 0 + 1) (drop j xs)
  pub end_left : beyond (get_or xs (j - 1) 0 + 1) (drop j xs) ≤ code_values
  pub small : get_or xs (j - 1) 0 < code_values

beyond_front : (o : ℕ) (xs : List ℕ) (i j : ℕ) → i < j → j ≤ length xs → beyond o (part xs i j) ≡ get_or xs (j - 1) 0 + 1
beyond_front o xs i j h l =
    let n : length (part xs i j) ≡ j - i = length_part xs i j (omega arith) l in
    let k : length (part xs i j) - 1 ≡ j - i - 1 = omega (arith, n) in
    let q : i + (j - i - 1) ≡ j - 1 = omega arith in
    beyond-last o (part xs i j) (omega (arith, n))
    ∙ ap (λ (m : ℕ). get_or (part xs i j) m 0 + 1) k
    ∙ ap (λ (m : ℕ). m + 1) (get_or-take (j - i) (drop i xs) (j - i - 1) 0 (omega arith) ∙ get_or-drop i xs (j - i - 1) 0)
    ∙ ap (λ (m : ℕ). get_or xs m 0 + 1) q

pub parted : (o : ℕ) (xs : List ℕ) (i j : ℕ) → i < j → j ≤ length xs → Rising o (drop i xs) → beyond o (drop i xs) ≤ code_values
    → Parted o xs i j
parted o xs i j h l r b =
    let us = part xs i j in
    let vs = drop j xs in
    let n = get_or xs (j - 1) 0 + 1 in
    let s : us ++ vs ≡ drop i xs = part-drop xs i j (omega arith) in
    let e : beyond o us ≡ n = beyond_front o xs i j h l in
    let ra : Rising o (us ++ vs) = subst (Rising o) (sym s) r in
    let rb : Rising n vs = subst (λ (m : ℕ). Rising m vs) e (Rising_back o us vs ra) in
    let b' : beyond n vs ≤ code_values =
    omega (arith, b, ap (beyond o) s, beyond-append o us vs, ap (λ (m : ℕ). beyond m vs) e)
    in
    let c : codes_for o (drop i xs) ≡ codes_for o us ++ codes_for n vs =
    ap (codes_for o) (sym s) ∙ codes_append o us vs ∙ ap (λ (m : ℕ). codes_for o us ++ codes_for m vs) e
    in
    let t = Rising-beyond n vs rb in
    record {
      rising = Rising_front o us vs ra;
      end = omega (arith, e, t, b');
      room = omega (arith, ap length c, length-append (codes_for o us) (codes_for n vs));
      codes = c;
      rising_left = rb;
      end_left = b';
      small = omega (arith, t, b');
    }

-- what is left is written at once
pub Storing_rest : {out₀ : List ℕ} {at : ℕ} {vs out : List ℕ} {p : ℕ} {ws us out' : List ℕ} {r : ℕ} → Storing out₀ at vs out p ws → us ≡ ws
    → Puts out p us out' r
    → Puts out₀ at vs out' r
Storing_rest {out = out} {p} t e w =
    record { place = omega (arith, w.place, ap length e, t.place); stores = w.stores ∙ ap (sets out p) e ∙ t.stores }
