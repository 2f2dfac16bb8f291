-- Laws of parts: `take`, `drop` and `part` of a list.
-- Assumes nothing.
use mathlib.Core.Path.{◌≡◌, refl, sym, ap, ◌∙◌}
use mathlib.Core.List.{List, [], ◌∷◌, ◌++◌}
use Prim.Native.Nat.{ℕ, zero, suc, ◌+◌, ◌-◌, ◌≤◌, ◌<◌}
use native.Mathlib.Omega.{arith}
use native.Mathlib.Numerals.{add-one}
use lib.ListN.{length, get_or, take, drop, length-take, length-drop, length-append, take-append-drop}
use lib.Seq.{drop-cons, drop-drop, take-add, take_all, take-nil, take_at, drop_at, get_or-drop}
use Rattle.lists.specs.Parts.{part}

module _ {X : Type 0} where
  -- what `&s[a..]` holds
  pub part_end : (s : List X) (a : ℕ) → part s a (length s) ≡ drop a s
  part_end s a = take_all (length s - a) (drop a s) (omega (arith, length-drop a s))

  pub length_part : (s : List X) (i j : ℕ) → i ≤ j → j ≤ length s → length (part s i j) ≡ j - i
  length_part s i j h k = omega (arith, length-take (j - i) (drop i s), length-drop i s)

  -- a part, and what follows it
  pub part-drop : (s : List X) (i j : ℕ) → i ≤ j → part s i j ++ drop j s ≡ drop i s
  part-drop s i j h =
      let q : i + (j - i) ≡ j = omega arith in
      ap (λ (n : ℕ). part s i j ++ drop n s) (sym q)
      ∙ ap (λ (l : List X). part s i j ++ l) (sym (drop-drop (j - i) i s))
      ∙ take-append-drop (j - i) (drop i s)

  -- two parts of which one follows the other
  pub part-append : (s : List X) (i j k : ℕ) → i ≤ j → j ≤ k → part s i j ++ part s j k ≡ part s i k
  part-append s i j k h g =
      let p : i + (j - i) ≡ j = omega arith in
      let q : j - i + (k - j) ≡ k - i = omega arith in
      ap (λ (n : ℕ). part s i j ++ take (k - j) (drop n s)) (sym p)
      ∙ ap (λ (l : List X). part s i j ++ take (k - j) l) (sym (drop-drop (j - i) i s))
      ∙ sym (take-add (j - i) (k - j) (drop i s))
      ∙ ap (λ (n : ℕ). take n (drop i s)) q

  pub part_one : (s : List X) (i : ℕ) (d : X) → i < length s → part s i (i + 1) ≡ get_or s i d ∷ []
  part_one s i d h =
      let q : i + 1 - i ≡ suc 0 = omega arith in
      ap (λ (n : ℕ). take n (drop i s)) q ∙ ap (take (suc 0)) (drop-cons s i d h)

  drop-take : (n m : ℕ) (l : List X) → drop n (take m l) ≡ take (m - n) (drop n l)
  drop-take zero m l = let q : m ≡ m - 0 = omega arith in ap (λ (k : ℕ). take k l) q
  drop-take (suc n) zero l = let q : 0 ≡ 0 - suc n = omega arith in ap (λ (k : ℕ). take k (drop (suc n) l)) q
  drop-take (suc n) (suc m) [] = sym (take-nil (suc m - suc n))
  drop-take (suc n) (suc m) (x ∷ l) =
      let q : m - n ≡ suc m - suc n = omega arith in
      drop-take n m l ∙ ap (λ (k : ℕ). take k (drop n l)) q

  -- a part without its front
  pub drop-part : (s : List X) (i j n : ℕ) → drop n (part s i j) ≡ part s (i + n) j
  drop-part s i j n =
      let q : j - i - n ≡ j - (i + n) = omega arith in
      drop-take n (j - i) (drop i s)
      ∙ ap (λ (k : ℕ). take k (drop n (drop i s))) q
      ∙ ap (take (j - (i + n))) (drop-drop n i s)

  -- what stands from rank `i` on, where a run of `xs` and then `ys` stands there
  pub drop_run : (s : List X) (i : ℕ) (xs ys : List X) → drop i s ≡ xs ++ ys → drop (i + length xs) s ≡ ys
  drop_run s i xs ys e = sym (drop-drop (length xs) i s) ∙ ap (drop (length xs)) e ∙ drop_at xs ys (length xs) (λ t. length xs)

  pub part_run : (s : List X) (i : ℕ) (xs ys : List X) → drop i s ≡ xs ++ ys → part s i (i + length xs) ≡ xs
  part_run s i xs ys e =
      let q : i + length xs - i ≡ length xs = omega arith in
      ap (λ (n : ℕ). take n (drop i s)) q ∙ ap (take (length xs)) e ∙ take_at xs ys (length xs) (λ t. length xs)

  pub length_run : (s : List X) (i : ℕ) (xs ys : List X) → i ≤ length s → drop i s ≡ xs ++ ys → length s ≡ i + length xs + length ys
  length_run s i xs ys h e = omega (arith, length-drop i s, ap length e, length-append xs ys)

  -- one element more
  pub drop_one : (s : List X) (i : ℕ) (d : X) → i < length s → drop i s ≡ get_or s i d ∷ drop (i + 1) s
  drop_one s i d h = drop-cons s i d h ∙ ap (λ (n : ℕ). get_or s i d ∷ drop n s) (sym (add-one i))

  -- what stands at a rank is the first of what is left from there on
  pub get_or_first : (s : List X) (i : ℕ) (d : X) → get_or s i d ≡ get_or (drop i s) 0 d
  get_or_first s i d =
      let z : i ≡ i + 0 = omega arith in
      ap (λ (n : ℕ). get_or s n d) z ∙ sym (get_or-drop i s 0 d)

  -- what stands at a rank, by whether it is the first
  pub get_or_here : {l : List X} {x : X} {xs : List X} (i : ℕ) (d : X) → l ≡ x ∷ xs → i ≡ 0 → get_or l i d ≡ x
  get_or_here zero d e h = ap (λ (r : List X). get_or r 0 d) e
  get_or_here (suc i) d e h = absurd (omega arith)

  pub get_or_past : {l : List X} {x : X} {xs : List X} (i : ℕ) (d : X) → l ≡ x ∷ xs → (i ≡ 0 → ⊥) → get_or l i d ≡ get_or xs (i - 1) d
  get_or_past zero d e h = absurd (h refl)
  get_or_past {l} {x} {xs} (suc i) d e h =
      let q : i ≡ suc i - 1 = omega arith in
      ap (λ (r : List X). get_or r (suc i) d) e ∙ ap (λ (n : ℕ). get_or xs n d) q

  -- what stands for nothing does not matter where there is something
  pub get_or_within : (s : List X) (i : ℕ) (d e : X) → i < length s → get_or s i d ≡ get_or s i e
  get_or_within [] i d e h = absurd (omega arith)
  get_or_within (x ∷ s) zero d e h = refl
  get_or_within (x ∷ s) (suc i) d e h = get_or_within s i d e (omega arith)
