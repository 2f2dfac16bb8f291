-- What a loop over the codes of a block goes by that passes many codes at once.
-- Assumes nothing.
use mathlib.Core.Path.{◌≡◌, refl, ap, ◌∙◌}
use mathlib.Core.List.{List, [], ◌∷◌, ◌++◌}
use Prim.Native.Nat.{ℕ, suc, ◌+◌, ◌-◌, ◌*◌, ◌^◌, ◌≤◌}
use native.Mathlib.Omega.{arith}
use native.Mathlib.Numerals.{add-one}
use lib.ListN.{length, get_or, length-append}
use lib.Seq.{get_or-append-add}
use Rattle.lists.specs.Rising.{beyond}
use Rattle.lists.specs.Gaps.{from_gaps}
use Rattle.lists.specs.Below.{below}
use Rattle.lists.specs.Bytes.{Bytes}
use Rattle.lists.proofs.Rising.{Rising-beyond}
use Rattle.lists.proofs.Gaps.{length-from_gaps, Rising-from_gaps}
use Rattle.lists.proofs.Below.{below-append}
use Rattle.code.specs.Code.{code_values}
use Rattle.code.proofs.Laws.{read_sound}
use Rattle.code_stretch.specs.Runs.{Run, sum_of, Passed}
use Rattle.codes.specs.Codes.{steps_from, list_of, tally_of, Sound}
use Rattle.codes.proofs.Codes.{Read_passes, Rising_steps}
use Rattle.codes.proofs.Turns.{tally_more, turn}
use Rattle.codes.proofs.Finding.{found_in, found_after}

-- one past the last step that has these gaps
beyond-from_gaps : (o : ℕ) (xs : List ℕ) → beyond o (from_gaps o xs) ≡ o + (sum_of xs + length xs)
beyond-from_gaps o [] = omega arith
beyond-from_gaps o (x ∷ xs) = omega (arith, beyond-from_gaps (suc (o + x)) xs)

-- the steps of codes that were passed stand before what is left, which is such a block too
record Left (o : ℕ) (s : List ℕ) (at : ℕ) (xs : List ℕ) (p n : ℕ) : Type 0 where
  is : list_of (steps_from o s at) ≡ from_gaps o xs ++ list_of (steps_from p s n)
  sound : Sound p (steps_from p s n)

-- ---- codes that stand one after the other

module _ (s : List ℕ) (w : Bytes s) where
  -- each code has a byte, and its value is small
  run_few : (xs : List ℕ) (at n : ℕ) → Run s at xs n → (at + length xs ≤ n) × (sum_of xs + length xs + at * code_values ≤ n * code_values)
  run_few [] at n r = (omega (arith, r), omega (arith, r))
  run_few (x ∷ xs) at n (m, e, r) =
      let f = read_sound s at x m w e in
      let p = Read_passes f in
      let t = run_few xs m n r in
      (omega (arith, t.0), omega (arith, t.1, f.small))

  -- in a block that is checked
  run_tally : (xs : List ℕ) (at n : ℕ) → Run s at xs n → (c o d p : ℕ) → d ≡ c + length xs → p ≡ o + (sum_of xs + length xs)
      → tally_of c o (steps_from o s at) ≡ tally_of d p (steps_from p s n)
  run_tally [] at n r c o d p ed ep =
      let e : d ≡ c = omega arith in
      let f : p ≡ o = omega arith in
      rw (r, e, f)
  run_tally (x ∷ xs) at n (m, e, r) c o d p ed ep =
      tally_more c o s at (read_sound s at x m w e) e ∙ run_tally xs m n r (c + 1) (o + x + 1) d p (omega (arith, ed)) (omega (arith, ep))

  -- in a block that was checked
  run_left : (xs : List ℕ) (at n : ℕ) → Run s at xs n → (o p : ℕ) → p ≡ o + (sum_of xs + length xs) → Sound o (steps_from o s at)
      → Left o s at xs p n
  run_left [] at n r o p ep k =
      let f : o ≡ p = omega arith in
      rw (← r, ← f) (record { is = refl; sound = k })
  run_left (x ∷ xs) at n (m, e, r) o p ep k =
      let t = turn o s at k x m w e in
      let u = run_left xs m n r (o + x + 1) p (omega (arith, ep)) t.sound in
      record {
        is =
            t.is
            ∙ ap (λ (l : List ℕ). (o + x) ∷ l) (u.is ∙ ap (λ (i : ℕ). from_gaps i xs ++ list_of (steps_from p s n)) (add-one (o + x)));
        sound = u.sound;
      }

-- ---- codes that were passed

-- in a block that was checked, where `front` are the steps that were passed, as many as `count`, and `p` is one past the last of them
pub record Skipped (o : ℕ) (s : List ℕ) (at n count p : ℕ) : Type 0 where
  pub front : List ℕ
  pub is : list_of (steps_from o s at) ≡ front ++ list_of (steps_from p s n)
  pub many : length front ≡ count
  pub under : (x : ℕ) → p ≤ x → below (list_of (steps_from o s at)) x ≡ count + below (list_of (steps_from p s n)) x
  pub sound : Sound p (steps_from p s n)
  pub fits : p ≤ 2 ^ 32

module _ {s : List ℕ} {at n count value : ℕ} (w : Bytes s) (t : Passed s at n count value) where
  pub passed_few : (at + count ≤ n) × (value + count + at * code_values ≤ n * code_values)
  passed_few =
      let f = run_few s w t.values at n t.codes in
      (omega (arith, f.0, t.many), omega (arith, f.1, t.many, t.worth))

  pub passed_tally : (c o : ℕ)
      → tally_of c o (steps_from o s at) ≡ tally_of (c + count) (o + (value + count)) (steps_from (o + (value + count)) s n)
  passed_tally c o =
      run_tally s w t.values at n t.codes c o (c + count) (o + (value + count)) (omega (arith, t.many))
      (omega (arith, t.many, t.worth))

  pub passed_steps : (o : ℕ) → Sound o (steps_from o s at) → Skipped o s at n count (o + (value + count))
  passed_steps o k =
      let p = o + (value + count) in
      let v = t.values in
      let e : p ≡ o + (sum_of v + length v) = omega (arith, t.many, t.worth) in
      let l = run_left s w v at n t.codes o p e k in
      let f = from_gaps o v in
      let m : length f ≡ count = length-from_gaps o v ∙ t.many in
      record {
        front = f;
        is = l.is;
        many = m;
        under =
            λ x h.
            ap (λ (r : List ℕ). below r x) l.is
            ∙ below-append o f (list_of (steps_from p s n)) x (Rising-from_gaps o v) (omega (arith, beyond-from_gaps o v))
            ∙ ap (λ (i : ℕ). i + below (list_of (steps_from p s n)) x) m;
        sound = l.sound;
        fits = omega (arith, l.sound.small, Rising-beyond p (list_of (steps_from p s n)) (Rising_steps p s n));
      }

module _ {o : ℕ} {s : List ℕ} {at n count p : ℕ} (t : Skipped o s at n count p) where
  -- how many steps are left
  pub skipped_length : length (list_of (steps_from o s at)) ≡ count + length (list_of (steps_from p s n))
  skipped_length = omega (arith, ap length t.is, length-append t.front (list_of (steps_from p s n)), t.many)

  -- the step at an index after those that were passed
  pub skipped_at : (k : ℕ) → count ≤ k → get_or (list_of (steps_from o s at)) k 0 ≡ get_or (list_of (steps_from p s n)) (k - count) 0
  skipped_at k h =
      let q : k ≡ length t.front + (k - count) = omega (arith, t.many) in
      let r = list_of (steps_from p s n) in
      ap (λ (l : List ℕ). get_or l k 0) t.is
      ∙ ap (λ (i : ℕ). get_or (t.front ++ r) i 0) q
      ∙ get_or-append-add t.front r (k - count) 0

  -- the first step at or after a bound that is past those
  pub skipped_found : (x : ℕ) → p ≤ x → found_in (list_of (steps_from o s at)) x ≡ found_in (list_of (steps_from p s n)) x
  skipped_found x h =
      found_after x t.front (list_of (steps_from p s n)) t.is (omega (arith, t.under x h, t.many))
