-- Laws of a block of codes: its values and its steps code by code, that what is written is read, that what is read was written, and how
-- many bytes it has.
-- Assumes nothing.
use mathlib.Core.Path.{◌≡◌, refl, sym, ap, ◌∙◌}
use mathlib.Core.List.{List, [], ◌∷◌, ◌++◌}
use Prim.Native.Nat.{ℕ, zero, suc, ◌+◌, ◌-◌, ◌*◌, ◌≤◌, ◌<◌}
use native.Mathlib.Omega.{arith}
use native.Mathlib.Numerals.{add-one}
use lib.ListN.{length, drop, length-append, length-drop, drop_of_length-le}
use Rattle.lists.specs.Rising.{Rising, beyond}
use Rattle.lists.specs.Gaps.{gaps, from_gaps}
use Rattle.lists.specs.Bytes.{Bytes}
use Rattle.lists.proofs.Choice.{by_lt}
use Rattle.lists.proofs.Rising.{Rising-beyond}
use Rattle.lists.proofs.Parts.{drop_run}
use Rattle.lists.proofs.Gaps.{from_gaps-gaps, gaps-from_gaps, Rising-from_gaps}
use Rattle.lists.proofs.Bytes.{Bytes-nil, Bytes-append}
use Rattle.code.specs.declared.Flaw.{Flaw}
use Rattle.code.specs.declared.Reading.{Reading}
use Rattle.std.specs.Prelude.{Result, Ok, Err}
use Rattle.code.specs.Code.{code_values, code_of, code_size, reading, read_at}
use Rattle.code.specs.Code.Read.{Read}
use Rattle.code.proofs.Laws.{length_code, size_least, size_most, bytes_code, read_code, read_sound}
use Rattle.codes.specs.Codes.{
  Values,
  all,
  bad,
  on_top,
  after,
  run,
  values_from,
  codes_of,
  Small,
  codes_for,
  as_steps,
  steps_from,
  list_of,
}

-- ---- the values, code by code

run_skip : (k j : ℕ) (s : List ℕ) (at : ℕ) → j ≤ k → run k j s at ≡ run (k - j) zero s (at + j)
unfolding run
run_skip k zero s at h =
    let e : k - 0 ≡ k = omega arith in
    let f : at + 0 ≡ at = omega arith in
    rw (e, f)
run_skip zero (suc j) s at h = absurd (omega arith)
run_skip (suc k) (suc j) s at h =
    let e : suc k - suc j ≡ k - j = omega arith in
    let f : at + suc j ≡ suc at + j = omega arith in
    rw (e, f) (run_skip k j s (suc at) (omega arith))

-- a code has a byte
pub Read_passes : {s : List ℕ} {at x n : ℕ} → Read s at x n → at < n
Read_passes {s} {at} {x} r = omega (arith, r.after, size_least x)

module _ (s : List ℕ) (at : ℕ) where
  pub values_end : length s ≤ at → values_from s at ≡ all []
  unfolding values_from run
  values_end h = let e : length s - at ≡ 0 = omega arith in rw e

  values_after : at < length s → values_from s at ≡ after (read_at s at) at (λ j. run (length s - suc at) j s (suc at))
  unfolding values_from run
  values_after h = let e : length s - at ≡ suc (length s - suc at) = omega arith in rw e

  pub values_bad : (w : Flaw) → at < length s → read_at s at ≡ Err w → values_from s at ≡ bad w at
  unfolding after
  values_bad w h e = values_after h ∙ rw e

  pub values_more : {x n : ℕ} → Read s at x n → read_at s at ≡ Ok (reading x n) → values_from s at ≡ on_top x (values_from s n)
  unfolding after values_from
  values_more {x} {n} r e =
      let h : at < n = Read_passes r in
      let p : length s - suc at - (n - suc at) ≡ length s - n = omega (arith, r.within) in
      let q : suc at + (n - suc at) ≡ n = omega arith in
      let f : run (length s - suc at) (n - suc at) s (suc at) ≡ run (length s - n) zero s n =
      run_skip (length s - suc at) (n - suc at) s (suc at) (omega (arith, r.within)) ∙ rw (p, q)
      in
      values_after (omega (arith, r.within)) ∙ rw e (ap (on_top x) f)

  -- the bytes end here, no code stands here, or one does
  by_code : {X : Type 0} → Bytes s → (length s ≤ at → X) → ((w : Flaw) → values_from s at ≡ bad w at → X)
      → ((x n : ℕ) → Read s at x n → values_from s at ≡ on_top x (values_from s n) → X)
      → X
  by_code {X} w end wrong right = by_lt at (length s) (λ h. here h (read_at s at) refl) end
    where
      here : at < length s → (r : Result Reading Flaw) → read_at s at ≡ r → X
      here h (Ok c) e = let f = read_sound s at c.value c.next w e in right c.value c.next f (values_more f e)
      here h (Err v) e = wrong v (values_bad v h e)

-- ---- the codes of values that are written are read

pub values_back : (s : List ℕ) (at : ℕ) (xs : List ℕ) → Small xs → drop at s ≡ codes_of xs → values_from s at ≡ all xs
values_back s at [] l e = values_end s at (omega (arith, length-drop at s, ap length e))
values_back s at (x ∷ xs) l e =
    let n : ℕ = at + code_size x in
    let c = length_code x in
    let d : drop n s ≡ codes_of xs = ap (λ (k : ℕ). drop (at + k) s) (sym c) ∙ drop_run s at (code_of x) (codes_of xs) e in
    let r : Read s at x n =
    record {
      small = l.0;
      after = refl;
      within = omega (arith, size_least x, length-drop at s, ap length e, length-append (code_of x) (codes_of xs));
      bytes = e ∙ ap (λ (t : List ℕ). code_of x ++ t) (sym d);
    }
    in
    values_more s at r (read_code s at x (codes_of xs) l.0 e) ∙ ap (on_top x) (values_back s n xs l.1 d)

-- ---- what is read are the codes that stand there

-- what fails has no list
pub bad_all : {X : Type 0} {w : Flaw} {n : ℕ} {xs : List ℕ} → bad w n ≡ all xs → X
bad_all e = let z : ◌≡◌ {A = ℕ} 0 1 = cc in absurd (omega arith)

nil-cons : {X : Type 0} {y : ℕ} {ys : List ℕ} → all [] ≡ all (y ∷ ys) → X
nil-cons e = let z : ◌≡◌ {A = ℕ} 0 1 = cc in absurd (omega arith)

on_top-nil : {X : Type 0} (x : ℕ) (v : Values) → on_top x v ≡ all [] → X
on_top-nil x (all zs) e = nil-cons (sym e)
on_top-nil x (bad w n) e = bad_all e

on_top-cons : (x y : ℕ) (ys : List ℕ) (v : Values) → on_top x v ≡ all (y ∷ ys) → (x ≡ y) × (v ≡ all ys)
on_top-cons x y ys (all zs) e =
    let p : x ≡ y = cc in
    let q : all zs ≡ all ys = cc in
    (p, q)
on_top-cons x y ys (bad w n) e = bad_all e

pub values_sound : (s : List ℕ) (at : ℕ) (xs : List ℕ) → Bytes s → values_from s at ≡ all xs → (drop at s ≡ codes_of xs) × Small xs
values_sound s at [] w e =
    by_code s at w (λ h. (drop_of_length-le s h, tt)) (λ v q. bad_all (sym q ∙ e))
    (λ x n r q. on_top-nil x (values_from s n) (sym q ∙ e))
values_sound s at (y ∷ ys) w e =
    by_code s at w (λ h. nil-cons (sym (values_end s at h) ∙ e)) (λ v q. bad_all (sym q ∙ e))
    (λ x n r q.
    let c = on_top-cons x y ys (values_from s n) (sym q ∙ e) in
    let t = values_sound s n ys w c.1 in
    (r.bytes ∙ rw (c.0, t.0), (omega (arith, r.small, c.0), t.1)))

-- ---- the steps, code by code

as_steps-on_top : (o x : ℕ) (v : Values) → as_steps o (on_top x v) ≡ on_top (o + x) (as_steps (suc (o + x)) v)
as_steps-on_top o x (all vs) = refl
as_steps-on_top o x (bad w n) = refl

module _ (o : ℕ) (s : List ℕ) (at : ℕ) where
  pub steps_end : length s ≤ at → steps_from o s at ≡ all []
  steps_end h = ap (as_steps o) (values_end s at h)

  pub steps_bad : (w : Flaw) → at < length s → read_at s at ≡ Err w → steps_from o s at ≡ bad w at
  steps_bad w h e = ap (as_steps o) (values_bad s at w h e)

  pub steps_more : {x n : ℕ} → Read s at x n → read_at s at ≡ Ok (reading x n) → steps_from o s at ≡ on_top (o + x) (steps_from (o + x + 1) s n)
  steps_more {x} {n} r e = ap (as_steps o) (values_more s at r e) ∙ as_steps-on_top o x (values_from s n) ∙ rw (add-one (o + x))

pub Rising_steps : (o : ℕ) (s : List ℕ) (at : ℕ) → Rising o (list_of (steps_from o s at))
Rising_steps o s at = by (values_from s at)
  where
    by : (v : Values) → Rising o (list_of (as_steps o v))
    by (all vs) = Rising-from_gaps o vs
    by (bad w n) = tt

-- ---- the codes of steps, step by step

pub codes_nil : (o : ℕ) → codes_for o [] ≡ []
unfolding codes_for
codes_nil o = refl

pub codes_cons : (o x : ℕ) (xs : List ℕ) → codes_for o (x ∷ xs) ≡ code_of (x - o) ++ codes_for (suc x) xs
unfolding codes_for
codes_cons o x xs = refl

pub length_codes-cons : (o x : ℕ) (xs : List ℕ) → length (codes_for o (x ∷ xs)) ≡ code_size (x - o) + length (codes_for (suc x) xs)
length_codes-cons o x xs =
    omega (arith, ap length (codes_cons o x xs), length-append (code_of (x - o)) (codes_for (suc x) xs), length_code (x - o))

pub length_codes_least : (o : ℕ) (xs : List ℕ) → length xs ≤ length (codes_for o xs)
length_codes_least o [] = omega arith
length_codes_least o (x ∷ xs) = omega (arith, length_codes-cons o x xs, size_least (x - o), length_codes_least (suc x) xs)

pub length_codes_most : (o : ℕ) (xs : List ℕ) → length (codes_for o xs) ≤ 4 * length xs
length_codes_most o [] = omega (arith, ap length (codes_nil o))
length_codes_most o (x ∷ xs) = omega (arith, length_codes-cons o x xs, size_most (x - o), length_codes_most (suc x) xs)

-- where a list ends among the numbers that have a code, its gaps are among them
Small-gaps : (o : ℕ) (xs : List ℕ) → Rising o xs → beyond o xs ≤ code_values → Small (gaps o xs)
Small-gaps o [] r h = tt
Small-gaps o (x ∷ xs) r h = (omega (arith, Rising-beyond (suc x) xs r.1), Small-gaps (suc x) xs r.1 h)

Bytes_values : (vs : List ℕ) → Small vs → Bytes (codes_of vs)
Bytes_values [] l = Bytes-nil
Bytes_values (v ∷ vs) l = Bytes-append (code_of v) (codes_of vs) (bytes_code v l.0) (Bytes_values vs l.1)

pub Bytes_codes : (o : ℕ) (xs : List ℕ) → Rising o xs → beyond o xs ≤ code_values → Bytes (codes_for o xs)
unfolding codes_for
Bytes_codes o xs r h = Bytes_values (gaps o xs) (Small-gaps o xs r h)

-- ---- what is written is read, and what is read was written

pub steps_read : (o : ℕ) (xs : List ℕ) → Rising o xs → beyond o xs ≤ code_values → steps_from o (codes_for o xs) 0 ≡ all xs
unfolding codes_for
steps_read o xs r h =
    ap (as_steps o) (values_back (codes_for o xs) 0 (gaps o xs) (Small-gaps o xs r h) refl)
    ∙ ap (λ (l : List ℕ). all l) (from_gaps-gaps o xs r)

pub steps_written : (o : ℕ) (part xs : List ℕ) → Bytes part → steps_from o part 0 ≡ all xs → (codes_for o xs ≡ part) × Rising o xs
unfolding codes_for
steps_written o part xs w e = by (values_from part 0) refl e
  where
    by : (v : Values) → values_from part 0 ≡ v → as_steps o v ≡ all xs → (codes_of (gaps o xs) ≡ part) × Rising o xs
    by (all vs) q p =
        let f : from_gaps o vs ≡ xs = cc in
        rw (← f) (ap codes_of (gaps-from_gaps o vs) ∙ sym (values_sound part 0 vs w q).0, Rising-from_gaps o vs)
    by (bad v n) q p = bad_all p

pub length_codes-nil : (o : ℕ) → length (codes_for o []) ≡ 0
length_codes-nil o = ap length (codes_nil o)

pub length_codes-append : (o : ℕ) (xs ys : List ℕ)
    → length (codes_for o (xs ++ ys)) ≡ length (codes_for o xs) + length (codes_for (beyond o xs) ys)
length_codes-append o [] ys = omega (arith, length_codes-nil o)
length_codes-append o (x ∷ xs) ys =
    omega (arith, length_codes-cons o x (xs ++ ys), length_codes-cons o x xs, length_codes-append (suc x) xs ys)
