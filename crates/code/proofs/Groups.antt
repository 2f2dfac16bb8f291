-- A code as the groups of its number: all but the last with the flag. Only the laws of the code go by this.
use Rattle.std.specs.Prelude.{◌≡◌, refl, List, [], ◌∷◌, ◌++◌, ℕ, zero, suc, ◌+◌, ◌-◌, ◌*◌, ◌/◌, ◌%◌, ◌^◌, ◌≤◌, ◌<◌, eqb, length, drop}
use Rattle.std.proofs.Common.{sym, ap, ◌∙◌, append_assoc, arith, pow-suc, length-append, eq-eqb, ne_eqb}
use Rattle.std.proofs.Math.Nat.{pow-le-pow_right, div-div-eq-div-mul}
use Rattle.lists.specs.Choice.{pick}
use Rattle.lists.specs.Bytes.{Bytes}
use Rattle.lists.proofs.Choice.{pick_yes, pick_no, by_lt}
use Rattle.lists.proofs.Parts.{drop_run}
use Rattle.lists.proofs.Bytes.{Bytes-nil, Bytes-cons, Bytes-append}
use Rattle.code.specs.Code.Open.{one_group, two_groups, three_groups, code_values, flag, code_of}
use Rattle.code.specs.Code.Inside.{
  code_one_byte,
  code_two_bytes,
  code_three_bytes,
  code_four_bytes,
  Reached,
  reached_as,
  read_first,
  read_on,
}

-- a law of a number by its size
pub by_size : {P : ℕ → Type 0}
    → ((x : ℕ) → x < one_group → P x)
    → ((x : ℕ) → one_group ≤ x → x < two_groups → P x)
    → ((x : ℕ) → two_groups ≤ x → x < three_groups → P x)
    → ((x : ℕ) → three_groups ≤ x → P x)
    → (x : ℕ)
    → P x
by_size one two three four x =
    by_lt x one_group (one x) (λ g. by_lt x two_groups (two x g) (λ k. by_lt x three_groups (three x k) (four x)))

-- the groups of a number with the flag, the highest first: as many as `k`, and none for 0
pub flags : ℕ → ℕ → List ℕ
flags zero h = []
flags (suc k) h = pick (eqb h 0) [] (flags k (h / one_group) ++ ((h % one_group + flag) ∷ []))

pub flags_none : (k h : ℕ) → h ≡ 0 → flags k h ≡ []
unfolding flags
flags_none zero h e = refl
flags_none (suc k) h e = pick_yes _ _ _ (eq-eqb h 0 e)

flags_some : (k h : ℕ) → 0 < h → flags (suc k) h ≡ flags k (h / one_group) ++ ((h % one_group + flag) ∷ [])
unfolding flags
flags_some k h g = pick_no _ _ _ (ne_eqb h 0 (λ e. omega arith))

-- a law of the groups by recursion: none, or one more
by_flags : {P : ℕ → ℕ → Type 0}
    → ((k h : ℕ) → h ≡ 0 → P k h)
    → ((k h : ℕ) → 0 < h → h < one_group ^ suc k → P k (h / one_group) → P (suc k) h)
    → (k h : ℕ)
    → h < one_group ^ k
    → P k h
by_flags none some zero h l = none zero h (omega arith)
by_flags none some (suc k) h l =
    by_lt 0 h (λ g. some k h g l (by_flags none some k (h / one_group) (omega (arith, pow-suc one_group k))))
    (λ g. none (suc k) h (omega arith))

pub length_flags : (k h : ℕ) → h < one_group ^ k → length (flags k h) ≤ k
length_flags =
    by_flags (λ k h e. omega (arith, ap length (flags_none k h e)))
    (λ k h g l ih.
    omega (arith, ap length (flags_some k h g), length-append (flags k (h / one_group)) ((h % one_group + flag) ∷ [])))

pub bytes_flags : (k h : ℕ) → h < one_group ^ k → Bytes (flags k h)
bytes_flags =
    by_flags (λ k h e. rw (flags_none k h e) Bytes-nil)
    (λ k h g l ih.
    rw (flags_some k h g)
    (Bytes-append (flags k (h / one_group)) ((h % one_group + flag) ∷ []) ih
    (Bytes-cons (h % one_group + flag) [] (omega arith) Bytes-nil)))

-- more than enough groups
flags_enough : (k h : ℕ) → h < one_group ^ k → (i : ℕ) → flags (k + i) h ≡ flags k h
flags_enough =
    by_flags (λ k h e i. flags_none (k + i) h e ∙ sym (flags_none k h e))
    (λ k h g l ih i.
    let q : suc k + i ≡ suc (k + i) = omega arith in
    ap (λ (n : ℕ). flags n h) q
    ∙ flags_some (k + i) h g
    ∙ ap (λ (r : List ℕ). r ++ ((h % one_group + flag) ∷ [])) (ih i)
    ∙ sym (flags_some k h g))

digits : (q r : ℕ) → r < one_group → ((q * one_group + r) / one_group ≡ q) × ((q * one_group + r) % one_group ≡ r)
digits q r h = (omega arith, omega arith)

-- one group more
pub flags_more : (k h g : ℕ) → g < one_group → 0 < h * one_group + g
    → flags (suc k) (h * one_group + g) ≡ flags k h ++ ((g + flag) ∷ [])
flags_more k h g l p = flags_some k (h * one_group + g) p ∙ rw ((digits h g l).0, (digits h g l).1)

flags_one : (k h : ℕ) → 0 < h → h < one_group → flags (suc k) h ≡ (h + flag) ∷ []
flags_one k h p l =
    let q : h ≡ 0 * one_group + h = omega arith in
    ap (flags (suc k)) q ∙ flags_more k 0 h l (omega arith) ∙ rw (flags_none k 0 refl)

pub code_flags : (x : ℕ) → x < code_values → code_of x ≡ flags 3 (x / one_group) ++ ((x % one_group) ∷ [])
code_flags =
    by_size
    (λ x h l.
    let r : x % one_group ≡ x = omega arith in
    rw (code_one_byte x h, flags_none 3 (x / one_group) (omega arith), r))
    (λ x g h l. rw (code_two_bytes x g h, flags_one 2 (x / one_group) (omega arith) (omega arith)))
    (λ x g h l.
    let q : x / one_group / one_group ≡ x / two_groups = div-div-eq-div-mul x one_group one_group in
    rw (
      code_three_bytes x g h,
      flags_some 2 (x / one_group) (omega arith),
      q,
      flags_one 1 (x / two_groups) (omega arith) (omega arith),
    ))
    (λ x g l.
    let q : x / one_group / one_group ≡ x / two_groups = div-div-eq-div-mul x one_group one_group in
    let r : x / two_groups / one_group ≡ x / three_groups = div-div-eq-div-mul x two_groups one_group in
    rw (
      code_four_bytes x g,
      flags_some 2 (x / one_group) (omega arith),
      q,
      flags_some 1 (x / two_groups) (omega arith),
      r,
      flags_one 0 (x / three_groups) (omega arith) (omega arith),
    ))

-- a code that ends with the group `b`
pub code_last : (k h b : ℕ) → k ≤ 3 → h < one_group ^ k → b < one_group
    → (h * one_group + b < code_values) × (code_of (h * one_group + b) ≡ flags k h ++ (b ∷ []))
code_last k h b j l g =
    let p : one_group ^ k ≤ one_group ^ 3 = pow-le-pow_right (omega arith) j in
    let x : h * one_group + b < code_values = omega arith in
    let q : k + (3 - k) ≡ 3 = omega arith in (
      x,
      code_flags (h * one_group + b) x ∙ rw ((digits h b g).0, (digits h b g).1, ← q, flags_enough k h l (3 - k)),
    )

-- ---- reading the groups

module _ {s : List ℕ} {at : ℕ} where
  -- the groups with the flag, from the first on
  pub read_flags : (k h : ℕ) → h < one_group ^ k → (i p : ℕ) (t : List ℕ) → Reached s at (i + length (flags k h)) p 0
      → drop p s ≡ flags k h ++ t
      → Reached s at i (p + length (flags k h)) h
  read_flags =
      by_flags
      (λ k h e i p t r d.
      let n : length (flags k h) ≡ 0 = ap length (flags_none k h e) in
      reached_as r (omega arith) (omega arith) e)
      (λ k h g l ih i p t r d.
      let us = flags k (h / one_group) in
      let b = h % one_group + flag in
      let n : length (flags (suc k) h) ≡ length us + 1 = ap length (flags_some k h g) ∙ length-append us (b ∷ []) in
      let f : drop p s ≡ us ++ (b ∷ t) = d ∙ rw (flags_some k h g) (append_assoc us (b ∷ []) t) in
      let q : Reached s at (suc i) (p + length us) (h / one_group) =
      ih (suc i) p (b ∷ t) (reached_as r (omega arith) refl refl) f
      in
      reached_as (read_on (drop_run s p us (b ∷ t) f) q (omega arith)) refl (omega arith) (omega arith))

  -- a code does not start with the flag alone
  pub code_first : (x : ℕ) (rest : List ℕ) → drop at s ≡ code_of x ++ rest → Reached s at 3 at 0
  code_first =
      by_size (λ x h rest e. read_first s at (rw (code_one_byte x h) at e) (λ q. omega arith))
      (λ x g h rest e. read_first s at (rw (code_two_bytes x g h) at e) (λ q. omega arith))
      (λ x g h rest e. read_first s at (rw (code_three_bytes x g h) at e) (λ q. omega arith))
      (λ x g rest e. read_first s at (rw (code_four_bytes x g) at e) (λ q. omega arith))
