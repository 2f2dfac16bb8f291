-- THE LAWS of the byte code: all that the crates above may know of it. A code has 1 to 4 bytes; reading what was written gives the
-- value, whatever stands after it; what reads as a value is that value's code; a value has one code; what is refused is no code.
use Rattle.std.specs.Prelude.{◌≡◌, refl, List, [], ◌∷◌, ◌++◌, ℕ, zero, suc, ◌+◌, ◌-◌, ◌*◌, ◌/◌, ◌%◌, ◌^◌, ◌≤◌, ◌<◌, length, get_or, drop, Result, Ok, Err}
use Rattle.std.proofs.Common.{sym, ap, ◌∙◌, append_assoc, arith, pow-suc, length-append}
use Rattle.std.proofs.Math.Decide.{ℕ_discrete}
use Rattle.lists.specs.Bytes.{Bytes}
use Rattle.lists.proofs.Choice.{by_lt}
use Rattle.lists.proofs.Parts.{drop_one, drop_run}
use Rattle.lists.proofs.Bytes.{Bytes-nil, Bytes-cons, Bytes-append}
use Rattle.code.specs.declared.Flaw.{Flaw}
use Rattle.code.specs.declared.Reading.{Reading}
use Rattle.code.specs.Code.Open.{one_group, code_values, flag, code_of, code_size, reading, read_at}
use Rattle.code.specs.Code.Inside.{
  code_one_byte,
  size_one,
  size_two,
  size_three,
  size_four,
  Reached,
  reached_as,
  read_none,
  read_padded,
  read_first,
  read_cut,
  read_last,
  read_long,
  read_on,
}
use Rattle.code.specs.Code.Read.{Read}
use Rattle.code.proofs.Groups.{
  by_size,
  flags,
  flags_none,
  flags_more,
  length_flags,
  bytes_flags,
  code_flags,
  code_last,
  read_flags,
  code_first,
}

-- ---- how many bytes a code has

pub length_code : (x : ℕ) → length (code_of x) ≡ code_size x
unfolding code_size
length_code x = refl

pub size_least : (x : ℕ) → 1 ≤ code_size x
size_least =
    by_size (λ x h. omega (arith, size_one x h)) (λ x g h. omega (arith, size_two x g h))
    (λ x g h. omega (arith, size_three x g h)) (λ x g. omega (arith, size_four x g))

pub size_most : (x : ℕ) → code_size x ≤ 4
size_most =
    by_size (λ x h. omega (arith, size_one x h)) (λ x g h. omega (arith, size_two x g h))
    (λ x g h. omega (arith, size_three x g h)) (λ x g. omega (arith, size_four x g))

-- a number of one group is its own code
pub code_single : (x : ℕ) → x < one_group → code_of x ≡ x ∷ []
code_single x h = code_one_byte x h

-- a code is made of bytes
pub bytes_code : (x : ℕ) → x < code_values → Bytes (code_of x)
bytes_code x l =
    rw (code_flags x l)
    (Bytes-append (flags 3 (x / one_group)) ((x % one_group) ∷ []) (bytes_flags 3 (x / one_group) (omega arith))
    (Bytes-cons (x % one_group) [] (omega arith) Bytes-nil))

-- ---- reading what was written

-- what was written is read, whatever stands after it
pub read_code : (s : List ℕ) (at x : ℕ) (rest : List ℕ) → x < code_values → drop at s ≡ code_of x ++ rest
    → read_at s at ≡ Ok (reading x (at + code_size x))
read_code s at x rest l e =
    let us = flags 3 (x / one_group) in
    let b = x % one_group in
    let f : drop at s ≡ us ++ (b ∷ rest) = e ∙ rw (code_flags x l) (append_assoc us (b ∷ []) rest) in
    let n : code_size x ≡ length us + 1 = sym (length_code x) ∙ ap length (code_flags x l) ∙ length-append us (b ∷ []) in
    let r : Reached s at (3 - length us) (at + length us) (x / one_group) =
    read_flags 3 (x / one_group) (omega arith) (3 - length us) at (b ∷ rest)
    (reached_as (code_first x rest e) (omega (arith, length_flags 3 (x / one_group) (omega arith))) refl refl) f
    in
    read_last (drop_run s at us (b ∷ rest) f) r (omega arith) (omega arith) (omega arith)

-- what is read has one value, and one place after it
reading_same : {x y n m : ℕ} → ◌≡◌ {A = Result Reading Flaw} (Ok (reading x n)) (Ok (reading y m)) → (x ≡ y) × (n ≡ m)
reading_same {x} {y} {n} {m} e =
    let r : reading x n ≡ reading y m = cc in
    (ap (λ (c : Reading). c.value) r, ap (λ (c : Reading). c.next) r)

bad_code_lem : {X : Type 0} {w : Flaw} {x n : ℕ} → Err w ≡ Ok (reading x n) → X
bad_code_lem e = let z : ◌≡◌ {A = ℕ} 0 1 = cc in absurd (omega arith)

-- for a reader: codes that are equal, with anything after them, are of one value
pub code_one : (x y : ℕ) (r q : List ℕ) → x < code_values → y < code_values → code_of x ++ r ≡ code_of y ++ q → x ≡ y
code_one x y r q hx hy e =
    (reading_same (sym (read_code (code_of x ++ r) 0 x r hx refl) ∙ read_code (code_of x ++ r) 0 y q hy e)).0

-- for a reader: what is refused is no code
pub bad_no_code : (s : List ℕ) (at : ℕ) (w : Flaw) → read_at s at ≡ Err w → (x : ℕ) (rest : List ℕ) → x < code_values
    → drop at s ≡ code_of x ++ rest
    → ⊥
bad_no_code s at w b x rest l e = bad_code_lem (sym b ∙ read_code s at x rest l e)

-- ---- what is read was written

-- from `at` to `p` stand `k` bytes with the flag, whose groups are worth `h`
record Passed (s : List ℕ) (at k p h : ℕ) : Type 0 where
  few : k ≤ 3
  small : h < one_group ^ k
  place : p ≡ at + length (flags k h)
  bytes : drop at s ≡ flags k h ++ drop p s

passed_none : (s : List ℕ) (at : ℕ) → Passed s at 0 at 0
passed_none s at =
    let n = flags_none 0 0 refl in
    record {
      few = omega arith;
      small = omega arith;
      place = omega (arith, ap length n);
      bytes = sym (ap (λ (l : List ℕ). l ++ drop at s) n);
    }

-- one byte more with the flag
passed_on : {s : List ℕ} {at k p h : ℕ} → Bytes s → Passed s at k p h → k < 3 → p < length s → flag ≤ get_or s p 0
    → 0 < h * one_group + (get_or s p 0 - flag)
    → Passed s at (suc k) (p + 1) (h * one_group + (get_or s p 0 - flag))
passed_on {s} {at} {k} {p} {h} w t j m g lead =
    let b = get_or s p 0 in
    let c : b - flag + flag ≡ b = omega arith in
    let v : flags (suc k) (h * one_group + (b - flag)) ≡ flags k h ++ (b ∷ []) =
    flags_more k h (b - flag) (omega (arith, w p)) lead ∙ rw c
    in
    record {
      few = j;
      small = omega (arith, w p, t.small, pow-suc one_group k);
      place = omega (arith, t.place, ap length v, length-append (flags k h) (b ∷ []));
      bytes = t.bytes ∙ rw (drop_one s p 0 m, v) (sym (append_assoc (flags k h) (b ∷ []) (drop (p + 1) s)));
    }

module _ (s : List ℕ) (at x n : ℕ) (w : Bytes s) (e : read_at s at ≡ Ok (reading x n)) where
  -- a byte without the flag is the code's last
  sound_last : {i k p h : ℕ} → Passed s at k p h → Reached s at i p h → p < length s → get_or s p 0 < flag → Read s at x n
  sound_last {i} {k} {p} {h} t r m g =
      let b = get_or s p 0 in
      let us = flags k h in
      let d : drop p s ≡ b ∷ drop (p + 1) s = drop_one s p 0 m in
      let c = reading_same (sym e ∙ read_last d r g refl refl) in
      let ex : x ≡ h * one_group + b = c.0 in
      let en : n ≡ p + 1 = c.1 in
      let f = code_last k h b t.few t.small g in
      let o : code_of x ≡ us ++ (b ∷ []) = ap code_of ex ∙ f.1 in
      let z : code_size x ≡ length us + 1 = sym (length_code x) ∙ ap length o ∙ length-append us (b ∷ []) in
      record {
        small = omega (arith, f.0);
        after = omega (arith, t.place);
        within = omega arith;
        bytes = t.bytes ∙ rw (d, o, en) (sym (append_assoc us (b ∷ []) (drop (p + 1) s)));
      }

  -- by the next byte: there is none, it is the last, or it has the flag
  sound_byte : {i k p h : ℕ} → Passed s at k p h → Reached s at i p h
      → (p < length s → flag ≤ get_or s p 0 → Read s at x n)
      → Read s at x n
  sound_byte {i} {k} {p} t r on =
      by_lt p (length s) (λ m. by_lt (get_or s p 0) flag (sound_last t r m) (on m))
      (λ m. bad_code_lem (sym (read_cut r m) ∙ e))

  -- the bytes that are left; the first of all groups is not 0
  sound_rest : (i k p h : ℕ) → k + i ≡ 3 → Passed s at k p h → Reached s at i p h
      → (flag ≤ get_or s p 0 → 0 < h * one_group + (get_or s p 0 - flag))
      → Read s at x n
  sound_rest zero k p h q t r lead = sound_byte t r (λ m g. bad_code_lem (sym (read_long (drop_one s p 0 m) r g) ∙ e))
  sound_rest (suc i) k p h q t r lead =
      sound_byte t r
      (λ m g.
      sound_rest i (suc k) (p + 1) (h * one_group + (get_or s p 0 - flag)) (omega arith) (passed_on w t (omega arith) m g (lead g))
      (read_on (drop_one s p 0 m) r g) (λ z. omega (arith, lead g)))

  -- what reads as a value is that value's code
  pub read_sound : Read s at x n
  read_sound =
      by_lt at (length s) (λ m. start m (ℕ_discrete (get_or s at 0) flag))
      (λ m. bad_code_lem (sym (read_none s at m) ∙ e))
    where
      start : at < length s → Dec (get_or s at 0 ≡ flag) → Read s at x n
      start m (yes z) = bad_code_lem (sym (read_padded s at (drop_one s at 0 m) z) ∙ e)
      start m (no z) =
          sound_rest 3 0 at 0 refl (passed_none s at) (read_first s at (drop_one s at 0 m) z)
          (λ g. omega (arith, z))
