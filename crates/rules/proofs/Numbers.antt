-- Laws of fixed-width numbers, for every width: reading returns what was written, writing what was read, and both fit.
-- Assumes nothing.
use mathlib.Core.Path.{◌≡◌, refl, sym, ap, ◌∙◌}
use mathlib.Core.List.{List, [], ◌∷◌, ◌++◌}
use Prim.Native.Nat.{ℕ, zero, suc, ◌+◌, ◌*◌, ◌/◌, ◌%◌, ◌^◌, ◌≤◌, ◌<◌}
use native.Mathlib.Omega.{arith}
use native.Mathlib.Nat.{pow-suc, mul_comm, mul_assoc}
use lib.ListN.{length, get_or, take, drop, length-take, length-drop, take-append-drop}
use borrow.Rule.Slice.PartMut.{put_mid}
use lib.Seq.{sets, sets-eq, paste, take_all, drop-drop, take_at}
use mir.Syntax.{w64}
use Rattle.std.specs.Int.{to_le_bytes}
use Rattle.std.proofs.lemmas.Slice.{put_mid-paste}
use Rattle.lists.specs.Bytes.{Bytes, byte_values}
use Rattle.lists.proofs.Bytes.{Bytes-nil, Bytes-cons, bytes_take, bytes_drop}
use Rattle.lists.proofs.Parts.{drop_one}
use Rattle.rules.specs.Sizes.{number_size}
use Rattle.rules.specs.Numbers.{little, little_bytes, number_at, number_bytes}

pub length_little : (k n : ℕ) → length (little_bytes k n) ≡ k
unfolding little_bytes
length_little zero n = refl
length_little (suc k) n = ap suc (length_little k (n / byte_values))

pub Bytes_little : (k n : ℕ) → Bytes (little_bytes k n)
unfolding little_bytes
Bytes_little zero n = Bytes-nil
Bytes_little (suc k) n = Bytes-cons (n % byte_values) (little_bytes k (n / byte_values)) (omega arith) (Bytes_little k (n / byte_values))

pow_more : (k : ℕ) → byte_values ^ suc k ≡ byte_values * byte_values ^ k
pow_more k = pow-suc byte_values k ∙ mul_comm (byte_values ^ k) byte_values

pub little-lt : (s : List ℕ) → Bytes s → little s < byte_values ^ length s
unfolding little
little-lt [] w = omega arith
little-lt (b ∷ bs) w = omega (arith, pow_more (length bs), w 0, little-lt bs (λ i. w (suc i)))

pub little-append : (s t : List ℕ) → little (s ++ t) ≡ little s + byte_values ^ length s * little t
unfolding little
little-append [] t = omega arith
little-append (b ∷ bs) t =
    let q : byte_values ^ suc (length bs) * little t ≡ byte_values * (byte_values ^ length bs * little t) =
    ap (λ (n : ℕ). n * little t) (pow_more (length bs)) ∙ mul_assoc byte_values (byte_values ^ length bs) (little t)
    in
    omega (arith, little-append bs t)

-- READING RETURNS WHAT WAS WRITTEN
pub little_bytes_lem : (k n : ℕ) → n < byte_values ^ k → little (little_bytes k n) ≡ n
unfolding little little_bytes
little_bytes_lem zero n h = omega arith
little_bytes_lem (suc k) n h =
    let q : n / byte_values < byte_values ^ k = omega (arith, pow_more k) in
    omega (arith, little_bytes_lem k (n / byte_values) q)

-- and writing what was read
pub Bytes_of-little : (s : List ℕ) → Bytes s → little_bytes (length s) (little s) ≡ s
unfolding little little_bytes
Bytes_of-little [] w = refl
Bytes_of-little (b ∷ bs) w =
    let r : (b + byte_values * little bs) % byte_values ≡ b = omega (arith, w 0) in
    let q : (b + byte_values * little bs) / byte_values ≡ little bs = omega (arith, w 0) in
    rw (r, q) (ap (λ (l : List ℕ). b ∷ l) (Bytes_of-little bs (λ i. w (suc i))))

-- ---- numbers at a place

pub number_lt : (s : List ℕ) (at : ℕ) → Bytes s → at + number_size ≤ length s → number_at s at < 2 ^ 32
number_lt s at w h =
    let n : length (take number_size (drop at s)) ≡ number_size = omega (arith, length-take number_size (drop at s), length-drop at s) in
    rw n at (little-lt (take number_size (drop at s)) (bytes_take (drop at s) number_size (bytes_drop s at w)))

pub number_read : (s : List ℕ) (at n : ℕ) (rest : List ℕ) → n < 2 ^ 32 → drop at s ≡ number_bytes n ++ rest → number_at s at ≡ n
number_read s at n rest h e =
    ap (λ (l : List ℕ). little (take number_size l)) e
    ∙ ap little (take_at (number_bytes n) rest number_size (length_little number_size n))
    ∙ little_bytes_lem number_size n h

pub number_written : (s : List ℕ) (at : ℕ) → Bytes s → at + number_size ≤ length s
    → drop at s ≡ number_bytes (number_at s at) ++ drop (at + number_size) s
number_written s at w h =
    let t : List ℕ = take number_size (drop at s) in
    let n : length t ≡ number_size = omega (arith, length-take number_size (drop at s), length-drop at s) in
    sym (take-append-drop number_size (drop at s))
    ∙ ap (λ (l : List ℕ). l ++ drop number_size (drop at s)) (sym (Bytes_of-little t (bytes_take (drop at s) number_size (bytes_drop s at w))))
    ∙ ap (λ (k : ℕ). little_bytes k (little t) ++ drop number_size (drop at s)) n
    ∙ ap (λ (l : List ℕ). number_bytes (little t) ++ l) (drop-drop number_size at s)

-- the number of some bytes, one byte after the other
little_one : (s : List ℕ) (at k : ℕ) → at < length s
    → little (take (suc k) (drop at s)) ≡ get_or s at 0 + byte_values * little (take k (drop (at + 1) s))
unfolding little
little_one s at k h = ap (λ (l : List ℕ). little (take (suc k) l)) (drop_one s at 0 h)

little_none : (l : List ℕ) → little (take 0 l) ≡ 0
unfolding little
little_none l = refl

pub number_four : (s : List ℕ) (at a b c d : ℕ) → at + number_size ≤ length s
    → a ≡ get_or s at 0 → b ≡ get_or s (at + 1) 0 → c ≡ get_or s (at + 2) 0 → d ≡ get_or s (at + 3) 0
    → a + 256 * (b + 256 * (c + 256 * d)) ≡ number_at s at
number_four s at a b c d h ea eb ec ed =
    let p2 : at + 1 + 1 ≡ at + 2 = omega arith in
    let p3 : at + 2 + 1 ≡ at + 3 = omega arith in
    let l1 : little (take 3 (drop (at + 1) s)) ≡ b + byte_values * little (take 2 (drop (at + 2) s)) = rw (eb, ← p2) (little_one s (at + 1) 2 (omega arith)) in
    let l2 : little (take 2 (drop (at + 2) s)) ≡ c + byte_values * little (take 1 (drop (at + 3) s)) = rw (ec, ← p3) (little_one s (at + 2) 1 (omega arith)) in
    let l3 : little (take 1 (drop (at + 3) s)) ≡ d + byte_values * little (take 0 (drop (at + 3 + 1) s)) = rw ed (little_one s (at + 3) 0 (omega arith)) in
    omega (arith, little_one s at 3 (omega arith), l1, l2, l3, little_none (drop (at + 3 + 1) s))

-- the library's bytes of a number
pub number_bytes_eight : (n : ℕ) → take number_size (to_le_bytes w64 n) ≡ number_bytes n
unfolding little_bytes
number_bytes_eight n =
    let q : n / 65536 % 256 ≡ n / 256 / 256 % 256 = omega arith in
    let r : n / 16777216 % 256 ≡ n / 256 / 256 / 256 % 256 = omega arith in
    rw (q, r) refl

-- a part of a buffer that was written over
pub put_run : (l : List ℕ) (at n : ℕ) (us vs : List ℕ) → us ≡ vs → n ≡ length vs → at + length vs ≤ length l → put_mid at n l us ≡ sets l at vs
put_run l at n us vs e h r =
    put_mid-paste at n l us vs n e refl h
    ∙ ap (paste l at vs) h
    ∙ ap (λ (m : List ℕ). take at l ++ m ++ drop (at + length vs) l) (take_all (length vs) vs (omega arith))
    ∙ sym (sets-eq vs l at r)
