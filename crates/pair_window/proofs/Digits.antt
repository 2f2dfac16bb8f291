-- Two numbers joined bit by bit: the lowest bits apart from the others.
-- Assumes nothing.
use mathlib.Core.Path.{◌≡◌, ap₂, ◌∙◌}
use Prim.Native.Nat.{ℕ, ◌+◌, ◌*◌, ◌/◌, ◌%◌, ◌<◌, min, max}
use native.Mathlib.Omega.{arith}
use lib.Bits.{bit_and, bit_or, and_step, or_step}

-- for any way to join that goes by the lowest bits and then by the halves
joined_digits : (join low : ℕ → ℕ → ℕ) → ((n m : ℕ) → join n m ≡ join (n / 2) (m / 2) * 2 + low (n % 2) (m % 2))
    → (a b x y : ℕ) → x < 2 → y < 2 → join (x + 2 * a) (y + 2 * b) ≡ low x y + 2 * join a b
joined_digits join low step a b x y h g =
    let p : (x + 2 * a) / 2 ≡ a = omega arith in
    let q : (y + 2 * b) / 2 ≡ b = omega arith in
    let r : (x + 2 * a) % 2 ≡ x = omega arith in
    let s : (y + 2 * b) % 2 ≡ y = omega arith in
    step (x + 2 * a) (y + 2 * b)
    ∙ ap₂ (λ (n m : ℕ). join n m * 2 + low ((x + 2 * a) % 2) ((y + 2 * b) % 2)) p q
    ∙ ap₂ (λ (n m : ℕ). join a b * 2 + low n m) r s
    ∙ omega arith

pub or_digits : (a b x y : ℕ) → x < 2 → y < 2 → bit_or (x + 2 * a) (y + 2 * b) ≡ max x y + 2 * bit_or a b
or_digits = joined_digits bit_or max or_step

pub and_digits : (a b x y : ℕ) → x < 2 → y < 2 → bit_and (x + 2 * a) (y + 2 * b) ≡ min x y + 2 * bit_and a b
and_digits = joined_digits bit_and min and_step
