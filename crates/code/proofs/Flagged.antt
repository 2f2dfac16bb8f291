-- Laws of what is kept of a number by the flag of a byte.
-- Assumes nothing.
use mathlib.Core.Path.{◌≡◌}
use Prim.Native.Nat.{ℕ, ◌*◌, ◌/◌, ◌≤◌, ◌<◌}
use native.Mathlib.Omega.{arith}
use borrow.Author.Tests.{lt-ltb, le-ltb}
use Rattle.lists.proofs.Choice.{pick_yes, pick_no, by_lt}
use Rattle.code.specs.Code.{flag}
use Rattle.code.specs.Flagged.{kept}

pub Kept_none : (b x : ℕ) → b < flag → kept b x ≡ 0
unfolding kept
Kept_none b x h = pick_yes _ _ _ (lt-ltb b flag h)

pub kept_all : (b x : ℕ) → flag ≤ b → kept b x ≡ x
unfolding kept
kept_all b x h = pick_no _ _ _ (le-ltb b flag h)

-- a product with the flag's bit
pub kept_times : (b x : ℕ) → b < 256 → x * (b / flag) ≡ kept b x
kept_times b x h =
    by_lt b flag (λ g. let e : b / flag ≡ 0 = omega arith in rw e (omega (arith, Kept_none b x g)))
    (λ g. let e : b / flag ≡ 1 = omega arith in rw e (omega (arith, kept_all b x g)))

pub kept-le : (b x : ℕ) → kept b x ≤ x
kept-le b x = by_lt b flag (λ g. omega (arith, Kept_none b x g)) (λ g. omega (arith, kept_all b x g))
