-- Laws of a scan, which goes up from the rank after `i` as long as it may.
-- Assumes nothing.
use mathlib.Core.Path.{◌≡◌, subst}
use Prim.Native.Nat.{ℕ, zero, suc, ◌+◌, ◌≤◌, ◌<◌}
use native.Mathlib.Omega.{arith}
use native.Mathlib.Numerals.{add-one}
use borrow.Author.Count.{below_more}
use Rattle.lists.proofs.Choice.{by_lt}
use Rattle.plan.specs.Inside.Work.{Scanning, Stops}

-- what holds from the rank after `i` on
pub upward : (P : ℕ → Type 0) (i : ℕ) → P (i + 1) → ((j : ℕ) → i < j → P j → P (j + 1)) → (j : ℕ) → i < j → P j
upward P i p f zero h = absurd (omega arith)
upward P i p f (suc j) h =
    by_lt i j (λ g. subst P (add-one j) (f j g (upward P i p f j g)))
    (λ g.
    let e : i + 1 ≡ suc j = omega arith in
    subst P e p)

module _ {On : ℕ → Type 0} {n i : ℕ} where
  pub scan_start : i < n → Scanning On n i (i + 1)
  scan_start h = record { after = omega arith; within = omega arith; passed = λ u a b. absurd (omega arith) }

  module _ {j : ℕ} (s : Scanning On n i j) where
    pub scan_on : j < n → On j → Scanning On n i (j + 1)
    scan_on h t = record {
      after = omega (arith, s.after);
      within = omega arith;
      passed = below_more (λ u. i < u → On u) j s.passed (λ g. t);
    }

    -- many at once
    pub scan_many : (k : ℕ) → j + k ≤ n → ((u : ℕ) → j ≤ u → u < j + k → On u) → Scanning On n i (j + k)
    scan_many k h f = record {
      after = omega (arith, s.after);
      within = h;
      passed = λ u a b. by_lt u j (λ g. s.passed u g b) (λ g. f u g a);
    }

    pub scan_stop : (On j → ⊥) → Stops On n i j
    scan_stop t = record { after = s.after; within = s.within; passed = λ u a b. s.passed u b a; stopped = λ h. t }

    pub scan_end : n ≤ j → Stops On n i j
    scan_end h = record { after = s.after; within = s.within; passed = λ u a b. s.passed u b a; stopped = λ g. absurd (omega arith) }

-- ---- a scan past numbers that do not exceed others

-- it ends
module _ (a b : ℕ → ℕ) (n i : ℕ) where
  scan : (d j : ℕ) → n ≤ j + d → Scanning (λ u. a u ≤ b u) n i j → (r : ℕ) × Stops (λ u. a u ≤ b u) n i r
  scan zero j h s = (j, scan_end s (omega arith))
  scan (suc d) j h s =
      by_lt j n
      (λ g. by_lt (b j) (a j) (λ k. (j, scan_stop s (λ t. omega arith))) (λ k. scan d (j + 1) (omega arith) (scan_on s g k)))
      (λ g. (j, scan_end s g))

  pub Stops_some : i < n → (r : ℕ) × Stops (λ u. a u ≤ b u) n i r
  Stops_some h = scan n (i + 1) (omega arith) (scan_start h)

-- where it stopped before the end, the number there exceeds the other
pub stopped_lt : {a b : ℕ → ℕ} {n i r : ℕ} → Stops (λ j. a j ≤ b j) n i r → r < n → b r < a r
stopped_lt {a} {b} {r = r} s l = by_lt (b r) (a r) (λ h. h) (λ h. absurd (s.stopped l h))
