-- What is read of an input, and what is reported of it. Assumes nothing.
use native.Mathlib.Omega.{arith}
use Rattle.std.proofs.Common.{◌≡◌, subst, List, ℕ, ◌<◌, ◌≤◌, length, take, Option, IfSome, codes}
use Rattle.std.specs.Io.KnownBytes.{Appends}
use Rattle.blocks_print.specs.Text.{longest, listing, report}

-- an input that is too long
report_long : (s : List ℕ) → longest < length s → codes "too long\n" ≡ report s
report_long s h = grind arith

-- and one that is not
report_listing : (s : List ℕ) → length s ≤ longest → listing s ≡ report s
report_listing s h = grind arith

-- what is printed of the one
pub reports_long : (a b : Option (List ℕ)) (s : List ℕ) → longest < length s → Appends a b (codes "too long\n") → Appends a b (report s)
reports_long a b s h p = subst (λ (t : List ℕ). Appends a b t) (report_long s h) p

-- and of the other, lent as a slice
pub reports_listing : (a b : Option (List ℕ)) (s lent : List ℕ) → lent ≡ s → length s ≤ longest → Appends a b (listing lent) → Appends a b (report s)
reports_listing a b s lent e h p =
    subst (λ (t : List ℕ). Appends a b t) (report_listing s h) (subst (λ (x : List ℕ). Appends a b (listing x)) e p)

-- what stands in front of a buffer of a known length
pub front_of : (o : Option (List ℕ)) (n k : ℕ) (s : List ℕ) → length s ≡ k → IfSome o (λ xs. take n s ≡ take (length s) xs)
    → IfSome o (λ xs. take n s ≡ take k xs)
front_of o n k s e p = subst (λ (m : ℕ). IfSome o (λ xs. take n s ≡ take m xs)) e p
