-- A list that stands the tests is one of document 01's, and each of those stands them; a refusal has a number.
-- Assumes nothing.
use mathlib.Core.Path.{◌≡◌, refl, sym, ◌∙◌, subst}
use mathlib.Core.List.{List}
use Prim.Native.Nat.{ℕ, ◌≤◌, ◌<◌}
use native.Mathlib.Omega.{arith}
use borrow.Author.Tests.{lt-ltb, le-ltb}
use lib.Dec.{ltb}
use lib.ListN.{length}
use Rattle.std.specs.Prelude.{Result, Ok, Err, ⊤}
use Rattle.lists.proofs.Choice.{by_lt, either_way}
use Rattle.rules.specs.Limits.{most_steps}
use Rattle.rules.specs.Refusals.{too_many_steps, step_too_large, not_increasing, refusal}
use Rattle.rules.specs.declared.Refusal.{Refusal}
use Rattle.rules.specs.Listed.{Listed}
use Rattle.write_list.specs.Faults.{first_above, first_fall}
use Rattle.write_list.specs.Tests.{test_of}
use Rattle.write_list.proofs.Faults.{faultless_Listed, listed_above, Listed_fall}

-- ---- by the tests

module _ (xs : List ℕ) where
  pub test_many : most_steps < length xs → test_of xs ≡ Err (refusal too_many_steps 0)
  test_many h = rw (lt-ltb most_steps (length xs) h)

  pub test_above : length xs ≤ most_steps → first_above xs < length xs → test_of xs ≡ Err (refusal step_too_large (first_above xs))
  test_above n h = rw (le-ltb most_steps (length xs) n, lt-ltb (first_above xs) (length xs) h)

  pub test_fall : length xs ≤ most_steps → length xs ≤ first_above xs → first_fall xs < length xs
      → test_of xs ≡ Err (refusal not_increasing (first_fall xs))
  test_fall n a h =
      rw (le-ltb most_steps (length xs) n, le-ltb (first_above xs) (length xs) a, lt-ltb (first_fall xs) (length xs) h)

  pub test_none : length xs ≤ most_steps → length xs ≤ first_above xs → length xs ≤ first_fall xs → test_of xs ≡ Ok tt
  test_none n a f =
      rw (le-ltb most_steps (length xs) n, le-ltb (first_above xs) (length xs) a, le-ltb (first_fall xs) (length xs) f)

-- ---- what they tell

-- whether a list was accepted
abbrev Accepts : Result ⊤ Refusal → Type 0
Accepts (Ok u) = Unit {0}
Accepts (Err r) = ⊥

-- A LIST THAT STANDS THE TESTS IS ONE OF DOCUMENT 01'S
pub Accepted-Listed : {xs : List ℕ} → test_of xs ≡ Ok tt → Listed xs
Accepted-Listed {xs} e =
    by_lt most_steps (length xs) (λ h. never (test_many xs h))
    (λ n. by_lt (first_above xs) (length xs) (λ h. never (test_above xs n h))
    (λ a. by_lt (first_fall xs) (length xs) (λ h. never (test_fall xs n a h))
    (λ f. faultless_Listed xs n a f)))
  where
    never : {X : Type 0} {r : Refusal} → test_of xs ≡ Err r → X
    never q = absurd (subst Accepts (sym e ∙ q) tt)

-- by what the tests say
pub by_tests : {X : Type 0} (xs : List ℕ) → ((r : Refusal) → test_of xs ≡ Err r → X) → (Listed xs → X) → X
by_tests {X} xs f g = by (test_of xs) refl
  where
    by : (t : Result ⊤ Refusal) → test_of xs ≡ t → X
    by (Err r) e = f r e
    by (Ok u) e = g (Accepted-Listed e)

-- and such a list stands them
pub Listed-Accepted : {xs : List ℕ} → Listed xs → test_of xs ≡ Ok tt
Listed-Accepted {xs} l = test_none xs l.few (omega (arith, listed_above l)) (omega (arith, Listed_fall l))

-- a refusal has a number
abbrev pub NamedTest : Result ⊤ Refusal → Type 0
NamedTest (Ok u) = Unit {0}
NamedTest (Err r) = 0 < r.number

pub test_named : (xs : List ℕ) → NamedTest (test_of xs)
test_named xs =
    either_way NamedTest (ltb most_steps (length xs)) (omega arith)
    (either_way NamedTest (ltb (first_above xs) (length xs)) (omega arith)
    (either_way NamedTest (ltb (first_fall xs) (length xs)) (omega arith) tt))
