-- The number of an entry's first refusal, test by test: each law counts on the tests before it.
-- Assumes nothing.
use mathlib.Core.Path.{◌≡◌}
use Prim.Native.Nat.{ℕ, ◌≤◌, ◌<◌}
use borrow.Author.Tests.{lt-ltb, le-ltb, le-leb, lt-leb}
use Rattle.rules.specs.Limits.{largest_step, most_steps}
use Rattle.rules.specs.Refusals.{unknown_kind, bad_last, bad_upto, bad_end}
use Rattle.image.specs.declared.Entry.{Entry}
use Rattle.image.specs.declared.Before.{Before}
use Rattle.image.specs.Verdict.{fault_of}

module _ (p : ℕ) (b : Before) (e : Entry) where
  pub fault_kind : 1 < e.kind → fault_of p b e ≡ unknown_kind
  unfolding fault_of
  fault_kind h = simp (lt-ltb)

  module _ (kind : e.kind ≤ 1) where
    pub fault_large : largest_step < e.last → fault_of p b e ≡ bad_last
    unfolding fault_of
    fault_large h = simp (le-ltb, lt-ltb)

    module _ (small : e.last ≤ largest_step) where
      pub fault_last : e.last < b.next → fault_of p b e ≡ bad_last
      unfolding fault_of
      fault_last h = simp (le-ltb, lt-ltb)

      module _ (last : b.next ≤ e.last) where
        pub fault_upto : e.upto ≤ b.upto → fault_of p b e ≡ bad_upto
        unfolding fault_of
        fault_upto h = simp (le-ltb, le-leb)

        module _ (upto : b.upto < e.upto) where
          pub fault_many : most_steps < e.upto → fault_of p b e ≡ bad_upto
          unfolding fault_of
          fault_many h = simp (le-ltb, lt-leb, lt-ltb)

          module _ (few : e.upto ≤ most_steps) where
            pub fault_end : e.end ≤ b.end → fault_of p b e ≡ bad_end
            unfolding fault_of
            fault_end h = simp (le-ltb, lt-leb, le-leb)

            pub fault_past : b.end < e.end → p < e.end → fault_of p b e ≡ bad_end
            unfolding fault_of
            fault_past end h = simp (le-ltb, lt-leb, lt-ltb)
