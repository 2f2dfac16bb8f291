-- What stands before a block that is not the first.
-- Assumes nothing.
use mathlib.Core.Path.{◌≡◌, ap, ◌∙◌}
use mathlib.Core.List.{List}
use Prim.Native.Nat.{ℕ, zero, suc, ◌-◌}
use native.Mathlib.Omega.{arith}
use Rattle.image.specs.declared.Entry.{Entry}
use Rattle.image.specs.Entry.{entry_place, entry_at, after_entry, before_at}

pub before_past : (s : List ℕ) (i : ℕ) (e : Entry) → (i ≡ 0 → ⊥) → e ≡ entry_at s (entry_place (i - 1)) → after_entry e ≡ before_at s i
before_past s zero e h q = absurd (h (λ t. 0))
before_past s (suc i) e h q =
    let z : suc i - 1 ≡ i = omega arith in
    ap after_entry (q ∙ ap (λ (k : ℕ). entry_at s (entry_place k)) z)
