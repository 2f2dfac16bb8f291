-- What a search along the directory goes by: the start, one entry more, the entry looked for, and the end.
-- Assumes nothing.
use mathlib.Core.Path.{◌≡◌, sym, ap, ◌∙◌}
use mathlib.Core.Bool.{true, false}
use mathlib.Core.List.{List}
use Prim.Native.Nat.{ℕ, ◌+◌, ◌-◌, ◌≤◌, ◌<◌}
use native.Mathlib.Omega.{arith}
use Rattle.lists.proofs.Choice.{pick_yes, pick_no}
use Rattle.rules.specs.Numbers.{number_at}
use Rattle.image.specs.declared.Entry.{Entry}
use Rattle.image.specs.declared.Before.{Before}
use Rattle.image.specs.Entry.{entry_place, entry_at, entries_at, start, after_entry}
use Rattle.image.proofs.Entries.{entries_here, entries_done}
use Rattle.image_directory.specs.declared.Question.{Question}
use Rattle.std.proofs.Common.{None, Some}
use Rattle.image_directory.specs.Search.{passes, spot_of, spot_in}

-- `i` of `m` entries do not have the answer, and `b` stands before the next
pub record Seeking (q : Question) (s : List ℕ) (m : ℕ) (b : Before) (i : ℕ) : Type 0 where
  pub within : i ≤ m
  pub is : spot_in q s ≡ spot_of q b (entries_at (m - i) s (entry_place i))

pub Seeking-start : (q : Question) (s : List ℕ) (m : ℕ) → m ≡ number_at s 0 → Seeking q s m start 0
Seeking-start q s m e =
    let z : number_at s 0 ≡ m - 0 = omega arith in
    record { within = omega arith; is = ap (λ (n : ℕ). spot_of q start (entries_at n s (entry_place 0))) z }

module _ {q : Question} {s : List ℕ} {m : ℕ} {b : Before} {i : ℕ} (g : Seeking q s m b i) where
  -- the next entry was read
  module _ {e : Entry} (here : e ≡ entry_at s (entry_place i)) (h : i < m) where
    pub seeking_here : passes q e ≡ true → spot_in q s ≡ Some (record { before = b; entry = e })
    seeking_here t = g.is ∙ ap (spot_of q b) (entries_here s m i e here h) ∙ pick_yes _ _ _ t

    pub seeking_past : {a : Before} → a ≡ after_entry e → passes q e ≡ false → Seeking q s m a (i + 1)
    seeking_past is-after t =
        record {
          within = omega arith;
          is =
              g.is
              ∙ ap (spot_of q b) (entries_here s m i e here h)
              ∙ pick_no _ _ _ t
              ∙ ap (λ (y : Before). spot_of q y (entries_at (m - (i + 1)) s (entry_place (i + 1)))) (sym is-after);
        }

  pub seeking_end : m ≤ i → spot_in q s ≡ None
  seeking_end h = g.is ∙ ap (spot_of q b) (entries_done s m i h)
