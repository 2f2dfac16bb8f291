-- A loop over the entries of a directory that was checked: each entry that it meets is clean, so its block lies within the payload, and
-- where the blocks are taken the block is good.
-- Assumes nothing.
use mathlib.Core.Path.{◌≡◌, sym, ap, ◌∙◌}
use mathlib.Core.List.{List}
use Prim.Native.Nat.{ℕ, ◌+◌, ◌-◌, ◌≤◌, ◌<◌}
use native.Mathlib.Omega.{arith}
use lib.ListN.{length}
use Rattle.std.specs.Prelude.{Ok}
use Rattle.image.specs.declared.Entry.{Entry}
use Rattle.image.specs.declared.Before.{Before}
use Rattle.image.specs.Entry.{entry_place, entry_at, entries_at, start, after_entry}
use Rattle.image.specs.Verdict.{Verdict, taken, directory_of, blocks_of}
use Rattle.image.proofs.Entries.{entries_here}
use Rattle.image.proofs.Directory.{Clean, directory_clean}
use Rattle.image.proofs.Blocks.{Split, split}
use Rattle.image.specs.Taken.{list_in, Takes}
use Rattle.image_directory.specs.Sound.{Sound}

-- the entries from number `i` on
abbrev pub left : List ℕ → ℕ → ℕ → List Entry
left s m i = entries_at (m - i) s (entry_place i)

-- `i` of `m` entries were passed, `b` stands before the next, and from there on the directory is fine
pub record Ahead (s pay : List ℕ) (m : ℕ) (b : Before) (i : ℕ) : Type 0 where
  pub within : i ≤ m
  pub fine : directory_of (length pay) b i (left s m i) ≡ Ok tt

pub left_start : (s : List ℕ) (m : ℕ) → entries_at m s (entry_place 0) ≡ left s m 0
left_start s m = let z : m ≡ m - 0 = omega arith in ap (λ (k : ℕ). entries_at k s (entry_place 0)) z

pub Ahead-start : (s pay : List ℕ) (m : ℕ) → Sound s pay m → Ahead s pay m start 0
Ahead-start s pay m d =
    record { within = omega arith; fine = ap (directory_of (length pay) start 0) (sym (left_start s m)) ∙ d.fine }

module _ {s pay : List ℕ} {m : ℕ} {b : Before} {i : ℕ} (a : Ahead s pay m b i) (e : Entry) (here : e ≡ entry_at s (entry_place i)) (h : i < m) where
  both : Clean (length pay) b e × (directory_of (length pay) (after_entry e) (i + 1) (left s m (i + 1)) ≡ Ok tt)
  both =
      directory_clean (length pay) b i e (left s m (i + 1))
      (sym (ap (directory_of (length pay) b i) (entries_here s m i e here h)) ∙ a.fine)

  pub ahead_Clean : Clean (length pay) b e
  ahead_Clean = both.0

  pub Ahead_next : Ahead s pay m (after_entry e) (i + 1)
  Ahead_next = record { within = omega arith; fine = both.1 }

-- ---- the blocks

pub Takes_list : {v : Verdict} {xs : List ℕ} → v ≡ taken xs → Takes v
Takes_list q = q ∙ ap (λ (l : List ℕ). taken l) (sym (ap list_in q))

module _ (s pay : List ℕ) (m : ℕ) (b : Before) (i : ℕ) (e : Entry) (here : e ≡ entry_at s (entry_place i)) (h : i < m) where
  pub Split_here : Takes (blocks_of pay b i (left s m i)) → Split pay b i e (left s m (i + 1)) (list_in (blocks_of pay b i (left s m i)))
  Split_here t =
      split pay b i e (left s m (i + 1)) (list_in (blocks_of pay b i (left s m i)))
      (sym (ap (blocks_of pay b i) (entries_here s m i e here h)) ∙ t)
