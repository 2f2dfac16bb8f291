-- What a walk goes along: an accepted image, its payload, and its blocks by their numbers.
use Rattle.std.specs.Prelude.{◌≡◌, List, ℕ, ◌-◌, ◌^◌, ◌≤◌, ◌<◌, length, Ok}
use Rattle.rules.specs.Numbers.{number_at}
use Rattle.image.specs.declared.Entry.{Entry}
use Rattle.image.specs.Entry.{entry_place, entries_at, before_at}
use Rattle.image.specs.Verdict.{Verdict, taken, directory_of, blocks_of}
use Rattle.image.specs.Taken.{list_in}

-- the entries from number `i` on
abbrev pub entries_from : List ℕ → ℕ → List Entry
entries_from s i = entries_at (number_at s 0 - i) s (entry_place i)

-- the verdict on the blocks from number `i` on, and their steps
abbrev pub blocks_from : List ℕ → List ℕ → ℕ → Verdict
blocks_from s pay i = blocks_of pay (before_at s i) i (entries_from s i)

abbrev pub later : List ℕ → List ℕ → ℕ → List ℕ
later s pay i = list_in (blocks_from s pay i)

-- the blocks from number `i` on are good, and the one before them ends at the place `e` of the payload
pub record Blocks (s pay : List ℕ) (i e : ℕ) : Type 0 where
  pub size : entry_place (number_at s 0) ≤ length s
  pub few : length pay < 2 ^ 32
  pub end : e ≡ (before_at s i).end
  pub fine : directory_of (length pay) (before_at s i) i (entries_from s i) ≡ Ok tt
  pub takes : blocks_from s pay i ≡ taken (later s pay i)
