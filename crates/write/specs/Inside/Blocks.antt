-- What the functions that store blocks ask for, and what they leave in the output.
use Rattle.std.specs.Prelude.{◌≡◌, List, ℕ, ◌+◌, ◌-◌, ◌/◌, ◌%◌, ◌≤◌, ◌<◌, length}
use Rattle.std.proofs.lemmas.List.Edits.{sets}
use Rattle.rules.specs.Sizes.{work_for}
use Rattle.rules.specs.Listed.{Listed}
use Rattle.cut.specs.Cut.{kind_of, Block, block}
use Rattle.image.specs.Entry.{entry_place, payload_place, entry_bytes, directory_bytes}
use Rattle.image.specs.Grammar.{part_of, payload_of, entry_of, entries_of}
use Rattle.plan.specs.Planned.{cut_of, Marked}

-- the block that a word of the planner says
abbrev pub block_at : ℕ → Block
block_at word = block (kind_of (word % 2)) (word / 2)

-- the block that begins at rank `i`, and that the word says, lies within a list of document 01
pub record Within (xs : List ℕ) (i word : ℕ) : Type 0 where
  pub listed : Listed xs
  pub after : i < word / 2
  pub inside : word / 2 ≤ length xs

-- the part of the block that begins at rank `i`, and that the word says, was stored at `p`, its entry at `at`, and `next` is the place after
-- the part; the payload begins at `base`
pub record Laid (xs : List ℕ) (i word base : ℕ) (out : List ℕ) (at p : ℕ) (out' : List ℕ) (next : ℕ) : Type 0 where
  pub place : next ≡ p + length (part_of xs i (block_at word))
  pub stores : out' ≡ sets (sets out p (part_of xs i (block_at word))) at (entry_bytes (entry_of xs i (p - base) (block_at word)))

-- the work area marks the best cut of a list of document 01
pub record Marks (xs work : List ℕ) : Type 0 where
  pub listed : Listed xs
  pub room : work_for (length xs) ≤ length work
  pub marked : Marked work 0 (cut_of xs)

-- the entries and the payload of the best cut, which has `m` blocks, were stored, and `end` is the place after the payload
pub record Filled (xs : List ℕ) (m : ℕ) (out out' : List ℕ) (end : ℕ) : Type 0 where
  pub place : end ≡ payload_place m + length (payload_of xs 0 (cut_of xs))
  pub stores : out' ≡ sets (sets out (entry_place 0) (directory_bytes (entries_of xs 0 0 (cut_of xs)))) (payload_place m) (payload_of xs 0 (cut_of xs))
