-- What `check` and `read` ask of the loops over the blocks.
use Rattle.std.specs.Prelude.{List, ℕ, ◌+◌, ◌≤◌, length, Result, Ok, Err}
use Rattle.image.specs.Entry.{entry_place, entries_at, start}
use Rattle.image.specs.Verdict.{Verdict, taken, refused, blocks_of}
use Rattle.image.specs.Taken.{list_in, Takes}
use Rattle.image_directory.specs.Sound.{Sound}
use Rattle.rules.specs.declared.Refusal.{Refusal}

-- the answer of a verdict, after `c` steps
abbrev pub answer_of : ℕ → Verdict → Result ℕ Refusal
answer_of c (taken xs) = Ok (c + length xs)
answer_of c (refused r) = Err r

-- an image that was checked, and room for its steps in a buffer of n
pub record Ready (image payload : List ℕ) (m n : ℕ) : Type 0 where
  pub sound : Sound image payload m
  pub takes : Takes (blocks_of payload start 0 (entries_at m image (entry_place 0)))
  pub room : length (list_in (blocks_of payload start 0 (entries_at m image (entry_place 0)))) ≤ n
