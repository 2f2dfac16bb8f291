-- The entries of the directory, 13 bytes each: kind (1 byte), last step, upto, end (4 bytes each).
use Rattle.std.specs.Prelude.{List, [], ◌∷◌, ◌++◌, ℕ, zero, suc, ◌+◌, ◌*◌, ◌^◌, ◌<◌, get_or}
use Rattle.rules.specs.Sizes.{number_size, entry_size}
use Rattle.rules.specs.Numbers.{number_at, number_bytes}
use Rattle.image.specs.declared.Entry.{Entry}
use Rattle.image.specs.declared.Before.{Before}

-- where the entry with number `i` stands: after the count of blocks
abbrev pub entry_place : ℕ → ℕ
entry_place i = number_size + entry_size * i

-- where the payload of an image with `m` blocks starts: after the entries and the count of payload bytes
abbrev pub payload_place : ℕ → ℕ
payload_place m = entry_place m + number_size

-- the bytes of an entry
abbrev pub entry_bytes : Entry → List ℕ
entry_bytes e = e.kind ∷ (number_bytes e.last ++ (number_bytes e.upto ++ number_bytes e.end))

-- the bytes of a directory
abbrev pub directory_bytes : List Entry → List ℕ
directory_bytes [] = []
directory_bytes (e ∷ es) = entry_bytes e ++ directory_bytes es

-- the entry at a place
unfoldable pub entry_at : List ℕ → ℕ → Entry
entry_at s at =
    record {
      kind = get_or s at 0;
      last = number_at s (at + 1);
      upto = number_at s (at + 1 + number_size);
      end = number_at s (at + 1 + number_size + number_size);
    }

-- `m` entries from a place on
abbrev pub entries_at : ℕ → List ℕ → ℕ → List Entry
entries_at zero s at = []
entries_at (suc m) s at = entry_at s at ∷ entries_at m s (at + entry_size)

-- what stands before the first block: steps from 0 on, no steps yet, the payload's start
abbrev pub start : Before
start = record { next = 0; upto = 0; end = 0 }

-- what stands before the block after that of an entry
abbrev pub after_entry : Entry → Before
after_entry e = record { next = e.last + 1; upto = e.upto; end = e.end }

-- what stands before the block with number `i`
abbrev pub before_at : List ℕ → ℕ → Before
before_at s zero = start
before_at s (suc i) = after_entry (entry_at s (entry_place i))

-- an entry's numbers fit four bytes, and its kind one
pub record Narrow (e : Entry) : Type 0 where
  pub kind : e.kind < 256
  pub last : e.last < 2 ^ 32
  pub upto : e.upto < 2 ^ 32
  pub end : e.end < 2 ^ 32
