-- The numbers that the planner goes by. They are no promise: laws tie them to the best cut.
use Rattle.std.specs.Prelude.{List, [], ◌∷◌, ℕ, suc, ◌+◌, ◌-◌, ◌*◌, ◌/◌, ◌^◌, min, drop}
use Rattle.lists.specs.Rising.{past}
use Rattle.rules.specs.Sizes.{entry_size}
use Rattle.code.specs.Code.{code_size}
use Rattle.row.specs.Row.{byte_bits, row_size}
use Rattle.plan.specs.declared.Turn.{Turn}

-- none of them is above this, so that eight times one of them and another fit 32 bits
abbrev pub most_ahead : ℕ
most_ahead = 2 ^ 28

-- Of a list: the fewest bytes of its blocks; the fewest bytes of a first block of codes, its entry aside, and of all the blocks after it; and
-- the least of 8 · (the bytes after a first block) + (one past its last step).
pub record Ahead : Type 0 where
  pub bytes : ℕ
  pub codes : ℕ
  pub reach : ℕ

-- One step more in front: its code has `g` bytes, it is `o` at the least, and one past it is `p`. A first block ends with this step, or goes
-- on as one from the next step on does.
abbrev pub grown : ℕ → ℕ → ℕ → Ahead → Ahead
grown g o p a =
    let codes = g + min a.bytes a.codes in
    let reach = min a.reach (byte_bits * a.bytes + p) in
    record { bytes = entry_size + min codes (row_size (reach - o)); codes = codes; reach = reach }

-- of a list that begins at `o` at the earliest
unfoldable pub ahead_of : ℕ → List ℕ → Ahead
ahead_of o [] = record { bytes = 0; codes = 0; reach = o }
ahead_of o (y ∷ ys) = grown (code_size (y - o)) o (suc y) (ahead_of (suc y) ys)

-- of a list from a rank on
abbrev pub ahead_at : List ℕ → ℕ → Ahead
ahead_at xs i = ahead_of (past xs i) (drop i xs)

-- its numbers
abbrev pub bytes_at : List ℕ → ℕ → ℕ
bytes_at xs i = (ahead_at xs i).bytes

abbrev pub codes_at : List ℕ → ℕ → ℕ
codes_at xs i = (ahead_at xs i).codes

abbrev pub reach_at : List ℕ → ℕ → ℕ
reach_at xs i = (ahead_at xs i).reach

-- and the fewest bytes of a first block that is a row, its entry aside, and of all the blocks after it
abbrev pub row_at : List ℕ → ℕ → ℕ
row_at xs i = row_size (reach_at xs i - past xs i)

-- the bits of an entry, and those that a row adds to its span before its bits are counted in bytes
abbrev pub entry_bits : ℕ
entry_bits = byte_bits * entry_size

abbrev pub row_bits : ℕ
row_bits = entry_bits + (byte_bits - 1)

-- A turn of the planner, at a step that is `o` at the least. It goes without the fewest bytes of all: codes that end where other codes begin are
-- not fewer than one block of them, and a row reaches no less than where it ends.
abbrev pub turned : ℕ → ℕ → Turn → Turn
turned c o t = record {
  rest = min c ((t.reach - o) / byte_bits);
  reach = min t.reach (byte_bits * c + (o + (entry_bits + row_bits)));
}
