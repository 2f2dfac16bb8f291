-- How the row of a list is made: of bytes that are all 0, in which the bit of each step is set.
use Rattle.std.specs.Prelude.{List, [], ◌∷◌, ℕ, ◌+◌, ◌-◌, ◌/◌, ◌%◌, ◌^◌, ◌≤◌, length, get_or, set, drop}
use Rattle.lists.specs.Rising.{Rising}
use Rattle.lists.specs.Bytes.{Bytes}
use Rattle.row.specs.Row.{byte_bits, row_of}

-- the number at a place, and `v` more
abbrev pub plus : List ℕ → ℕ → ℕ → List ℕ
plus l p v = set l p (get_or l p 0 + v)

-- the byte of step `x`, and its bit, where the bytes from `at` on begin with the bit that stands for `o`
abbrev pub place_of : ℕ → ℕ → ℕ → ℕ
place_of o at x = at + (x - o) / byte_bits

abbrev pub bit_of : ℕ → ℕ → ℕ
bit_of o x = 2 ^ ((x - o) % byte_bits)

-- the bits of steps added to these bytes
unfoldable pub marked : ℕ → ℕ → List ℕ → List ℕ → List ℕ
marked o at [] l = l
marked o at (x ∷ xs) l = marked o at xs (plus l (place_of o at x) (bit_of o x))

-- there is room for the list's row at `at`, and where the steps from rank `i` on are marked all bytes stay bytes
pub record Markable (o at : ℕ) (xs : List ℕ) (i : ℕ) (l : List ℕ) : Type 0 where
  pub rising : Rising o xs
  pub room : at + length (row_of o xs) ≤ length l
  pub bytes : Bytes (marked o at (drop i xs) l)
