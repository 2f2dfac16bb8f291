-- A bit row of document 01: bit j stands for step o + j, in byte j div 8, the lowest bit first.
use Rattle.std.specs.Prelude.{List, [], ◌∷◌, ◌++◌, ℕ, zero, suc, ◌+◌, ◌-◌, ◌*◌, ◌/◌, ◌%◌, eqb, get_or}
use Rattle.lists.specs.Choice.{pick}
use Rattle.lists.specs.Rising.{beyond}
use Rattle.lists.specs.Members.{has}

-- the bits of a byte
abbrev pub byte_bits : ℕ
byte_bits = 8

-- the ones among the `k` lowest bits of `v`, the lowest first, which stands for `o`
unfoldable pub bits_from : ℕ → ℕ → ℕ → List ℕ
bits_from zero o v = []
bits_from (suc k) o v = pick (eqb (v % 2) 1) (o ∷ bits_from k (suc o) (v / 2)) (bits_from k (suc o) (v / 2))

-- the steps of a row's bytes, whose first bit stands for `o`
unfoldable pub row_steps : ℕ → List ℕ → List ℕ
row_steps o [] = []
row_steps o (b ∷ bs) = bits_from byte_bits o b ++ row_steps (o + byte_bits) bs

-- `k` bits that say, the lowest first, whether `o`, `o + 1` and so on are among the steps
unfoldable pub bits_of : ℕ → ℕ → List ℕ → ℕ
bits_of zero o xs = 0
bits_of (suc k) o xs = pick (has o xs) 1 0 + 2 * bits_of k (suc o) xs

-- `k` bytes of these
unfoldable pub bytes_from : ℕ → ℕ → List ℕ → List ℕ
bytes_from zero o xs = []
bytes_from (suc k) o xs = bits_of byte_bits o xs ∷ bytes_from k (o + byte_bits) xs

-- the bytes of a row: span/8 rounded up
abbrev pub row_size : ℕ → ℕ
row_size span = (span + (byte_bits - 1)) / byte_bits

-- the row of a rising list that begins at `o` at the earliest: its span goes up to its last step
unfoldable pub row_of : ℕ → List ℕ → List ℕ
row_of o xs = bytes_from (row_size (beyond o xs - o)) o xs

-- the place of the k-th one of a byte, counted from 0, or 8 where the byte has too few
unfoldable pub kth_one : ℕ → ℕ → ℕ
kth_one byte k = get_or (bits_from byte_bits 0 byte) k byte_bits
