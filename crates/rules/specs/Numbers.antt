-- Fixed-width numbers: unsigned, little-endian.
use Rattle.std.specs.Prelude.{List, [], ◌∷◌, ℕ, zero, suc, ◌+◌, ◌*◌, ◌/◌, ◌%◌, take, drop}
use Rattle.lists.specs.Bytes.{byte_values}
use Rattle.rules.specs.Sizes.{number_size}

-- the number that bytes stand for, the lowest first
unfoldable pub little : List ℕ → ℕ
little [] = 0
little (b ∷ bs) = b + byte_values * little bs

-- the lowest `k` bytes of a number, the lowest first
unfoldable pub little_bytes : ℕ → ℕ → List ℕ
little_bytes zero n = []
little_bytes (suc k) n = n % byte_values ∷ little_bytes k (n / byte_values)

-- the number that stands at a place
abbrev pub number_at : List ℕ → ℕ → ℕ
number_at s at = little (take number_size (drop at s))

-- the bytes of a number
abbrev pub number_bytes : ℕ → List ℕ
number_bytes n = little_bytes number_size n
