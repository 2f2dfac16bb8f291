-- Lists of bytes.
use Rattle.std.specs.Prelude.{List, ℕ, ◌<◌, get_or}

-- how many values a byte has
abbrev pub byte_values : ℕ
byte_values = 256

-- each element is a byte
abbrev pub Bytes : List ℕ → Type 0
Bytes s = (i : ℕ) → get_or s i 0 < byte_values
