-- A word: eight bytes of a row that are read at once.
use Rattle.std.specs.Prelude.{ℕ, ◌*◌}
use Rattle.row.specs.Row.{byte_bits}

-- the bytes of a word
abbrev pub word_bytes : ℕ
word_bytes = 8

-- the bits of a word
abbrev pub word_bits : ℕ
word_bits = byte_bits * word_bytes
