-- The words of document 01 for the line of a block.
use Rattle.std.specs.Prelude.{List, ◌++◌, ℕ, codes, decimal, ◌==◌, if◌then◌else◌}
use Rattle.blocks_lines.specs.declared.Line.{Line}

-- a number with a space before it
abbrev pub another : ℕ → List ℕ
another x = codes " " ++ decimal x

-- the word of a kind of block, with a space before it
abbrev pub word_of : ℕ → List ℕ
word_of kind = if kind == 0 then codes " vbyte" else codes " bits"

-- the line of a block, without its end
abbrev pub shown : Line → List ℕ
shown l = decimal l.number ++ word_of l.kind ++ another l.first ++ another l.last ++ another l.steps ++ another l.bytes
