-- The text that the block lister prints for an image, in the words of document 01.
use Rattle.std.specs.Prelude.{List, [], ◌++◌, ℕ, zero, suc, length, codes, decimal, nat_lt, if◌then◌else◌}
use Rattle.rules.specs.Numbers.{number_at}
use Rattle.rules.specs.declared.Refusal.{Refusal}
use Rattle.image.specs.Verdict.{Verdict, taken, refused, verdict}
use Rattle.blocks_lines.specs.declared.Line.{Line}
use Rattle.blocks_lines.specs.Listing.{line_at}
use Rattle.blocks_lines.specs.Shown.{another, word_of}

-- the longest input that is read, in bytes
abbrev pub longest : ℕ
longest = 65536

-- the line of a block
abbrev pub line_text : Line → List ℕ
line_text l =
    decimal l.number ++ word_of l.kind ++ another l.first ++ another l.last ++ another l.steps ++ another l.bytes ++ codes "\n"

-- the lines of the first `n` blocks of an image
abbrev pub lines_text : List ℕ → ℕ → List ℕ
lines_text s zero = []
lines_text s (suc n) = lines_text s n ++ line_text (line_at s n)

-- the first line of an image that is accepted: blocks, steps, bytes
abbrev pub first_line : ℕ → ℕ → ℕ → List ℕ
first_line blocks steps bytes =
    codes "blocks" ++ another blocks ++ codes " steps" ++ another steps ++ codes " bytes" ++ another bytes ++ codes "\n"

-- the only line of an image that is refused
abbrev pub refusal_line : Refusal → List ℕ
refusal_line r = codes "refused" ++ another r.number ++ codes " at" ++ another r.place ++ codes "\n"

abbrev pub listing_of : List ℕ → Verdict → List ℕ
listing_of s (taken xs) = first_line (number_at s 0) (length xs) (length s) ++ lines_text s (number_at s 0)
listing_of s (refused r) = refusal_line r

-- the list of an image
abbrev pub listing : List ℕ → List ℕ
listing s = listing_of s (verdict s)

-- what is printed of an input, of which no more than its first 65,537 bytes are looked at
abbrev pub report : List ℕ → List ℕ
report s = if nat_lt longest (length s) then codes "too long\n" else listing s
