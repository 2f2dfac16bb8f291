-- What the block lister says of an image: a first line, and a line for each block.
use Rattle.std.specs.Prelude.{List, [], ◌∷◌, ℕ, ◌-◌, length, get_or, Result, Ok, Err}
use Rattle.lists.specs.Parts.{part}
use Rattle.rules.specs.Numbers.{number_at}
use Rattle.rules.specs.Paper.{Paper, accepting, refusing}
use Rattle.rules.specs.declared.Refusal.{Refusal}
use Rattle.image.specs.declared.Before.{Before}
use Rattle.image.specs.declared.Entry.{Entry}
use Rattle.image.specs.Entry.{entry_place, entry_at, before_at}
use Rattle.image.specs.Block.{block_of}
use Rattle.image.specs.Verdict.{Verdict, taken, refused, verdict}
use Rattle.image.specs.Taken.{steps_found, payload_in}
use Rattle.blocks_lines.specs.declared.Line.{Line}
use Rattle.blocks_lines.specs.declared.Contents.{Contents}

-- the values of the first line: blocks, steps, bytes
abbrev pub values : ℕ
values = 3

-- the numbers of each case
abbrev pub paper_of : Result Contents Refusal → Paper
paper_of (Ok c) = accepting (c.blocks ∷ c.steps ∷ c.bytes ∷ [])
paper_of (Err r) = refusing values r

-- m, n and the image's length where the image is taken, else its refusal
abbrev pub contents_paper : List ℕ → Verdict → Paper
contents_paper s (taken xs) = accepting (number_at s 0 ∷ length xs ∷ length s ∷ [])
contents_paper s (refused r) = refusing values r

abbrev pub contents_promise : List ℕ → Paper
contents_promise s = contents_paper s (verdict s)

-- the entry of block i
abbrev pub entry_of : List ℕ → ℕ → Entry
entry_of s i = entry_at s (entry_place i)

-- the line of a block, by its number, kind, steps and payload bytes: number, kind, first step, last step, how many steps, how many bytes
abbrev pub line_of : ℕ → ℕ → List ℕ → List ℕ → Line
line_of i kind xs bytes =
    record { number = i; kind = kind; first = get_or xs 0 0; last = get_or xs (length xs - 1) 0; steps = length xs; bytes = length bytes }

-- the line of a block that stands after `b` in a payload
abbrev pub line_in : ℕ → Before → Entry → List ℕ → Line
line_in i b e pay =
    line_of i e.kind (steps_found (block_of b e (part pay b.end e.end))) (part pay b.end e.end)

-- the line of block i of an image
unfoldable pub line_at : List ℕ → ℕ → Line
line_at s i = line_in i (before_at s i) (entry_of s i) (payload_in s)
