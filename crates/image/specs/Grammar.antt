-- The bytes of a list under a cut, and which images are accepted.
use Rattle.std.specs.Prelude.{◌≡◌, List, [], ◌∷◌, ◌++◌, ℕ, ◌+◌, ◌-◌, length, get_or}
use Rattle.lists.specs.Rising.{past}
use Rattle.lists.specs.Parts.{part}
use Rattle.rules.specs.Numbers.{number_bytes}
use Rattle.rules.specs.Listed.{Listed}
use Rattle.codes.specs.Codes.{codes_for}
use Rattle.row.specs.Row.{row_of}
use Rattle.cut.specs.Cut.{Kind, codes, row, number, Block, Cuts}
use Rattle.image.specs.declared.Entry.{Entry}
use Rattle.image.specs.Entry.{directory_bytes}

-- the payload bytes of some steps, of which the first is at least `o`, in a block of a kind
abbrev pub bytes_of : Kind → ℕ → List ℕ → List ℕ
bytes_of codes o ys = codes_for o ys
bytes_of row o ys = row_of o ys

-- the payload bytes of a block of the list, which begins at rank `i`
abbrev pub part_of : List ℕ → ℕ → Block → List ℕ
part_of xs i b = bytes_of b.kind (past xs i) (part xs i b.upto)

-- the payload: a block starts where the one before ended
abbrev pub payload_of : List ℕ → ℕ → List Block → List ℕ
payload_of xs i [] = []
payload_of xs i (b ∷ bs) = part_of xs i b ++ payload_of xs b.upto bs

-- the entry of a block that begins at rank `i`, where the payload before it has `e` bytes
abbrev pub entry_of : List ℕ → ℕ → ℕ → Block → Entry
entry_of xs i e b =
    record { kind = number b.kind; last = get_or xs (b.upto - 1) 0; upto = b.upto; end = e + length (part_of xs i b) }

abbrev pub entries_of : List ℕ → ℕ → ℕ → List Block → List Entry
entries_of xs i e [] = []
entries_of xs i e (b ∷ bs) = entry_of xs i e b ∷ entries_of xs b.upto (e + length (part_of xs i b)) bs

-- the image of a list under a cut: count of blocks, entries, count of payload bytes, payload
unfoldable pub image_of : List ℕ → List Block → List ℕ
image_of xs cut =
    number_bytes (length cut)
    ++ (directory_bytes (entries_of xs 0 0 cut) ++ (number_bytes (length (payload_of xs 0 cut)) ++ payload_of xs 0 cut))

-- `b` is an accepted image of the list `xs`: the list is one of document 01's, and some cut of it has this image
pub record Accepted (b xs : List ℕ) : Type 0 where
  pub listed : Listed xs
  pub cut : List Block
  pub cuts : Cuts 0 (length xs) cut
  pub image : image_of xs cut ≡ b
