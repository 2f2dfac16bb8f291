-- The promise of the first line decides it, and so does that of each block's line.
-- Assumes nothing.
use mathlib.Core.Path.{◌≡◌, sym, ap, ◌∙◌}
use mathlib.Core.List.{List}
use Prim.Native.Nat.{ℕ}
use lib.ListN.{get_or}
use Rattle.std.specs.Prelude.{Result, Ok, Err}
use Rattle.rules.proofs.Paper.{paper_apart, paper_values, paper_refusal}
use Rattle.rules.specs.declared.Refusal.{Refusal}
use Rattle.blocks_lines.specs.declared.Line.{Line}
use Rattle.blocks_lines.specs.Listing.{values, paper_of, contents_promise, line_at}
use Rattle.blocks_lines.specs.declared.Contents.{Contents}

-- a first line is known by document 01's numbers
pub paper_one : (a b : Result Contents Refusal) → paper_of a ≡ paper_of b → a ≡ b
paper_one (Ok c) (Ok d) e = ap (λ (l : List ℕ). Ok (record { blocks = get_or l 0 0; steps = get_or l 1 0; bytes = get_or l 2 0 })) (paper_values e)
paper_one (Ok c) (Err r) e = paper_apart values e
paper_one (Err r) (Ok c) e = paper_apart values (sym e)
paper_one (Err r) (Err s) e = ap Err (paper_refusal values e)

-- TWO FIRST LINES THAT THE PROMISE ALLOWS ARE EQUAL
pub contents_decides : (s : List ℕ) (a b : Result Contents Refusal) → paper_of a ≡ contents_promise s → paper_of b ≡ contents_promise s → a ≡ b
contents_decides s a b p q = paper_one a b (p ∙ sym q)

-- AND SO ARE TWO LINES OF A BLOCK
pub line_decides : (s : List ℕ) (i : ℕ) (a b : Line) → a ≡ line_at s i → b ≡ line_at s i → a ≡ b
line_decides s i a b p q = p ∙ sym q
