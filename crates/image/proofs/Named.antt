-- A refusal's number is never 0: every refusal of an image is one of document 01's table.
-- Assumes nothing.
use mathlib.Core.List.{List, [], ◌∷◌}
use Prim.Native.Nat.{ℕ, zero, suc, ◌<◌, ◌+◌, ◌-◌}
use native.Mathlib.Omega.{arith}
use lib.Dec.{ltb, leb, eqb}
use lib.ListN.{length, drop}
use Rattle.std.specs.Prelude.{Result, Ok, Err, ⊤}
use Rattle.lists.specs.Parts.{part}
use Rattle.lists.specs.Rising.{beyond}
use Rattle.lists.proofs.Choice.{either_way}
use Rattle.rules.specs.Sizes.{number_size}
use Rattle.rules.specs.Numbers.{number_at}
use Rattle.rules.specs.declared.Refusal.{Refusal}
use Rattle.codes.specs.Codes.{Values, all, bad, steps_from}
use Rattle.row.specs.Row.{row_steps, row_size}
use Rattle.image.specs.declared.Entry.{Entry}
use Rattle.image.specs.declared.Before.{Before}
use Rattle.image.specs.Entry.{entry_place, payload_place, entries_at, start, after_entry}
use Rattle.image.specs.Block.{Found, steps, wrong, in_codes, in_row, in_part, judged, block_of}
use Rattle.image.specs.Verdict.{Verdict, taken, refused, fault_of, on_fault, directory_of, prepend, on_block, blocks_of, on_directory, counted, verdict}

-- ---- one block

abbrev pub NamedFound : Found → Type 0
NamedFound (steps xs) = Unit {0}
NamedFound (wrong n) = 0 < n

named_codes : (v : Values) → NamedFound (in_codes v)
named_codes (all xs) = tt
named_codes (bad w n) = omega arith

named_row : (o top : ℕ) (s : List ℕ) → NamedFound (in_row o top s)
unfolding in_row
named_row o top s =
    either_way NamedFound (eqb (length s) (row_size (top - o)))
    (either_way NamedFound (leb (beyond o (row_steps o s)) top) tt (omega arith))
    (omega arith)

named_judged : (b : Before) (e : Entry) (f : Found) → NamedFound f → NamedFound (judged b e f)
unfolding judged
named_judged b e (steps xs) h =
    either_way NamedFound (eqb (length xs) (e.upto - b.upto))
    (either_way NamedFound (eqb (beyond b.next xs) (e.last + 1)) tt (omega arith))
    (omega arith)
named_judged b e (wrong n) h = h

named_block : (b : Before) (e : Entry) (s : List ℕ) → NamedFound (block_of b e s)
unfolding block_of
named_block b e s =
    named_judged b e (in_part b e s)
    (either_way NamedFound (eqb e.kind 0) (named_codes (steps_from b.next s 0)) (named_row b.next (e.last + 1) s))

-- ---- the directory

abbrev pub NamedFault : Result ⊤ Refusal → Type 0
NamedFault (Ok u) = Unit {0}
NamedFault (Err r) = 0 < r.number

named_fault : (n i : ℕ) (f : Result ⊤ Refusal) → NamedFault f → NamedFault (on_fault n i f)
named_fault zero i f h = h
named_fault (suc n) i f h = omega arith

named_directory : (p : ℕ) (b : Before) (i : ℕ) (es : List Entry) → NamedFault (directory_of p b i es)
named_directory p b i [] = either_way NamedFault (eqb b.end p) tt (omega arith)
named_directory p b i (e ∷ es) =
    named_fault (fault_of p b e) i (directory_of p (after_entry e) (suc i) es) (named_directory p (after_entry e) (suc i) es)

-- ---- the image

abbrev pub NamedVerdict : Verdict → Type 0
NamedVerdict (taken xs) = Unit {0}
NamedVerdict (refused r) = 0 < r.number

named_prepend : (xs : List ℕ) (v : Verdict) → NamedVerdict v → NamedVerdict (prepend xs v)
named_prepend xs (taken ys) h = tt
named_prepend xs (refused r) h = h

named_on_block : (f : Found) (i : ℕ) (v : Verdict) → NamedFound f → NamedVerdict v → NamedVerdict (on_block f i v)
named_on_block (steps xs) i v n h = named_prepend xs v h
named_on_block (wrong m) i v n h = n

named_blocks : (pay : List ℕ) (b : Before) (i : ℕ) (es : List Entry) → NamedVerdict (blocks_of pay b i es)
named_blocks pay b i [] = tt
named_blocks pay b i (e ∷ es) =
    let s = part pay b.end e.end in
    named_on_block (block_of b e s) i (blocks_of pay (after_entry e) (suc i) es) (named_block b e s) (named_blocks pay (after_entry e) (suc i) es)

named_on_directory : (f : Result ⊤ Refusal) (v : Verdict) → NamedFault f → NamedVerdict v → NamedVerdict (on_directory f v)
named_on_directory (Ok u) v n h = h
named_on_directory (Err r) v n h = n

named_counted : (s : List ℕ) (m p : ℕ) → NamedVerdict (counted s m p)
named_counted s m p =
    let es = entries_at m s (entry_place 0) in
    let pay = drop (payload_place m) s in
    either_way NamedVerdict (ltb (length s) (payload_place m + p)) (omega arith)
    (either_way NamedVerdict (ltb (payload_place m + p) (length s)) (omega arith)
    (named_on_directory (directory_of (length pay) start 0 es) (blocks_of pay start 0 es) (named_directory (length pay) start 0 es) (named_blocks pay start 0 es)))

pub named_verdict : (s : List ℕ) → NamedVerdict (verdict s)
unfolding verdict
named_verdict s =
    either_way NamedVerdict (ltb (length s) number_size) (omega arith)
    (either_way NamedVerdict (ltb (length s) (payload_place (number_at s 0))) (omega arith)
    (named_counted s (number_at s 0) (number_at s (entry_place (number_at s 0)))))
