-- The verdict on any bytes: document 01's table, 1 to 10, in its order and with its places.
use Rattle.std.specs.Prelude.{List, [], ◌∷◌, ◌++◌, ℕ, zero, suc, ◌+◌, ltb, leb, eqb, length, drop, Result, Ok, Err, ⊤}
use Rattle.lists.specs.Choice.{pick}
use Rattle.lists.specs.Parts.{part}
use Rattle.rules.specs.Limits.{largest_step, most_steps}
use Rattle.rules.specs.Sizes.{number_size}
use Rattle.rules.specs.Numbers.{number_at}
use Rattle.rules.specs.Refusals.{too_few_bytes, bytes_left_over, unknown_kind, bad_last, bad_upto, bad_end, refusal}
use Rattle.rules.specs.declared.Refusal.{Refusal}
use Rattle.image.specs.declared.Entry.{Entry}
use Rattle.image.specs.declared.Before.{Before}
use Rattle.image.specs.Entry.{entry_place, payload_place, entries_at, start, after_entry}
use Rattle.image.specs.Block.{Found, steps, wrong, block_of}

-- an image is taken, and stands for these steps, or it is refused
pub data Verdict : Type 0 where
  taken : List ℕ → Verdict
  refused : Refusal → Verdict

-- the number of an entry's first refusal, 3 to 6, or 0: `p` is the payload's length, `b` what stands before the block
unfoldable pub fault_of : ℕ → Before → Entry → ℕ
fault_of p b e =
    pick (ltb 1 e.kind) unknown_kind
    (pick (ltb largest_step e.last) bad_last
    (pick (ltb e.last b.next) bad_last
    (pick (leb e.upto b.upto) bad_upto
    (pick (ltb most_steps e.upto) bad_upto
    (pick (leb e.end b.end) bad_end
    (pick (ltb p e.end) bad_end 0))))))

abbrev pub on_fault : ℕ → ℕ → Result ⊤ Refusal → Result ⊤ Refusal
on_fault zero i f = f
on_fault (suc n) i f = Err (refusal (suc n) i)

-- the entries in turn, the first with number `i`; then the final end has to be the payload's length
abbrev pub directory_of : ℕ → Before → ℕ → List Entry → Result ⊤ Refusal
directory_of p b i [] = pick (eqb b.end p) (Ok tt) (Err (refusal bad_end i))
directory_of p b i (e ∷ es) = on_fault (fault_of p b e) i (directory_of p (after_entry e) (suc i) es)

abbrev pub prepend : List ℕ → Verdict → Verdict
prepend xs (taken ys) = taken (xs ++ ys)
prepend xs (refused r) = refused r

abbrev pub on_block : Found → ℕ → Verdict → Verdict
on_block (steps xs) i v = prepend xs v
on_block (wrong n) i v = refused (refusal n i)

-- the blocks in turn, each in its own part of the payload
abbrev pub blocks_of : List ℕ → Before → ℕ → List Entry → Verdict
blocks_of pay b i [] = taken []
blocks_of pay b i (e ∷ es) = on_block (block_of b e (part pay b.end e.end)) i (blocks_of pay (after_entry e) (suc i) es)

abbrev pub on_directory : Result ⊤ Refusal → Verdict → Verdict
on_directory (Ok u) v = v
on_directory (Err r) v = refused r

-- the directory, then the blocks
abbrev pub inside : List Entry → List ℕ → Verdict
inside es pay = on_directory (directory_of (length pay) start 0 es) (blocks_of pay start 0 es)

-- 1 where there are fewer bytes than the counts m and p say, 2 where there are more
abbrev pub counted : List ℕ → ℕ → ℕ → Verdict
counted s m p =
    pick (ltb (length s) (payload_place m + p)) (refused (refusal too_few_bytes 0))
    (pick (ltb (payload_place m + p) (length s)) (refused (refusal bytes_left_over 0))
    (inside (entries_at m s (entry_place 0)) (drop (payload_place m) s)))

-- 1 also where there are too few bytes to read the counts
unfoldable pub verdict : List ℕ → Verdict
verdict s =
    pick (ltb (length s) number_size) (refused (refusal too_few_bytes 0))
    (pick (ltb (length s) (payload_place (number_at s 0))) (refused (refusal too_few_bytes 0))
    (counted s (number_at s 0) (number_at s (entry_place (number_at s 0)))))

-- ---- the first half of it, 1 to 6, for who does not look at every block

abbrev pub on_entries : ℕ → Result ⊤ Refusal → Result ℕ Refusal
on_entries m (Ok u) = Ok m
on_entries m (Err r) = Err r

abbrev pub opening_for : List ℕ → ℕ → ℕ → Result ℕ Refusal
opening_for s m p =
    pick (ltb (length s) (payload_place m + p)) (Err (refusal too_few_bytes 0))
    (pick (ltb (payload_place m + p) (length s)) (Err (refusal bytes_left_over 0))
    (on_entries m (directory_of (length (drop (payload_place m) s)) start 0 (entries_at m s (entry_place 0)))))

-- the number of blocks, or the first refusal of the counts and the directory
unfoldable pub opening_of : List ℕ → Result ℕ Refusal
opening_of s =
    pick (ltb (length s) number_size) (Err (refusal too_few_bytes 0))
    (pick (ltb (length s) (payload_place (number_at s 0))) (Err (refusal too_few_bytes 0))
    (opening_for s (number_at s 0) (number_at s (entry_place (number_at s 0)))))

-- what follows from it for the verdict, where the blocks by themselves have the verdict `v`
abbrev pub on_opening : Result ℕ Refusal → Verdict → Verdict
on_opening (Ok m) v = v
on_opening (Err r) v = refused r
