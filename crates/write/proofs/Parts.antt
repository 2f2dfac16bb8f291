-- Storing one block: its part by its kind, and its entry.
-- Assumes nothing.
use mathlib.Core.Path.{◌≡◌, refl, sym}
use mathlib.Core.List.{List, [], ◌++◌, append-nil}
use Prim.Native.Nat.{ℕ, ◌+◌, ◌/◌, ◌%◌, ◌≤◌}
use native.Mathlib.Omega.{arith}
use lib.ListN.{length, set}
use lib.Seq.{sets}
use Rattle.lists.specs.Rising.{Rising, beyond, past}
use Rattle.lists.specs.Parts.{part}
use Rattle.lists.proofs.Ranks.{beyond-part, rising_part, past-beyond}
use Rattle.lists.proofs.Stores.{Storing_start, Storing_one, Storing_run, storing_end}
use Rattle.rules.specs.Sizes.{number_size, entry_size}
use Rattle.rules.specs.Numbers.{number_bytes}
use Rattle.rules.specs.Limits.Laws.{largest_coded}
use Rattle.rules.proofs.Numbers.{length_little}
use Rattle.code.specs.Code.{code_values}
use Rattle.cut.specs.Cut.{Kind, kind_of}
use Rattle.image.specs.declared.Entry.{Entry}
use Rattle.image.specs.Entry.{entry_bytes}
use Rattle.image.specs.Grammar.{bytes_of, part_of}
use Rattle.image.proofs.Entries.{length_entry}
use Rattle.write.specs.Inside.Blocks.{block_at, Within}

module _ (xs : List ℕ) (i word : ℕ) where
  module _ (w : Within xs i word) {from : ℕ} (e : from ≡ past xs i) where
    -- what the two functions that store a part ask for
    pub Rising_within : Rising from (part xs i (word / 2))
    Rising_within = rw e (rising_part xs i (word / 2) (omega (arith, w.after, w.inside)) w.listed.rising)

    pub beyond_within : beyond from (part xs i (word / 2)) ≤ code_values
    beyond_within =
        rw e (omega (
          arith,
          beyond-part xs i (word / 2) (omega (arith, w.after)) w.inside,
          past-beyond xs (word / 2) w.inside w.listed.rising,
          w.listed.small,
          largest_coded,
        ))

  -- what they store is the part
  pub part_within : (k : Kind) {from : ℕ} → kind_of (word % 2) ≡ k → from ≡ past xs i
      → bytes_of k from (part xs i (word / 2)) ≡ part_of xs i (block_at word)
  part_within k h e = rw (e, ← h)

-- an entry's numbers, stored one after the other
pub entry_stored : (out : List ℕ) (at : ℕ) (e : Entry) {l m n : List ℕ} → at + entry_size ≤ length out
    → l ≡ sets (set out at e.kind) (at + 1) (number_bytes e.last)
    → m ≡ sets l (at + 5) (number_bytes e.upto)
    → n ≡ sets m (at + 9) (number_bytes e.end)
    → n ≡ sets out at (entry_bytes e)
entry_stored out at e h el em en =
    let ls : List ℕ = number_bytes e.last in
    let us : List ℕ = number_bytes e.upto in
    let es : List ℕ = number_bytes e.end in
    let s = Storing_start out at (entry_bytes e) (omega (arith, length_entry e)) in
    let k = Storing_one s e.kind (ls ++ (us ++ es)) refl in
    let l = Storing_run k ls (us ++ es) {p' = at + 5} refl (omega (arith, length_little number_size e.last)) el in
    let u = Storing_run l us es {p' = at + 9} refl (omega (arith, length_little number_size e.upto)) em in
    (storing_end (Storing_run u es [] {p' = at + 13} (sym (append-nil es)) (omega (arith, length_little number_size e.end)) en) refl).stores
