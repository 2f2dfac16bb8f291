-- Laws of putting the ones of a word into a buffer: the lowest first, each of which is then cleared; and all of a word without a zero.
-- Assumes nothing.
use mathlib.Core.Path.{◌≡◌, sym, ap, ◌∙◌, subst}
use mathlib.Core.List.{List}
use Prim.Native.Nat.{ℕ, ◌+◌, ◌-◌, ◌^◌, ◌≤◌, ◌<◌}
use native.Mathlib.Omega.{arith}
use lib.Bits.{bit_and, and_le_r}
use lib.Count.{count_trailing_zeros}
use lib.ListN.{length, set}
use Rattle.lists.specs.Rising.{beyond}
use Rattle.lists.specs.Stores.{Puts}
use Rattle.lists.proofs.Rising.{Rising-length}
use Rattle.lists.proofs.Stores.{Storing, Storing_start, storing_room, Storing_one, storing_end}
use Rattle.row.specs.Row.{bits_from}
use Rattle.row.specs.Words.{word_bits}
use Rattle.row.proofs.Bits.{bits_zero, bits_lowest, lowest_below, Rising_bits, beyond_rest_bits, length_full}

-- ---- one by one

-- of the word's ones, those of `bits` are left, which go to `k`
pub record Clearing (word o : ℕ) (out₀ : List ℕ) (at : ℕ) (out : List ℕ) (bits k : ℕ) : Type 0 where
  pub storing : Storing out₀ at (bits_from word_bits o word) out k (bits_from word_bits o bits)
  pub ends : beyond o (bits_from word_bits o bits) ≤ 2 ^ 32
  pub fits : bits < 2 ^ word_bits

pub Clearing_start : (word o : ℕ) (out : List ℕ) (at : ℕ) → word < 2 ^ word_bits → beyond o (bits_from word_bits o word) ≤ 2 ^ 32
    → at + length (bits_from word_bits o word) ≤ length out → Clearing word o out at out word at
Clearing_start word o out at f h l = record { storing = Storing_start out at (bits_from word_bits o word) l; ends = h; fits = f }

module _ {word o : ℕ} {out₀ : List ℕ} {at : ℕ} {out : List ℕ} {bits k : ℕ} (c : Clearing word o out₀ at out bits k) where
  pub clearing_end : bits ≡ 0 → Puts out₀ at (bits_from word_bits o word) out k
  clearing_end e =
      storing_end c.storing (ap (bits_from word_bits o) e ∙ bits_zero word_bits o)

  pub clearing_less : 0 < bits → bit_and bits (bits - 1) < bits
  clearing_less p = omega (arith, and_le_r bits (bits - 1))

  pub clearing_fits : 0 < bits → o + count_trailing_zeros word_bits bits < 2 ^ 32
  clearing_fits p = lowest_below word_bits o bits (2 ^ 32) p c.fits c.ends

  pub clearing_room : 0 < bits → k < length out
  clearing_room p = storing_room c.storing _ _ (bits_lowest word_bits o bits p c.fits)

  pub Clearing_turn : 0 < bits → Clearing word o out₀ at (set out k (o + count_trailing_zeros word_bits bits)) (bit_and bits (bits - 1)) (k + 1)
  Clearing_turn p = record {
    storing = Storing_one c.storing _ _ (bits_lowest word_bits o bits p c.fits);
    ends = beyond_rest_bits word_bits o bits (2 ^ 32) p c.fits c.ends;
    fits = omega (arith, clearing_less p, c.fits);
  }

-- ---- a word without a zero

module _ (word o : ℕ) (out : List ℕ) (at : ℕ) (e : word ≡ 2 ^ word_bits - 1) where
  pub full_room : beyond o (bits_from word_bits o word) ≤ 2 ^ 32 → at + length (bits_from word_bits o word) ≤ length out
      → (o + word_bits ≤ 2 ^ 32) × (at + word_bits ≤ length out)
  full_room h l =
      let n : length (bits_from word_bits o word) ≡ word_bits = length_full word_bits o word e in
      (omega (arith, Rising-length o (bits_from word_bits o word) (Rising_bits word_bits o word)), omega arith)

  pub full_stored : {out' : List ℕ} {k : ℕ} → Puts out at (bits_from word_bits o (2 ^ word_bits - 1)) out' k → Puts out at (bits_from word_bits o word) out' k
  full_stored {out'} {k} r = subst (λ (v : ℕ). Puts out at (bits_from word_bits o v) out' k) (sym e) r
