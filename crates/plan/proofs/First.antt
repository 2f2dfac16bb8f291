-- The numbers ahead are those of a dynamic programme, so they are the bytes of the best cuts; and the blocks that the two scans find are
-- the first of the best cuts.
-- Assumes nothing.
use mathlib.Core.Path.{◌≡◌, refl}
use mathlib.Core.List.{List}
use Prim.Native.Nat.{ℕ, ◌+◌, ◌*◌, ◌≤◌, ◌<◌}
use native.Mathlib.Omega.{arith}
use lib.ListN.{length}
use Rattle.lists.specs.Rising.{past}
use Rattle.lists.proofs.Choice.{by_lt}
use Rattle.rules.specs.Listed.{Listed}
use Rattle.row.specs.Row.{byte_bits}
use Rattle.cut.specs.Cut.{Kind, codes, row, block}
use Rattle.cut.specs.BestCut.{least}
use Rattle.cut.specs.Inside.Values.{Reaches, Minimum, Value}
use Rattle.cut.proofs.Values.{value_least, value_step}
use Rattle.plan.specs.Cost.{cost}
use Rattle.plan.specs.Inside.Ahead.{bytes_at, codes_at, reach_at, row_at}
use Rattle.plan.specs.Planned.{word_of}
use Rattle.plan.specs.Inside.Work.{CodesEnd, RowEnd, Chosen}
use Rattle.plan.proofs.Scans.{Stops_some}
use Rattle.plan.proofs.Costs.{cost_row}
use Rattle.plan.proofs.Ranks.{bytes_step, bytes_end}
use Rattle.plan.proofs.Ends.{codes_and_rest, codes_low, codes_largest, row_and_rest, row_low, row_largest}

module _ {xs : List ℕ} (l : Listed xs) where
  -- ---- the numbers

  low : (i j : ℕ) (k : Kind) → i < j → j ≤ length xs → bytes_at xs i ≤ cost xs i j k + bytes_at xs j
  low i j codes h g = omega (arith, bytes_step xs i (omega arith), codes_low xs i j h g)
  low i j row h g = omega (arith, bytes_step xs i (omega arith), cost_row xs i j (omega arith) g, row_low xs l.rising i j h g)

  module _ {i r : ℕ} where
    codes_Reaches : codes_at xs i ≤ row_at xs i → CodesEnd xs i r → Reaches (cost xs) (length xs) (bytes_at xs) i r codes
    codes_Reaches h s = record {
      after = s.after;
      within = s.within;
      sum = omega (arith, bytes_step xs i (omega (arith, s.after, s.within)), (codes_largest xs s).is);
    }

    row_Reaches : {b : ℕ} → b ≡ row_at xs i → row_at xs i ≤ codes_at xs i → RowEnd xs i b r → Reaches (cost xs) (length xs) (bytes_at xs) i r row
    row_Reaches e h s = record {
      after = s.after;
      within = s.within;
      sum =
          omega (
            arith,
            bytes_step xs i (omega (arith, s.after, s.within)),
            cost_row xs i r (omega (arith, s.after)) s.within,
            (row_largest xs l.rising e s).is,
          );
    }

  value : Value (cost xs) (length xs) (bytes_at xs)
  value = record { end = bytes_end xs; minimum = minimum }
    where
      minimum : (i : ℕ) → i < length xs → Minimum (cost xs) (length xs) (bytes_at xs) i
      minimum i h =
          by_lt (row_at xs i) (codes_at xs i)
          (λ g.
          let s = Stops_some (reach_at xs) (λ j. past xs i + byte_bits * row_at xs i) (length xs) i h in
          record { low = low i; upto = s.0; kind = row; reaches = row_Reaches refl (omega arith) s.1 })
          (λ g.
          let s = Stops_some (codes_at xs) (bytes_at xs) (length xs) i h in
          record { low = low i; upto = s.0; kind = codes; reaches = codes_Reaches g s.1 })

  -- THE NUMBERS ARE THE BYTES OF THE BEST CUTS
  pub bytes_least : (i : ℕ) → i ≤ length xs → bytes_at xs i ≡ least (cost xs) (length xs) i
  bytes_least = value_least (cost xs) (length xs) (bytes_at xs) value

  -- ---- the first blocks

  module _ {i r w : ℕ} where
    codes_first : codes_at xs i ≤ row_at xs i → CodesEnd xs i r → w ≡ word_of (block codes r)
        → ((j : ℕ) → r < j → j ≤ length xs → codes_at xs i < row_and_rest xs i j)
        → Chosen xs i w
    codes_first h s ew rows = record {
      kind = codes;
      upto = r;
      after = s.after;
      within = s.within;
      is = ew;
      first =
          value_step (cost xs) (length xs) (bytes_at xs) value
          (record { reaches = codes_Reaches h s; longest = longest; codes_first = λ z. absurd (omega arith) });
    }
      where
        longest : (j : ℕ) (k : Kind) → r < j → j ≤ length xs → bytes_at xs i < cost xs i j k + bytes_at xs j
        longest j codes a b = omega (arith, bytes_step xs i (omega (arith, s.after)), (codes_largest xs s).later j a b)
        longest j row a b =
            omega (arith, bytes_step xs i (omega (arith, s.after)), cost_row xs i j (omega (arith, s.after)) b, rows j a b)

    row_first : {b : ℕ} → b ≡ row_at xs i → row_at xs i ≤ codes_at xs i → RowEnd xs i b r → w ≡ word_of (block row r)
        → ((j : ℕ) → r ≤ j → j ≤ length xs → row_at xs i < codes_and_rest xs i j)
        → Chosen xs i w
    row_first e h s ew others = record {
      kind = row;
      upto = r;
      after = s.after;
      within = s.within;
      is = ew;
      first =
          value_step (cost xs) (length xs) (bytes_at xs) value
          (record {
            reaches = row_Reaches e h s;
            longest = longest;
            codes_first = λ z. omega (arith, bytes_step xs i (omega (arith, s.after, s.within)), others r (omega arith) s.within);
          });
    }
      where
        longest : (j : ℕ) (k : Kind) → r < j → j ≤ length xs → bytes_at xs i < cost xs i j k + bytes_at xs j
        longest j codes a b = omega (arith, bytes_step xs i (omega (arith, s.after)), others j (omega arith) b)
        longest j row a b =
            omega (
              arith,
              bytes_step xs i (omega (arith, s.after)),
              cost_row xs i j (omega (arith, s.after)) b,
              (row_largest xs l.rising e s).later j a b,
            )

  -- THE FIRST BLOCK OF THE BEST CUT, where `c` and `b` are the fewest bytes of codes and of a row with the rest, their entries aside
  module _ {i c b w : ℕ} (ec : c ≡ codes_at xs i) (eb : b ≡ row_at xs i) where
    pub choose_codes : {r : ℕ} → c < b → CodesEnd xs i r → w ≡ word_of (block codes r) → Chosen xs i w
    choose_codes h s ew = codes_first (omega arith) s ew (λ j a g. omega (arith, row_low xs l.rising i j (omega (arith, s.after)) g))

    pub choose_row : {r : ℕ} → b < c → RowEnd xs i b r → w ≡ word_of (block row r) → Chosen xs i w
    choose_row h s ew = row_first eb (omega arith) s ew (λ j a g. omega (arith, codes_low xs i j (omega (arith, s.after)) g))

    module _ {r o : ℕ} (tie : c ≡ b) (s : CodesEnd xs i r) (t : RowEnd xs i b o) where
      pub choose_longer_codes : o ≤ r → w ≡ word_of (block codes r) → Chosen xs i w
      choose_longer_codes h ew =
          codes_first (omega arith) s ew (λ j a g. omega (arith, (row_largest xs l.rising eb t).later j (omega arith) g))

      pub choose_longer_row : r < o → w ≡ word_of (block row o) → Chosen xs i w
      choose_longer_row h ew = row_first eb (omega arith) t ew (λ j a g. omega (arith, (codes_largest xs s).later j (omega arith) g))
