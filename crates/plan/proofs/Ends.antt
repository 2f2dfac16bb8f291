-- The two scans find the largest ends: of a block of codes and of a row from rank `i` that, with the blocks after them, have the fewest
-- bytes. Going up from `i + 1`, what is left to choose grows or stays: it stays as long as a scan goes on.
-- Assumes nothing.
use mathlib.Core.Path.{◌≡◌, sym, ap, ◌∙◌}
use mathlib.Core.List.{List}
use Prim.Native.Nat.{ℕ, ◌+◌, ◌-◌, ◌*◌, ◌≤◌, ◌<◌, min}
use native.Mathlib.Omega.{arith}
use lib.ListN.{length}
use Rattle.lists.specs.Rising.{Rising, past}
use Rattle.lists.proofs.Choice.{by_lt}
use Rattle.lists.proofs.Ranks.{past-le}
use Rattle.row.specs.Row.{byte_bits, row_size}
use Rattle.plan.specs.Inside.Ahead.{bytes_at, codes_at, reach_at, row_at}
use Rattle.plan.specs.Inside.Work.{CodesEnd, RowEnd}
use Rattle.plan.proofs.Scans.{upward, stopped_lt}
use Rattle.plan.proofs.Costs.{codes_to, codes_append}
use Rattle.plan.proofs.Ranks.{codes_step, reach_step, codes_end, bytes_end, reach_end}

-- the value `m` is had at `r`, and at no later end up to `n`
pub record Largest (v : ℕ → ℕ) (n m r : ℕ) : Type 0 where
  pub is : m ≡ v r
  pub later : (j : ℕ) → r < j → j ≤ n → m < v j

module _ (xs : List ℕ) where
  -- ---- codes

  module _ (i : ℕ) where
    -- a block of codes up to `j`, its entry aside, and the fewest bytes of the rest; and where it may go on after `j`
    abbrev pub codes_and_rest : ℕ → ℕ
    codes_and_rest j = codes_to xs i j + bytes_at xs j

    abbrev codes_left : ℕ → ℕ
    codes_left j = codes_to xs i j + min (bytes_at xs j) (codes_at xs j)

    codes_left_next : (j : ℕ) → i < j → j < length xs → codes_left (j + 1) ≡ codes_to xs i j + codes_at xs j
    codes_left_next j h g =
        omega (arith, codes_append xs i j (j + 1) (omega arith) (omega arith) (omega arith), codes_step xs j g)

    pub codes_low : (j : ℕ) → i < j → j ≤ length xs → codes_at xs i ≤ codes_and_rest j
    codes_low j h g =
        let l : codes_at xs i ≤ codes_left j =
        upward (λ u. u ≤ length xs → codes_at xs i ≤ codes_left u) i (λ k. omega (arith, codes_step xs i (omega arith)))
        (λ u a p k. omega (arith, codes_left_next u a (omega arith), p (omega arith))) j h g
        in
        omega arith

  pub codes_largest : {i r : ℕ} → CodesEnd xs i r → Largest (codes_and_rest i) (length xs) (codes_at xs i) r
  codes_largest {i} {r} s = record {
    is =
        by_lt r (length xs) (λ l. omega (arith, left, stopped_lt s l))
        (λ l.
        let e : r ≡ length xs = omega (arith, s.within) in
        omega (arith, left, ap (bytes_at xs) e ∙ bytes_end xs, ap (codes_at xs) e ∙ codes_end xs));
    later = λ j h g.
        omega (
          arith,
          left,
          stopped_lt s (omega arith),
          codes_append xs i r j (omega (arith, s.after)) (omega arith) s.within,
          codes_low r j h g,
        );
  }
    where
      left : codes_at xs i ≡ codes_left i r
      left =
          upward (λ u. u ≤ r → codes_at xs i ≡ codes_left i u) i (λ k. codes_step xs i (omega (arith, s.within)))
          (λ u a p k.
          omega (arith, codes_left_next i u a (omega (arith, s.within)), p (omega arith), s.passed u a (omega arith))) r s.after
          (omega arith)

  -- ---- rows

  -- what a row reaches that ends at `j`: the bytes of the rest in bits, and one past its last step
  abbrev reached : ℕ → ℕ
  reached j = byte_bits * bytes_at xs j + past xs j

  reach_low : (i j : ℕ) → i < j → j ≤ length xs → reach_at xs i ≤ reached j
  reach_low i j h g =
      let l : reach_at xs i ≤ min (reach_at xs j) (reached j) =
      upward (λ u. u ≤ length xs → reach_at xs i ≤ min (reach_at xs u) (reached u)) i (λ k. omega (arith, reach_step xs i (omega arith)))
      (λ u a p k. omega (arith, reach_step xs u (omega arith), p (omega arith))) j h g
      in
      omega arith

  -- a row up to `j`, its entry aside, and the fewest bytes of the rest
  abbrev pub row_and_rest : ℕ → ℕ → ℕ
  row_and_rest i j = row_size (past xs j - past xs i) + bytes_at xs j

  module _ (rising : Rising 0 xs) where
    row_reached : (i j : ℕ) → i < j → j ≤ length xs → row_and_rest i j ≡ row_size (reached j - past xs i)
    row_reached i j h g = omega (arith, past-le xs i j (omega arith) g rising)

    pub row_low : (i j : ℕ) → i < j → j ≤ length xs → row_at xs i ≤ row_and_rest i j
    row_low i j h g = omega (arith, row_reached i j h g, reach_low i j h g)

    pub row_largest : {i b r : ℕ} → b ≡ row_at xs i → RowEnd xs i b r
        → Largest (row_and_rest i) (length xs) b r
    row_largest {i} {b} {r} e s = record {
      is = omega (arith, here, row_reached i r s.after s.within, row_low i r s.after s.within);
      later = λ j h g.
          omega (
            arith,
            row_reached i j (omega (arith, s.after)) g,
            stopped_lt s (omega arith),
            reach_low r j h g,
          );
    }
      where
        left : min (reach_at xs r) (reached r) ≤ past xs i + byte_bits * b
        left =
            upward (λ u. u ≤ r → min (reach_at xs u) (reached u) ≤ past xs i + byte_bits * b) i
            (λ k. omega (arith, reach_step xs i (omega (arith, s.within))))
            (λ u a p k. omega (arith, reach_step xs u (omega (arith, s.within)), s.passed u a (omega arith))) r s.after (omega arith)

        here : reached r ≤ past xs i + byte_bits * b
        here =
            by_lt r (length xs) (λ l. omega (arith, left, stopped_lt s l))
            (λ l.
            let d : r ≡ length xs = omega (arith, s.within) in
            omega (arith, left, ap (bytes_at xs) d ∙ bytes_end xs, ap (reach_at xs) d ∙ reach_end xs ∙ ap (past xs) (sym d)))
