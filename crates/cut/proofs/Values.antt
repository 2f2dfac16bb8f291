-- The numbers of a dynamic programme are the bytes of the best cuts, and they say the best cut's blocks.
-- Assumes nothing.
use mathlib.Core.Path.{◌≡◌, ap}
use mathlib.Core.List.{◌∷◌}
use mathlib.Core.Logic.{◌⊎◌, inl, inr}
use Prim.Native.Nat.{ℕ, zero, suc, ◌+◌, ◌≤◌, ◌<◌}
use native.Mathlib.Omega.{arith}
use Rattle.lists.proofs.Choice.{by_lt, order}
use Rattle.cut.specs.Cut.{Kind, codes, number, block, bytes}
use Rattle.cut.specs.BestCut.{best_cut, least}
use Rattle.cut.specs.Inside.Values.{Reaches, Minimum, Value, First}
use Rattle.cut.proofs.Blocks.{number-le, Kind-eq}
use Rattle.cut.proofs.Leads.{Leads, by_bytes, Leads_steps, Leads-Kind}
use Rattle.cut.proofs.Cuts.{Cuts-le, Cuts_some}
use Rattle.cut.proofs.Best.{Best_least}
use Rattle.cut.proofs.BestCut.{best_cut-Best, Leader_of, least_end}

module _ (cost : ℕ → ℕ → Kind → ℕ) (n : ℕ) where
  -- ---- the bytes of the best cuts are such numbers

  pub least-le : (i j : ℕ) (k : Kind) → i < j → j ≤ n → least cost n i ≤ cost i j k + least cost n j
  least-le i j k h g = Best_least (best_cut-Best cost n i (omega arith)) (block k j ∷ best_cut cost n j) (h, (best_cut-Best cost n j g).cut)

  -- by the first block of the best cut
  pub least-Reaches : (i : ℕ) → i < n → (j : ℕ) × (k : Kind) × Reaches cost n (least cost n) i j k
  least-Reaches i h =
      let s = Cuts_some i n (best_cut cost n i) (best_cut-Best cost n i (omega arith)).cut h in
      let j = s.0.upto in
      let k = s.0.kind in
      let g : i < j = s.3.0 in
      let le : j ≤ n = Cuts-le j n s.1 s.3.1 in (
        j,
        k,
        record {
          after = g;
          within = le;
          sum = omega (arith, ap (bytes cost i) s.2, Best_least (best_cut-Best cost n j le) s.1 s.3.1, least-le i j k g le);
        },
      )

  -- for a reader: there are such numbers, the bytes of the best cuts
  pub least-Value : Value cost n (least cost n)
  least-Value = record {
    end = least_end cost n;
    minimum = λ i h.
        let r = least-Reaches i h in
        record { low = least-le i; upto = r.0; kind = r.1; reaches = r.2 };
  }

  module _ (F : ℕ → ℕ) where
    -- ---- at one position, where the numbers at the later ones are the bytes of the best cuts

    pub Minimum-least : (i : ℕ) → Minimum cost n F i → ((u : ℕ) → i < u → u ≤ n → F u ≡ least cost n u) → F i ≡ least cost n i
    Minimum-least i m e =
        let r = m.reaches in
        let s = least-Reaches i (omega (arith, r.after, r.within)) in
        omega (
          arith,
          r.sum,
          e m.upto r.after r.within,
          least-le i m.upto m.kind r.after r.within,
          s.2.sum,
          e s.0 s.2.after s.2.within,
          m.low s.0 s.1 s.2.after s.2.within,
        )

    -- the first block of the best cut, and the best cut of what is left
    pub first_step : {i j : ℕ} {k : Kind} → First cost n F i j k → ((u : ℕ) → i ≤ u → u ≤ n → F u ≡ least cost n u)
        → best_cut cost n i ≡ block k j ∷ best_cut cost n j
    first_step {i} {j} {k} f e = Leader_of cost n (record { after = r.after; within = r.within; leads = leads })
      where
        r : Reaches cost n F i j k
        r = f.reaches

        here : F i ≡ cost i j k + least cost n j
        here = omega (arith, r.sum, e j (omega (arith, r.after)) r.within)

        leads : (j' : ℕ) (k' : Kind) → i < j' → j' ≤ n
            → Leads (cost i j k + least cost n j) j k (cost i j' k' + least cost n j') j' k'
        leads j' k' p q = by_upto (order j j')
          where
            low : cost i j k + least cost n j ≤ cost i j' k' + least cost n j'
            low = omega (arith, here, e i (omega arith) (omega arith), least-le i j' k' p q)

            codes_only : j ≡ j' → number k' < number k → cost i j k + least cost n j < cost i j' k' + least cost n j'
            codes_only d h =
                let c : codes ≡ k' = Kind-eq codes k' (omega (arith, number-le k)) in
                let s : cost i j codes ≡ cost i j' k' = cc in
                omega (arith, here, f.codes_first (omega arith), ap F d, e j' (omega arith) q)

            by_upto : (j < j') ⊎ (j ≡ j') ⊎ (j' < j) → Leads (cost i j k + least cost n j) j k (cost i j' k' + least cost n j') j' k'
            by_upto (inl h) = by_bytes (omega (arith, here, f.longest j' k' h q, e j' (omega arith) q))
            by_upto (inr (inl d)) = by_lt (number k') (number k) (λ h. by_bytes (codes_only d h)) (λ h. Leads-Kind low d h)
            by_upto (inr (inr h)) = Leads_steps low h

    -- ---- at all positions

    module _ (v : Value cost n F) where
      value_end : (i : ℕ) → i ≡ n → F i ≡ least cost n i
      value_end i e = rw e (omega (arith, v.end, least_end cost n))

      values : (d i : ℕ) → i ≤ n → n ≤ i + d → F i ≡ least cost n i
      values zero i h g = value_end i (omega arith)
      values (suc d) i h g =
          by_lt i n (λ l. Minimum-least i (v.minimum i l) (λ u p q. values d u q (omega arith))) (λ l. value_end i (omega arith))

      -- THE NUMBERS OF A DYNAMIC PROGRAMME ARE THE BYTES OF THE BEST CUTS
      pub value_least : (i : ℕ) → i ≤ n → F i ≡ least cost n i
      value_least i h = values n i h (omega arith)

      -- THE FIRST OF THE BLOCKS THAT REACH ONE IS THE BEST CUT'S FIRST BLOCK
      pub value_step : {i j : ℕ} {k : Kind} → First cost n F i j k → best_cut cost n i ≡ block k j ∷ best_cut cost n j
      value_step f = first_step f (λ u p q. value_least u q)
