-- `best_cut` is the best cut, so there is one; and a block that leads all others is its first. The proof goes as the definition does: the
-- block that `fewest` has kept leads all that it has passed, and of those still to come the ones with no fewer bytes, since they come
-- later in the tie order.
-- Assumes nothing.
use mathlib.Core.Path.{◌≡◌, refl, sym, ap, subst, ◌∙◌}
use mathlib.Core.List.{List, [], ◌∷◌}
use Prim.Native.Nat.{ℕ, zero, suc, ◌+◌, ◌-◌, ◌≤◌, ◌<◌}
use native.Mathlib.Omega.{arith}
use borrow.Author.Tests.{lt-ltb, le-ltb}
use lib.ListN.{get_or}
use Rattle.lists.proofs.Choice.{by_lt}
use Rattle.cut.specs.Cut.{Kind, codes, row, Block, block, bytes, Best}
use Rattle.cut.specs.BestCut.{fewer, fewest, best_cuts, best_cut, least}
use Rattle.cut.proofs.Leads.{Leads, by_bytes, Leads_refl, Leads_trans, Leads_steps, Leads_codes, Leader}
use Rattle.cut.proofs.Best.{Best_one, best_none, Best_step}

-- by which of two cuts has fewer bytes
by_fewer : (cost : ℕ → ℕ → Kind → ℕ) (i : ℕ) (P : List Block → Type 0) (xs ys : List Block)
    → (bytes cost i xs ≤ bytes cost i ys → P xs) → (bytes cost i ys < bytes cost i xs → P ys) → P (fewer cost i xs ys)
by_fewer cost i P xs ys f g =
    by_lt (bytes cost i ys) (bytes cost i xs)
    (λ h. rw (lt-ltb (bytes cost i ys) (bytes cost i xs) h) (g h))
    (λ h. rw (le-ltb (bytes cost i ys) (bytes cost i xs) h) (f h))

module _ (cost : ℕ → ℕ → Kind → ℕ) (n : ℕ) where
  -- `zss` are the best cuts from `j`, `j + 1`, .., `n` on
  abbrev Rests : ℕ → List (List Block) → Type 0
  Rests j [] = j ≡ suc n
  Rests j (zs ∷ zss) = (j ≤ n) × (zs ≡ best_cut cost n j) × Rests (suc j) zss

  -- the best cut is the first of the best cuts
  best_cut_is : (d i : ℕ) → i + d ≡ n → best_cut cost n i ≡ get_or (best_cuts cost n d i) 0 []
  unfolding best_cut
  best_cut_is d i e = let q : n - i ≡ d = omega arith in ap (λ (x : ℕ). get_or (best_cuts cost n x i) 0 []) q

  Rests_from : (d i : ℕ) → i + d ≡ n → Rests i (best_cuts cost n d i)
  unfolding best_cuts
  Rests_from zero i e = (omega arith, sym (best_cut_is zero i e), omega arith)
  Rests_from (suc d) i e = (omega arith, sym (best_cut_is (suc d) i e), Rests_from d (suc i) (omega arith))

  pub best_cut_end : best_cut cost n n ≡ []
  unfolding best_cuts
  best_cut_end = best_cut_is 0 n (omega arith)

  -- ---- the block that `fewest` keeps

  module _ (i : ℕ) (some : i < n) where
    -- the bytes of a cut with a first block up to `u` of kind `k`, and then the best cut of the rest
    abbrev total : ℕ → Kind → ℕ
    total u k = cost i u k + least cost n u

    -- the first block of `xs` leads all that end at `j` or later, and before `j` those with no fewer bytes
    record Fewest (j : ℕ) (xs : List Block) : Type 0 where
      upto : ℕ
      kind : Kind
      is : xs ≡ block kind upto ∷ best_cut cost n upto
      after : i < upto
      within : upto ≤ n
      leads : (j' : ℕ) (k' : Kind) → j ≤ j' → j' ≤ n → Leads (total upto kind) upto kind (total j' k') j' k'
      tie : (c' j' : ℕ) (k' : Kind) → j' < j → total upto kind ≤ c' → Leads (total upto kind) upto kind c' j' k'

    -- the first block of `xs` ends at `j`, and leads both kinds there
    record Here (j : ℕ) (xs : List Block) : Type 0 where
      kind : Kind
      is : xs ≡ block kind j ∷ best_cut cost n j
      leads : (k' : Kind) → Leads (total j kind) j kind (total j k') j k'

    Here_is : (j : ℕ) → Here j (fewer cost i (block codes j ∷ best_cut cost n j) (block row j ∷ best_cut cost n j))
    Here_is j = by_fewer cost i (Here j) (block codes j ∷ best_cut cost n j) (block row j ∷ best_cut cost n j)
        (λ h. record { kind = codes; is = refl; leads = elim [ codes ↦ Leads_refl (total j codes) j codes | row ↦ Leads_codes h (omega arith) ] })
        (λ h. record { kind = row; is = refl; leads = elim [ codes ↦ by_bytes h | row ↦ Leads_refl (total j row) j row ] })

    Fewest_start : Fewest (suc n) (block codes n ∷ [])
    Fewest_start = record {
      upto = n;
      kind = codes;
      is = ap (λ (l : List Block). block codes n ∷ l) (sym best_cut_end);
      after = some;
      within = omega arith;
      leads = λ j' k' p q. absurd (omega arith);
      tie = λ c' j' k' p q. Leads_codes q (omega arith);
    }

    Fewest-more : (j : ℕ) (xs ys : List Block) → i < j → j ≤ n → Fewest (suc j) xs → Here j ys → Fewest j (fewer cost i xs ys)
    Fewest-more j xs ys h g old new = by_fewer cost i (Fewest j) xs ys
        (λ l. record {
          upto = old.upto;
          kind = old.kind;
          is = old.is;
          after = old.after;
          within = old.within;
          leads = λ j' k' p q. from_end p (λ s. old.leads j' k' s q)
              (λ e. subst (λ (u : ℕ). Leads before old.upto old.kind (total u k') u k') e
              (Leads_trans (old.tie here j new.kind (omega arith) (omega (arith, xs-bytes, ys-bytes))) (new.leads k')));
          tie = λ c' j' k' p q. old.tie c' j' k' (omega arith) q;
        })
        (λ l. record {
          upto = j;
          kind = new.kind;
          is = new.is;
          after = h;
          within = g;
          leads = λ j' k' p q. from_end p
              (λ s. Leads_trans (by_bytes (omega (arith, xs-bytes, ys-bytes))) (old.leads j' k' s q))
              (λ e. subst (λ (u : ℕ). Leads here j new.kind (total u k') u k') e (new.leads k'));
          tie = λ c' j' k' p q. Leads_steps q p;
        })
      where
        before : ℕ
        before = total old.upto old.kind

        here : ℕ
        here = total j new.kind

        xs-bytes : bytes cost i xs ≡ before
        xs-bytes = ap (bytes cost i) old.is

        ys-bytes : bytes cost i ys ≡ here
        ys-bytes = ap (bytes cost i) new.is

        from_end : {X : Type 0} {j' : ℕ} → j ≤ j' → (suc j ≤ j' → X) → (j ≡ j' → X) → X
        from_end {j' = j'} p f g = by_lt j j' f (λ s. g (omega arith))

    fewest_is : (j : ℕ) (zss : List (List Block)) → i < j → Rests j zss → Fewest j (fewest cost n i j zss)
    unfolding fewest
    fewest_is j [] h r = subst (λ (u : ℕ). Fewest u (block codes n ∷ [])) (sym r) Fewest_start
    fewest_is j (zs ∷ zss) h r =
        Fewest-more j (fewest cost n i (suc j) zss) (fewer cost i (block codes j ∷ zs) (block row j ∷ zs)) h r.0
        (fewest_is (suc j) zss (omega arith) r.2)
        (subst (λ (l : List Block). Here j (fewer cost i (block codes j ∷ l) (block row j ∷ l))) (sym r.1) (Here_is j))

  -- ---- from the last position to the first

  bests_end : (i : ℕ) → i ≡ n → Best cost i n (best_cut cost n i)
  bests_end i e = subst (Best cost i n) (sym (ap (best_cut cost n) e ∙ best_cut_end)) (best_none e)

  bests_more : (d i : ℕ) → i + suc d ≡ n → ((u : ℕ) → i < u → u ≤ n → Best cost u n (best_cut cost n u)) → Best cost i n (best_cut cost n i)
  unfolding best_cuts
  bests_more d i e best = subst (Best cost i n) (sym (best_cut_is (suc d) i e ∙ f.is))
      (Best_step cost (best_cut cost n) best (record { after = f.after; within = f.within; leads = f.leads }))
    where
      some : i < n
      some = omega arith

      f : Fewest i some (suc i) (fewest cost n i (suc i) (best_cuts cost n d (suc i)))
      f = fewest_is i some (suc i) (best_cuts cost n d (suc i)) (omega arith) (Rests_from d (suc i) (omega arith))

  bests : (d i : ℕ) → i ≤ n → n ≤ i + d → Best cost i n (best_cut cost n i)
  bests zero i h g = bests_end i (omega arith)
  bests (suc d) i h g =
      by_lt i n (λ l. bests_more (n - suc i) i (omega arith) (λ u p q. bests d u q (omega arith))) (λ l. bests_end i (omega arith))

  -- THE CUT THAT IS COMPUTED IS THE BEST
  pub best_cut-Best : (i : ℕ) → i ≤ n → Best cost i n (best_cut cost n i)
  best_cut-Best i h = bests n i h (omega arith)

  -- THE BLOCK THAT LEADS ALL OTHERS IS THE FIRST OF THE BEST CUT, and the best cut of what is left follows
  pub Leader_of : {i j : ℕ} {k : Kind} → Leader (λ u l. cost i u l + least cost n u) i n j k
      → best_cut cost n i ≡ block k j ∷ best_cut cost n j
  Leader_of {i} l =
      Best_one (best_cut-Best i (omega (arith, l.after, l.within)))
      (Best_step cost (best_cut cost n) (λ u p q. best_cut-Best u q) l)

  pub least_end : least cost n n ≡ 0
  least_end = ap (bytes cost n) best_cut_end
