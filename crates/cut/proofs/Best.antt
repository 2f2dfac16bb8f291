-- Laws of the best cut: there is at most one, no cut has fewer bytes, none with as many comes before it, and a block that leads all others
-- makes a best cut of one of what is left. That there is a best cut is shown in `BestCut`.
-- Assumes nothing.
use mathlib.Core.Path.{◌≡◌, sym, ap, subst}
use mathlib.Core.List.{List, [], ◌∷◌}
use mathlib.Core.Logic.{◌⊎◌, inl, inr}
use Prim.Native.Nat.{ℕ, ◌+◌, ◌≤◌, ◌<◌}
use native.Mathlib.Omega.{arith}
use Rattle.lists.proofs.Choice.{by_lt, order}
use Rattle.cut.specs.Cut.{Kind, Block, block, Cuts, Earlier, bytes, Better, Best}
use Rattle.cut.proofs.Leads.{Leads, by_bytes, by_steps, by_kind, Leader}
use Rattle.cut.proofs.Cuts.{Cuts-le, Cuts-lt, Earlier_total}

-- of two cuts one is better, unless they are the same
pub Better_total : (cost : ℕ → ℕ → Kind → ℕ) (i n : ℕ) (xs ys : List Block) → Cuts i n xs → Cuts i n ys
    → Better cost i xs ys ⊎ (xs ≡ ys) ⊎ Better cost i ys xs
Better_total cost i n xs ys c d = go (order (bytes cost i xs) (bytes cost i ys)) (Earlier_total i n xs ys c d)
  where
    go : (bytes cost i xs < bytes cost i ys) ⊎ (bytes cost i xs ≡ bytes cost i ys) ⊎ (bytes cost i ys < bytes cost i xs)
        → Earlier xs ys ⊎ (xs ≡ ys) ⊎ Earlier ys xs
        → Better cost i xs ys ⊎ (xs ≡ ys) ⊎ Better cost i ys xs
    go (inl h) e = inl (inl h)
    go (inr (inl h)) (inl e) = inl (inr (h, e))
    go (inr (inl h)) (inr (inl e)) = inr (inl e)
    go (inr (inl h)) (inr (inr e)) = inr (inr (inr (sym h, e)))
    go (inr (inr h)) e = inr (inr (inl h))

module _ {cost : ℕ → ℕ → Kind → ℕ} {i n : ℕ} where
  -- THERE IS AT MOST ONE BEST CUT: "this leaves one"
  pub Best_one : {xs ys : List Block} → Best cost i n xs → Best cost i n ys → xs ≡ ys
  Best_one {xs} {ys} p q = go (Better_total cost i n xs ys p.cut q.cut)
    where
      go : Better cost i xs ys ⊎ (xs ≡ ys) ⊎ Better cost i ys xs → xs ≡ ys
      go (inl h) = absurd (q.none_better xs p.cut h)
      go (inr (inl e)) = e
      go (inr (inr h)) = absurd (p.none_better ys q.cut h)

  -- no cut has fewer bytes
  pub Best_least : {xs : List Block} → Best cost i n xs → (ys : List Block) → Cuts i n ys → bytes cost i xs ≤ bytes cost i ys
  Best_least {xs} p ys c = by_lt (bytes cost i ys) (bytes cost i xs) (λ h. absurd (p.none_better ys c (inl h))) (λ h. h)

  -- and of those with as many none is earlier
  pub Best_first : {xs : List Block} → Best cost i n xs → (ys : List Block) → Cuts i n ys → bytes cost i ys ≡ bytes cost i xs
      → Earlier ys xs → ⊥
  Best_first p ys c e h = p.none_better ys c (inr (e, h))

  -- the best cut of no steps
  pub best_none : i ≡ n → Best cost i n []
  best_none e = record { cut = e; none_better = none }
    where
      none : (ys : List Block) → Cuts i n ys → Better cost i ys [] → ⊥
      none [] c (inl h) = omega arith
      none [] c (inr h) = h.1
      none (b ∷ ys) c h = omega (arith, Cuts-lt i n b ys c)

-- A BLOCK THAT LEADS ALL OTHERS, AND A BEST CUT OF WHAT IS LEFT: `rest` says the best cut from each later position on
module _ (cost : ℕ → ℕ → Kind → ℕ) (rest : ℕ → List Block) where
  pub Best_step : {i n j : ℕ} {k : Kind}
      → ((u : ℕ) → i < u → u ≤ n → Best cost u n (rest u))
      → Leader (λ u l. cost i u l + bytes cost u (rest u)) i n j k
      → Best cost i n (block k j ∷ rest j)
  Best_step {i} {n} {j} {k} best lead = record { cut = (lead.after, z.cut); none_better = none }
    where
      z : Best cost j n (rest j)
      z = best j lead.after lead.within

      none : (ys : List Block) → Cuts i n ys → Better cost i ys (block k j ∷ rest j) → ⊥
      none [] c h = omega (arith, lead.after, lead.within)
      none (b ∷ ys) c h =
          let u = b.upto in
          let le : u ≤ n = Cuts-le u n ys c.1 in
          go (lead.leads u b.kind c.0 le) (Best_least (best u c.0 le) ys c.1) h
        where
          same : b ≡ block k j → cost i b.upto b.kind + bytes cost b.upto ys ≡ cost i j k + bytes cost j (rest j) → Earlier ys (rest j) → ⊥
          same e f h =
              let f' : cost i j k + bytes cost j ys ≡ cost i j k + bytes cost j (rest j) =
              subst (λ (x : Block). cost i x.upto x.kind + bytes cost x.upto ys ≡ cost i j k + bytes cost j (rest j)) e f in
              Best_first z ys (subst (λ (x : Block). Cuts x.upto n ys) e c.1) (omega arith) h

          go : Leads (cost i j k + bytes cost j (rest j)) j k (cost i b.upto b.kind + bytes cost b.upto (rest b.upto)) b.upto b.kind
              → bytes cost b.upto (rest b.upto) ≤ bytes cost b.upto ys
              → Better cost i (b ∷ ys) (block k j ∷ rest j)
              → ⊥
          go (by_bytes p) q (inl h) = omega arith
          go (by_bytes p) q (inr h) = omega arith
          go (by_steps p r) q (inl h) = omega arith
          go (by_steps p r) q (inr (f, inl h)) = omega arith
          go (by_steps p r) q (inr (f, inr (inl h))) = omega arith
          go (by_steps p r) q (inr (f, inr (inr h))) = omega (arith, ap (λ (x : Block). x.upto) h.0)
          go (by_kind p r s) q (inl h) = omega arith
          go (by_kind p r s) q (inr (f, inl h)) = omega arith
          go (by_kind p r s) q (inr (f, inr (inl h))) = omega arith
          go (by_kind p r s) q (inr (f, inr (inr h))) = same h.0 f h.1
