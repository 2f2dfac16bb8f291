-- Laws of cuts: where they may begin, what they begin with, and that of two cuts of the same steps one is earlier.
-- Assumes nothing.
use mathlib.Core.Path.{◌≡◌, refl, sym, subst}
use mathlib.Core.List.{List, [], ◌∷◌}
use mathlib.Core.Logic.{◌⊎◌, inl, inr}
use Prim.Native.Nat.{ℕ, ◌+◌, ◌≤◌, ◌<◌}
use native.Mathlib.Omega.{arith}
use lib.ListN.{length}
use Rattle.lists.proofs.Choice.{order}
use Rattle.cut.specs.Cut.{number, Block, Cuts, Earlier}
use Rattle.cut.proofs.Blocks.{Block-eq}

pub Cuts-le : (i n : ℕ) (xs : List Block) → Cuts i n xs → i ≤ n
Cuts-le i n [] c = omega arith
Cuts-le i n (b ∷ xs) c = omega (arith, Cuts-le b.upto n xs c.1)

pub Cuts-lt : (i n : ℕ) (b : Block) (xs : List Block) → Cuts i n (b ∷ xs) → i < n
Cuts-lt i n b xs c = omega (arith, Cuts-le b.upto n xs c.1)

-- a cut of some steps has a first block
pub Cuts_some : (i n : ℕ) (xs : List Block) → Cuts i n xs → i < n → (b : Block) × (ys : List Block) × (xs ≡ b ∷ ys) × Cuts i n (b ∷ ys)
Cuts_some i n [] c h = absurd (omega arith)
Cuts_some i n (b ∷ xs) c h = (b, xs, refl, c)

-- two cuts of the same steps are the same, or one of them is earlier
pub Earlier_total : (i n : ℕ) (xs ys : List Block) → Cuts i n xs → Cuts i n ys → Earlier xs ys ⊎ (xs ≡ ys) ⊎ Earlier ys xs
Earlier_total i n [] [] c d = inr (inl refl)
Earlier_total i n [] (b ∷ ys) c d = absurd (omega (arith, Cuts-lt i n b ys d))
Earlier_total i n (a ∷ xs) [] c d = absurd (omega (arith, Cuts-lt i n a xs c))
Earlier_total i n (a ∷ xs) (b ∷ ys) c d =
    by_upto (order a.upto b.upto)
    (λ e. Earlier_total a.upto n xs ys c.1 (subst (λ (u : ℕ). Cuts u n ys) (sym e) d.1))
  where
    Goal : Type 0
    Goal = Earlier (a ∷ xs) (b ∷ ys) ⊎ (a ∷ xs ≡ b ∷ ys) ⊎ Earlier (b ∷ ys) (a ∷ xs)

    by_rest : a ≡ b → Earlier xs ys ⊎ (xs ≡ ys) ⊎ Earlier ys xs → Goal
    by_rest e (inl h) = inl (inr (inr (e, h)))
    by_rest e (inr (inl h)) = inr (inl (cc))
    by_rest e (inr (inr h)) = inr (inr (inr (inr (sym e, h))))

    by_number : (number a.kind < number b.kind) ⊎ (number a.kind ≡ number b.kind) ⊎ (number b.kind < number a.kind)
        → a.upto ≡ b.upto → Earlier xs ys ⊎ (xs ≡ ys) ⊎ Earlier ys xs → Goal
    by_number (inl h) e r = inl (inr (inl (e, h)))
    by_number (inr (inl h)) e r = by_rest (Block-eq a b e h) r
    by_number (inr (inr h)) e r = inr (inr (inr (inl (sym e, h))))

    by_upto : (a.upto < b.upto) ⊎ (a.upto ≡ b.upto) ⊎ (b.upto < a.upto)
        → (a.upto ≡ b.upto → Earlier xs ys ⊎ (xs ≡ ys) ⊎ Earlier ys xs) → Goal
    by_upto (inl h) r = inr (inr (inl h))
    by_upto (inr (inl h)) r = by_number (order (number a.kind) (number b.kind)) h (r h)
    by_upto (inr (inr h)) r = inl (inl h)

-- a cut has at most as many blocks as there are positions
pub Cuts-length : (i n : ℕ) (bs : List Block) → Cuts i n bs → i + length bs ≤ n
Cuts-length i n [] c = omega arith
Cuts-length i n (b ∷ bs) c = omega (arith, c.0, Cuts-length b.upto n bs c.1)
