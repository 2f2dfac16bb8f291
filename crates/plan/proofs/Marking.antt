-- What the pass that marks the blocks keeps: whatever stands in the work area later, if it has the words so far and marks the best cut of
-- what is left, it marks the whole best cut.
-- Assumes nothing.
use mathlib.Core.Path.{◌≡◌, refl, sym, ap, subst, ◌∙◌}
use mathlib.Core.List.{List, []}
use Prim.Native.Nat.{ℕ, ◌+◌, ◌≤◌, ◌<◌}
use native.Mathlib.Omega.{arith}
use lib.ListN.{length, get_or}
use Rattle.cut.specs.Cut.{Block}
use Rattle.cut.specs.BestCut.{best_cut}
use Rattle.cut.proofs.BestCut.{best_cut_end}
use Rattle.plan.specs.Cost.{cost}
use Rattle.plan.specs.Planned.{cut_of, Marked}
use Rattle.plan.specs.Inside.Work.{Kept, Ready}

-- the best cut from rank `i` on
abbrev left : List ℕ → ℕ → List Block
left xs i = best_cut (cost xs) (length xs) i

-- `m` blocks, which end at rank `i`, are marked
pub record Marking (xs work₀ work : List ℕ) (m i : ℕ) : Type 0 where
  pub within : i ≤ length xs
  pub few : m ≤ i
  pub ready : Ready xs work i
  pub kept : Kept (length xs) work₀ work
  pub count : m + length (left xs i) ≡ length (cut_of xs)
  pub marked : (w : List ℕ) → ((p : ℕ) → p < i → get_or w p 0 ≡ get_or work p 0) → Marked w i (left xs i) → Marked w 0 (cut_of xs)

pub Marking_end : {xs work₀ work : List ℕ} {m i : ℕ} → Marking xs work₀ work m i → length xs ≤ i
    → (m ≡ length (cut_of xs)) × Kept (length xs) work₀ work × Marked work 0 (cut_of xs)
Marking_end {xs} {work₀} {work} {m} {i} k h =
    let e : i ≡ length xs = omega (arith, k.within) in
    let none : left xs i ≡ [] = ap (left xs) e ∙ best_cut_end (cost xs) (length xs) in (
      omega (arith, ap (length {A = Block}) none, k.count),
      k.kept,
      k.marked work (λ p a. refl) (subst (Marked work i) (sym none) tt),
    )
