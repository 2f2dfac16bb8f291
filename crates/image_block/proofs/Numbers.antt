-- What the number of a block's refusal says: with 0 the block is good, and with another number that is why it is wrong.
-- Assumes nothing.
use mathlib.Core.Path.{◌≡◌, refl, sym, ap, ◌∙◌}
use mathlib.Core.List.{List}
use Prim.Native.Nat.{ℕ}
use native.Mathlib.Omega.{arith}
use Rattle.image.specs.declared.Entry.{Entry}
use Rattle.image.specs.declared.Before.{Before}
use Rattle.image.specs.Block.{Found, steps, wrong, block_of}
use Rattle.image.proofs.Blocks.{Good, block_good, block_wrong}
use Rattle.image_block.specs.Block.{number_of}

module _ (b : Before) (e : Entry) (part : List ℕ) (n : ℕ) (is : n ≡ number_of (block_of b e part)) where
  pub number_Good : n ≡ 0 → Good b e part
  number_Good z = by (block_of b e part) refl
    where
      by : (f : Found) → block_of b e part ≡ f → Good b e part
      by (steps xs) q = block_good b e part xs q
      by (wrong k) q = absurd (omega (arith, block_wrong b e part k q, is ∙ ap number_of q))

  pub number_wrong : (n ≡ 0 → ⊥) → block_of b e part ≡ wrong n
  number_wrong z = by (block_of b e part) refl
    where
      by : (f : Found) → block_of b e part ≡ f → block_of b e part ≡ wrong n
      by (steps xs) q = absurd (z (is ∙ ap number_of q))
      by (wrong k) q = q ∙ ap (λ (x : ℕ). wrong x) (sym (is ∙ ap number_of q))
