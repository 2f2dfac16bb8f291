-- The image that is written: that of the best cut.
use Rattle.std.specs.Prelude.{◌≡◌, List, ℕ, length}
use Rattle.cut.specs.Cut.{Block, Best}
use Rattle.image.specs.Grammar.{image_of}
use Rattle.plan.specs.Cost.{cost}
use Rattle.plan.specs.Planned.{cut_of}

-- `b` is the image of the best cut of `xs`: the one with the fewest bytes, and among equals the first in the tie order
pub record Written (xs b : List ℕ) : Type 0 where
  pub cut : List Block
  pub best : Best (cost xs) 0 (length xs) cut
  pub image : image_of xs cut ≡ b

-- that image, computed
unfoldable pub image_for : List ℕ → List ℕ
image_for xs = image_of xs (cut_of xs)
