-- THE THEOREM: the grammar and the verdict agree. Of all lists of bytes the verdict takes the accepted images and no others, each with its
-- list; so an image has one list, and each list of document 01 has an image.
-- Assumes nothing.
use mathlib.Core.Path.{◌≡◌, refl, sym, ap, ◌∙◌, subst}
use mathlib.Core.Logic.{◌↔◌}
use mathlib.Core.List.{List, [], ◌∷◌}
use Prim.Native.Nat.{ℕ}
use native.Mathlib.Omega.{arith}
use lib.ListN.{length}
use Rattle.lists.specs.Bytes.{Bytes}
use Rattle.rules.specs.Listed.{Listed}
use Rattle.cut.specs.Cut.{codes, Block, block, Cuts}
use Rattle.image.specs.Grammar.{image_of, Accepted}
use Rattle.image.specs.Verdict.{taken, verdict}
use Rattle.image.proofs.Blocks.{taken_eq}
use Rattle.image.proofs.Places.{Bytes_image}
use Rattle.image.proofs.Reading.{read_image}
use Rattle.image.proofs.Writing.{write_image}

module _ {s xs : List ℕ} where
  pub Accepted_taken : Accepted s xs → verdict s ≡ taken xs
  Accepted_taken a = ap verdict (sym a.image) ∙ read_image xs a.listed a.cut a.cuts

  pub Accepted-Bytes : Accepted s xs → Bytes s
  Accepted-Bytes a = subst Bytes a.image (Bytes_image xs a.listed a.cut a.cuts)

-- THE VERDICT TAKES THE ACCEPTED IMAGES ALONE, with their lists
pub verdict-Accepted : (s xs : List ℕ) → Bytes s → (verdict s ≡ taken xs) ↔ Accepted s xs
verdict-Accepted s xs w = (write_image s xs w, Accepted_taken)

-- an image has one list
pub Accepted_one : {s xs ys : List ℕ} → Accepted s xs → Accepted s ys → xs ≡ ys
Accepted_one a b = taken_eq (sym (Accepted_taken a) ∙ Accepted_taken b)

-- which is strictly increasing and within the limits
pub Accepted-Listed : {s xs : List ℕ} → Accepted s xs → Listed xs
Accepted-Listed a = a.listed

-- each cut of such a list has an accepted image
pub cut_Accepted : (xs : List ℕ) (cut : List Block) → Listed xs → Cuts 0 (length xs) cut → Accepted (image_of xs cut) xs
cut_Accepted xs cut l c = record { listed = l; cut = cut; cuts = c; image = refl }

-- and so each such list has one: with no block where it is empty, else with one block of codes
pub Accepted_some : (xs : List ℕ) → Listed xs → (s : List ℕ) × Accepted s xs
Accepted_some [] l = (image_of [] [], cut_Accepted [] [] l refl)
Accepted_some (x ∷ xs) l =
    let cut : List Block = block codes (length (x ∷ xs)) ∷ [] in
    (image_of (x ∷ xs) cut, cut_Accepted (x ∷ xs) cut l (omega arith, refl))
