-- The image that is written is the one that document 01 asks for: it is accepted and stands for the list, no accepted image of the list is
-- shorter, of those as short none comes before it in the tie order, and there is one and only one.
-- Assumes nothing.
use mathlib.Core.Path.{◌≡◌, refl, sym, ap, ◌∙◌, subst}
use mathlib.Core.List.{List, [], ◌∷◌}
use Prim.Native.Nat.{ℕ, ◌+◌, ◌*◌, ◌^◌, ◌≤◌, ◌<◌}
use native.Mathlib.Omega.{arith}
use lib.ListN.{length}
use Rattle.lists.specs.Parts.{part}
use Rattle.lists.proofs.Parts.{length_part}
use Rattle.rules.specs.Sizes.{number_size, entry_size}
use Rattle.rules.specs.Listed.{Listed}
use Rattle.rules.specs.Limits.Laws.{most_counted}
use Rattle.codes.proofs.Codes.{length_codes_most}
use Rattle.cut.specs.Cut.{codes, Block, block, Cuts, Earlier, bytes}
use Rattle.cut.proofs.Best.{Best_one, Best_least, Best_first}
use Rattle.image.specs.Grammar.{payload_of, image_of, Accepted}
use Rattle.image.specs.Verdict.{taken, verdict}
use Rattle.image.proofs.Sizes.{length-payload_of, length_image}
use Rattle.image.proofs.Accepted.{Accepted_taken, cut_Accepted}
use Rattle.plan.specs.Cost.{cost}
use Rattle.plan.specs.Planned.{cut_of}
use Rattle.plan.proofs.Walk.{Best_planned}
use Rattle.write.specs.Written.{Written, image_for}

-- ---- how many bytes the image of a cut has

bytes_cut : (xs : List ℕ) (i : ℕ) (bs : List Block) → bytes (cost xs) i bs ≡ entry_size * length bs + length (payload_of xs i bs)
bytes_cut xs i [] = refl
bytes_cut xs i (b ∷ bs) = omega (arith, length-payload_of xs i b bs, bytes_cut xs b.upto bs)

-- the counts, and what its blocks cost
pub length_cut : (xs : List ℕ) (cut : List Block) → length (image_of xs cut) ≡ number_size + number_size + bytes (cost xs) 0 cut
length_cut xs cut = omega (arith, length_image xs cut, bytes_cut xs 0 cut)

-- ---- the image that is written

-- THERE IS ONE
pub Written_some : (xs : List ℕ) → Written xs (image_for xs)
unfolding image_for
Written_some xs = record { cut = cut_of xs; best = Best_planned xs; image = refl }

-- AND ONLY ONE
pub written_one : {xs a b : List ℕ} → Written xs a → Written xs b → a ≡ b
written_one {xs} v w = sym v.image ∙ ap (image_of xs) (Best_one v.best w.best) ∙ w.image

module _ {xs b : List ℕ} (w : Written xs b) where
  length_written : length b ≡ number_size + number_size + bytes (cost xs) 0 w.cut
  length_written = ap length (sym w.image) ∙ length_cut xs w.cut

  -- IT IS ACCEPTED, and stands for the list
  pub written_Accepted : Listed xs → Accepted b xs
  written_Accepted l = subst (λ (s : List ℕ). Accepted s xs) w.image (cut_Accepted xs w.cut l w.best.cut)

  pub written_taken : Listed xs → verdict b ≡ taken xs
  written_taken l = Accepted_taken (written_Accepted l)

  -- NO ACCEPTED IMAGE OF THE LIST IS SHORTER
  pub written_least : {c : List ℕ} → Accepted c xs → length b ≤ length c
  written_least a =
      omega (arith, length_written, length_cut xs a.cut, ap length a.image, Best_least w.best a.cut a.cuts)

  -- AND OF THOSE AS SHORT NONE COMES BEFORE IT in the tie order
  pub written_first : (cs : List Block) → Cuts 0 (length xs) cs → length (image_of xs cs) ≡ length b → Earlier cs w.cut → ⊥
  written_first cs c e = Best_first w.best cs c (omega (arith, length_written, length_cut xs cs))

-- ---- the numbers that the writer goes by

-- the bytes of the image, from what the planner says
pub length-image_for : (xs : List ℕ) → length (image_for xs) ≡ number_size + number_size + bytes (cost xs) 0 (cut_of xs)
unfolding image_for
length-image_for xs = length_cut xs (cut_of xs)

-- one block of codes has no more than this, so the best cut has not either
least_most : (xs : List ℕ) → bytes (cost xs) 0 (cut_of xs) ≤ entry_size + 4 * length xs
least_most [] = omega (arith, Best_least (Best_planned []) [] refl)
least_most (x ∷ xs) =
    let n : ℕ = length (x ∷ xs) in
    omega (
      arith,
      Best_least (Best_planned (x ∷ xs)) (block codes n ∷ []) (omega arith, refl),
      length_codes_most 0 (part (x ∷ xs) 0 n),
      length_part (x ∷ xs) 0 n (omega arith) (omega arith),
    )

-- so that the image's length fits
pub image_fits : (xs : List ℕ) → Listed xs → length (image_for xs) < 2 ^ 32
image_fits xs l = omega (arith, length-image_for xs, least_most xs, l.few, most_counted)
