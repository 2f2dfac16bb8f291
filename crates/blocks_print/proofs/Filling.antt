-- A buffer that is filled from its front: what the reader has lost stands there. Assumes nothing.
use native.Mathlib.Omega.{arith}
use Rattle.std.proofs.Common.{◌≡◌, refl, sym, ap, ◌∙◌, List, ◌++◌, ℕ, ◌+◌, ◌-◌, ◌≤◌, length, take, Option, None, Some, append_assoc, length-append, length-drop}
use Rattle.std.proofs.Math.Seq.{take-append-add, take-take}
use Rattle.std.proofs.lemmas.List.{length-take-le, length-take}
use Rattle.std.proofs.lemmas.Slice.{take-put_mid}
use borrow.Rule.Slice.PartMut.{put_mid}
use Rattle.std.specs.Io.KnownBytes.{Consumes}

-- what was lost, and then more
pub consumed_more : (a b c : Option (List ℕ)) (x y : List ℕ) → Consumes a b x → Consumes b c y → Consumes a c (x ++ y)
consumed_more None b c x y p q = tt
consumed_more (Some xs) (Some ys) (Some zs) x y p q = p ∙ ap (λ (l : List ℕ). x ++ l) q ∙ sym (append_assoc x y zs)
consumed_more (Some xs) (Some ys) None x y p q = q
consumed_more (Some xs) None c x y p q = absurd p

module _ (at : ℕ) (s t : List ℕ) (h : at ≤ length s) where
  -- the front of a buffer into whose rest was read
  pub front_put : (k n : ℕ) → n ≤ length t → take (at + n) (put_mid at k s t) ≡ take at s ++ take n t
  front_put k n g =
      sym (take-take (at + n) (at + length t) (put_mid at k s t) (omega arith))
      ∙ ap (take (at + n)) (take-put_mid at k s t (at + length t) refl h)
      ∙ ap (λ (m : ℕ). take (m + n) (take at s ++ t)) (sym (length-take-le at s h))
      ∙ take-append-add (take at s) t n

  -- it keeps its length
  pub length_put : length t ≡ length s - at → length (put_mid at (length s - at) s t) ≡ length s
  length_put g = simp (length-append, length-take, length-drop) (omega arith)
