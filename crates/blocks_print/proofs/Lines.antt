-- The lines of the blocks, one after the other. Assumes nothing.
use native.Mathlib.Numerals.{add-one}
use Rattle.std.proofs.Common.{◌≡◌, refl, sym, subst, List, ◌++◌, ℕ, ◌+◌, Option, codes, append_assoc}
use Rattle.std.specs.Io.KnownBytes.{Appends}
use Rattle.std.proofs.KnownBytes.{Appends-trans}
use Rattle.blocks_lines.specs.declared.Line.{Line}
use Rattle.blocks_lines.specs.Listing.{line_at}
use Rattle.blocks_lines.specs.Shown.{shown}
use Rattle.blocks_print.specs.Text.{line_text, lines_text}

-- a line with its end
ended : (l : Line) → shown l ++ codes "\n" ≡ line_text l
ended l = simp (append_assoc) refl

-- one more line
pub lines_next : (s : List ℕ) (i : ℕ) (a b c : Option (List ℕ)) (l : Line) → l ≡ line_at s i → Appends a b (lines_text s i)
    → Appends b c (shown l ++ codes "\n") → Appends a c (lines_text s (i + 1))
lines_next s i a b c l e p q =
    subst (λ (n : ℕ). Appends a c (lines_text s n)) (sym (add-one i))
    (subst (λ (x : Line). Appends a c (lines_text s i ++ line_text x)) e
    (subst (λ (t : List ℕ). Appends a c (lines_text s i ++ t)) (ended l) (Appends-trans a b c _ _ p q)))
