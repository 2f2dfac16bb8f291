-- What the first line comes from, and what a caller learns from it: the image is taken, and so many lines follow.
-- Assumes nothing.
use mathlib.Core.Path.{◌≡◌, refl, sym, ap, ◌∙◌}
use mathlib.Core.List.{List, [], ◌∷◌}
use Prim.Native.Nat.{ℕ}
use lib.ListN.{length, get_or}
use Rattle.std.specs.Prelude.{Result, Ok}
use Rattle.rules.specs.Numbers.{number_at}
use Rattle.rules.specs.Paper.{accepting}
use Rattle.rules.proofs.Paper.{paper_apart, paper_values}
use Rattle.rules.specs.declared.Refusal.{Refusal}
use Rattle.image.specs.Verdict.{Verdict, taken, refused, verdict}
use Rattle.image.specs.Taken.{Takes}
use Rattle.image_directory.proofs.Ahead.{Takes_list}
use Rattle.read.proofs.Answers.{Yes}
use Rattle.blocks_lines.specs.Listing.{values, paper_of, contents_paper, contents_promise}
use Rattle.blocks_lines.specs.declared.Contents.{Contents}

pub contents_Yes : {s : List ℕ} {n : ℕ} → Yes s n → (m : ℕ) → m ≡ number_at s 0 → accepting (m ∷ n ∷ length s ∷ []) ≡ contents_promise s
contents_Yes {s} {n} y m e =
    ap (λ (k : ℕ). accepting (k ∷ n ∷ length s ∷ [])) e
    ∙ ap (λ (k : ℕ). accepting (number_at s 0 ∷ k ∷ length s ∷ [])) (sym y.count)
    ∙ sym (ap (contents_paper s) y.is)

pub contents_taken : (s : List ℕ) {r : Result Contents Refusal} {m n b : ℕ} → paper_of r ≡ contents_promise s → r ≡ Ok (record { blocks = m; steps = n; bytes = b })
    → Takes (verdict s) × (m ≡ number_at s 0)
contents_taken s {r} {m} {n} {b} a e = by (verdict s) refl (ap paper_of (sym e) ∙ a)
  where
    by : (v : Verdict) → verdict s ≡ v → paper_of (Ok (record { blocks = m; steps = n; bytes = b })) ≡ contents_paper s v → Takes (verdict s) × (m ≡ number_at s 0)
    by (taken xs) q p = (Takes_list q, ap (λ (l : List ℕ). get_or l 0 0) (paper_values p))
    by (refused r) q p = paper_apart values p
