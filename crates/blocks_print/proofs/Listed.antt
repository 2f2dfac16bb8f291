-- The list of an image, by what its first line says. Assumes nothing.
use Rattle.std.specs.Prelude.{Result, Ok, Err}
use Rattle.std.proofs.Common.{◌≡◌, sym, ap, ◌∙◌, List, ◌++◌, ℕ, get_or}
use Rattle.rules.specs.declared.Refusal.{Refusal}
use Rattle.rules.proofs.Paper.{paper_apart, paper_values, paper_refusal}
use Rattle.image.specs.Verdict.{Verdict, taken, refused, verdict}
use Rattle.blocks_lines.specs.Listing.{values, paper_of, contents_paper, contents_promise}
use Rattle.blocks_lines.specs.declared.Contents.{Contents}
use Rattle.blocks_print.specs.Text.{first_line, lines_text, refusal_line, listing, listing_of}

-- an image that holds so much
pub listed_taken : (s : List ℕ) {r : Result Contents Refusal} {m n b : ℕ} → paper_of r ≡ contents_promise s → r ≡ Ok (record { blocks = m; steps = n; bytes = b })
    → first_line m n b ++ lines_text s m ≡ listing s
listed_taken s {r} {m} {n} {b} a e = by (verdict s) (ap paper_of (sym e) ∙ a)
  where
    by : (v : Verdict) → paper_of (Ok (record { blocks = m; steps = n; bytes = b })) ≡ contents_paper s v → first_line m n b ++ lines_text s m ≡ listing_of s v
    by (taken xs) p =
        ap (λ (l : List ℕ). first_line (get_or l 0 0) (get_or l 1 0) (get_or l 2 0) ++ lines_text s (get_or l 0 0)) (paper_values p)
    by (refused r) p = paper_apart values p

-- an image that is refused
pub listed_refused : (s : List ℕ) {r : Result Contents Refusal} {f : Refusal} → paper_of r ≡ contents_promise s → r ≡ Err f → refusal_line f ≡ listing s
listed_refused s {r} {f} a e = by (verdict s) (ap paper_of (sym e) ∙ a)
  where
    by : (v : Verdict) → paper_of (Err f) ≡ contents_paper s v → refusal_line f ≡ listing_of s v
    by (taken xs) p = paper_apart values (sym p)
    by (refused r) p = ap refusal_line (paper_refusal values p)
