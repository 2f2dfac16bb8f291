-- What a caller learns from the answer of `check`: acceptance gives the list that the image stands for, a refusal is the verdict's.
-- Assumes nothing.
use mathlib.Core.Path.{◌≡◌, refl, sym, ap, ◌∙◌}
use mathlib.Core.List.{List, [], ◌∷◌}
use Prim.Native.Nat.{ℕ, ◌+◌, ◌≤◌}
use native.Mathlib.Omega.{arith}
use lib.ListN.{length, drop, get_or, length-append}
use Rattle.std.specs.Prelude.{Ok, Result, Err}
use Rattle.rules.specs.declared.Refusal.{Refusal}
use Rattle.rules.specs.Limits.{most_steps}
use Rattle.rules.proofs.Paper.{paper_apart, paper_values, paper_refusal}
use Rattle.image.specs.declared.Entry.{Entry}
use Rattle.image.specs.declared.Before.{Before}
use Rattle.image.specs.Entry.{entry_place, payload_place, entries_at, start, after_entry}
use Rattle.image.specs.Verdict.{Verdict, taken, refused, directory_of, blocks_of, verdict}
use Rattle.image.proofs.Directory.{directory_clean}
use Rattle.image.proofs.Blocks.{taken_eq, split}
use Rattle.image.proofs.Verdict.{peel}
use Rattle.read.specs.Read.{values, paper_of, check_paper, check_promise}

-- each upto is within the limit, so the last is, which counts all steps
few_after : (p : ℕ) (pay : List ℕ) (b : Before) (i : ℕ) (es : List Entry) (xs : List ℕ) → b.upto ≤ most_steps
    → directory_of p b i es ≡ Ok tt → blocks_of pay b i es ≡ taken xs
    → b.upto + length xs ≤ most_steps
few_after p pay b i [] xs h d t = omega (arith, ap length (taken_eq t))
few_after p pay b i (e ∷ es) xs h d t =
    let c = directory_clean p b i e es d in
    let x = split pay b i e es xs t in
    omega (
      arith,
      few_after p pay (after_entry e) (i + 1) es x.others c.0.few c.1 x.more,
      x.first.count,
      c.0.upto,
      ap length x.both,
      length-append x.first.list x.others,
    )

taken_few : (s : List ℕ) {xs : List ℕ} → verdict s ≡ taken xs → length xs ≤ most_steps
taken_few s {xs} e =
    let t = peel s xs e in
    omega (
      arith,
      few_after t.p (drop (payload_place t.m) s) start 0 (entries_at t.m s (entry_place 0)) xs (omega arith) t.fine t.blocks,
    )

-- `s` is an image with `n` steps
pub record Yes (s : List ℕ) (n : ℕ) : Type 0 where
  pub list : List ℕ
  pub is : verdict s ≡ taken list
  pub count : length list ≡ n
  pub few : n ≤ most_steps

pub Yes_taken : (s : List ℕ) {xs : List ℕ} {n : ℕ} → verdict s ≡ taken xs → length xs ≡ n → Yes s n
Yes_taken s {xs} q k = record { list = xs; is = q; count = k; few = omega (arith, taken_few s q) }

module _ (s : List ℕ) {r : Result ℕ Refusal} (a : paper_of r ≡ check_promise s) where
  pub answer_Yes : {n : ℕ} → r ≡ Ok n → Yes s n
  answer_Yes {n} e = by (verdict s) refl (ap paper_of (sym e) ∙ a)
    where
      by : (v : Verdict) → verdict s ≡ v → paper_of (Ok n) ≡ check_paper v → Yes s n
      by (taken xs) q p = Yes_taken s q (sym (ap (λ (l : List ℕ). get_or l 0 0) (paper_values p)))
      by (refused t) q p = paper_apart values p

  pub answer_no : {q : Refusal} → r ≡ Err q → verdict s ≡ refused q
  answer_no {q} e = by (verdict s) (ap paper_of (sym e) ∙ a)
    where
      by : (v : Verdict) → paper_of (Err q) ≡ check_paper v → v ≡ refused q
      by (taken xs) p = paper_apart values (sym p)
      by (refused t) p = ap (λ (x : Refusal). refused x) (sym (paper_refusal values p))
