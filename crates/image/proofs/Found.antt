-- Laws of what is found in a part: in codes, in a row, and by the two tests that follow, 8 and 9.
-- Assumes nothing.
use mathlib.Core.Path.{◌≡◌, refl, ap}
use mathlib.Core.Bool.{Bool, true, false}
use mathlib.Core.List.{List}
use Prim.Native.Nat.{ℕ, ◌+◌, ◌-◌, ◌≤◌, ◌<◌}
use native.Mathlib.Omega.{arith}
use lib.Dec.{leb, eqb}
use lib.ListN.{length}
use borrow.Author.Tests.{eq-eqb, ne_eqb, eqb-true, le-leb, lt-leb}
use Rattle.lists.specs.Choice.{pick}
use Rattle.lists.specs.Rising.{beyond}
use Rattle.lists.proofs.Choice.{pick_yes, pick_no}
use Rattle.rules.specs.Refusals.{wrong_count, wrong_last, bad_row}
use Rattle.codes.specs.Codes.{Values, all, bad, steps_from}
use Rattle.row.specs.Row.{row_steps, row_size}
use Rattle.image.specs.declared.Entry.{Entry}
use Rattle.image.specs.declared.Before.{Before}
use Rattle.image.specs.Block.{Found, steps, wrong, in_codes, in_row, in_part, judged}

pub steps_eq : {xs ys : List ℕ} → steps xs ≡ steps ys → xs ≡ ys
steps_eq e = cc

pub wrong_steps : {X : Type 0} {n : ℕ} {xs : List ℕ} → wrong n ≡ steps xs → X
wrong_steps e = let z : ◌≡◌ {A = ℕ} 0 1 = cc in absurd (omega arith)

-- ---- a part by its kind

module _ (b : Before) (e : Entry) (part : List ℕ) where
  pub part_codes : e.kind ≡ 0 → in_part b e part ≡ in_codes (steps_from b.next part 0)
  part_codes h = pick_yes (eqb e.kind 0) _ _ (eq-eqb e.kind 0 h)

  pub part_row : (e.kind ≡ 0 → ⊥) → in_part b e part ≡ in_row b.next (e.last + 1) part
  part_row h = pick_no (eqb e.kind 0) _ _ (ne_eqb e.kind 0 h)

pub codes_found : (v : Values) {xs : List ℕ} → in_codes v ≡ steps xs → v ≡ all xs
codes_found (all ys) e = ap (λ (l : List ℕ). all l) (steps_eq e)
codes_found (bad w n) e = wrong_steps e

module _ (o top : ℕ) (part : List ℕ) where
  pub row_unsized : (length part ≡ row_size (top - o) → ⊥) → in_row o top part ≡ wrong bad_row
  unfolding in_row
  row_unsized h = rw (ne_eqb (length part) (row_size (top - o)) h)

  module _ (h : length part ≡ row_size (top - o)) where
    pub row_past : top < beyond o (row_steps o part) → in_row o top part ≡ wrong bad_row
    unfolding in_row
    row_past k = rw (eq-eqb (length part) (row_size (top - o)) h) (pick_no _ _ _ (lt-leb (beyond o (row_steps o part)) top k))

    pub row_within : beyond o (row_steps o part) ≤ top → in_row o top part ≡ steps (row_steps o part)
    unfolding in_row
    row_within k = rw (eq-eqb (length part) (row_size (top - o)) h, le-leb (beyond o (row_steps o part)) top k)

  pub row_found : {xs : List ℕ} → in_row o top part ≡ steps xs → (length part ≡ row_size (top - o)) × (row_steps o part ≡ xs)
  unfolding in_row
  row_found {xs} e =
      let t = go (eqb (length part) (row_size (top - o))) (leb (beyond o (row_steps o part)) top) e in
      (eqb-true (length part) (row_size (top - o)) t.0, t.1)
    where
      go : (x y : Bool) → pick x (pick y (steps (row_steps o part)) (wrong bad_row)) (wrong bad_row) ≡ steps xs
          → (x ≡ true) × (row_steps o part ≡ xs)
      go true true q = (refl, steps_eq q)
      go true false q = wrong_steps q
      go false y q = wrong_steps q

-- ---- the tests that follow

module _ (b : Before) (e : Entry) where
  pub judged-wrong : (n : ℕ) → judged b e (wrong n) ≡ wrong n
  unfolding judged
  judged-wrong n = refl

  module _ (xs : List ℕ) where
    pub judged_count : (length xs ≡ e.upto - b.upto → ⊥) → judged b e (steps xs) ≡ wrong wrong_count
    unfolding judged
    judged_count h = rw (ne_eqb (length xs) (e.upto - b.upto) h)

    module _ (h : length xs ≡ e.upto - b.upto) where
      pub judged-last : (beyond b.next xs ≡ e.last + 1 → ⊥) → judged b e (steps xs) ≡ wrong wrong_last
      unfolding judged
      judged-last k = rw (eq-eqb (length xs) (e.upto - b.upto) h, ne_eqb (beyond b.next xs) (e.last + 1) k)

      pub judged_good : beyond b.next xs ≡ e.last + 1 → judged b e (steps xs) ≡ steps xs
      unfolding judged
      judged_good k = rw (eq-eqb (length xs) (e.upto - b.upto) h, eq-eqb (beyond b.next xs) (e.last + 1) k)

-- ---- a refusal has a number

abbrev pub Numbered : Found → Type 0
Numbered (steps xs) = Unit {0}
Numbered (wrong n) = 0 < n

Numbered-pick : (x : Bool) (f g : Found) → Numbered f → Numbered g → Numbered (pick x f g)
Numbered-pick true f g p q = p
Numbered-pick false f g p q = q

Numbered_codes : (v : Values) → Numbered (in_codes v)
Numbered_codes (all xs) = tt
Numbered_codes (bad w n) = omega arith

Numbered_row : (o top : ℕ) (part : List ℕ) → Numbered (in_row o top part)
unfolding in_row
Numbered_row o top part =
    Numbered-pick (eqb (length part) (row_size (top - o))) _ (wrong bad_row)
    (Numbered-pick (leb (beyond o (row_steps o part)) top) (steps (row_steps o part)) (wrong bad_row) tt (omega arith)) (omega arith)

module _ (b : Before) (e : Entry) where
  Numbered-judged : (f : Found) → Numbered f → Numbered (judged b e f)
  unfolding judged
  Numbered-judged (steps xs) p =
      Numbered-pick (eqb (length xs) (e.upto - b.upto)) _ (wrong wrong_count)
      (Numbered-pick (eqb (beyond b.next xs) (e.last + 1)) (steps xs) (wrong wrong_last) tt (omega arith)) (omega arith)
  Numbered-judged (wrong n) p = p

  pub Numbered-part : (part : List ℕ) → Numbered (judged b e (in_part b e part))
  Numbered-part part =
      Numbered-judged (in_part b e part)
      (Numbered-pick (eqb e.kind 0) (in_codes (steps_from b.next part 0)) (in_row b.next (e.last + 1) part)
      (Numbered_codes (steps_from b.next part 0)) (Numbered_row b.next (e.last + 1) part))
