-- The first element of a list at or after a bound, and 0 where there is none.
-- Assumes nothing.
use mathlib.Core.Path.{◌≡◌, sym, ap, ◌∙◌}
use mathlib.Core.List.{List, [], ◌∷◌, ◌++◌}
use Prim.Native.Nat.{ℕ, ◌+◌, ◌≤◌, ◌<◌}
use lib.ListN.{length, get_or}
use lib.Seq.{get_or-append-add}
use Rattle.lists.specs.Below.{below}
use Rattle.lists.proofs.Below.{below-here, below-past}

abbrev pub found_in : List ℕ → ℕ → ℕ
found_in xs x = get_or xs (below xs x) 0

module _ {xs : List ℕ} (x : ℕ) where
  pub found_none : xs ≡ [] → found_in xs x ≡ 0
  found_none e = ap (λ (l : List ℕ). found_in l x) e

  pub found_here : {y : ℕ} {ys : List ℕ} → xs ≡ y ∷ ys → x ≤ y → found_in xs x ≡ y
  found_here {y} {ys} e h = ap (λ (l : List ℕ). found_in l x) e ∙ ap (λ (i : ℕ). get_or (y ∷ ys) i 0) (below-here y ys x h)

  pub found_past : {y : ℕ} {ys : List ℕ} → xs ≡ y ∷ ys → y < x → found_in xs x ≡ found_in ys x
  found_past {y} {ys} e h = ap (λ (l : List ℕ). found_in l x) e ∙ ap (λ (i : ℕ). get_or (y ∷ ys) i 0) (below-past y ys x h)

  -- none of the front is at or after the bound
  pub found_after : (us vs : List ℕ) → xs ≡ us ++ vs → below xs x ≡ length us + below vs x → found_in xs x ≡ found_in vs x
  found_after us vs e h =
      ap (λ (i : ℕ). get_or xs i 0) h
      ∙ ap (λ (l : List ℕ). get_or l (length us + below vs x) 0) e
      ∙ get_or-append-add us vs (below vs x) 0

-- after `i` elements of `xs`, which are below the bound, `ys` are left, among which it is found
pub record Ahead (xs ys : List ℕ) (x i : ℕ) : Type 0 where
  pub rank : below xs x ≡ i + below ys x
  pub found : found_in xs x ≡ found_in ys x

pub Ahead_answer : {xs ys : List ℕ} {x i j y : ℕ} → Ahead xs ys x i → (j ≡ i + below ys x) × (y ≡ found_in ys x)
    → (j ≡ below xs x) × (y ≡ get_or xs j 0)
Ahead_answer {xs} t (p, q) = let r = p ∙ sym t.rank in (r, q ∙ sym t.found ∙ ap (λ (k : ℕ). get_or xs k 0) (sym r))
