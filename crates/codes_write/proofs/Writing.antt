-- What a loop that writes a list goes by: its steps from rank `i` on are at least `o`.
-- Assumes nothing.
use mathlib.Core.Path.{◌≡◌, ap, ◌∙◌, subst}
use mathlib.Core.List.{List, [], ◌∷◌, ◌++◌}
use Prim.Native.Nat.{ℕ, suc, ◌+◌, ◌-◌, ◌≤◌, ◌<◌}
use native.Mathlib.Omega.{arith}
use native.Mathlib.Numerals.{add-one}
use lib.ListN.{length, get_or, drop, drop_of_length-le}
use Rattle.lists.specs.Rising.{Rising, beyond}
use Rattle.lists.proofs.Rising.{Rising-beyond}
use Rattle.lists.proofs.Parts.{drop_one}
use Rattle.code.specs.Code.{code_values, code_of, code_size}
use Rattle.codes.specs.Codes.{codes_for}
use Rattle.codes.proofs.Codes.{codes_nil, codes_cons, length_codes-cons}

-- what the step at rank `i` says of itself and of what is left
pub record Next (o : ℕ) (xs : List ℕ) (i : ℕ) : Type 0 where
  pub least : o ≤ get_or xs i 0
  pub small : get_or xs i 0 < code_values
  pub rising : Rising (get_or xs i 0 + 1) (drop (i + 1) xs)
  pub end : beyond (get_or xs i 0 + 1) (drop (i + 1) xs) ≤ code_values
  pub room : code_size (get_or xs i 0 - o) ≤ length (codes_for o (drop i xs))
  pub codes : codes_for o (drop i xs) ≡ code_of (get_or xs i 0 - o) ++ codes_for (get_or xs i 0 + 1) (drop (i + 1) xs)

pub next : (o : ℕ) (xs : List ℕ) (i : ℕ) → i < length xs → Rising o (drop i xs) → beyond o (drop i xs) ≤ code_values → Next o xs i
next o xs i h r b =
    let x = get_or xs i 0 in
    let d : drop i xs ≡ x ∷ drop (i + 1) xs = drop_one xs i 0 h in
    let v : Rising o (x ∷ drop (i + 1) xs) = subst (Rising o) d r in
    let u : beyond (suc x) (drop (i + 1) xs) ≤ code_values = subst (λ (l : List ℕ). beyond o l ≤ code_values) d b in
    record {
      least = v.0;
      small = omega (arith, Rising-beyond (suc x) (drop (i + 1) xs) v.1);
      rising = rw (add-one x) v.1;
      end = rw (add-one x) u;
      room = omega (arith, ap (λ (l : List ℕ). length (codes_for o l)) d, length_codes-cons o x (drop (i + 1) xs));
      codes = ap (codes_for o) d ∙ codes_cons o x (drop (i + 1) xs) ∙ rw (add-one x);
    }

-- nothing is left
pub codes_none : (o : ℕ) (xs : List ℕ) (i : ℕ) → length xs ≤ i → codes_for o (drop i xs) ≡ []
codes_none o xs i h = ap (codes_for o) (drop_of_length-le xs h) ∙ codes_nil o
