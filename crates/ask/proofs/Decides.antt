-- Each promise decides its answer.
-- Assumes nothing.
use mathlib.Core.Path.{◌≡◌, refl, sym, ap, ◌∙◌}
use mathlib.Core.List.{List, ◌∷◌}
use Prim.Native.Nat.{ℕ}
use native.Mathlib.Omega.{arith}
use lib.ListN.{get_or}
use Rattle.std.specs.Prelude.{Result, Ok, Err}
use Rattle.rules.specs.Paper.{accepting}
use Rattle.rules.proofs.Paper.{paper_apart, paper_values, paper_refusal}
use Rattle.rules.specs.declared.Refusal.{Refusal}
use Rattle.ask.specs.declared.First.{First}
use Rattle.ask.specs.declared.First.TheVariants as found
use Rattle.ask.specs.declared.Next.TheVariants as next
use Rattle.ask.specs.Rank as rank
use Rattle.ask.specs.First as first
use Rattle.ask.specs.Cursor as cursor
use Rattle.ask.specs.declared.Next.{Next}
use Rattle.ask.specs.declared.Cursor.{Cursor}

-- a step and none
step_apart : {X : Type 0} {us vs : List ℕ} → accepting (1 ∷ us) ≡ accepting (0 ∷ vs) → X
step_apart e = absurd (omega (arith, ap (λ (l : List ℕ). get_or l 0 0) (paper_values e)))

-- ---- an answer is known by document 01's numbers

pub ranked_one : (a b : Result ℕ Refusal) → rank.paper_of a ≡ rank.paper_of b → a ≡ b
ranked_one (Ok s) (Ok t) e = ap (λ (l : List ℕ). Ok (get_or l 0 0)) (paper_values e)
ranked_one (Ok s) (Err r) e = paper_apart rank.values e
ranked_one (Err r) (Ok t) e = paper_apart rank.values (sym e)
ranked_one (Err r) (Err s) e = ap Err (paper_refusal rank.values e)

pub first_one : (a b : First) → first.paper_of a ≡ first.paper_of b → a ≡ b
first_one (found.Found h) (found.Found g) e =
    ap (λ (l : List ℕ). found.Found (record { step = get_or l 1 0; rank = get_or l 2 0 })) (paper_values e)
first_one (found.Found h) found.Nothing e = step_apart e
first_one (found.Found h) (found.Refused r) e = paper_apart first.values e
first_one found.Nothing (found.Found g) e = step_apart (sym e)
first_one found.Nothing found.Nothing e = refl
first_one found.Nothing (found.Refused r) e = paper_apart first.values e
first_one (found.Refused r) (found.Found g) e = paper_apart first.values (sym e)
first_one (found.Refused r) found.Nothing e = paper_apart first.values (sym e)
first_one (found.Refused r) (found.Refused s) e = ap found.Refused (paper_refusal first.values e)

pub next_one : (a b : Result Next Refusal) → cursor.next_paper a ≡ cursor.next_paper b → a ≡ b
next_one (Ok (next.Step m)) (Ok (next.Step n)) e =
    ap (λ (l : List ℕ). Ok (next.Step (record { step = get_or l 1 0; cursor = record { rank = get_or l 2 0 } }))) (paper_values e)
next_one (Ok (next.Step m)) (Ok (next.End d)) e = step_apart e
next_one (Ok (next.Step m)) (Err r) e = paper_apart cursor.values e
next_one (Ok (next.End c)) (Ok (next.Step n)) e = step_apart (sym e)
next_one (Ok (next.End c)) (Ok (next.End d)) e = ap (λ (l : List ℕ). Ok (next.End (record { rank = get_or l 2 0 }))) (paper_values e)
next_one (Ok (next.End c)) (Err r) e = paper_apart cursor.values e
next_one (Err r) (Ok (next.Step n)) e = paper_apart cursor.values (sym e)
next_one (Err r) (Ok (next.End d)) e = paper_apart cursor.values (sym e)
next_one (Err r) (Err s) e = ap Err (paper_refusal cursor.values e)

pub placed_one : (a b : Result Cursor Refusal) → cursor.placed_paper a ≡ cursor.placed_paper b → a ≡ b
placed_one (Ok c) (Ok d) e = ap (λ (l : List ℕ). Ok (record { rank = get_or l 2 0 })) (paper_values e)
placed_one (Ok c) (Err r) e = paper_apart cursor.values e
placed_one (Err r) (Ok d) e = paper_apart cursor.values (sym e)
placed_one (Err r) (Err s) e = ap Err (paper_refusal cursor.values e)

-- TWO ANSWERS THAT A PROMISE ALLOWS ARE EQUAL
module _ (s : List ℕ) where
  pub rank-Decides : (k : ℕ) (a b : Result ℕ Refusal) → rank.paper_of a ≡ rank.promised s k → rank.paper_of b ≡ rank.promised s k → a ≡ b
  rank-Decides k a b p q = ranked_one a b (p ∙ sym q)

  pub first_decides : (x : ℕ) (a b : First) → first.paper_of a ≡ first.promised s x → first.paper_of b ≡ first.promised s x → a ≡ b
  first_decides x a b p q = first_one a b (p ∙ sym q)

  pub start-Decides : (a b : Result Cursor Refusal) → cursor.placed_paper a ≡ cursor.start_promise s → cursor.placed_paper b ≡ cursor.start_promise s → a ≡ b
  start-Decides a b p q = placed_one a b (p ∙ sym q)

  pub next-Decides : (k : ℕ) (a b : Result Next Refusal) → cursor.next_paper a ≡ cursor.next_promise k s → cursor.next_paper b ≡ cursor.next_promise k s → a ≡ b
  next-Decides k a b p q = next_one a b (p ∙ sym q)

  pub skip-Decides : (k x : ℕ) (a b : Result Cursor Refusal) → cursor.placed_paper a ≡ cursor.skip_promise k s x → cursor.placed_paper b ≡ cursor.skip_promise k s x
      → a ≡ b
  skip-Decides k x a b p q = placed_one a b (p ∙ sym q)
