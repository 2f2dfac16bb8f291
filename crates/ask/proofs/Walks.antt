-- The plain list's walk: a cursor that is started and then moved gives the steps of the list, each once, in order, and then nothing.
-- Assumes nothing.
use mathlib.Core.Path.{◌≡◌, sym, ap, ◌∙◌}
use mathlib.Core.List.{List, [], ◌∷◌}
use Prim.Native.Nat.{ℕ, zero, suc, ◌+◌, ◌≤◌, ◌<◌}
use native.Mathlib.Omega.{arith}
use lib.ListN.{length, get_or, drop, drop_of_length-le}
use borrow.Author.Tests.{lt-ltb, le-ltb}
use Rattle.std.specs.Prelude.{Result, Ok, Err}
use Rattle.lists.proofs.Choice.{by_lt, pick_yes, pick_no}
use Rattle.lists.proofs.Parts.{drop_one}
use Rattle.image.specs.Verdict.{taken, verdict}
use Rattle.ask.specs.declared.Cursor.{Cursor}
use Rattle.ask.specs.declared.Next.TheVariants.{Step, End}
use Rattle.ask.specs.Cursor.{next_paper, placed_paper, start_in, next_in, start_promise, next_promise}
use Rattle.ask.proofs.Decides.{next_one, placed_one}
use Rattle.ask.specs.declared.Next.{Next}
use Rattle.rules.specs.declared.Refusal.{Refusal}

-- the step that an answer gives, and then what the cursor that it hands back gives
abbrev on_next : Result Next Refusal → (Cursor → List ℕ) → List ℕ
on_next (Ok (Step m)) f = m.step ∷ f m.cursor
on_next (Ok (End c)) f = []
on_next (Err r) f = []

-- what at most `t` moves give, from a cursor on
abbrev pub walk : (Cursor → Result Next Refusal) → ℕ → Cursor → List ℕ
walk move zero c = []
walk move (suc t) c = on_next (move c) (walk move t)

-- the steps that a cursor gives from where it was placed
abbrev pub walk_from : (Cursor → Result Next Refusal) → ℕ → Result Cursor Refusal → List ℕ
walk_from move t (Ok c) = walk move t c
walk_from move t (Err r) = []

abbrev at : ℕ → Cursor
at k = record { rank = k }

-- `s` is an image of the list `xs`, and `move` keeps the promise of `next` on it
module _ (s xs : List ℕ) (e : verdict s ≡ taken xs) (move : Cursor → Result Next Refusal)
    (kept : (c : Cursor) → c.rank ≤ length xs → next_paper (move c) ≡ next_promise c.rank s) where
  promise : (k : ℕ) → k ≤ length xs → next_paper (move (at k)) ≡ next_in k (taken xs)
  promise k h = kept (at k) h ∙ ap (next_in k) e

  move_step : (k : ℕ) → k < length xs → move (at k) ≡ Ok (Step (record { step = get_or xs k 0; cursor = at (k + 1) }))
  move_step k h =
      next_one (move (at k)) (Ok (Step (record { step = get_or xs k 0; cursor = at (k + 1) })))
      (promise k (omega arith)
      ∙ pick_no _ _ _ (le-ltb (length xs) k (omega arith))
      ∙ pick_yes _ _ _ (lt-ltb k (length xs) h))

  move_end : (k : ℕ) → k ≡ length xs → move (at k) ≡ Ok (End (at k))
  move_end k h =
      next_one (move (at k)) (Ok (End (at k)))
      (promise k (omega arith)
      ∙ pick_no _ _ _ (le-ltb (length xs) k (omega arith))
      ∙ pick_no _ _ _ (le-ltb k (length xs) (omega arith)))

  walk-drop : (t k : ℕ) → k ≤ length xs → length xs ≤ k + t → walk move t (at k) ≡ drop k xs
  walk-drop zero k h g = sym (drop_of_length-le xs {i = k} (omega arith))
  walk-drop (suc t) k h g =
      by_lt k (length xs)
      (λ l.
      ap (λ (n : Result Next Refusal). on_next n (walk move t)) (move_step k l)
      ∙ ap (λ (r : List ℕ). get_or xs k 0 ∷ r) (walk-drop t (k + 1) (omega arith) (omega arith))
      ∙ sym (drop_one xs k 0 l))
      (λ l. ap (λ (n : Result Next Refusal). on_next n (walk move t)) (move_end k (omega arith)) ∙ sym (drop_of_length-le xs {i = k} l))

  -- THE WALK: from the start, as many moves as there are steps, or more, give the list
  pub walk_list : (p : Result Cursor Refusal) → placed_paper p ≡ start_promise s → (t : ℕ) → length xs ≤ t → walk_from move t p ≡ xs
  walk_list p q t h =
      ap (walk_from move t) (placed_one p (Ok (at 0)) (q ∙ ap start_in e)) ∙ walk-drop t 0 (omega arith) (omega arith)
