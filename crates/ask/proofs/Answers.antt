-- The answers, from what the check says and what was found: each is the promised one.
-- Assumes nothing.
use mathlib.Core.Path.{◌≡◌, sym, ap, ◌∙◌}
use mathlib.Core.List.{List, [], ◌∷◌}
use Prim.Native.Nat.{ℕ, ◌+◌, ◌≤◌, ◌<◌}
use native.Mathlib.Omega.{arith}
use lib.ListN.{length, get_or, drop}
use borrow.Author.Tests.{lt-ltb, le-ltb}
use Rattle.std.specs.Prelude.{Result, Ok}
use Rattle.lists.specs.Rising.{Rising}
use Rattle.lists.specs.Below.{below}
use Rattle.lists.specs.Bytes.{Bytes}
use Rattle.lists.proofs.Choice.{pick_yes, pick_no}
use Rattle.lists.proofs.Below.{below-drop, below-drop_none}
use Rattle.rules.specs.Limits.{most_steps}
use Rattle.rules.specs.Refusals.{rank_too_large, no_such_cursor, refusal}
use Rattle.rules.specs.Paper.{Paper, accepting, refusing}
use Rattle.rules.specs.declared.Refusal.{Refusal}
use Rattle.image.proofs.Accepted.{verdict-Accepted}
use Rattle.image.specs.Taken.{steps_of, Taken}
use Rattle.image.proofs.Taken.{taken_is}
use Rattle.read.specs.Read as read
use Rattle.read.proofs.Answers.{answer_Yes}
use Rattle.ask.specs.Rank as rank
use Rattle.ask.specs.First as first
use Rattle.ask.specs.Cursor as cursor

-- the check accepted: the image has `n` steps
pub record Kept (s : List ℕ) (n : ℕ) : Type 0 where
  pub takes : Taken s
  pub count : length (steps_of s) ≡ n
  pub few : n ≤ most_steps

pub kept : {s : List ℕ} {r : Result ℕ Refusal} {n : ℕ} → read.paper_of r ≡ read.check_promise s → r ≡ Ok n → Kept s n
kept {s} a e =
    let y = answer_Yes s a e in
    let t = taken_is s y.list y.is in
    record { takes = t.0; count = ap length t.1 ∙ y.count; few = y.few }

-- ---- a bound

module _ (xs : List ℕ) (x : ℕ) where
  pub first_found : {k r : ℕ} → k ≡ below xs x → k < length xs → r ≡ get_or xs k 0 → first.finding r k ≡ first.at_rank xs (below xs x)
  first_found {k} {r} q h e =
      ap (λ (n : ℕ). first.finding n k) e ∙ sym (pick_yes _ _ _ (lt-ltb k (length xs) h)) ∙ ap (first.at_rank xs) q

  pub first-nothing : below xs x ≡ length xs → first.nothing ≡ first.at_rank xs (below xs x)
  first-nothing q = sym (pick_no _ _ _ (le-ltb (below xs x) (length xs) (omega arith)))

module _ {s : List ℕ} {n : ℕ} (y : Kept s n) where
  pub first_taken : (x : ℕ) {p : Paper} → p ≡ first.at_rank (steps_of s) (below (steps_of s) x) → p ≡ first.promised s x
  first_taken x q = q ∙ sym (ap (first.first_in x) y.takes)

  -- ---- a rank

  pub rank_found : {k r : ℕ} → k < n → r ≡ get_or (steps_of s) k 0 → accepting (r ∷ []) ≡ rank.promised s k
  rank_found {k} {r} h e =
      ap (λ (t : ℕ). accepting (t ∷ [])) e
      ∙ sym (ap (rank.rank_in k) y.takes ∙ pick_yes _ _ _ (lt-ltb k (length (steps_of s)) (omega (arith, y.count))))

  pub rank_over : {k : ℕ} → n ≤ k → refusing rank.values (refusal rank_too_large n) ≡ rank.promised s k
  rank_over {k} h =
      ap (λ (t : ℕ). refusing rank.values (refusal rank_too_large t)) (sym y.count)
      ∙ sym (ap (rank.rank_in k) y.takes ∙ pick_no _ _ _ (le-ltb k (length (steps_of s)) (omega (arith, y.count))))

  -- ---- a cursor

  pub start_first : cursor.standing 0 ≡ cursor.start_promise s
  start_first = sym (ap cursor.start_in y.takes)

  -- by whether the image has a cursor of this rank
  over : {k : ℕ} (p : Paper) → n < k → cursor.on_rank (steps_of s) k p ≡ refusing cursor.values (refusal no_such_cursor 0)
  over {k} p h = pick_yes _ _ _ (lt-ltb (length (steps_of s)) k (omega (arith, y.count)))

  within : {k : ℕ} {p : Paper} → k ≤ n → cursor.on_rank (steps_of s) k p ≡ p
  within {k} h = pick_no _ _ _ (le-ltb (length (steps_of s)) k (omega (arith, y.count)))

  pub next_over : {k : ℕ} → n < k → refusing cursor.values (refusal no_such_cursor 0) ≡ cursor.next_promise k s
  next_over {k} h = sym (ap (cursor.next_in k) y.takes ∙ over _ h)

  pub next_end : {k : ℕ} → n ≡ k → cursor.standing k ≡ cursor.next_promise k s
  next_end {k} h =
      sym
      (ap (cursor.next_in k) y.takes ∙ within (omega arith) ∙ pick_no _ _ _ (le-ltb k (length (steps_of s)) (omega (arith, y.count))))

  pub next_found : {k r : ℕ} → k < n → r ≡ get_or (steps_of s) k 0 → cursor.giving r (k + 1) ≡ cursor.next_promise k s
  next_found {k} {r} h e =
      ap (λ (t : ℕ). cursor.giving t (k + 1)) e
      ∙ sym
      (ap (cursor.next_in k) y.takes ∙ within (omega arith) ∙ pick_yes _ _ _ (lt-ltb k (length (steps_of s)) (omega (arith, y.count))))

  module _ (x : ℕ) where
    pub skip_over : {k : ℕ} → n < k → refusing cursor.values (refusal no_such_cursor 0) ≡ cursor.skip_promise k s x
    skip_over {k} h = sym (ap (cursor.skip_in k x) y.takes ∙ over _ h)

    skips : {k : ℕ} → k ≤ n → cursor.skip_promise k s x ≡ cursor.standing (k + below (drop k (steps_of s)) x)
    skips {k} h = ap (cursor.skip_in k x) y.takes ∙ within h

    -- forward, and never back
    pub skip_on : {k at : ℕ} → k ≤ n → at ≡ below (steps_of s) x → k ≤ at → cursor.standing at ≡ cursor.skip_promise k s x
    skip_on {k} {at} h e g = sym (skips h ∙ ap cursor.standing (below-drop (steps_of s) k x (omega arith) ∙ sym e))

    pub skip_stay : {k at : ℕ} → Bytes s → k ≤ n → at ≡ below (steps_of s) x → at < k → cursor.standing k ≡ cursor.skip_promise k s x
    skip_stay {k} {at} w h e g =
        let r : Rising 0 (steps_of s) = ((verdict-Accepted s (steps_of s) w).0 y.takes).listed.rising in
        let q : k + below (drop k (steps_of s)) x ≡ k = omega (arith, below-drop_none 0 (steps_of s) k x r (omega arith)) in
        sym (skips h ∙ ap cursor.standing q)
