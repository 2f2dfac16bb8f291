-- The steps ahead of a walk: those of a walk in a row by the ones of the loaded word, and that they rise.
-- Assumes nothing.
use mathlib.Core.Path.{◌≡◌, sym, ap, ◌∙◌, subst}
use mathlib.Core.List.{List, ◌∷◌, ◌++◌, append_assoc}
use Prim.Native.Nat.{ℕ, suc, ◌+◌, ◌^◌, ◌≤◌, ◌<◌}
use native.Mathlib.Omega.{arith}
use native.Mathlib.Decide.{ℕ_discrete}
use native.Mathlib.Numerals.{add-one}
use lib.Count.{count_trailing_zeros}
use Rattle.lists.specs.Rising.{Rising, beyond}
use Rattle.lists.specs.Parts.{part}
use Rattle.lists.proofs.Choice.{by_lt}
use Rattle.lists.proofs.Rising.{Rising_weaken, Rising-beyond, Rising-append, Rising_front, Rising_back}
use Rattle.rules.specs.Limits.{no_step}
use Rattle.codes.proofs.Codes.{Rising_steps}
use Rattle.row.specs.Row.{bits_from}
use Rattle.row.specs.Words.{word_bits}
use Rattle.row.proofs.Row.{Rising_row}
use Rattle.row.proofs.Bits.{Rising_bits_on, bits_lowest}
use Rattle.image.specs.Entry.{before_at}
use Rattle.image_walk.specs.declared.Walk.{Walk}
use Rattle.image_walk.specs.Blocks.{later}
use Rattle.image_walk.specs.Walk.{row_in, others, here, ahead, Stands}
use Rattle.image_walk.proofs.Shapes.{here_codes, here_row, beyond_first, ahead_step, ahead_none}
use Rattle.image_walk.proofs.Entering.{later-Rising}

-- ---- the walk at the lowest one of a word, by the word's ones

module _ (pay : List ℕ) (w : Walk) (b : w.bits ≡ 0 → ⊥) (fits : w.bits < 2 ^ word_bits)
    (lowest : w.step ≡ w.low + count_trailing_zeros word_bits w.bits) where
  -- the ones of the loaded word, and the bytes after it
  pub word_here : w.step ∷ here pay w ≡ bits_from word_bits w.low w.bits ++ row_in (w.low + word_bits) pay w.at w.end
  word_here =
      let row : List ℕ = row_in (w.low + word_bits) pay w.at w.end in
      ap (λ (l : List ℕ). w.step ∷ l) (here_row pay w b)
      ∙ ap (λ (n : ℕ). n ∷ (bits_from word_bits w.low (others w.bits) ++ row)) lowest
      ∙ ap (λ (l : List ℕ). l ++ row) (sym (bits_lowest word_bits w.low w.bits (omega arith) fits))

  pub word_beyond : (p : ℕ) → beyond (w.step + 1) (here pay w)
      ≡ beyond p (bits_from word_bits w.low w.bits ++ row_in (w.low + word_bits) pay w.at w.end)
  word_beyond p = beyond_first p w.step _ (here pay w) (sym word_here)

  pub word_ahead : (s : List ℕ) → w.step < no_step
      → ahead s pay w
      ≡ bits_from word_bits w.low w.bits ++ (row_in (w.low + word_bits) pay w.at w.end ++ later s pay w.block)
  word_ahead s h =
      ahead_step s pay w h
      ∙ ap (λ (l : List ℕ). l ++ later s pay w.block) word_here
      ∙ append_assoc (bits_from word_bits w.low w.bits) (row_in (w.low + word_bits) pay w.at w.end) (later s pay w.block)

-- ---- the steps ahead of a walk rise

module _ (s pay : List ℕ) (w : Walk) (t : Stands s pay w) (fits : w.bits < 2 ^ word_bits) where
  here-Rising : w.step < no_step → Rising (suc w.step) (here pay w)
  here-Rising h = elim (ℕ_discrete w.bits 0) [ yes z ↦ codes z | no z ↦ row z ]
    where
      codes : w.bits ≡ 0 → Rising (suc w.step) (here pay w)
      codes z =
          subst (λ (n : ℕ). Rising n (here pay w)) (add-one w.step)
          (rw (here_codes pay w z) (Rising_steps (w.step + 1) (part pay w.at w.end) 0))

      row : (w.bits ≡ 0 → ⊥) → Rising (suc w.step) (here pay w)
      row z =
          let after : List ℕ = row_in (w.low + word_bits) pay w.at w.end in
          let u : Rising w.low (w.step ∷ here pay w) =
          subst (Rising w.low) (sym (word_here pay w z fits ((t.placed.on h).row z).lowest))
          (Rising_bits_on word_bits w.low w.bits after (Rising_row (w.low + word_bits) (part pay w.at w.end)))
          in
          u.1

  pub ahead-Rising : Rising w.step (ahead s pay w)
  ahead-Rising =
      by_lt w.step no_step
      (λ h.
      let q : beyond (suc w.step) (here pay w) ≡ (before_at s w.block).next = ap (λ (n : ℕ). beyond n (here pay w)) (sym (add-one w.step)) ∙ t.last h in
      rw (ahead_step s pay w h) (
        omega arith,
        Rising-append (suc w.step) (here pay w) (later s pay w.block) (here-Rising h)
            (subst (λ (n : ℕ). Rising n (later s pay w.block)) (sym q) (later-Rising t.blocks)),
      ))
      (λ h. rw (ahead_none s pay w h) tt)

  -- so a walk that comes after it is not before a bound that it has reached
  pub later_from : (o : ℕ) (laid : List ℕ) (r : Walk) → o ≤ w.step → ahead s pay w ≡ laid ++ ahead s pay r → o ≤ r.step
  later_from o laid r h e =
      let u : Rising o (laid ++ ahead s pay r) = subst (Rising o) e (Rising_weaken (ahead s pay w) h ahead-Rising) in
      let b = Rising-beyond o laid (Rising_front o laid (ahead s pay r) u) in
      by_lt r.step no_step
      (λ g.
      let v : Rising (beyond o laid) (r.step ∷ (here pay r ++ later s pay r.block)) =
      subst (Rising (beyond o laid)) (ahead_step s pay r g) (Rising_back o laid (ahead s pay r) u)
      in
      omega (arith, v.0))
      (λ g. omega (arith, t.placed.step))
