-- What a loop over the codes of a block goes by: one code more, a code that fails, and the end.
-- Assumes nothing.
use mathlib.Core.Path.{◌≡◌, refl, sym, ap, ◌∙◌, subst}
use mathlib.Core.List.{List, [], ◌∷◌}
use Prim.Native.Nat.{ℕ, suc, ◌+◌, ◌^◌, ◌≤◌, ◌<◌}
use native.Mathlib.Omega.{arith}
use native.Mathlib.Numerals.{add-one}
use lib.ListN.{length}
use Rattle.lists.specs.Rising.{Rising, beyond}
use Rattle.lists.specs.Bytes.{Bytes}
use Rattle.lists.proofs.Choice.{by_lt}
use Rattle.lists.proofs.Rising.{Rising-beyond, Rising-length}
use Rattle.code.specs.declared.Flaw.{Flaw}
use Rattle.std.specs.Prelude.{Result, Ok, Err, None}
use Rattle.std.specs.Result.{result_ok}
use Rattle.std.proofs.lemmas.Option.{none-some}
use Rattle.code.specs.declared.Reading.{Reading}
use Rattle.code.specs.Code.{reading, read_at}
use Rattle.code.specs.Code.Read.{Read}
use Rattle.code.proofs.Laws.{read_sound}
use Rattle.codes.specs.Codes.{Values, all, bad, on_top, steps_from, list_of, tally, wrong, tally_of, Sound}
use Rattle.codes.specs.Inside.Turn.{Turn}
use Rattle.codes.proofs.Codes.{
  Read_passes,
  bad_all,
  steps_end,
  steps_bad,
  steps_more,
  Rising_steps,
}

-- ---- a block that is checked: `c` steps were found, and the next is at least `o`

tally_on_top : (c o y : ℕ) (v : Values) → tally_of c o (on_top y v) ≡ tally_of (c + 1) (y + 1) v
tally_on_top c o y (all xs) =
    let n : c + suc (length xs) ≡ c + 1 + length xs = omega arith in
    rw (n, add-one y)
tally_on_top c o y (bad w n) = refl

module _ (c o : ℕ) (s : List ℕ) (at : ℕ) where
  pub tally_more : {x n : ℕ} → Read s at x n → read_at s at ≡ Ok (reading x n)
      → tally_of c o (steps_from o s at) ≡ tally_of (c + 1) (o + x + 1) (steps_from (o + x + 1) s n)
  tally_more {x} {n} r e = ap (tally_of c o) (steps_more o s at r e) ∙ tally_on_top c o (o + x) (steps_from (o + x + 1) s n)

  pub tally_bad : (w : Flaw) → at < length s → read_at s at ≡ Err w → tally_of c o (steps_from o s at) ≡ Err (wrong w at)
  tally_bad w h e = ap (tally_of c o) (steps_bad o s at w h e)

  pub tally_end : length s ≤ at → tally_of c o (steps_from o s at) ≡ Ok (tally c o)
  tally_end h =
      let n : c + 0 ≡ c = omega arith in
      ap (tally_of c o) (steps_end o s at h) ∙ rw n

-- ---- a block that was checked

-- what a step on top says of the step and of what is left
record Topped (o y : ℕ) (v : Values) : Type 0 where
  is : list_of (on_top y v) ≡ y ∷ list_of v
  sound : Sound (y + 1) v
  fits : y < 2 ^ 32

topped : (o y : ℕ) (v : Values) → Rising (y + 1) (list_of v) → Sound o (on_top y v) → Topped o y v
topped o y (all xs) r s =
    let b : beyond (y + 1) xs ≤ 2 ^ 32 = rw (add-one y) s.small in
    record { is = refl; sound = record { whole = refl; small = b }; fits = omega (arith, Rising-beyond (y + 1) xs r) }
topped o y (bad w n) r s = bad_all s.whole

-- nothing is left
pub steps_none : (o : ℕ) (s : List ℕ) (at : ℕ) → length s ≤ at → list_of (steps_from o s at) ≡ []
steps_none o s at h = ap list_of (steps_end o s at h)

module _ (o : ℕ) (s : List ℕ) (at : ℕ) (k : Sound o (steps_from o s at)) where
  -- a code was read
  pub turn : (x n : ℕ) → Bytes s → read_at s at ≡ Ok (reading x n) → Turn o s at (o + x) n
  turn x n w e =
      let r = read_sound s at x n w e in
      let q = steps_more o s at r e in
      let t = topped o (o + x) (steps_from (o + x + 1) s n) (Rising_steps (o + x + 1) s n) (subst (Sound o) q k) in
      record { is = ap list_of q ∙ t.is; sound = t.sound; fits = t.fits; on = Read_passes r; within = r.within }

  -- no code fails
  pub turn_bad : (w : Flaw) → at < length s → read_at s at ≡ Err w → ⊥
  turn_bad w h e = bad_all (sym (steps_bad o s at w h e) ∙ k.whole)

  -- where no code was read, nothing is left
  pub turn_none : result_ok (read_at s at) ≡ None → list_of (steps_from o s at) ≡ []
  turn_none h = by (read_at s at) refl
    where
      by : (r : Result Reading Flaw) → read_at s at ≡ r → list_of (steps_from o s at) ≡ []
      by (Ok c) e = absurd (none-some c (sym h ∙ ap result_ok e))
      by (Err w) e = by_lt at (length s) (λ l. absurd (turn_bad w l e)) (steps_none o s at)

  -- so many steps and no more
  pub steps_few : length (list_of (steps_from o s at)) ≤ 2 ^ 32
  steps_few = omega (arith, Rising-length o (list_of (steps_from o s at)) (Rising_steps o s at), k.small)
