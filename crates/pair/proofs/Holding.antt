-- A short buffer that holds the result of two images: after a count, and when it is copied. Assumes nothing.
use mathlib.Core.Path.{◌≡◌, refl, sym, ap, ◌∙◌}
use mathlib.Core.List.{List, [], ◌∷◌, ◌++◌}
use Prim.Native.Nat.{ℕ, ◌≤◌}
use native.Mathlib.Omega.{arith}
use lib.ListN.{length, take, drop, length-take}
use lib.Seq.{sets, take_at}
use Rattle.lists.proofs.Stores.{sets_front}
use Rattle.image.specs.Taken.{steps_of}
use Rattle.pair_operation.specs.declared.Operation.{Operation}
use Rattle.pair_operation.specs.Result.{result_of}
use Rattle.pair_thin.specs.Counts.{Counts}
use Rattle.pair.specs.Inside.Room.{Held}

none : (xs : List ℕ) → length xs ≤ 0 → xs ≡ []
none [] h = refl
none (x ∷ xs) h = absurd (omega arith)

-- a part that is lent has as many numbers as were asked for
pub length_lent : (n : ℕ) (xs : List ℕ) → n ≤ length xs → n ≡ length (take n xs)
length_lent n xs h = omega (arith, length-take n xs)

module _ (op : Operation) (first second : List ℕ) where
  abbrev zs : List ℕ
  zs = result_of op (steps_of first) (steps_of second)

  -- a buffer of no numbers holds a result of no steps
  pub held_none : {n : ℕ} (few : List ℕ) → n ≡ length zs → length few ≤ 0 → Held op first second n few
  held_none {n} few e l =
      record {
        counted = e;
        kept = λ h. none (take n few) (omega (arith, length-take n few)) ∙ sym (none zs (omega arith));
      }

  -- a merge kept what it counted
  pub Held_merged : {n : ℕ} {few₀ few : List ℕ} → Counts op first second few₀ n few → length few ≡ length few₀ → Held op first second n few
  Held_merged {n} k m =
      record { counted = k.counted; kept = λ h. ap (take n) (k.kept (omega arith)) ∙ take_at zs _ n (sym k.counted) }

  -- what is held was copied
  pub Held_copied : {n : ℕ} {few : List ℕ} → Held op first second n few → n ≤ length few → (steps : List ℕ) {steps' : List ℕ} → length zs ≤ length steps
      → steps' ≡ sets steps 0 (take n few)
      → (n ≡ length zs) × (steps' ≡ zs ++ drop (length zs) steps)
  Held_copied h l steps room e = (h.counted, e ∙ ap (sets steps 0) (h.kept l) ∙ sets_front steps zs room)
