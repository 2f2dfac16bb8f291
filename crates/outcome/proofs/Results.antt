-- How a result ends, by the tests that lead there.
-- Assumes nothing.
use mathlib.Core.Path.{◌≡◌, refl, sym, ap, ◌∙◌, subst}
use mathlib.Core.List.{List}
use Prim.Native.Nat.{ℕ, ◌≤◌, ◌<◌}
use native.Mathlib.Omega.{arith}
use borrow.Author.Tests.{lt-ltb, le-ltb}
use lib.Dec.{ltb}
use lib.ListN.{length}
use Rattle.std.specs.Prelude.{Result, Ok, Err, ⊤}
use Rattle.lists.proofs.Choice.{by_lt, either_way}
use Rattle.rules.specs.Limits.{most_steps}
use Rattle.rules.specs.Sizes.{work_for}
use Rattle.rules.specs.Refusals.{too_many_steps, steps_too_short, work_too_short, refusal}
use Rattle.rules.specs.declared.Refusal.{Refusal}
use Rattle.write.specs.Written.{image_for}
use Rattle.write.specs.Outcome.{Outcome, stopped, unplaced, placed, placing, answer}
use Rattle.outcome.specs.Result.{room_of, Roomy, on_room, of_result}

-- ---- the room for a result

module _ (n steps work : ℕ) where
  pub room_many : most_steps < n → room_of n steps work ≡ Err (refusal too_many_steps 0)
  room_many h = rw (lt-ltb most_steps n h)

  pub room_steps : n ≤ most_steps → steps < n → room_of n steps work ≡ Err (refusal steps_too_short n)
  room_steps few h = rw (le-ltb most_steps n few, lt-ltb steps n h)

  pub room_work : n ≤ most_steps → n ≤ steps → work < work_for n → room_of n steps work ≡ Err (refusal work_too_short (work_for n))
  room_work few s h = rw (le-ltb most_steps n few, le-ltb steps n s, lt-ltb work (work_for n) h)

  pub room_enough : Roomy n steps work → room_of n steps work ≡ Ok tt
  room_enough r =
      rw (le-ltb most_steps n r.few, le-ltb steps n r.steps_room, le-ltb work (work_for n) r.work_room)

-- whether there is room
abbrev Is : Result ⊤ Refusal → Type 0
Is (Ok u) = Unit {0}
Is (Err r) = ⊥

-- WHERE THE TEST SAYS SO THERE IS ROOM
pub enough_Roomy : {n steps work : ℕ} → room_of n steps work ≡ Ok tt → Roomy n steps work
enough_Roomy {n} {steps} {work} e =
    by_lt most_steps n (λ h. never (room_many n steps work h))
    (λ few. by_lt steps n (λ h. never (room_steps n steps work few h))
    (λ s. by_lt work (work_for n) (λ h. never (room_work n steps work few s h))
    (λ w. record { few = few; steps_room = s; work_room = w })))
  where
    never : {X : Type 0} {r : Refusal} → room_of n steps work ≡ Err r → X
    never q = absurd (subst Is (sym e ∙ q) tt)

-- a refusal has a number
abbrev pub NamedRoom : Result ⊤ Refusal → Type 0
NamedRoom (Ok u) = Unit {0}
NamedRoom (Err r) = 0 < r.number

pub room_named : (n steps work : ℕ) → NamedRoom (room_of n steps work)
room_named n steps work =
    either_way NamedRoom (ltb most_steps n) (omega arith)
    (either_way NamedRoom (ltb steps n) (omega arith) (either_way NamedRoom (ltb work (work_for n)) (omega arith) tt))

-- ---- how the result `zs` ends

module _ (zs : List ℕ) (steps work out : ℕ) where
  pub result_stopped : {n : ℕ} {r : Refusal} → n ≡ length zs → room_of n steps work ≡ Err r → of_result zs steps work out ≡ stopped r
  result_stopped c e =
      ap (λ (k : ℕ). on_room (room_of k steps work) zs out) (sym c) ∙ ap (λ (m : Result ⊤ Refusal). on_room m zs out) e

  module _ (r : Roomy (length zs) steps work) where
    pub result_roomy : of_result zs steps work out ≡ placing zs out
    result_roomy = ap (λ (m : Result ⊤ Refusal). on_room m zs out) (room_enough (length zs) steps work r)

    pub result_unplaced : out < length (image_for zs) → of_result zs steps work out ≡ unplaced zs
    result_unplaced h = result_roomy ∙ rw (lt-ltb out (length (image_for zs)) h)

    pub result_placed : length (image_for zs) ≤ out → of_result zs steps work out ≡ placed zs
    result_placed h = result_roomy ∙ rw (le-ltb out (length (image_for zs)) h)

-- a result for which there was room, in the output too
pub record Placed (zs : List ℕ) (steps work out : ℕ) : Type 0 where
  pub room : Roomy (length zs) steps work
  pub out_room : length (image_for zs) ≤ out
  pub is : of_result zs steps work out ≡ placed zs

-- THERE WAS ROOM WHERE THE ANSWER ACCEPTS
pub accepted_placed : (zs : List ℕ) (steps work out : ℕ) → (answer (of_result zs steps work out)).accepted ≡ 1 → Placed zs steps work out
accepted_placed zs steps work out a = by (room_of (length zs) steps work) refl
  where
    at : {o : Outcome} → of_result zs steps work out ≡ o → (answer o).accepted ≡ 1
    at e = subst (λ (o : Outcome). (answer o).accepted ≡ 1) e a

    refuses : {X : Type 0} → ◌≡◌ {A = ℕ} 0 1 → X
    refuses z = absurd (omega (arith, z))

    by : (m : Result ⊤ Refusal) → room_of (length zs) steps work ≡ m → Placed zs steps work out
    by (Err r) e = refuses (at (result_stopped zs steps work out refl e))
    by (Ok u) e =
        let r = enough_Roomy e in
        by_lt out (length (image_for zs)) (λ h. refuses (at (result_unplaced zs steps work out r h)))
        (λ h. record { room = r; out_room = h; is = result_placed zs steps work out r h })
