-- Laws of a choice, and cases on two numbers.
-- Assumes nothing.
use mathlib.Core.Path.{◌≡◌}
use mathlib.Core.Bool.{Bool, true, false}
use mathlib.Core.Logic.{◌⊎◌, inl, inr}
use Prim.Native.Nat.{ℕ, ◌<◌, ◌≤◌}
use native.Mathlib.Omega.{arith}
use native.Mathlib.Decide.{dec_lt}
use Rattle.lists.specs.Choice.{pick}

pub pick_yes : {X : Type 0} (b : Bool) (x y : X) → b ≡ true → pick b x y ≡ x
pick_yes b x y e = rw e

pub pick_no : {X : Type 0} (b : Bool) (x y : X) → b ≡ false → pick b x y ≡ y
pick_no b x y e = rw e

-- what holds of both sides of a choice holds of the choice
pub either_way : {A : Type 0} (P : A → Type 0) (b : Bool) {x y : A} → P x → P y → P (pick b x y)
either_way P true p q = p
either_way P false p q = q

-- by whether `a` is below `b`
pub by_lt : {X : Type 0} (a b : ℕ) → (a < b → X) → (b ≤ a → X) → X
by_lt a b f g = elim (dec_lt a b) [ yes h ↦ f h | no h ↦ g (omega arith) ]

-- two numbers are in order one way, equal, or in order the other way
unfoldable pub order : (a b : ℕ) → (a < b) ⊎ (a ≡ b) ⊎ (b < a)
order a b = go (dec_lt a b) (dec_lt b a)
  where
    go : Dec (a < b) → Dec (b < a) → (a < b) ⊎ (a ≡ b) ⊎ (b < a)
    go (yes h) d = inl h
    go (no h) (yes g) = inr (inr g)
    go (no h) (no g) = inr (inl (omega arith))
