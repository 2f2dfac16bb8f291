-- The contract of each exported function decides its outcome: the answer, with each lent buffer afterwards.
-- Assumes nothing.
use mathlib.Core.Path.{◌≡◌, sym, ◌∙◌}
use mathlib.Core.List.{List}
use Prim.Native.Nat.{ℕ}
use Rattle.pair_operation.specs.declared.Operation.{Operation}
use Rattle.huttaralu.specs.Says as says

-- a contract that says the outcome by a function of what was lent allows no two
abbrev pub Decides : {I O : Type 0} → (I → O) → Type 0
Decides {I} {O} f = (i : I) (a b : O) → a ≡ f i → b ≡ f i → a ≡ b

decides : {I O : Type 0} (f : I → O) → Decides f
decides f i a b p q = p ∙ sym q

-- TWO OUTCOMES THAT A CONTRACT ALLOWS ARE EQUAL
pub check-Decides : Decides says.check
check-Decides = decides says.check

pub read-Decides : (image : List ℕ) → Decides (says.read image)
read-Decides image = decides (says.read image)

pub write-Decides : (list work : List ℕ) → Decides (says.write list work)
write-Decides list work = decides (says.write list work)

pub rank-Decides : (image : List ℕ) → Decides (says.rank image)
rank-Decides image = decides (says.rank image)

pub first_at-Decides : (image : List ℕ) → Decides (says.first_at image)
first_at-Decides image = decides (says.first_at image)

pub start-Decides : Decides says.start
start-Decides = decides says.start

pub next-Decides : (at : ℕ) → Decides (says.next at)
next-Decides at = decides (says.next at)

pub skip-Decides : (at : ℕ) (image : List ℕ) → Decides (says.skip at image)
skip-Decides at image = decides (says.skip at image)

-- both, either and first-without-second
pub pair-Decides : (op : Operation) (first second steps work : List ℕ) → Decides (says.pair op first second steps work)
pair-Decides op first second steps work = decides (says.pair op first second steps work)

pub clock_of-Decides : Decides says.clock_of
clock_of-Decides = decides says.clock_of
