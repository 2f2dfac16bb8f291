-- One block in its own part of the payload: the number of its refusal, its steps where it has none, and what is asked of it.
use Rattle.std.specs.Prelude.{◌≡◌, List, ℕ, ◌-◌, ◌^◌, ◌≤◌, ◌<◌, length, get_or}
use Rattle.lists.specs.Below.{below}
use Rattle.rules.specs.Limits.{largest_step}
use Rattle.image.specs.declared.Entry.{Entry}
use Rattle.image.specs.declared.Before.{Before}
use Rattle.image.specs.Block.{Found, steps, wrong, block_of}
use Rattle.image.specs.Taken.{steps_found}

-- the steps of the block of an entry, after `b`, in its part of the payload
abbrev pub steps_in : Before → Entry → List ℕ → List ℕ
steps_in b e part = steps_found (block_of b e part)

-- the number of a block's refusal, or 0
abbrev pub number_of : Found → ℕ
number_of (steps xs) = 0
number_of (wrong n) = n

-- what the directory says of a block, and the size of its part
pub record Fitting (b : Before) (e : Entry) (part : List ℕ) : Type 0 where
  pub next : b.next ≤ e.last
  pub last : e.last ≤ largest_step
  pub upto : b.upto ≤ e.upto
  pub size : length part < 2 ^ 32

-- a block that passed its checks
pub record Sound (b : Before) (e : Entry) (part : List ℕ) : Type 0 where
  pub fits : Fitting b e part
  pub good : block_of b e part ≡ steps (steps_in b e part)

-- the first step of a block at or after x, with its index: as many steps stand before it as are below x
pub record FirstIn (b : Before) (e : Entry) (part : List ℕ) (x step index : ℕ) : Type 0 where
  pub which : index ≡ below (steps_in b e part) x
  pub is : step ≡ get_or (steps_in b e part) index 0
  pub within : index < e.upto - b.upto
  pub small : step ≤ e.last
