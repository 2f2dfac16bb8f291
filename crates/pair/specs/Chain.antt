-- Chains of operations on accepted images: the set that a chain means, and the bytes that it ends in.
use Rattle.std.specs.Prelude.{◌≡◌, Bool, List, ℕ, ◌≤◌, length}
use Rattle.lists.specs.Members.{has}
use Rattle.rules.specs.Limits.{most_steps}
use Rattle.image.specs.Grammar.{Accepted}
use Rattle.write.specs.Written.{Written}
use Rattle.pair_operation.specs.declared.Operation.{Operation}
use Rattle.pair_operation.specs.Result.{keeps, result_of}

-- a thing is an accepted image of a list, or what an operation makes of two things; what is made is a chain
pub data Thing : Type 0 where
  given : (image xs : List ℕ) → Accepted image xs → Thing
  made : Operation → Thing → Thing → Thing

-- the set that a thing means: whether a step is in it
abbrev pub means : Thing → ℕ → Bool
means (given image xs a) z = has z xs
means (made op t u) z = keeps op (means t z) (means u z)

-- one link, on the accepted images `c` and `d`, is not refused: the result has no more steps than a list may have, and `b` is what writing it
-- gives
pub record Link (op : Operation) (c d b : List ℕ) : Type 0 where
  pub first : List ℕ
  pub second : List ℕ
  pub first_accepted : Accepted c first
  pub second_accepted : Accepted d second
  pub few : length (result_of op first second) ≤ most_steps
  pub written : Written (result_of op first second) b

-- a thing ends in the bytes `b`, with no link refused
abbrev pub Ends : Thing → List ℕ → Type 0
Ends (given image xs a) b = image ≡ b
Ends (made op t u) b = (c : List ℕ) × (d : List ℕ) × Ends t c × Ends u d × Link op c d b
