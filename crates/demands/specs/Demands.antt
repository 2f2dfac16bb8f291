-- What the library owes: document 01's three demands, each in terms of the promises that the public functions keep.
use Rattle.std.specs.Prelude.{◌≡◌, ◌↔◌, List, ℕ, ◌≤◌, length, Ok}
use Rattle.lists.specs.Bytes.{Bytes}
use Rattle.lists.specs.Members.{has}
use Rattle.image.specs.Grammar.{Accepted}
use Rattle.pair_operation.specs.declared.Operation.{Operation}
use Rattle.pair_operation.specs.Result.{keeps}
use Rattle.pair.specs.Chain.{Thing, made, means, Link, Ends}
use Rattle.demands.specs.Promises.{Check, Wrote, Made}
use Rattle.demands.specs.Inputs.{OneOutcome, ImageWhere, AcceptedExactly, BuffersKept}
use Rattle.demands.specs.Plain.{Answers, Shortest}

-- THE FIRST DEMAND. The library takes every byte string, list and number. Bad input is refused by the number and place of document 01's
-- table, nothing else is refused, and each refusal fixes what every lent buffer then holds.
pub record EveryInput : Type 0 where
  -- each input has one outcome: an answer with its numbers, and every lent buffer
  pub settled : OneOutcome
  -- what each function accepts, so that it refuses everything else and nothing but that
  pub accepted : AcceptedExactly
  -- what a refusal leaves alone
  pub kept : BuffersKept

-- THE SECOND DEMAND. An image is accepted exactly when it reads as a list by the rules; its steps, the step at a rank and the first step at or
-- after a bound are those of the plain list. Writing gives the shortest image that any cut can have, ties by the stated rule, and reading it
-- returns the list.
pub record PlainLists : Type 0 where
  -- `check` accepts the images of lists, each with its number of steps, and nothing else; an image has one list
  pub accepted : {s : List ℕ} → Bytes s → (n : ℕ) → Check s (Ok n) ↔ ImageWhere s (λ xs. length xs ≡ n)
  pub one_list : {s xs ys : List ℕ} → Accepted s xs → Accepted s ys → xs ≡ ys
  -- every question is answered as the list answers it
  pub answers : {s xs : List ℕ} → Accepted s xs → Answers s xs
  -- what is written is the shortest image, and it is read back as the list
  pub written : {xs b : List ℕ} → Wrote xs b → Shortest xs b × Accepted b xs × Answers b xs

-- THE THIRD DEMAND. Both, either, and first-without-second of two accepted images give the image that writing that set would give, however
-- the two were cut; so chains that mean the same set end in identical bytes, and no accepted image of the set is shorter.
pub record PlainSets : Type 0 where
  -- an operation leaves the bytes that writing the set leaves
  pub writes : (op : Operation) {one two xs ys : List ℕ} → Accepted one xs → Accepted two ys
      → {zs b c : List ℕ} → ((z : ℕ) → has z zs ≡ keeps op (has z xs) (has z ys)) → Made op one two b → Wrote zs c
      → b ≡ c
  -- so it is a link of a chain, whatever images it was given
  pub links : (op : Operation) {one two xs ys : List ℕ} → Accepted one xs → Accepted two ys → {b : List ℕ} → Made op one two b
      → Link op one two b
  -- what a chain ends in is what writing the set that it means leaves
  pub chain_writes : (op : Operation) (t u : Thing) {b : List ℕ} → Ends (made op t u) b
      → {zs c : List ℕ} → ((z : ℕ) → has z zs ≡ means (made op t u) z) → Wrote zs c
      → b ≡ c
  -- chains that mean the same set end in the same bytes
  pub same : (op : Operation) (t u : Thing) (op' : Operation) (t' u' : Thing) {b c : List ℕ}
      → Ends (made op t u) b → Ends (made op' t' u') c → ((z : ℕ) → means (made op t u) z ≡ means (made op' t' u') z)
      → b ≡ c
  -- and no accepted image of that set is shorter
  pub least : (op : Operation) (t u : Thing) {b : List ℕ} → Ends (made op t u) b
      → {c xs : List ℕ} → Accepted c xs → ((z : ℕ) → has z xs ≡ means (made op t u) z)
      → length b ≤ length c
