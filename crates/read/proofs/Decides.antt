-- The promises of `check` and `read` decide: the answer, and what the buffer then holds.
-- Assumes nothing.
use mathlib.Core.Path.{◌≡◌, sym, ap, ◌∙◌}
use mathlib.Core.List.{List}
use Prim.Native.Nat.{ℕ}
use lib.ListN.{get_or}
use Rattle.std.specs.Prelude.{Result, Ok, Err}
use Rattle.rules.proofs.Paper.{paper_apart, paper_values, paper_refusal}
use Rattle.rules.specs.declared.Refusal.{Refusal}
use Rattle.read.specs.Read.{values, paper_of, check_promise, read_promise, read_steps}

-- an answer is known by document 01's numbers
pub paper_one : (a b : Result ℕ Refusal) → paper_of a ≡ paper_of b → a ≡ b
paper_one (Ok m) (Ok n) e = ap (λ (l : List ℕ). Ok (get_or l 0 0)) (paper_values e)
paper_one (Ok m) (Err r) e = paper_apart values e
paper_one (Err r) (Ok n) e = paper_apart values (sym e)
paper_one (Err r) (Err s) e = ap Err (paper_refusal values e)

-- TWO ANSWERS OF A CHECK THAT THE PROMISE ALLOWS ARE EQUAL
pub check-Decides : (s : List ℕ) (a b : Result ℕ Refusal) → paper_of a ≡ check_promise s → paper_of b ≡ check_promise s → a ≡ b
check-Decides s a b p q = paper_one a b (p ∙ sym q)

-- AND SO ARE TWO OUTCOMES OF READING BACK: answer and buffer
pub read-Decides : (s buffer : List ℕ) (a b : Result ℕ Refusal) (after other : List ℕ)
    → (paper_of a ≡ read_promise s buffer) × (after ≡ read_steps s buffer) → (paper_of b ≡ read_promise s buffer) × (other ≡ read_steps s buffer)
    → (a ≡ b) × (after ≡ other)
read-Decides s buffer a b after other p q = (paper_one a b (p.0 ∙ sym q.0), p.1 ∙ sym q.1)
