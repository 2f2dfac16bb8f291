-- What an operation on two images promises: from the images and the lengths of the three buffers how it ends, and what that leaves.
use Rattle.std.specs.Prelude.{List, ℕ, length, Result}
use Rattle.rules.specs.Refusals.{on_side}
use Rattle.rules.specs.declared.Refusal.{Refusal}
use Rattle.image.specs.Verdict.{Verdict, taken, refused, verdict}
use Rattle.write.specs.Outcome.{Outcome, stopped}
use Rattle.write.specs.declared.Counted.{Counted}
use Rattle.outcome.specs.Result.{of_result, Leaves}
use Rattle.pair_operation.specs.declared.Operation.{Operation}
use Rattle.pair_operation.specs.Result.{result_of}

-- the first image's refusal with side 1; the second's with side 2; then the result's own, 13, 16, 14, 15
abbrev pub on_verdicts : Operation → Verdict → Verdict → ℕ → ℕ → ℕ → Outcome
on_verdicts op (refused r) w steps work out = stopped (on_side 1 r)
on_verdicts op (taken xs) (refused r) steps work out = stopped (on_side 2 r)
on_verdicts op (taken xs) (taken ys) steps work out = of_result (result_of op xs ys) steps work out

-- how an operation on two images ends
abbrev pub outcome : Operation → List ℕ → List ℕ → ℕ → ℕ → ℕ → Outcome
outcome op first second steps work out = on_verdicts op (verdict first) (verdict second) steps work out

-- the answer, and the three buffers afterwards
abbrev pub Promise : Operation → List ℕ → List ℕ → List ℕ → List ℕ → List ℕ → Result Counted Refusal → List ℕ → List ℕ → List ℕ → Type 0
Promise op first second steps work out r steps' work' out' =
    Leaves (outcome op first second (length steps) (length work) (length out)) steps work out r steps' work' out'
