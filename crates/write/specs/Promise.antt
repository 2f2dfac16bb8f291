-- What writing a list promises: from the list and the lengths of the two buffers how it ends, and from that the answer and what the buffers
-- then hold.
use Rattle.std.specs.Prelude.{◌≡◌, List, ℕ, ltb, length, Result, Ok, Err, ⊤}
use Rattle.lists.specs.Choice.{pick}
use Rattle.rules.specs.Sizes.{work_for}
use Rattle.rules.specs.Refusals.{work_too_short, refusal}
use Rattle.rules.specs.declared.Refusal.{Refusal}
use Rattle.write_list.specs.Tests.{test_of}
use Rattle.write.specs.Outcome.{paper_of, Outcome, stopped, placing, answer, work_after, out_after}
use Rattle.write.specs.declared.Counted.{Counted}

-- the refusal that the tests of the list say; 14 at the numbers of work needed; then 15
abbrev pub on_tests : Result ⊤ Refusal → List ℕ → ℕ → ℕ → Outcome
on_tests (Err r) xs work out = stopped r
on_tests (Ok u) xs work out =
    pick (ltb work (work_for (length xs))) (stopped (refusal work_too_short (work_for (length xs)))) (placing xs out)

-- 13, 12, 11 by the tests of the list, and then by the lengths of the work area and the output
abbrev pub outcome : List ℕ → ℕ → ℕ → Outcome
outcome xs work out = on_tests (test_of xs) xs work out

-- the answer, and the work area and the output afterwards
pub record Promise (xs work out : List ℕ) (r : Result Counted Refusal) (work' out' : List ℕ) : Type 0 where
  pub answers : paper_of r ≡ answer (outcome xs (length work) (length out))
  pub works : work' ≡ work_after work (outcome xs (length work) (length out))
  pub outputs : out' ≡ out_after out (outcome xs (length work) (length out))
