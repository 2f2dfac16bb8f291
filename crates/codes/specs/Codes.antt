-- A block of codes: for each step the code of its gap. This goes by the laws of the byte code alone.
use Rattle.std.specs.Prelude.{◌≡◌, List, [], ◌∷◌, ◌++◌, ℕ, zero, suc, ◌+◌, ◌-◌, ◌^◌, ◌≤◌, ◌<◌, length, Result, Ok, Err}
use Rattle.lists.specs.Rising.{beyond}
use Rattle.lists.specs.Gaps.{gaps, from_gaps}
use Rattle.code.specs.declared.Flaw.{Flaw}
use Rattle.code.specs.declared.Reading.{Reading}
use Rattle.code.specs.Code.{code_values, code_of, read_at}
use Rattle.codes.specs.declared.Tally.{Tally}
use Rattle.codes.specs.declared.Wrong.{Wrong}

-- what a run of codes stands for: all of its values, or why and where the first code that fails
pub data Values : Type 0 where
  all : List ℕ → Values
  bad : Flaw → ℕ → Values

-- a value before the others
abbrev pub on_top : ℕ → Values → Values
on_top x (all xs) = all (x ∷ xs)
on_top x (bad w n) = bad w n

-- what was read at `at` is a code or fails; `rest` goes on with the bytes of it that are still to be passed
unfoldable pub after : Result Reading Flaw → ℕ → (ℕ → Values) → Values
after (Ok c) at rest = on_top c.value (rest (c.next - suc at))
after (Err w) at rest = bad w at

-- `k` bytes are left, of which the first `j` are a code's that was read already
unfoldable pub run : ℕ → ℕ → List ℕ → ℕ → Values
run zero j s at = all []
run (suc k) zero s at = after (read_at s at) at (λ j. run k j s (suc at))
run (suc k) (suc j) s at = run k j s (suc at)

-- the values of the codes from a place to the end, one after the other
unfoldable pub values_from : List ℕ → ℕ → Values
values_from s at = run (length s - at) zero s at

-- the codes of a list of values
abbrev pub codes_of : List ℕ → List ℕ
codes_of [] = []
codes_of (x ∷ xs) = code_of x ++ codes_of xs

-- each value has a code
abbrev pub Small : List ℕ → Type 0
Small [] = Unit {0}
Small (x ∷ xs) = (x < code_values) × Small xs

-- the codes of the steps of a list that begins at `o` at the earliest
unfoldable pub codes_for : ℕ → List ℕ → List ℕ
codes_for o xs = codes_of (gaps o xs)

-- the steps for values that are gaps
abbrev pub as_steps : ℕ → Values → Values
as_steps o (all vs) = all (from_gaps o vs)
as_steps o (bad w n) = bad w n

-- the steps of the codes of a block from a place on, where the first step is at least `o`
abbrev pub steps_from : ℕ → List ℕ → ℕ → Values
steps_from o part at = as_steps o (values_from part at)

-- the list, where a block has one
abbrev pub list_of : Values → List ℕ
list_of (all xs) = xs
list_of (bad w n) = []

-- so many steps, and one past the last of them
abbrev pub tally : ℕ → ℕ → Tally
tally count next = record { count = count; next = next }

-- why a code fails, and where
abbrev pub wrong : Flaw → ℕ → Wrong
wrong w n = record { flaw = w; at = n }

-- how many steps were found and one past the last of them, after `c` steps that end before `o`
abbrev pub tally_of : ℕ → ℕ → Values → Result Tally Wrong
tally_of c o (all xs) = Ok (tally (c + length xs) (beyond o xs))
tally_of c o (bad w n) = Err (wrong w n)

-- a block whose codes are all good, with steps that fit 32 bits
pub record Sound (o : ℕ) (v : Values) : Type 0 where
  pub whole : v ≡ all (list_of v)
  pub small : beyond o (list_of v) ≤ 2 ^ 32
