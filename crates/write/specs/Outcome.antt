-- How the writing of a list of steps ends, whoever made the list: the answer, and what the work area and the output then hold.
use Rattle.std.specs.Prelude.{List, [], ◌∷◌, ◌++◌, ℕ, ltb, length, drop, replicate, Result, Ok, Err}
use Rattle.lists.specs.Choice.{pick}
use Rattle.rules.specs.Sizes.{work_for}
use Rattle.rules.specs.Refusals.{output_too_short, refusal}
use Rattle.rules.specs.declared.Refusal.{Refusal}
use Rattle.rules.specs.Paper.{Paper, accepting, refusing}
use Rattle.write.specs.Written.{image_for}
use Rattle.write.specs.declared.Counted.{Counted}

-- the values of an answer: the number of steps, the length of the image
abbrev pub values : ℕ
values = 2

-- the numbers of each case
abbrev pub paper_of : Result Counted Refusal → Paper
paper_of (Ok c) = accepting (c.steps ∷ c.bytes ∷ [])
paper_of (Err r) = refusing values r

-- refused before anything was stored, or with a list of steps, for whose image the output has no room or has room
pub data Outcome : Type 0 where
  stopped : Refusal → Outcome
  unplaced : List ℕ → Outcome
  placed : List ℕ → Outcome

-- a list for which there is work enough ends by the room for its shortest image
abbrev pub placing : List ℕ → ℕ → Outcome
placing xs out = pick (ltb out (length (image_for xs))) (unplaced xs) (placed xs)

-- the answer: 15 is at the bytes needed, the length of the shortest image
abbrev pub answer : Outcome → Paper
answer (stopped r) = refusing values r
answer (unplaced xs) = refusing values (refusal output_too_short (length (image_for xs)))
answer (placed xs) = accepting (length xs ∷ length (image_for xs) ∷ [])

-- the work area: its first 16 · (n + 1) numbers are 0 after acceptance and after 15, and it is unchanged after any other refusal
abbrev pub work_after : List ℕ → Outcome → List ℕ
work_after work (stopped r) = work
work_after work (unplaced xs) = replicate (work_for (length xs)) 0 ++ drop (work_for (length xs)) work
work_after work (placed xs) = replicate (work_for (length xs)) 0 ++ drop (work_for (length xs)) work

-- the output: the shortest image at its front after acceptance, and unchanged after a refusal
abbrev pub out_after : List ℕ → Outcome → List ℕ
out_after out (stopped r) = out
out_after out (unplaced xs) = out
out_after out (placed xs) = image_for xs ++ drop (length (image_for xs)) out
