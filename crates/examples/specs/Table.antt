-- Document 01's examples that are marked *, in its order: what is asked, and what the answer is.
use Rattle.std.specs.Prelude.{List, [], ◌∷◌, ◌++◌, ℕ, length, replicate}
use Rattle.rules.specs.Refusals.{too_few_bytes, bytes_left_over, bad_code, bad_row, output_too_short}
use Rattle.code.specs.Code.{code_of}
use Rattle.image.specs.Verdict as verdicts
use Rattle.write.specs.Written.{image_for}
use Rattle.write.specs.Outcome as outcomes
use Rattle.write.specs.Promise as writing
use Rattle.pair_operation.specs.declared.Operation.{Operation}
use Rattle.pair_operation.specs.declared.Operation.TheVariants.{Both, Without}
use Rattle.pair.specs.Promise as pairs

-- ---- questions and answers

-- what is the code of a number; what writing a list gives; what some bytes are; what an operation on two images gives
pub data Question : Type 0 where
  code : ℕ → Question
  write : List ℕ → Question
  check : List ℕ → Question
  pair : Operation → List ℕ → List ℕ → Question

-- a code; an image, with how many bytes it has; the steps of an image that is accepted; a refusal's number, side and place
pub data Answer : Type 0 where
  code_bytes : List ℕ → Answer
  image_bytes : ℕ → List ℕ → Answer
  steps : List ℕ → Answer
  refused : ℕ → ℕ → ℕ → Answer

abbrev pub image_answer : List ℕ → Answer
image_answer b = image_bytes (length b) b

abbrev pub verdict_answer : verdicts.Verdict → Answer
verdict_answer (verdicts.taken xs) = steps xs
verdict_answer (verdicts.refused r) = refused r.number r.side r.place

abbrev pub outcome_answer : outcomes.Outcome → Answer
outcome_answer (outcomes.stopped r) = refused r.number r.side r.place
outcome_answer (outcomes.unplaced zs) = refused output_too_short 0 (length (image_for zs))
outcome_answer (outcomes.placed zs) = image_answer (image_for zs)

-- the places of each buffer that is lent: as many as the examples need, and more
abbrev pub room : ℕ
room = 100

-- what the definitions answer
abbrev pub answer_to : Question → Answer
answer_to (code x) = code_bytes (code_of x)
answer_to (write xs) = outcome_answer (writing.outcome xs room room)
answer_to (check b) = verdict_answer (verdicts.verdict b)
answer_to (pair op b c) = outcome_answer (pairs.outcome op b c room room room)

-- ---- images of one block, byte by byte

-- four bytes of a number below 256
abbrev pub four : ℕ → List ℕ
four x = x ∷ 0 ∷ 0 ∷ 0 ∷ []

-- one block: kind, last step in four bytes, number of steps, payload
abbrev pub one_block : ℕ → List ℕ → ℕ → List ℕ → List ℕ
one_block kind last n payload =
    four 1 ++ ((kind ∷ []) ++ (last ++ (four n ++ (four (length payload) ++ (four (length payload) ++ payload)))))

abbrev pub in_codes : List ℕ → ℕ → List ℕ → List ℕ
in_codes = one_block 0

abbrev pub in_row : List ℕ → ℕ → List ℕ → List ℕ
in_row = one_block 1

-- ---- the table

abbrev pub table : List (Question × Answer)
table =
    (code 127, code_bytes (0x7f ∷ []))
    ∷ (code 128, code_bytes (0x81 ∷ 0x00 ∷ []))
    ∷ (code 16384, code_bytes (0x81 ∷ 0x80 ∷ 0x00 ∷ []))
    ∷ (code 65790, code_bytes (0x84 ∷ 0x81 ∷ 0x7e ∷ []))
    -- the empty list
    ∷ (write [], image_bytes 8 (replicate 8 0))
    ∷ (check (replicate 8 0), steps [])
    ∷ (check (replicate 7 0), refused too_few_bytes 0 0)
    ∷ (check (replicate 9 0), refused bytes_left_over 0 0)
    -- [0]
    ∷ (write (0 ∷ []), image_bytes 22 (in_codes (four 0) 1 (0x00 ∷ [])))
    ∷ (check (in_row (four 0) 1 (0x01 ∷ [])), steps (0 ∷ []))
    ∷ (pair Both (in_row (four 0) 1 (0x01 ∷ [])) (in_row (four 0) 1 (0x01 ∷ [])), image_bytes 22 (in_codes (four 0) 1 (0x00 ∷ [])))
    ∷ (check (in_row (four 0) 1 (0x03 ∷ [])), refused bad_row 0 0)
    ∷ (check (in_codes (four 0) 1 (0x80 ∷ 0x00 ∷ [])), refused bad_code 0 0)
    -- [0, 7], and [0, 8], whose row has as many bytes
    ∷ (write (0 ∷ 7 ∷ []), image_bytes 22 (in_row (four 7) 2 (0x81 ∷ [])))
    ∷ (write (0 ∷ 8 ∷ []), image_bytes 23 (in_codes (four 8) 2 (0x00 ∷ 0x07 ∷ [])))
    ∷ (check (in_row (four 8) 2 (0x01 ∷ 0x01 ∷ [])), steps (0 ∷ 8 ∷ []))
    -- [1, 2, 3, 4, 5], and without [2]
    ∷ (write (1 ∷ 2 ∷ 3 ∷ 4 ∷ 5 ∷ []), image_bytes 22 (in_row (four 5) 5 (0x3e ∷ [])))
    ∷ (pair Without (in_row (four 5) 5 (0x3e ∷ [])) (in_codes (four 2) 1 (0x02 ∷ [])), image_bytes 22 (in_row (four 5) 4 (0x3a ∷ [])))
    ∷ (
      write (127 ∷ 254 ∷ 318 ∷ 408 ∷ 533 ∷ []),
      image_bytes 26 (in_codes (0x15 ∷ 0x02 ∷ 0x00 ∷ 0x00 ∷ []) 5 (0x7f ∷ 0x7e ∷ 0x3f ∷ 0x59 ∷ 0x7c ∷ [])),
    )
    ∷ []

-- ---- its two columns

-- what the definitions answer, question by question
abbrev pub computed : List (Question × Answer) → List Answer
computed [] = []
computed (r ∷ rs) = answer_to r.0 ∷ computed rs

-- what document 01 says
abbrev pub stated : List (Question × Answer) → List Answer
stated [] = []
stated (r ∷ rs) = r.1 ∷ stated rs
