-- The refusals of document 01's table by name, in its order, and what a refusal gives.
use Rattle.std.specs.Prelude.{ℕ}
use Rattle.rules.specs.declared.Refusal.{Refusal}

-- fewer bytes than the counts say, or too few to read them
abbrev pub too_few_bytes : ℕ
too_few_bytes = 1

-- bytes after the payload
abbrev pub bytes_left_over : ℕ
bytes_left_over = 2

-- kind above 1
abbrev pub unknown_kind : ℕ
unknown_kind = 3

-- last above the largest step, or not above "before"
abbrev pub bad_last : ℕ
bad_last = 4

-- upto not above the earlier one, or above the largest number of steps
abbrev pub bad_upto : ℕ
bad_upto = 5

-- end not above the earlier one, or above the payload's length; or the final end is not that length
abbrev pub bad_end : ℕ
bad_end = 6

-- a code starts with 80 hex, or its fourth byte has the high bit, or the block ends inside it
abbrev pub bad_code : ℕ
bad_code = 7

-- the number of steps in the block is not upto less the earlier upto
abbrev pub wrong_count : ℕ
wrong_count = 8

-- the block's last step is not the stated one
abbrev pub wrong_last : ℕ
wrong_last = 9

-- a row of the wrong length, or a 1 past the span
abbrev pub bad_row : ℕ
bad_row = 10

-- a list that is not strictly increasing
abbrev pub not_increasing : ℕ
not_increasing = 11

-- a step above the largest
abbrev pub step_too_large : ℕ
step_too_large = 12

-- more than the largest number of steps, in a list or a result
abbrev pub too_many_steps : ℕ
too_many_steps = 13

-- a work area that is too short
abbrev pub work_too_short : ℕ
work_too_short = 14

-- an output that is shorter than the image
abbrev pub output_too_short : ℕ
output_too_short = 15

-- a step buffer that is too short
abbrev pub steps_too_short : ℕ
steps_too_short = 16

-- a rank that is not below the number of steps
abbrev pub rank_too_large : ℕ
rank_too_large = 17

-- a step after the year's last, given to the clock
abbrev pub not_in_the_year : ℕ
not_in_the_year = 18

-- a cursor that is not the one its rank has in this image
abbrev pub no_such_cursor : ℕ
no_such_cursor = 19

-- a refusal that is about no image of a pair: number and place
abbrev pub refusal : ℕ → ℕ → Refusal
refusal n p = record { number = n; side = 0; place = p }

-- a refusal of an image, as one about the first or the second image of a pair
abbrev pub on_side : ℕ → Refusal → Refusal
on_side s r = record { number = r.number; side = s; place = r.place }
