-- The clock of a step, and what is promised of it.
use Rattle.std.specs.Prelude.{[], ◌∷◌, ℕ, ◌+◌, ◌*◌, ◌/◌, ◌%◌, ltb, Ok, Err, Result}
use Rattle.lists.specs.Choice.{pick}
use Rattle.rules.specs.Refusals.{not_in_the_year, refusal}
use Rattle.rules.specs.Paper.{Paper, accepting, refusing}
use Rattle.rules.specs.declared.Refusal.{Refusal}
use Rattle.clock.specs.declared.Time.{Time}

-- the values of an answer: day, hour, minute
abbrev pub values : ℕ
values = 3

-- the numbers of each case
abbrev pub paper_of : Result Time Refusal → Paper
paper_of (Ok t) = accepting (t.day ∷ t.hour ∷ t.minute ∷ [])
paper_of (Err r) = refusing values r

-- the steps of a day and of an hour, the minutes of a step, the days of a year
abbrev pub day_steps : ℕ
day_steps = 240

abbrev pub hour_steps : ℕ
hour_steps = 10

abbrev pub step_minutes : ℕ
step_minutes = 6

abbrev pub year_days : ℕ
year_days = 365

-- step s is day s div 240 + 1, hour (s mod 240) div 10, minute (s mod 10) · 6
abbrev pub time_of : ℕ → Paper
time_of s = accepting ((s / day_steps + 1) ∷ (s % day_steps / hour_steps) ∷ (s % hour_steps * step_minutes) ∷ [])

-- the time of a step of the year; a step after the year's last is refused at 0
abbrev pub promised : ℕ → Paper
promised s = pick (ltb s (day_steps * year_days)) (time_of s) (refusing values (refusal not_in_the_year 0))
