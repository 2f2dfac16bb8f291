-- What an answer says in document 01's numbers, whichever enum holds it.
use Rattle.std.specs.Prelude.{List, ℕ, replicate}
use Rattle.rules.specs.declared.Refusal.{Refusal}

-- whether it accepts (1, else 0); number, side and place of the refusal; and the answer's values in the order in which document 01 names
-- them
pub record Paper : Type 0 where
  pub accepted : ℕ
  pub number : ℕ
  pub side : ℕ
  pub place : ℕ
  pub values : List ℕ

-- acceptance: these values, and no number of a refusal
abbrev pub accepting : List ℕ → Paper
accepting vs = record { accepted = 1; number = 0; side = 0; place = 0; values = vs }

-- a refusal, and every other number is 0: the answer has `k` of them
abbrev pub refusing : ℕ → Refusal → Paper
refusing k r = record { accepted = 0; number = r.number; side = r.side; place = r.place; values = replicate k 0 }
