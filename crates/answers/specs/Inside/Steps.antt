-- The answers that give no step, whichever their refusal is.
use Rattle.std.specs.Prelude.{ℕ}
use Rattle.answers.specs.declared.Refusal.{Refusal}
use Rattle.answers.specs.declared.First.{First}
use Rattle.answers.specs.declared.Moved.{Moved}

-- the answer to a bound where no step is found
abbrev pub unfound : Refusal → First
unfound r = record { refusal = r; found = 0; step = 0; rank = 0 }

-- the answer of a move where no step is given
abbrev pub unmoved : Refusal → ℕ → Moved
unmoved r k = record { refusal = r; found = 0; step = 0; cursor = record { rank = k } }
