-- What the fields of each struct hold of document 01's numbers, and back: the answer that the fields tell.
use Rattle.std.specs.Prelude.{List, [], ◌∷◌, ℕ, eqb, length, get_or}
use Rattle.lists.specs.Choice.{pick}
use Rattle.rules.specs.Paper.{Paper, accepting, refusing}
use Rattle.answers.specs.declared.Refusal.{Refusal}
use Rattle.answers.specs.declared.Counted.{Counted}
use Rattle.answers.specs.declared.Ranked.{Ranked}
use Rattle.answers.specs.declared.First.{First}
use Rattle.answers.specs.declared.Moved.{Moved}
use Rattle.answers.specs.declared.Clock.{Clock}

-- number, side and place of the refusal, all 0 where the answer accepts
abbrev pub refusal_of : Paper → Refusal
refusal_of p = record { number = p.number; side = p.side; place = p.place }

-- the value of this index, and 0 past the last
abbrev pub value : Paper → ℕ → ℕ
value p i = get_or p.values i 0

-- ---- the fields of each struct: the answer's values in their order

abbrev pub counted_of : Paper → Counted
counted_of p = record { refusal = refusal_of p; steps = value p 0; bytes = value p 1 }

abbrev pub ranked_of : Paper → Ranked
ranked_of p = record { refusal = refusal_of p; step = value p 0 }

abbrev pub first_of : Paper → First
first_of p = record { refusal = refusal_of p; found = value p 0; step = value p 1; rank = value p 2 }

abbrev pub moved_of : Paper → Moved
moved_of p = record { refusal = refusal_of p; found = value p 0; step = value p 1; cursor = record { rank = value p 2 } }

abbrev pub clocked_of : Paper → Clock
clocked_of p = record { refusal = refusal_of p; day = value p 0; hour = value p 1; minute = value p 2 }

-- ---- and back: an answer accepts exactly where the number of its refusal is 0

abbrev pub telling : Refusal → List ℕ → Paper
telling r vs =
    pick (eqb r.number 0) (accepting vs) (refusing (length vs) (record { number = r.number; side = r.side; place = r.place }))

-- a check and a reading back tell the number of steps alone
abbrev pub checked_paper : Counted → Paper
checked_paper a = telling a.refusal (a.steps ∷ [])

abbrev pub counted_paper : Counted → Paper
counted_paper a = telling a.refusal (a.steps ∷ a.bytes ∷ [])

abbrev pub ranked_paper : Ranked → Paper
ranked_paper a = telling a.refusal (a.step ∷ [])

abbrev pub first_paper : First → Paper
first_paper a = telling a.refusal (a.found ∷ a.step ∷ a.rank ∷ [])

abbrev pub moved_paper : Moved → Paper
moved_paper a = telling a.refusal (a.found ∷ a.step ∷ a.cursor.rank ∷ [])

abbrev pub clock_paper : Clock → Paper
clock_paper a = telling a.refusal (a.day ∷ a.hour ∷ a.minute ∷ [])
