-- What an image that is accepted holds: its steps, its entries and its payload.
use Rattle.std.specs.Prelude.{◌≡◌, List, [], ℕ, drop}
use Rattle.rules.specs.Numbers.{number_at}
use Rattle.image.specs.declared.Entry.{Entry}
use Rattle.image.specs.Entry.{entry_place, payload_place, entries_at}
use Rattle.image.specs.Block.{Found, steps, wrong}
use Rattle.image.specs.Verdict.{Verdict, taken, refused, verdict}

-- the steps that were found in a block
abbrev pub steps_found : Found → List ℕ
steps_found (steps xs) = xs
steps_found (wrong n) = []

-- the steps of a verdict, and a verdict that takes
abbrev pub list_in : Verdict → List ℕ
list_in (taken xs) = xs
list_in (refused r) = []

abbrev pub Takes : Verdict → Type 0
Takes v = v ≡ taken (list_in v)

-- the steps of an image, and an image that is accepted
abbrev pub steps_of : List ℕ → List ℕ
steps_of s = list_in (verdict s)

abbrev pub Taken : List ℕ → Type 0
Taken s = Takes (verdict s)

-- its entries, and its payload
abbrev pub entries_in : List ℕ → List Entry
entries_in s = entries_at (number_at s 0) s (entry_place 0)

abbrev pub payload_in : List ℕ → List ℕ
payload_in s = drop (payload_place (number_at s 0)) s
