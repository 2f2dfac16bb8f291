-- A group: four bits of a word, whose ones are looked up at once in a table and stored in four places, whatever their number is.
use Rattle.std.specs.Prelude.{◌≡◌, List, [], ◌∷◌, ◌++◌, ℕ, ◌+◌, ◌≤◌, length, drop}
use Rattle.std.proofs.lemmas.List.Edits.{sets}
use Rattle.row.specs.Row.{bits_from}

-- the bits of a group
abbrev pub group_bits : ℕ
group_bits = 4

-- the values of a group
abbrev pub group_values : ℕ
group_values = 16

-- the places that a group has, and those of them that the table has after `c` others
abbrev pub four_places : List ℕ
four_places = 0 ∷ 1 ∷ 2 ∷ 3 ∷ []

abbrev pub other_places : ℕ → List ℕ
other_places c = drop c four_places

-- the places of the ones of a group, the lowest first, and then others up to four
abbrev pub places_of : ℕ → List ℕ
places_of v = bits_from group_bits 0 v ++ other_places (length (bits_from group_bits 0 v))

-- `vs` was stored from `at` on, and the four places after it may have changed: whoever stores so many numbers there does not see it
abbrev pub Loose : List ℕ → ℕ → List ℕ → List ℕ → Type 0
Loose l at vs l' = (rest : List ℕ) → group_bits ≤ length rest → sets l' (at + length vs) rest ≡ sets l at (vs ++ rest)

-- that, and `next` is the place after `vs`
pub record PutsLoose (l : List ℕ) (at : ℕ) (vs l' : List ℕ) (next : ℕ) : Type 0 where
  pub place : next ≡ at + length vs
  pub loose : Loose l at vs l'
