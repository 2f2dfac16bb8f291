-- The definitions of the byte code, open: for this crate's own laws and for worked examples, and for nothing else.
use Rattle.std.specs.Prelude.{List, [], ◌∷◌, ℕ, zero, suc, ◌+◌, ◌-◌, ◌*◌, ◌/◌, ◌%◌, ltb, eqb, length, drop, Result, Ok, Err}
use Rattle.lists.specs.Choice.{pick}
use Rattle.code.specs.declared.Flaw.{Flaw}
use Rattle.code.specs.declared.Flaw.TheVariants.{Padded, Long, Cut}
use Rattle.code.specs.declared.Reading.{Reading}

-- the values of a group of seven bits, of two groups and of three
abbrev pub one_group : ℕ
one_group = 128

abbrev pub two_groups : ℕ
two_groups = 16384

abbrev pub three_groups : ℕ
three_groups = 2097152

-- the numbers below have a code: four groups
abbrev pub code_values : ℕ
code_values = 268435456

-- the high bit of a byte
abbrev pub flag : ℕ
flag = 128

-- one byte below 128, two below 16,384, three below 2,097,152, else four: the highest group first, each byte but the last with the flag
unfoldable pub code_of : ℕ → List ℕ
code_of x =
    pick (ltb x one_group) (x ∷ [])
    (pick (ltb x two_groups) ((x / one_group + flag) ∷ (x % one_group) ∷ [])
    (pick (ltb x three_groups) ((x / two_groups + flag) ∷ (x / one_group % one_group + flag) ∷ (x % one_group) ∷ [])
    ((x / three_groups + flag) ∷ (x / two_groups % one_group + flag) ∷ (x / one_group % one_group + flag) ∷ (x % one_group) ∷ [])))

-- how many bytes a code has
unfoldable pub code_size : ℕ → ℕ
code_size x = length (code_of x)

-- a value with the place after its code
abbrev pub reading : ℕ → ℕ → Reading
reading x n = record { value = x; next = n }

-- the groups so far are worth `h`: a byte without the flag ends the code, after one with it as many as `k` more may follow
unfoldable pub more : ℕ → ℕ → ℕ → List ℕ → Result Reading Flaw
more k at h [] = Err Cut
more zero at h (b ∷ t) = pick (ltb b flag) (Ok (reading (h * one_group + b) (at + 1))) (Err Long)
more (suc k) at h (b ∷ t) = pick (ltb b flag) (Ok (reading (h * one_group + b) (at + 1))) (more k (at + 1) (h * one_group + (b - flag)) t)

-- a code does not start with 80 hex, the flag alone, and has no fifth byte
unfoldable pub first : ℕ → List ℕ → Result Reading Flaw
first at [] = Err Cut
first at (b ∷ t) = pick (eqb b flag) (Err Padded) (more 3 at 0 (b ∷ t))

-- what stands at a place: a value with the place after its code, or why there is none
unfoldable pub read_at : List ℕ → ℕ → Result Reading Flaw
read_at s at = first at (drop at s)
