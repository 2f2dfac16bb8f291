-- What four bytes at a place of the payload say, where each is a code by itself.
use Rattle.std.specs.Prelude.{◌≡◌, List, ℕ, ◌+◌, ◌*◌, ◌≤◌, ◌<◌, length, Ok}
use Rattle.lists.specs.Parts.{part}
use Rattle.lists.specs.Bytes.{byte_values}
use Rattle.code.specs.Code.{one_group, reading, read_at}

-- codes of one byte that are read at once
abbrev pub at_once : ℕ
at_once = 4

-- the number whose so many bytes are 1
abbrev pub ones : ℕ
ones = 1 + byte_values * (1 + byte_values * (1 + byte_values))

-- the four bytes of a number are codes of one byte
abbrev pub Plain : ℕ → Type 0
Plain number =
    (a b c d : ℕ) → a < byte_values → b < byte_values → c < byte_values → d < byte_values
    → number ≡ a + byte_values * (b + byte_values * (c + byte_values * d))
    → (a < one_group) × ((b < one_group) × ((c < one_group) × (d < one_group)))

-- a code of one byte stands at `at`, in any part that goes on there, and the step of the next is `stride` more
pub record Leads (pay : List ℕ) (at stride : ℕ) : Type 0 where
  pub gap : ℕ
  pub small : gap < one_group
  pub is : stride ≡ gap + 1
  pub reads : (end : ℕ) → at < end → end ≤ length pay → read_at (part pay at end) 0 ≡ Ok (reading gap 1)

-- four of them, one after the other
pub record Leading (pay : List ℕ) (at first second third fourth : ℕ) : Type 0 where
  pub one : Leads pay at first
  pub two : Leads pay (at + 1) second
  pub three : Leads pay (at + 2) third
  pub four : Leads pay (at + 3) fourth
