-- What bytes say of the codes that they belong to, each by itself and the three that follow it, wherever a code begins among them: what they
-- add to the codes' values, whether a code ends with them, and whether something is wrong.
use Rattle.std.specs.Prelude.{◌≡◌, List, ℕ, zero, suc, ◌+◌, ◌-◌, ◌*◌, ◌≤◌, ◌<◌, ltb, eqb, get_or}
use Rattle.lists.specs.Choice.{pick}
use Rattle.code.specs.Code.{one_group, two_groups, three_groups, code_values, flag}
use Rattle.code.specs.Flagged.{kept}

-- what a byte adds to the value of its code: its group, moved up by a group for each byte that follows in the code
unfoldable pub weight : ℕ → ℕ → ℕ → ℕ
weight a b c =
    pick (ltb a flag) a
    (pick (ltb b flag) ((a - flag) * one_group) (pick (ltb c flag) ((a - flag) * two_groups) ((a - flag) * three_groups)))

-- 1 where a code ends with the byte
unfoldable pub last : ℕ → ℕ
last a = pick (ltb a flag) 1 0

-- 1 where the code after the byte starts with 80 hex, or where the byte and the next three have the flag
unfoldable pub wrong : ℕ → ℕ → ℕ → ℕ → ℕ
wrong a b c d = pick (ltb a flag) (pick (eqb b flag) 1 0) (kept b (kept c (kept d 1)))

-- what the byte at a place adds to the value of its code, with the bytes that follow it there
unfoldable pub weight_at : List ℕ → ℕ → ℕ
weight_at s i = weight (get_or s i 0) (get_or s (i + 1) 0) (get_or s (i + 2) 0)

-- 1 where a code ends with the byte at a place
unfoldable pub last_at : List ℕ → ℕ → ℕ
last_at s i = last (get_or s i 0)

-- 1 where something is wrong at the byte at a place
unfoldable pub wrong_at : List ℕ → ℕ → ℕ
wrong_at s i = wrong (get_or s i 0) (get_or s (i + 1) 0) (get_or s (i + 2) 0) (get_or s (i + 3) 0)

-- the sum of what `k` places say, from `at` on
unfoldable pub sum : (ℕ → ℕ) → ℕ → ℕ → ℕ
sum f zero at = 0
sum f (suc k) at = f at + sum f k (at + 1)

-- the sum over the places from `at` to before `upto`
abbrev pub between : (ℕ → ℕ) → ℕ → ℕ → ℕ
between f at upto = sum f (upto - at) at

-- what is learnt of the byte `a` from itself and the next three: four shares of its weight, of at most a group each, and the rest
pub record Shares (a b c d low second third fourth ends flaws : ℕ) : Type 0 where
  pub worth : low + (one_group - 1) * second + (two_groups - one_group) * third + (three_groups - two_groups) * fourth ≡ weight a b c
  pub group : (low < one_group) × (second < one_group) × (third < one_group) × (fourth < one_group)
  pub ends_is : (ends ≡ last a) × (ends < 2)
  pub flaws_is : (flaws ≡ wrong a b c d) × (flaws < 3)

-- the bytes that are added up at once
abbrev pub stretch : ℕ
stretch = 64

-- what the bytes from `at` to before `upto` add up to, in numbers that leave room for more
pub record Added (s : List ℕ) (at upto value ends flaws : ℕ) : Type 0 where
  pub worth : value ≡ between (weight_at s) at upto
  pub many : ends ≡ between (last_at s) at upto
  pub faults : flaws ≡ between (wrong_at s) at upto
  pub small : (value ≤ code_values * stretch) × (ends < code_values) × (flaws < code_values)
