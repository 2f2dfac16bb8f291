-- A group of steps whose codes are single bytes.
use Rattle.std.specs.Prelude.{List, [], ◌∷◌, ℕ, suc, ◌-◌, ◌<◌}
use Rattle.code.specs.Code.{one_group}

-- the steps whose codes are written at once where each is a single byte
abbrev pub group : ℕ
group = 16

-- each gap of a list has a code of a single byte
abbrev pub Near : ℕ → List ℕ → Type 0
Near o [] = Unit {0}
Near o (x ∷ xs) = (x - o < one_group) × Near (suc x) xs
