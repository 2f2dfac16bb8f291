-- The sizes of what an image and a writer consist of.
use Rattle.std.specs.Prelude.{ℕ, ◌+◌, ◌*◌}

-- the bytes of a fixed-width number
abbrev pub number_size : ℕ
number_size = 4

-- the bytes of an entry: kind, last, upto, end
abbrev pub entry_size : ℕ
entry_size = 13

-- the numbers of work for a step, and as many more
abbrev pub work_share : ℕ
work_share = 16

-- the numbers of work that `n` steps need
abbrev pub work_for : ℕ → ℕ
work_for n = work_share * (n + 1)
