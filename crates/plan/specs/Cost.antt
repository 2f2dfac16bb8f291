-- What a block of an image costs.
use Rattle.std.specs.Prelude.{List, ℕ, ◌+◌, length}
use Rattle.rules.specs.Sizes.{entry_size}
use Rattle.cut.specs.Cut.{Kind}
use Rattle.image.specs.Grammar.{part_of}

-- the bytes of a block of the list from rank `i` up to rank `j`: its entry, and its part of the payload
abbrev pub cost : List ℕ → ℕ → ℕ → Kind → ℕ
cost xs i j k = entry_size + length (part_of xs i (record { kind = k; upto = j }))
