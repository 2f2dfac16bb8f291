-- The words of two windows, joined by an operation, and the steps that they say.
use Rattle.std.specs.Prelude.{List, [], ◌∷◌, ◌++◌, ℕ, ◌+◌, ◌-◌}
use Rattle.std.specs.Int.Bits.{bit_and, bit_or}
use Rattle.row.specs.Row.{bits_from}
use Rattle.row.specs.Words.{word_bits}
use Rattle.pair_operation.specs.declared.Operation.{Operation}
use Rattle.pair_operation.specs.declared.Operation.TheVariants.{Both, Either, Without}

-- the bits that an operation keeps of two words
abbrev pub word_of : Operation → ℕ → ℕ → ℕ
word_of Both a b = bit_and a b
word_of Either a b = bit_or a b
word_of Without a b = a - bit_and a b

-- the steps that an operation keeps of two windows, whose first bit stands for `o`
unfoldable pub steps_in : Operation → ℕ → List ℕ → List ℕ → List ℕ
steps_in op o [] ns = []
steps_in op o (a ∷ ms) [] = []
steps_in op o (a ∷ ms) (b ∷ ns) = bits_from word_bits o (word_of op a b) ++ steps_in op (o + word_bits) ms ns
