-- A window of words over the steps: bit j of word i stands for step o + 64 i + j, where `o` is the window's first step.
use Rattle.std.specs.Prelude.{◌≡◌, List, [], ◌∷◌, ◌++◌, ℕ, zero, suc, ◌+◌, length}
use Rattle.row.specs.Row.{bits_of}
use Rattle.row.specs.Words.{word_bits}

-- `k` words that say, the lowest bit first, whether `o`, `o + 1` and so on are among the steps
unfoldable pub words_from : ℕ → ℕ → List ℕ → List ℕ
words_from zero o xs = []
words_from (suc k) o xs = bits_of word_bits o xs ∷ words_from k (o + word_bits) xs

-- the words of a window from `o` on became others, which say the steps that they said and the new ones
abbrev pub Gains : ℕ → List ℕ → List ℕ → List ℕ → Type 0
Gains o words new words' = (xs : List ℕ) → words ≡ words_from (length words) o xs → words' ≡ words_from (length words) o (xs ++ new)

-- they gain them whatever the window's first step is, which the new ones go by
abbrev pub Adds : List ℕ → (ℕ → List ℕ) → List ℕ → Type 0
Adds words new words' = (o : ℕ) → Gains o words (new o) words'
