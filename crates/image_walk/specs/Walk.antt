-- A walk: the steps that it has ahead, where it can stand, and what a move does.
use Rattle.std.specs.Prelude.{◌≡◌, List, [], ◌∷◌, ◌++◌, ℕ, ◌+◌, ◌-◌, ◌*◌, ◌^◌, ◌≤◌, ◌<◌, ltb, eqb, length}
use Rattle.std.specs.Int.Bits.{bit_and}
use Rattle.std.specs.Int.Count.{count_trailing_zeros}
use Rattle.lists.specs.Choice.{pick}
use Rattle.lists.specs.Rising.{beyond}
use Rattle.lists.specs.Parts.{part}
use Rattle.rules.specs.Limits.{no_step}
use Rattle.codes.specs.Codes.{all, steps_from, list_of}
use Rattle.row.specs.Row.{byte_bits, bits_from, row_steps}
use Rattle.row.specs.Words.{word_bits}
use Rattle.image.specs.Entry.{before_at}
use Rattle.image_walk.specs.declared.Walk.{Walk}
use Rattle.image_walk.specs.Blocks.{later, Blocks}

-- the steps of codes that stand in the payload from `at` to `end`, the first at least `o`; and that no code of them fails
abbrev pub codes_in : ℕ → List ℕ → ℕ → ℕ → List ℕ
codes_in o pay at end = list_of (steps_from o (part pay at end) 0)

abbrev pub Whole : ℕ → List ℕ → ℕ → ℕ → Type 0
Whole o pay at end = steps_from o (part pay at end) 0 ≡ all (codes_in o pay at end)

-- the steps of a row from `at` to `end`, whose first bit stands for `o`
abbrev pub row_in : ℕ → List ℕ → ℕ → ℕ → List ℕ
row_in o pay at end = row_steps o (part pay at end)

-- the lowest one taken away
abbrev pub others : ℕ → ℕ
others bits = bit_and bits (bits - 1)

-- the steps of the open block after the walk's own: of the other codes, or of the other ones of the loaded word and of the bytes after it
unfoldable pub here : List ℕ → Walk → List ℕ
here pay w =
    pick (eqb w.bits 0) (codes_in (w.step + 1) pay w.at w.end)
    (bits_from word_bits w.low (others w.bits) ++ row_in (w.low + word_bits) pay w.at w.end)

-- THE STEPS AHEAD OF A WALK: its own, those of the open block after it, and those of the blocks after that one
unfoldable pub ahead : List ℕ → List ℕ → Walk → List ℕ
unfolding here
ahead s pay w = pick (ltb w.step no_step) (w.step ∷ (here pay w ++ later s pay w.block)) []

-- the loaded word of a row: its lowest one is the walk's step, and the bytes after it, where there are any, hold the row's last one
pub record Loaded (pay : List ℕ) (w : Walk) : Type 0 where
  pub lowest : w.step ≡ w.low + count_trailing_zeros word_bits w.bits
  pub tight : w.at < w.end → w.low + word_bits + byte_bits * (w.end - w.at) < beyond (w.step + 1) (here pay w) + byte_bits

-- a walk at a step of the open block
pub record Open (pay : List ℕ) (w : Walk) : Type 0 where
  pub small : beyond (w.step + 1) (here pay w) ≤ no_step
  pub few : length pay < 2 ^ 32
  pub within : w.end ≤ length pay
  pub low : w.low ≤ w.step
  pub codes : w.bits ≡ 0 → Whole (w.step + 1) pay w.at w.end
  pub row : (w.bits ≡ 0 → ⊥) → Loaded pay w

-- a walk past the last step
pub record Over (w : Walk) : Type 0 where
  pub bits : w.bits ≡ 0
  pub at : w.end ≤ w.at

-- a walk at a step, or past the last
pub record Placed (pay : List ℕ) (w : Walk) : Type 0 where
  pub step : w.step ≤ no_step
  pub on : w.step < no_step → Open pay w
  pub off : no_step ≤ w.step → Over w

-- A WALK STANDS IN AN IMAGE: the open block ends where the next one begins
pub record Stands (s pay : List ℕ) (w : Walk) : Type 0 where
  pub placed : Placed pay w
  pub blocks : Blocks s pay w.block w.end
  pub last : w.step < no_step → beyond (w.step + 1) (here pay w) ≡ (before_at s w.block).next

-- the walk `r` stands at the step after that of `w`
abbrev pub Follows : List ℕ → List ℕ → Walk → Walk → Type 0
Follows s pay w r = Stands s pay r × (ahead s pay w ≡ w.step ∷ ahead s pay r)
