-- What a run of short codes does.
use Rattle.std.specs.Prelude.{◌≡◌, List, ◌∷◌, ◌++◌, ℕ, ◌+◌, ◌*◌, ◌≤◌, ◌<◌, length, Ok}
use Rattle.lists.specs.Rising.{beyond}
use Rattle.lists.specs.Parts.{part}
use Rattle.rules.specs.Limits.{no_step}
use Rattle.code.specs.Code.{code_values, reading, read_at}
use Rattle.row.specs.Words.{word_bits}
use Rattle.pair_window.specs.Window.{Gains}
use Rattle.image_walk.specs.declared.Walk.{Walk}
use Rattle.image_walk.specs.Walk.{here, Placed}

-- the code of `value` opens the part of the payload from `at` to `end`, and has one byte
pub record Opens (pay : List ℕ) (at end value : ℕ) : Type 0 where
  pub small : value < code_values
  pub some : at < end
  pub reads : read_at (part pay at end) 0 ≡ Ok (reading value 1)

-- some steps of the codes of `w`, its own the first, which fall into the window from `o` on, are laid over its words, and `r` is the walk
-- after them
pub record Ran (pay : List ℕ) (w : Walk) (o : ℕ) (words words' : List ℕ) (r : Walk) : Type 0 where
  pub laid : List ℕ
  pub block : r.block ≡ w.block
  pub end : r.end ≡ w.end
  pub placed : Placed pay r
  pub on : r.step < no_step
  pub from : o ≤ r.step
  pub is : w.step ∷ here pay w ≡ laid ++ (r.step ∷ here pay r)
  pub before : beyond o laid ≤ o + word_bits * length words
  pub size : length words' ≡ length words
  pub are : Gains o words laid words'
