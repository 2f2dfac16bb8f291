-- What a turn of laying the steps ahead of a walk into a window does.
use Rattle.std.specs.Prelude.{◌≡◌, List, ◌++◌, ℕ, ◌+◌, ◌*◌, ◌≤◌, ◌<◌, length}
use Rattle.lists.specs.Stores.{Brief}
use Rattle.lists.specs.Rising.{beyond}
use Rattle.rules.specs.Limits.{no_step}
use Rattle.row.specs.Words.{word_bits}
use Rattle.pair_window.specs.Window.{Gains}
use Rattle.image_walk.specs.declared.Walk.{Walk}
use Rattle.image_walk.specs.Walk.{ahead, Stands}

-- the walk stands at a step of the window that `words` is from `o` on
abbrev pub Within : Walk → ℕ → List ℕ → Type 0
Within w o words = (o ≤ w.step) × ((w.step < o + word_bits * length words) × ((w.step < no_step) × Brief words))

-- some steps ahead of `w`, which fall into the window from `o` on, are laid over its words, and `r` is the walk after them
pub record Lays (s pay : List ℕ) (w : Walk) (o : ℕ) (words words' : List ℕ) (r : Walk) : Type 0 where
  pub laid : List ℕ
  pub stands : Stands s pay r
  pub split : ahead s pay w ≡ laid ++ ahead s pay r
  pub some : 0 < length laid
  pub before : beyond o laid ≤ o + word_bits * length words
  pub are : Gains o words laid words'
