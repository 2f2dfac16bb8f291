-- What laying the steps ahead of a walk into a window does.
use Rattle.std.specs.Prelude.{◌≡◌, List, ◌++◌, ℕ, ◌+◌, ◌*◌, ◌≤◌, ◌<◌, length}
use Rattle.lists.specs.Rising.{beyond}
use Rattle.rules.specs.Limits.{no_step}
use Rattle.row.specs.Words.{word_bits}
use Rattle.pair_window.specs.Window.{words_from}
use Rattle.image_walk.specs.declared.Walk.{Walk}
use Rattle.image_walk.specs.Walk.{ahead, Stands}

-- WHAT OF THE STEPS AHEAD OF THE WALK `w` FALLS INTO A WINDOW FROM `o` ON, AND THE WALK `r` AFTER IT
pub record LaysWindow (s pay : List ℕ) (w : Walk) (o : ℕ) (words : List ℕ) (r : Walk) : Type 0 where
  pub laid : List ℕ
  pub stands : Stands s pay r
  pub split : ahead s pay w ≡ laid ++ ahead s pay r
  pub before : beyond o laid ≤ o + word_bits * length words
  pub after : r.step < no_step → o + word_bits * length words ≤ r.step
  pub are : words ≡ words_from (length words) o laid
