-- What a feed shows of a list of steps.
use Rattle.std.specs.Prelude.{◌≡◌, List, ℕ, ◌+◌, ◌-◌, ◌≤◌, ◌<◌, length, get_or, drop}
use Rattle.rules.specs.Limits.{no_step}
use Rattle.image_walk.specs.Walk.{ahead, Stands}
use Rattle.pair_feed.specs.declared.Feed.{Feed}

-- THE STEPS `xs` COME FROM A FEED: its buffer shows the first of them, or only `no_step` where there is none, and the walk has the others
pub record Fed (s pay : List ℕ) (f : Feed) (steps xs : List ℕ) : Type 0 where
  pub stands : Stands s pay f.walk
  pub rest : ahead s pay f.walk ≡ drop (f.end - f.at) xs
  pub shows : (i : ℕ) → i < f.end - f.at → get_or steps (f.at + i) 0 ≡ get_or xs i no_step
  pub order : f.at ≤ f.end
  pub within : f.end ≤ length steps
  pub real : 0 < length xs → f.end - f.at ≤ length xs
