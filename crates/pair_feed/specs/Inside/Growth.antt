-- What reading on does to a feed.
use Rattle.std.specs.Prelude.{◌≡◌, List, ℕ, ◌≤◌, length}
use Rattle.image_walk.specs.Walk.{Stands}
use Rattle.image_walk.specs.Turns.{coded_walk}
use Rattle.pair_feed.specs.declared.Feed.{Feed}
use Rattle.pair_feed.specs.Feed.{Fed}

-- the feed `g`, over the numbers `after`, has the steps that `f` has over `before`, and shows no fewer
pub record Grown (s pay : List ℕ) (f : Feed) (before : List ℕ) (g : Feed) (after : List ℕ) : Type 0 where
  pub stands : Stands s pay g.walk
  pub keeps : (xs : List ℕ) → Fed s pay f before xs → Fed s pay g after xs
  pub from : g.at ≡ f.at
  pub longer : f.end ≤ g.end
  pub within : g.end ≤ length after
  pub size : length after ≡ length before

-- the feed that shows the numbers to before `k`, where its walk has come to a step and a place among the codes of the open block
abbrev pub among_codes : Feed → ℕ → ℕ → ℕ → Feed
among_codes f step at k = record { walk = coded_walk step at f.walk.end f.walk.block; at = f.at; end = k }
