-- A directory that was tested.
use Rattle.std.specs.Prelude.{◌≡◌, List, ℕ, ◌^◌, ◌≤◌, ◌<◌, length, Ok}
use Rattle.image.specs.Entry.{entry_place, entries_at, start}
use Rattle.image.specs.Verdict.{directory_of}

-- `m` entries stand in the image, and none of them has a fault
pub record Sound (image payload : List ℕ) (m : ℕ) : Type 0 where
  pub blocks : m < 2 ^ 32
  pub size : entry_place m ≤ length image
  pub few : length payload < 2 ^ 32
  pub fine : directory_of (length payload) start 0 (entries_at m image (entry_place 0)) ≡ Ok tt
