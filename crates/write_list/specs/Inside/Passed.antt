-- How far a search for the first fault of a list has come.
use Rattle.std.specs.Prelude.{◌≡◌, Bool, false, List, ℕ, ◌<◌, get_or}
use Rattle.lists.specs.Rising.{past}

-- a test holds at no index below `i`
abbrev pub Passed : (ℕ → ℕ → Bool) → List ℕ → ℕ → Type 0
Passed test xs i = (k : ℕ) → k < i → test (past xs k) (get_or xs k 0) ≡ false
