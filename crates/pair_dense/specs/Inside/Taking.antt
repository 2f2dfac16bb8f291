-- Steps that come run by run: all are counted, and they are stored where that is wanted.
use Rattle.std.specs.Prelude.{◌≡◌, List, ℕ, ◌+◌, Bool, IsTrue, length}
use Rattle.std.proofs.lemmas.List.Edits.{sets}

-- the steps `ns` were taken after `at` others, and where they are wanted they stand after those
pub record Taking (wanted : Bool) (out : List ℕ) (at : ℕ) (ns out' : List ℕ) (next : ℕ) : Type 0 where
  pub counted : next ≡ at + length ns
  pub stored : IsTrue wanted → out' ≡ sets out at ns
