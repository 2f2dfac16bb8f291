-- `pair_dense::lay_both` meets its contract: a window of each walk, from the lower of their steps on. Assumes nothing.
use mathlib.Core.Path.{◌≡◌}
use native.Mathlib.Omega.{arith}
use lib.ListN.{length}
use Rattle.pair_dense.proofs.Windows.{window_Passes}
use Rattle.pair_dense.proofs.lay_both.Goals as goal

pub lay_window-b-requires : goal.lay_window-b-requires
lay_window-b-requires c = record { stands = (c.requires.together.0.second.stands, omega (arith, c.requires.together.0.lower)); words_value = (c.requires.right_value.0, omega (arith, c.requires.right_value.1, c.requires.left_value.1.1)) }

pub returns : goal.returns
returns c = let same : length c.lay_window-a.new.words ≡ length c.lay_window-b.new.words =
    omega (arith, c.requires.right_value.1) in
    window_Passes c.requires.together.0 c.lay_window-a.ensures c.lay_window-b.ensures same c.min.ensures
    (omega (arith, c.requires.left_value.1.0)) c.requires.together.1
