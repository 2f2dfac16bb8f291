-- `pair_window::mark` meets its contract: one word has one bit more. Assumes nothing.
use mathlib.Core.Path.{sym}
use mathlib.Core.List.{[], ◌∷◌}
use Prim.Native.Nat.{◌+◌, ◌/◌}
use native.Mathlib.Omega.{arith}
use Rattle.row.specs.Words.{word_bits}
use Rattle.pair_window.proofs.Laying.{words_one, mark_here, mark_other}
use Rattle.pair_window.proofs.mark.Goals as goal

pub returns : goal.returns
returns c o xs e = words_one c.args.words.now o xs ((o + c.args.place) ∷ []) e (c.args.place / word_bits) _ (sym (mark_here o c.args.place)) (omega arith) (λ j h n. mark_other o c.args.place j n)
