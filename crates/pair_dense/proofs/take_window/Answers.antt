-- `pair_dense::take_window` meets its contract: the number of steps does not hang on where the window is. Assumes nothing.
use native.Mathlib.Omega.{arith}
use Rattle.std.proofs.Common.{rules}
use Rattle.rules.specs.Limits.Laws.{largest_coded}
use Rattle.pair_dense.proofs.Words.{length_steps_moved}
use Rattle.pair_dense.proofs.take_window.Goals as goal

pub overflow_add-result : goal.overflow_add-result
overflow_add-result g c =
    omega (arith, c.count_window.ensures, length_steps_moved c.args.op c.args.from c.args.left.now c.args.right.now, c.requires.counted, largest_coded)

pub returns : goal.returns
returns g c =
    record {
      counted = omega (arith, c.count_window.ensures, length_steps_moved c.args.op c.args.from c.args.left.now c.args.right.now);
      stored = search rules;
    }
