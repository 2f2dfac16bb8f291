-- `pair_dense::put_window` meets its contract: each turn stores the steps of the next joined word. Assumes nothing.
use Prim.Native.Nat.{◌+◌, ◌*◌}
use native.Mathlib.Omega.{arith}
use Rattle.lists.proofs.Stores.{Storing_run, storing_end}
use Rattle.row.specs.Row.{bits_from}
use Rattle.row.specs.Words.{word_bits}
use Rattle.row.proofs.Bits.{beyond_bits, length_bits_moved}
use Rattle.pair_dense.proofs.Words.{left_turn, left_length, left_end}
use Rattle.pair_dense.proofs.put_window.Goals as goal

pub put_joined-k-requires : goal.put_joined-k-requires
put_joined-k-requires c = let n = left_length c.args.op c.args.from c.args.left.now c.args.right.now c.loop-i.i c.joined-word.result (omega arith) c.requires.left_len.0 c.joined-word.ensures in (
  omega (arith, beyond_bits word_bits (c.args.from + word_bits * c.loop-i.i) c.joined-word.result, c.requires.left_len.1),
  omega (arith, c.loop-i.invariant.room, n, length_bits_moved word_bits (c.args.from + word_bits * c.loop-i.i) c.joined-word.result),
)

pub loop-i-preserved : goal.loop-i-preserved
loop-i-preserved c = let t = left_turn c.args.op c.args.from c.args.left.now c.args.right.now c.loop-i.i c.joined-word.result (omega arith) c.requires.left_len.0 c.joined-word.ensures in
    Storing_run c.loop-i.invariant (bits_from word_bits (c.args.from + word_bits * c.loop-i.i) c.joined-word.result) _ t c.put_joined-k.ensures.place c.put_joined-k.ensures.stores

pub returns : goal.returns
returns c = storing_end c.loop-i.invariant (left_end c.args.op c.args.from c.args.left.now c.args.right.now c.loop-i.i (omega arith))
