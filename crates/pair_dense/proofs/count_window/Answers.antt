-- `pair_dense::count_window` meets its contract: each turn counts the steps of the next joined word. Assumes nothing.
use mathlib.Core.List.{[], ◌∷◌, ◌++◌}
use mathlib.Core.Path.{◌≡◌, ap, ap₂, ◌∙◌}
use Prim.Native.Nat.{◌+◌}
use native.Mathlib.Omega.{arith}
use lib.ListN.{length, length-append}
use Rattle.std.proofs.Common.{rules}
use Rattle.std.proofs.lemmas.Slice.Zip.{zip_turn, zip_end}
use Rattle.pair_dense.specs.Inside.Words.{word_of}
use Rattle.pair_dense.proofs.Words.{left_start, left_length, left_end}
use Rattle.pair_dense.proofs.count_window.Goals as goal

pub loop-a-init : goal.loop-a-init
loop-a-init c = (omega arith, omega (arith, ap length (left_start c.args.op 0 c.args.left.now c.args.right.now)))

pub loop-a-preserved : goal.loop-a-preserved
loop-a-preserved c =
    let t = zip_turn c.args.left.now c.args.right.now c.loop-a.yielded c.into_iter-a-iterator.result c.loop-a.a-iterator c.next.new.self c.next.result
    (search rules) (search rules) c.loop-a.yielded_by (c.in-Some.a, c.in-Some.b) c.in-Some.is c.next.ensures.steps in
    let n = left_length c.args.op 0 c.args.left.now c.args.right.now (length c.loop-a.yielded) c.joined.result t.0 c.requires.0
    (c.joined.ensures ∙ ap₂ (word_of c.args.op) (t.2 0) (t.3 0)) in
    let m : length (c.loop-a.yielded ++ ((c.in-Some.a, c.in-Some.b) ∷ [])) ≡ length c.loop-a.yielded + 1 = length-append c.loop-a.yielded _ in
    rw m (omega (arith, c.ones-n.ensures.1, c.loop-a.invariant.0), omega (arith, c.ones-n.ensures.0, c.loop-a.invariant.1, n))

pub returns : goal.returns
returns c =
    let t = zip_end c.args.left.now c.args.right.now c.loop-a.yielded c.into_iter-a-iterator.result c.loop-a.a-iterator c.next.new.self c.next.result
    (search rules) (search rules) c.loop-a.yielded_by c.in-None.is c.next.ensures.steps in
    omega (arith, c.loop-a.invariant.1, ap length (left_end c.args.op 0 c.args.left.now c.args.right.now (length c.loop-a.yielded) (omega (arith, t, c.requires.0))))
