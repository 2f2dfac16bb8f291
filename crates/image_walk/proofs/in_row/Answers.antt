-- `image_walk::in_row` meets its contract: the words passed had no one, and the row's last one is still to come. Assumes nothing.
use mathlib.Core.Path.{sym, subst}
use Prim.Native.Nat.{◌+◌, ◌<◌}
use native.Mathlib.Omega.{arith}
use Rattle.lists.specs.Bytes.{Bytes}
use Rattle.rules.specs.Limits.Laws.{largest_coded}
use Rattle.row.specs.Words.{word_bytes}
use Rattle.image_walk.specs.Turns.{met_walk}
use Rattle.image_walk.specs.Inside.Moves.{Met}
use Rattle.image_walk.proofs.Shapes.{Met_step}
use Rattle.image_walk.proofs.Loading.{seeking_on, seeking_turn, seeking_met}
use Rattle.image_walk.proofs.in_row.Goals as goal
use Rattle.image_walk.proofs.in_row.Goals.{After-loop-bits, After-met, After-word-bits-in-loop-bits, In-loop-bits}

-- a turn finds a word without a one, so that there is another
bytes-After-word-bits-in-loop-bits : (c : After-word-bits-in-loop-bits) → Bytes c.args.payload.now
bytes-After-word-bits-in-loop-bits c i = omega (arith, c.type_inv.payload i)

-- a turn finds a word without a one, so that there is another
bytes-In-loop-bits : (c : In-loop-bits) → Bytes c.args.payload.now
bytes-In-loop-bits c i = omega (arith, c.type_inv.payload i)

-- a turn finds a word without a one, so that there is another
bytes-After-loop-bits : (c : After-loop-bits) → Bytes c.args.payload.now
bytes-After-loop-bits c i = omega (arith, c.type_inv.payload i)

-- a turn finds a word without a one, so that there is another
bytes-After-met : (c : After-met) → Bytes c.args.payload.now
bytes-After-met c i = omega (arith, c.type_inv.payload i)

more-In-loop-bits : (c : In-loop-bits) → c.loop-bits.at + word_bytes < c.args.p.end
more-In-loop-bits c =
    seeking_on c.args.payload.now c.args.p c.requires.0 c.requires.1.0 c.requires.1.1 (bytes-In-loop-bits c) c.loop-bits.at c.loop-bits.low c.loop-bits.bits c.loop-bits.invariant c.loop-bits-test.true

-- the word that is left has a one
found-After-loop-bits : (c : After-loop-bits) → Met c.args.payload.now c.args.p (met_walk c.loop-bits.low c.loop-bits.bits (c.loop-bits.at + word_bytes) c.args.p.end c.args.p.block)
found-After-loop-bits c =
    seeking_met c.args.payload.now c.args.p c.requires.0 c.requires.1.0 c.requires.1.1 (bytes-After-loop-bits c) c.loop-bits.at c.loop-bits.low c.loop-bits.bits c.loop-bits.invariant c.loop-bits-test.false

-- the word that is left has a one
found-After-met : (c : After-met) → Met c.args.payload.now c.args.p (met_walk c.loop-bits.low c.loop-bits.bits (c.loop-bits.at + word_bytes) c.args.p.end c.args.p.block)
found-After-met c =
    seeking_met c.args.payload.now c.args.p c.requires.0 c.requires.1.0 c.requires.1.1 (bytes-After-met c) c.loop-bits.at c.loop-bits.low c.loop-bits.bits c.loop-bits.invariant c.loop-bits-test.false

pub overflow_add-low : goal.overflow_add-low
overflow_add-low c = omega (arith, more-In-loop-bits c, c.loop-bits.invariant.place, c.requires.0.tight c.requires.1.0 c.requires.1.1, c.requires.0.small, largest_coded)

pub slice_bounds-word-count-in-loop-bits : goal.slice_bounds-word-count-in-loop-bits
slice_bounds-word-count-in-loop-bits c = omega (arith, more-In-loop-bits c)

pub slice_bounds-word-start-in-loop-bits : goal.slice_bounds-word-start-in-loop-bits
slice_bounds-word-start-in-loop-bits c = omega (arith, more-In-loop-bits c)

pub loop-bits-preserved : goal.loop-bits-preserved
loop-bits-preserved c = seeking_turn c.args.payload.now c.args.p c.requires.0 c.requires.1.0 c.requires.1.1 (bytes-After-word-bits-in-loop-bits c) c.loop-bits.at c.loop-bits.low c.loop-bits.bits c.loop-bits.invariant
    c.word-bits-in-loop-bits.result c.loop-bits-test.true c.word-bits-in-loop-bits.ensures (omega arith)

pub met-requires : goal.met-requires
met-requires c = omega (arith, Met_step c.args.payload.now c.args.p _ c.requires.0 (found-After-loop-bits c), (found-After-loop-bits c).stands.low, largest_coded)

pub returns : goal.returns
returns c = subst (Met c.args.payload.now c.args.p) (sym c.met.ensures) (found-After-met c)
