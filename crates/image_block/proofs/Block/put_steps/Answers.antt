-- `image_block::Block::put_steps` meets its contract: the steps that the block's codes or its row stand for are the block's. Assumes nothing.
use mathlib.Core.Path.{sym, ap, subst}
use mathlib.Core.List.{List}
use Prim.Native.Nat.{ℕ}
use native.Mathlib.Omega.{arith}
use lib.ListN.{length}
use Rattle.lists.specs.Stores.{Puts}
use Rattle.rules.specs.Limits.Laws.{largest_coded}
use Rattle.image_block.proofs.Steps.{steps_codes, Sound_codes, steps_row, row_ends}
use Rattle.image_block.proofs.Block.put_steps.Goals as goal

pub steps-requires : goal.steps-requires
steps-requires c = (Sound_codes c.requires.0 c.if-self-eq-CODES.true, omega (arith, ap length (steps_codes c.requires.0 c.if-self-eq-CODES.true), c.requires.1))

pub returns-then-self-eq-CODES : goal.returns-then-self-eq-CODES
returns-then-self-eq-CODES c = subst (λ (xs : List ℕ). Puts c.args.out.now c.args.at xs c.steps.new.out c.steps.result)
    (sym (steps_codes c.requires.0 c.if-self-eq-CODES.true)) c.steps.ensures

pub steps-requires-2 : goal.steps-requires-2
steps-requires-2 c = (omega (arith, row_ends c.requires.0 c.if-self-eq-CODES.false, c.requires.0.fits.last, largest_coded), omega (arith, ap length (steps_row c.requires.0 c.if-self-eq-CODES.false), c.requires.1))

pub returns : goal.returns
returns c = subst (λ (xs : List ℕ). Puts c.args.out.now c.args.at xs c.steps-2.new.out c.steps-2.result)
    (sym (steps_row c.requires.0 c.if-self-eq-CODES.false)) c.steps-2.ensures
