-- `blocks_lines::line_at` meets its contract: the image is accepted, so the block is sound and has a first step, and the entry states the rest of
-- its line. Assumes nothing.
use mathlib.Core.Path.{◌∙◌, ap, subst, sym}
use mathlib.Core.List.{List}
use Prim.Native.Nat.{ℕ}
use native.Mathlib.Omega.{arith}
use lib.ListN.{get_or}
use Rattle.image_directory.proofs.Whole.{payload_within, slice_Bytes}
use Rattle.image_block.specs.Block.{steps_in, Sound}
use Rattle.blocks_lines.proofs.Blocks.{Whole, block_Whole}
use Rattle.blocks_lines.proofs.Lines.{whole_some, line_whole, line_at_lem}
use Rattle.blocks_lines.proofs.line_at.Goals as goal
use Rattle.blocks_lines.proofs.line_at.Goals.{After-entry-e}

whole : (c : After-entry-e) → Whole c.args.image.now c.before-b.result c.entry-e.result
whole c =
    block_Whole (slice_Bytes _ c.type_inv.image) c.requires.0 c.args.i c.requires.1 c.before-b.result c.before-b.ensures
    c.entry-e.result c.entry-e.ensures.0

pub before-b-requires : goal.before-b-requires
before-b-requires c = omega (arith, payload_within c.args.image.now c.requires.0, c.requires.1)

pub entry-e-requires : goal.entry-e-requires
entry-e-requires c = omega (arith, payload_within c.args.image.now c.requires.0, c.requires.1)

pub part-part-requires : goal.part-part-requires
part-part-requires c = (whole c).inside

pub invariant_of-block : goal.invariant_of-block
invariant_of-block c = record { fits = (subst (Sound c.before-b.result c.entry-e.result) (sym c.part-part.ensures) (whole (goal.at.invariant_of-block c).After-entry-e).sound).fits }

pub step_at-first-requires : goal.step_at-first-requires
step_at-first-requires c = let w = whole (goal.at.step_at-first-requires c).After-entry-e in
    (subst (Sound c.before-b.result c.entry-e.result) (sym c.part-part.ensures) w.sound, whole_some w)

pub overflow_sub-result : goal.overflow_sub-result
overflow_sub-result c = omega (arith, (whole (goal.at.overflow_sub-result c).After-entry-e).clean.upto)

pub overflow_sub-result-2 : goal.overflow_sub-result-2
overflow_sub-result-2 c = omega (arith, (whole (goal.at.overflow_sub-result-2 c).After-entry-e).clean.end)

pub returns : goal.returns
returns c = line_whole (whole (goal.at.returns c).After-entry-e) c.args.i c.step_at-first.result
    (c.step_at-first.ensures.0 ∙ ap (λ (l : List ℕ). get_or (steps_in c.before-b.result c.entry-e.result l) 0 0) c.part-part.ensures)
    ∙ line_at_lem c.args.image.now c.args.i c.before-b.result c.before-b.ensures c.entry-e.result c.entry-e.ensures.0
