-- `ask::block_of` meets its contract: what the directory names is a block of the image. Assumes nothing.
use mathlib.Core.Path.{sym, ◌∙◌}
use Rattle.image_directory.proofs.Whole.{slice_Bytes}
use Rattle.ask.proofs.Holding.{directory_within, spot_Holds, held_sound}
use Rattle.ask.proofs.block_of.Goals as goal

pub find-requires : goal.find-requires
find-requires c = directory_within c.args.image.now (slice_Bytes _ c.type_inv.image) c.requires

pub part-part-requires : goal.part-part-requires
part-part-requires c =
    (spot_Holds c.args.image.now (slice_Bytes _ c.type_inv.image) c.requires c.args.q (sym c.find.ensures ∙ c.in_ok-before.was)).inside

pub invariant_of-result : goal.invariant_of-result
invariant_of-result c = let h = spot_Holds c.args.image.now (slice_Bytes _ c.type_inv.image) c.requires c.args.q (sym c.find.ensures ∙ c.in_ok-before.was) in
    record { fits = (held_sound c.part-part.ensures h).fits }
