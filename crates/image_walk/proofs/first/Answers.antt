-- `image_walk::first` meets its contract: it is the first turn of all, before the first block. Assumes nothing.
use mathlib.Core.Path.{◌∙◌}
use Rattle.image_walk.proofs.Turning.{start_left}
use Rattle.image_walk.proofs.first.Goals as goal

pub turned-requires : goal.turned-requires
turned-requires c =
    (start_left c.args.accepted.source.image.now c.args.accepted.source.payload.now c.args.accepted.bytes c.args.accepted.taken c.args.accepted.cut).0

pub returns : goal.returns
returns c =
    let start = start_left c.args.accepted.source.image.now c.args.accepted.source.payload.now c.args.accepted.bytes c.args.accepted.taken c.args.accepted.cut in
    (c.turned.ensures.stands, c.turned.ensures.is ∙ start.1)
