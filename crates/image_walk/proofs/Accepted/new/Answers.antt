-- `Accepted::new` meets its contract: an image that is accepted has a payload. Assumes nothing.
use Rattle.image_directory.proofs.Whole.{payload_within}
use Rattle.image_walk.proofs.Accepted.new.Goals as goal

pub payload-requires : goal.payload-requires
payload-requires c = payload_within c.args.image.now c.requires
