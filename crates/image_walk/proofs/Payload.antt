-- What a walk goes along has bytes.
-- Assumes nothing.
use Rattle.lists.specs.Bytes.{Bytes}
use Rattle.image_walk.specs.declared.Source.{Source}

-- as every slice
pub payload_bytes : (a : Source) → Bytes a.payload.now
payload_bytes a = a.bytes
