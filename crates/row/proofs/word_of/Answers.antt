-- `row::word_of` meets its contract: the library's number of eight bytes is that of document 01. Assumes nothing.
use mathlib.Core.Path.{◌∙◌}
use Rattle.row.proofs.Words.{little_eight}
use Rattle.row.proofs.word_of.Goals as goal

pub returns : goal.returns
returns c = c.from_le_bytes.ensures ∙ little_eight c.args.bytes.now c.told-bytes
