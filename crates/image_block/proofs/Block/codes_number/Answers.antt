-- `image_block::Block::codes_number` meets its contract, by what checking the codes finds. Assumes nothing.
use borrow.Author.Rules.{rules}
use mathlib.Core.Path.{sym, ◌∙◌}
use Rattle.rules.specs.Limits.Laws.{largest_coded}
use Rattle.image_block.proofs.Judged.{number_codes, number_bad}
use Rattle.image_block.proofs.Block.codes_number.Goals as goal

pub check-requires : goal.check-requires
check-requires c = search (rules, largest_coded)

pub returns-in-Ok : goal.returns-in-Ok
returns-in-Ok c = c.judge.ensures
    ∙ sym (number_codes c.args.self.now.before c.args.self.now.entry c.args.self.now.part.now c.requires (sym c.check.ensures ∙ c.in-Ok.is))

pub returns-in-Err : goal.returns-in-Err
returns-in-Err c = sym (number_bad c.args.self.now.before c.args.self.now.entry c.args.self.now.part.now c.requires (sym c.check.ensures ∙ c.in-Err.is))
