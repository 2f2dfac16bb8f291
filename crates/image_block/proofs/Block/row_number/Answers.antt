-- `image_block::Block::row_number` meets its contract, by the row's length and by where its last one stands. Assumes nothing.
use borrow.Author.Rules.{rules}
use mathlib.Core.Path.{sym, ◌∙◌}
use native.Mathlib.Omega.{arith}
use Rattle.rules.specs.Limits.Laws.{largest_coded}
use Rattle.image_block.proofs.Judged.{number_unsized, number_past, number_within}
use Rattle.image_block.proofs.Block.row_number.Goals as goal

pub overflow_add-span : goal.overflow_add-span
overflow_add-span c = search (rules, largest_coded)

pub width-requires : goal.width-requires
width-requires c = search (rules, largest_coded)

pub returns-then-self-width : goal.returns-then-self-width
returns-then-self-width c = sym (number_unsized c.args.self.now.before c.args.self.now.entry c.args.self.now.part.now c.requires (λ q. omega arith))

pub returns-then-end-span : goal.returns-then-end-span
returns-then-end-span c = sym (number_past c.args.self.now.before c.args.self.now.entry c.args.self.now.part.now c.requires (omega arith) c.end-end.result c.end-end.ensures (omega arith))

pub overflow_add-self : goal.overflow_add-self
overflow_add-self c = search (rules, largest_coded)

pub returns : goal.returns
returns c = c.judge.ensures
    ∙ sym
    (number_within c.args.self.now.before c.args.self.now.entry c.args.self.now.part.now c.requires (omega arith) c.end-end.result c.end-end.ensures (omega arith) c.count.result
    c.count.ensures)
