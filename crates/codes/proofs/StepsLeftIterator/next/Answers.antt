-- `codes::StepsLeft::next` meets its contract. Assumes nothing.
use mathlib.Core.Path.{sym, ◌∙◌}
use Rattle.codes.proofs.Turns.{steps_none}
use Rattle.codes.proofs.StepsLeftIterator.next.Goals as goal

pub returns-then-self-clause-steps : goal.returns-then-self-clause-steps
returns-then-self-clause-steps c =
    let i = c.self.inside in
    let n = sym c.self.view_is ∙ steps_none i.next i.part.now i.at c.if-self.true in
    (n, n)
