-- `ask::first_at` meets its contract, by what the check says. Assumes nothing.
use mathlib.Core.Path.{sym, ap}
use Rattle.read.proofs.Answers.{answer_no}
use Rattle.ask.specs.First.{first_in}
use Rattle.ask.proofs.Answers.{kept, first_taken}
use Rattle.ask.proofs.first_at.Goals as goal

pub first_in-requires : goal.first_in-requires
first_in-requires c = (kept c.check.ensures c.in-Ok.is).takes

pub returns-in-Ok : goal.returns-in-Ok
returns-in-Ok c = first_taken (kept c.check.ensures c.in-Ok.is) c.args.x c.first_in.ensures

pub returns-in-Err : goal.returns-in-Err
returns-in-Err c = sym (ap (first_in c.args.x) (answer_no c.args.image.now c.check.ensures c.in-Err.is))
