-- `row::word` meets its contract: fewer than eight bytes are all of them. Assumes nothing.
use mathlib.Core.Path.{sym, ap, ◌∙◌}
use native.Mathlib.Omega.{arith}
use lib.Seq.{take_all}
use Rattle.rules.specs.Numbers.{little}
use Rattle.row.specs.Words.{word_bytes}
use Rattle.row.proofs.word.Goals as goal

pub returns-in-None : goal.returns-in-None
returns-in-None c = c.last_word.ensures ∙ ap little (sym (take_all word_bytes c.args.s.now (omega (arith, c.in-None.ensures.cases))))

pub returns-in-Some : goal.returns-in-Some
returns-in-Some c = c.word_of.ensures ∙ ap little c.in-Some.ensures.cases.same
