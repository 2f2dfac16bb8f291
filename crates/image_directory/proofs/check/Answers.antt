-- `image_directory::check` meets its contract: by the two counts, then by what the entries say. Assumes nothing.
use mathlib.Core.Path.{sym, ap, ◌∙◌}
use native.Mathlib.Omega.{arith}
use Rattle.std.specs.Prelude.{Err}
use Rattle.rules.proofs.Passed.{passed}
use Rattle.image.specs.Verdict.{on_entries}
use Rattle.image.proofs.Verdict.{short, short_m, short_p, long, just}
use Rattle.image_directory.proofs.check.Goals as goal

pub returns-then-n-lt-NUMBER_SIZE : goal.returns-then-n-lt-NUMBER_SIZE
returns-then-n-lt-NUMBER_SIZE c = ap Err c.refuse.ensures ∙ sym (short c.args.image.now c.if-n-lt-NUMBER_SIZE.true)

pub returns-then-n-from : goal.returns-then-n-from
returns-then-n-from c = ap Err c.refuse-then-n-from.ensures
    ∙ sym (short_m c.args.image.now c.number_at-m.result c.number_at-m.ensures.0 c.if-n-lt-NUMBER_SIZE.false c.if-n-from.true)

pub returns-then-n-from-2 : goal.returns-then-n-from-2
returns-then-n-from-2 c = ap Err c.refuse-then-n-from-2.ensures
    ∙ sym
    (short_p c.args.image.now c.number_at-m.result c.number_at-m.ensures.0 c.number_at-p.result c.number_at-p.ensures.0
    c.if-n-from.false c.if-n-from-2.true)

pub returns-then-from-p : goal.returns-then-from-p
returns-then-from-p c = ap Err c.refuse-then-from-p.ensures
    ∙ sym
    (long c.args.image.now c.number_at-m.result c.number_at-m.ensures.0 c.number_at-p.result c.number_at-p.ensures.0
    c.if-from-p.true)

-- there are as many bytes as the counts say, and the entries were tested
pub returns-in_err-entries : goal.returns-in_err-entries
returns-in_err-entries c = passed c.from_residual.result c.from_residual.ensures.1 ∙ sym
    (just c.args.image.now c.number_at-m.result c.number_at-m.ensures.0 c.number_at-p.result c.number_at-p.ensures.0 (omega arith)
    ∙ ap (on_entries c.number_at-m.result) (sym c.entries.ensures ∙ c.in_err-entries.was))

pub returns : goal.returns
returns c = sym
    (just c.args.image.now c.number_at-m.result c.number_at-m.ensures.0 c.number_at-p.result c.number_at-p.ensures.0 (omega arith)
    ∙ ap (on_entries c.number_at-m.result) (sym c.entries.ensures ∙ c.in_ok-entries.was))
