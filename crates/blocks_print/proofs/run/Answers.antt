-- `blocks_print::run` meets its contract: what it read is the front of what the reader gives, and it reports that. Assumes nothing.
use native.Mathlib.Omega.{arith}
use Rattle.std.proofs.Common.{refl, take}
use Rattle.std.proofs.lemmas.List.{length-take-le}
use Rattle.std.proofs.lemmas.Result.{on_ok_weaker}
use Rattle.blocks_print.proofs.Report.{reports_long, reports_listing, front_of}
use Rattle.blocks_print.proofs.run.Goals as goal

pub returns-then-n-gt-LONGEST : goal.returns-then-n-gt-LONGEST
returns-then-n-gt-LONGEST g c =
    let n = c.in_ok-n.n in
    let s = c.fill.new.buffer in
    let read = length-take-le n s c.in_ok-n.ensures.within in
    on_ok_weaker c.writeln.result
    (λ last. (
      take n s,
      reports_long (g.W.Write.contents c.args.out.now) (g.W.Write.contents c.writeln.new.self) (take n s)
          (omega (arith, c.if-n-gt-LONGEST.true, read)) last,
      front_of (g.R.Read.remaining c.args.from.now) n 65537 s c.fill.auto.buffer c.in_ok-n.ensures.front,
    ))
    c.writeln.ensures.bytes

pub returns : goal.returns
returns g c =
    let n = c.in_ok-n.n in
    let s = c.fill.new.buffer in
    let read = length-take-le n s c.in_ok-n.ensures.within in
    on_ok_weaker c.list.result
    (λ last. (
      take n s,
      reports_listing (g.W.Write.contents c.args.out.now) (g.W.Write.contents c.list.new.out) (take n s) (take n s) refl
          (omega (arith, c.if-n-gt-LONGEST.false, read)) last,
      front_of (g.R.Read.remaining c.args.from.now) n 65537 s c.fill.auto.buffer c.in_ok-n.ensures.front,
    ))
    c.list.ensures
