-- `image_directory::fault_of` meets its contract: at each `return` the tests that led there are those of the laws. Assumes nothing.
use mathlib.Core.Path.{sym}
use native.Mathlib.Omega.{arith}
use Rattle.image.proofs.Directory.{fault_none}
use Rattle.image_directory.proofs.Faults.{fault_kind, fault_large, fault_last, fault_upto, fault_many, fault_end, fault_past}
use Rattle.image_directory.proofs.fault_of.Goals as goal

pub returns-then-e-gt-ROW : goal.returns-then-e-gt-ROW
returns-then-e-gt-ROW c = sym (fault_kind c.args.p c.args.b c.args.e c.if-e-gt-ROW.true)

pub returns-then-e-largest_step : goal.returns-then-e-largest_step
returns-then-e-largest_step c = sym (fault_large c.args.p c.args.b c.args.e (omega arith) (omega arith))

pub returns-then-e-b : goal.returns-then-e-b
returns-then-e-b c = sym (fault_last c.args.p c.args.b c.args.e (omega arith) (omega arith) (omega arith))

pub returns-then-e-b-2 : goal.returns-then-e-b-2
returns-then-e-b-2 c = sym (fault_upto c.args.p c.args.b c.args.e (omega arith) (omega arith) (omega arith) (omega arith))

pub returns-then-e-most_steps : goal.returns-then-e-most_steps
returns-then-e-most_steps c = sym (fault_many c.args.p c.args.b c.args.e (omega arith) (omega arith) (omega arith) (omega arith) (omega arith))

pub returns-then-e-b-3 : goal.returns-then-e-b-3
returns-then-e-b-3 c = sym (fault_end c.args.p c.args.b c.args.e (omega arith) (omega arith) (omega arith) (omega arith) (omega arith) (omega arith))

pub returns-then-e-p : goal.returns-then-e-p
returns-then-e-p c = sym (fault_past c.args.p c.args.b c.args.e (omega arith) (omega arith) (omega arith) (omega arith) (omega arith) (omega arith) (omega arith))

pub returns : goal.returns
returns c = sym
    (fault_none c.args.p c.args.b c.args.e
    (record {
      kind = omega arith;
      small = omega arith;
      last = omega arith;
      upto = omega arith;
      few = omega arith;
      end = omega arith;
      within = omega arith;
    }))
