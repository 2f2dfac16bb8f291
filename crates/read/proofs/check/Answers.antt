-- `read::check` meets its contract: by what counts and directory say, and then by the blocks. Assumes nothing.
use mathlib.Core.Path.{sym, ap, ◌∙◌}
use native.Mathlib.Omega.{arith}
use Rattle.rules.proofs.Passed.{passed}
use Rattle.image.proofs.Verdict.{verdict_refused}
use Rattle.image_directory.proofs.Whole.{opened_Open}
use Rattle.read.specs.Read.{paper_of, check_paper}
use Rattle.read.proofs.Outcomes.{opened_Sound, opened_checked}
use Rattle.read.proofs.check.Goals as goal

pub payload-payload-requires : goal.payload-payload-requires
payload-payload-requires c = omega (arith, (opened_Open (λ i. omega (arith, c.type_inv.image i)) (sym c.check.ensures ∙ c.in_ok-m.was)).size)

pub blocks-requires : goal.blocks-requires
blocks-requires c = opened_Sound (λ i. omega (arith, c.type_inv.image i)) (sym c.check.ensures ∙ c.in_ok-m.was) c.payload-payload.ensures

pub returns-in_err-m : goal.returns-in_err-m
returns-in_err-m c = ap paper_of (passed c.from_residual.result c.from_residual.ensures.1)
    ∙ sym (ap check_paper (verdict_refused c.args.image.now (sym c.check.ensures ∙ c.in_err-m.was)))

pub returns : goal.returns
returns c = ap paper_of c.blocks-2.ensures ∙ opened_checked c.args.image.now (sym c.check.ensures ∙ c.in_ok-m.was) c.payload-payload.ensures
