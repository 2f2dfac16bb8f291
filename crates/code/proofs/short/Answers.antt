-- `code::short` meets its contract: the value of two bytes where the first has the flag, else of one. Assumes nothing.
use mathlib.Core.Path.{◌≡◌, refl, sym, ap, ◌∙◌, subst}
use Prim.Native.Nat.{ℕ, ◌+◌, ◌*◌, ◌/◌, ◌%◌, ◌<◌}
use native.Mathlib.Omega.{arith}
use Rattle.code.specs.Code.{one_group, flag}
use Rattle.code.specs.Flagged.{kept}
use Rattle.code.specs.Fronts.{Brief}
use Rattle.code.proofs.Fronts.{brief}
use Rattle.code.proofs.short.Goals as goal
use Rattle.code.proofs.short.Goals.{then-flagged-eq0, else-flagged-eq0}

pub returns : goal.returns
returns c =
    let a = c.args.a in
    let b = c.args.b in
    let v = c.if-flagged-eq0.result in
    let one : a / flag ≡ 0 → v ≡ a =
    λ z. elim c.if-flagged-eq0.branch [ then-flagged-eq0 w ↦ omega (arith, w.result-is, c.from-first.ensures) | else-flagged-eq0 w ↦ absurd (omega (arith, w.if-flagged-eq0, c.from-first.ensures)) ]
    in
    let two : 0 < a / flag → v ≡ a % one_group * one_group + b =
    λ z. elim c.if-flagged-eq0.branch [ then-flagged-eq0 w ↦ absurd (omega (arith, w.if-flagged-eq0, c.from-first.ensures)) | else-flagged-eq0 w ↦ omega (arith, w.result-is, c.from-first.ensures, c.from-second.ensures) ]
    in
    brief a b v (c.from-first.result / flag) c.kept-2.result (omega arith) (omega arith) one two (ap (λ (x : ℕ). x / flag) c.from-first.ensures)
    (c.kept-2.ensures.0 ∙ ap (kept a) c.kept.ensures.0)
