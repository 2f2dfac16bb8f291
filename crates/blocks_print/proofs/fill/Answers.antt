-- `blocks_print::fill` meets its contract. Assumes nothing.
use native.Mathlib.Omega.{arith}
use Rattle.std.proofs.Common.{◌≡◌, List, ℕ, ◌-◌, ◌≤◌, subst, sym, length, length-drop, length-take}
use Rattle.std.specs.Io.KnownBytes.{Consumes}
use Rattle.blocks_print.proofs.Filling.{consumed_more, front_put, length_put}
use Rattle.blocks_print.proofs.fill.Goals as goal

pub loop-at-preserved : goal.loop-at-preserved
loop-at-preserved g c =
    let at = c.loop-at.at in
    let s = c.loop-at.buffer in
    let t = c.read.new.buf in
    let within : at ≤ length s = c.loop-at.invariant.0 in
    let few : c.in_ok-n.n ≤ length t = c.in_ok-n.ensures.bound.0 in
    let long : length t ≡ length s - at = omega (arith, simp (length-take, length-drop) at c.read.auto.buf) in (
      omega (arith, length_put at s t within long),
      subst (λ (x : List ℕ). Consumes (g.R.Read.remaining c.args.from.now) (g.R.Read.remaining c.read.new.self) x)
          (sym (front_put at s t within (length s - at) c.in_ok-n.n few))
          (consumed_more _ _ _ _ _ c.loop-at.invariant.1 c.in_ok-n.ensures.bytes.0),
    )
