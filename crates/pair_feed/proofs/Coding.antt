-- A walk among codes moves to the next step by a code that was read at its place.
-- Assumes nothing.
use mathlib.Core.Path.{◌≡◌, refl, sym, ap, ◌∙◌, subst}
use mathlib.Core.List.{List, ◌∷◌, ◌++◌}
use Prim.Native.Nat.{ℕ, ◌+◌, ◌-◌, ◌^◌, ◌≤◌, ◌<◌}
use native.Mathlib.Omega.{arith}
use lib.ListN.{length, get_or, drop, set, length-set}
use lib.Seq.{get_or-take, get_or-drop}
use Rattle.lists.specs.Rising.{beyond}
use Rattle.lists.specs.Parts.{part}
use Rattle.lists.specs.Bytes.{Bytes}
use Rattle.lists.proofs.Choice.{by_lt}
use Rattle.lists.proofs.Parts.{length_part}
use Rattle.rules.specs.Limits.Laws.{largest_coded}
use Rattle.rules.specs.Limits.{no_step}
use Rattle.std.specs.Prelude.{Ok}
use Rattle.code.specs.Code.{reading, read_at}
use Rattle.code.specs.Fronts.{Starts, Brief}
use Rattle.image_walk.specs.declared.Walk.{Walk}
use Rattle.image_walk.specs.Blocks.{later}
use Rattle.image_walk.specs.Walk.{here, ahead, Open, Stands}
use Rattle.image_walk.specs.Turns.{coded_walk}
use Rattle.image_walk.proofs.Shapes.{ahead_step}
use Rattle.image_walk.proofs.Coding.{opening, opening_bad}
use Rattle.image_walk.proofs.Passing.{among, code_next, code_same, pass_to}
use Rattle.pair_feed.specs.declared.Feed.{Feed}
use Rattle.pair_feed.specs.Inside.Growth.{Grown, among_codes}
use Rattle.pair_feed.proofs.Growing.{Grown_start, Grown_same, Grown_one}

-- the walk `v` stands at the step after that of `w`
pub record Next (s pay : List ℕ) (w v : Walk) : Type 0 where
  pub stands : Stands s pay v
  pub is : ahead s pay w ≡ w.step ∷ ahead s pay v
  pub on : v.step < no_step

module _ {s pay : List ℕ} {w : Walk} (t : Stands s pay w) (b : w.bits ≡ 0) (h : w.at < w.end) where
  pub codes_step : w.step < no_step
  codes_step = by_lt w.step no_step (λ g. g) (λ g. absurd (omega (arith, (t.placed.off g).at)))

  -- the code at the walk's place does not fail
  pub codes_start : Starts (part pay w.at w.end)
  codes_start f e =
      let o = among pay w t.placed b h in
      opening_bad (w.step + 1) pay w.at w.end (o.codes b) f h o.within e

  -- past the walk's step
  pub codes_next : Bytes pay → (gap n : ℕ) → read_at (part pay w.at w.end) 0 ≡ Ok (reading gap n)
      → Next s pay w (coded_walk (w.step + 1 + gap) (w.at + n) w.end w.block)
  codes_next y gap n r =
      let k = code_next pay w t.placed b h gap n y r in
      let p = pass_to t codes_step k in
      record { stands = p.0; is = p.1; on = k.on }

  -- and the code ends in the block
  pub codes_within : Bytes pay → (gap n : ℕ) → read_at (part pay w.at w.end) 0 ≡ Ok (reading gap n) → w.at + n ≤ w.end
  codes_within y gap n r =
      let o = among pay w t.placed b h in
      (opening (w.step + 1) pay w.at w.end (o.codes b) gap n y (omega arith) o.within r).within

  -- the walk said by its numbers
  pub codes_same : Stands s pay (coded_walk w.step w.at w.end w.block)
      × (ahead s pay w ≡ ahead s pay (coded_walk w.step w.at w.end w.block))
  codes_same =
      let v : Walk = coded_walk w.step w.at w.end w.block in
      let k = code_same pay w t.placed b h in
      let same : here pay v ≡ here pay w = k.1 in (
        record {
          placed = k.0;
          blocks = t.blocks;
          last = λ g. ap (beyond (w.step + 1)) same ∙ t.last g;
        },
        ahead_step s pay w codes_step
            ∙ ap (λ (l : List ℕ). w.step ∷ (l ++ later s pay w.block)) (sym same)
            ∙ sym (ahead_step s pay v codes_step),
      )

-- ---- a run of codes

-- before the first
pub run_start : {s pay : List ℕ} {f : Feed} {steps : List ℕ} → Stands s pay f.walk → f.walk.bits ≡ 0 → f.walk.at < f.walk.end
    → f.end ≤ length steps
    → Grown s pay f steps (among_codes f f.walk.step f.walk.at f.end) steps
run_start t b h l = let k = codes_same t b h in Grown_same (Grown_start t l) _ k.0 k.1

-- a short code at the front of a part of the payload, by its bytes
Brief-part : (pay : List ℕ) (at end : ℕ) {value extra more : ℕ} → Brief (get_or pay at 0) (get_or pay (at + 1) 0) value extra more → more ≡ 0
    → at + 2 ≤ end → end ≤ length pay → Starts (part pay at end)
    → read_at (part pay at end) 0 ≡ Ok (reading value (1 + extra))
Brief-part pay at end c z h l t =
    c.reads z (part pay at end) (omega (arith, length_part pay at end (omega arith) l)) (byte 0 at (omega arith) (omega arith))
    (byte 1 (at + 1) (omega arith) (omega arith)) t
  where
    byte : (i p : ℕ) → i < end - at → at + i ≡ p → get_or (part pay at end) i 0 ≡ get_or pay p 0
    byte i p k e = get_or-take (end - at) (drop at pay) i 0 k ∙ get_or-drop at pay i 0 ∙ ap (λ (n : ℕ). get_or pay n 0) e

module _ {s pay : List ℕ} {f : Feed} {before steps : List ℕ} {step at k : ℕ} (g : Grown s pay f before (among_codes f step at k) steps)
    (h : at + 2 ≤ f.walk.end) where
  pub run_Open : Open pay (among_codes f step at k).walk
  run_Open = among pay (among_codes f step at k).walk g.stands.placed refl (omega arith)

  pub run_step : step < no_step
  run_step = codes_step g.stands refl (omega arith)

  -- so that no sum of a step or of a place wraps
  pub run_small : step < 2 ^ 28
  run_small = omega (arith, run_step, largest_coded)

  pub run_within : (f.walk.end ≤ length pay) × (length pay < 2 ^ 32)
  run_within = (run_Open.within, run_Open.few)

  -- one step more, where the code that follows it is short
  pub run_one : Bytes pay → k < length steps → {value extra more : ℕ} → Brief (get_or pay at 0) (get_or pay (at + 1) 0) value extra more → more ≡ 0
      → Grown s pay f before (among_codes f (step + 1 + value) (at + 1 + extra) (k + 1)) (set steps k step) × (step + 1 + value < no_step)
  run_one y room {value} {extra} c z =
      let q : at + (1 + extra) ≡ at + 1 + extra = omega arith in
      let r = Brief-part pay at f.walk.end c z h run_Open.within (codes_start g.stands refl (omega arith)) in
      let n = codes_next g.stands refl (omega arith) y value (1 + extra) r in (
        subst (λ (p : ℕ). Grown s pay f before (among_codes f (step + 1 + value) p (k + 1)) (set steps k step)) q
            (Grown_one g room _ n.stands n.is),
        n.on,
      )

-- two more
pub run_two : {s pay : List ℕ} {f : Feed} {before steps : List ℕ} {step at k : ℕ} → Grown s pay f before (among_codes f step at k) steps
    → at + 4 ≤ f.walk.end → Bytes pay → k + 1 < length steps
    → {value extra more : ℕ} → Brief (get_or pay at 0) (get_or pay (at + 1) 0) value extra more → more ≡ 0
    → {value' extra' more' : ℕ} → Brief (get_or pay (at + 1 + extra) 0) (get_or pay (at + 1 + extra + 1) 0) value' extra' more' → more' ≡ 0
    → Grown s pay f before (among_codes f (step + 1 + value + 1 + value') (at + 1 + extra + 1 + extra') (k + 2))
    (set (set steps k step) (k + 1) (step + 1 + value))
run_two {s} {pay} {f} {before} {steps} {step} {at} {k} g h y room {value} {extra} c z {value'} {extra'} c' z' =
    let q : k + 1 + 1 ≡ k + 2 = omega arith in
    let one = run_one g (omega arith) y (omega arith) c z in
    let after : List ℕ = set (set steps k step) (k + 1) (step + 1 + value) in
    subst (λ (n : ℕ). Grown s pay f before (among_codes f (step + 1 + value + 1 + value') (at + 1 + extra + 1 + extra') n) after) q
    (run_one one.0 (omega (arith, c.second)) y (omega (arith, length-set steps k step)) c' z').0
