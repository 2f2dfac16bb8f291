-- A whole buffer: from a walk on, and past the last step.
-- Assumes nothing.
use mathlib.Core.Path.{◌≡◌, refl, sym, ap, ◌∙◌}
use mathlib.Core.List.{List, []}
use Prim.Native.Nat.{ℕ, ◌+◌, ◌-◌, ◌≤◌, ◌<◌}
use native.Mathlib.Omega.{arith}
use lib.ListN.{length, get_or, drop, drop_of_length-le}
use Rattle.rules.specs.Limits.{no_step}
use Rattle.image_walk.specs.declared.Walk.{Walk}
use Rattle.image_walk.specs.Walk.{ahead, Stands}
use Rattle.image_walk.proofs.Shapes.{ahead_none}
use Rattle.pair_feed.specs.declared.Feed.{Feed}
use Rattle.pair_feed.specs.Feed.{Fed}
use Rattle.pair_feed.specs.Inside.Growth.{Grown}

module _ {s pay : List ℕ} {w : Walk} (t : Stands s pay w) where
  -- nothing is read yet
  pub Fed_start : (steps : List ℕ) → Fed s pay (record { walk = w; at = 0; end = 0 }) steps (ahead s pay w)
  Fed_start steps =
      record {
        stands = t;
        rest = refl;
        shows = λ i l. absurd (omega arith);
        order = omega arith;
        within = omega arith;
        real = λ l. omega arith;
      }

  -- a buffer that grew from there
  pub Fed-Grown : {before after : List ℕ} {g : Feed} → Grown s pay (record { walk = w; at = 0; end = 0 }) before g after
      → Fed s pay g after (ahead s pay w)
  Fed-Grown {before} k = k.keeps (ahead s pay w) (Fed_start before)

  -- past the last step
  pub Fed_none : (steps : List ℕ) (n : ℕ) → n ≡ length steps → no_step ≤ w.step → ((i : ℕ) → i < length steps → get_or steps i 0 ≡ no_step)
      → Fed s pay (record { walk = w; at = 0; end = n }) steps (ahead s pay w)
  Fed_none steps n e h all =
      let over : ahead s pay w ≡ [] = ahead_none s pay w h in
      record {
        stands = t;
        rest = over ∙ sym (drop_of_length-le (ahead s pay w) {i = n - 0} (omega (arith, ap length over)));
        shows =
            λ i l.
            let q : 0 + i ≡ i = omega arith in
            ap (λ (k : ℕ). get_or steps k 0) q ∙ all i (omega arith) ∙ ap (λ (xs : List ℕ). get_or xs i no_step) (sym over);
        order = omega arith;
        within = omega arith;
        real = λ l. absurd (omega (arith, l, ap length over));
      }

-- all was taken, so that what is ahead is the list
pub taken_all : {s pay : List ℕ} {f : Feed} {steps xs : List ℕ} → Fed s pay f steps xs → f.end ≤ f.at → ahead s pay f.walk ≡ xs
taken_all {s} {pay} {f} {steps} {xs} d h = let q : f.end - f.at ≡ 0 = omega arith in d.rest ∙ ap (λ (n : ℕ). drop n xs) q
