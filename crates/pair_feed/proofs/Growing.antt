-- One step more in the buffer: the walk's own, where the walk moves to the next.
-- Assumes nothing.
use mathlib.Core.Path.{◌≡◌, refl, sym, ap, ◌∙◌}
use mathlib.Core.List.{List, ◌∷◌}
use Prim.Native.Nat.{ℕ, ◌+◌, ◌-◌, ◌≤◌, ◌<◌}
use native.Mathlib.Omega.{arith}
use native.Mathlib.Decide.{ℕ_discrete}
use lib.ListN.{length, get_or, drop, set, length-drop, length-set}
use lib.Seq.{get_or-set_same, get_or-set_other}
use Rattle.lists.proofs.Parts.{get_or_within}
use Rattle.rules.specs.Limits.{no_step}
use Rattle.image_walk.specs.declared.Walk.{Walk}
use Rattle.image_walk.specs.Walk.{ahead, Stands}
use Rattle.image_walk.proofs.Ranks.{rank_step, rank_next}
use Rattle.pair_feed.specs.declared.Feed.{Feed}
use Rattle.pair_feed.specs.Feed.{Fed}
use Rattle.pair_feed.specs.Inside.Growth.{Grown}

module _ {s pay : List ℕ} {f : Feed} {steps xs : List ℕ} (d : Fed s pay f steps xs) where
  -- the walk has the same steps ahead
  pub Fed_same : (v : Walk) → Stands s pay v → ahead s pay f.walk ≡ ahead s pay v
      → Fed s pay (record { walk = v; at = f.at; end = f.end }) steps xs
  Fed_same v t e =
      record { stands = t; rest = sym e ∙ d.rest; shows = d.shows; order = d.order; within = d.within; real = d.real }

  -- the walk's step was stored, and the walk is past it
  pub Fed_one : f.end < length steps → (v : Walk) → Stands s pay v → ahead s pay f.walk ≡ f.walk.step ∷ ahead s pay v
      → Fed s pay (record { walk = v; at = f.at; end = f.end + 1 }) (set steps f.end f.walk.step) xs
  Fed_one h v t e =
      let m : ℕ = f.end - f.at in
      let on : m < length xs = omega (arith, length-drop m xs, ap length (sym d.rest ∙ e)) in
      let more : f.end + 1 - f.at ≡ m + 1 = omega (arith, d.order) in
      record {
        stands = t;
        rest = rank_next s pay f.walk xs m d.rest v on e ∙ ap (λ (n : ℕ). drop n xs) (sym more);
        shows = λ i l. shown i (omega arith) ((rank_step s pay f.walk xs m d.rest on).1 ∙ get_or_within xs m 0 no_step on) (ℕ_discrete i m);
        order = omega (arith, d.order);
        within = omega (arith, length-set steps f.end f.walk.step);
        real = λ l. omega arith;
      }
    where
      shown : (i : ℕ) → i ≤ f.end - f.at → f.walk.step ≡ get_or xs (f.end - f.at) no_step → Dec (i ≡ f.end - f.at)
          → get_or (set steps f.end f.walk.step) (f.at + i) 0 ≡ get_or xs i no_step
      shown i l is (yes q) =
          let place : f.at + i ≡ f.end = omega (arith, d.order) in
          ap (λ (n : ℕ). get_or (set steps f.end f.walk.step) n 0) place
          ∙ get_or-set_same steps f.end f.walk.step 0 h
          ∙ is
          ∙ ap (λ (n : ℕ). get_or xs n no_step) (sym q)
      shown i l is (no q) =
          get_or-set_other steps f.end (f.at + i) f.walk.step 0 (λ z. q (omega arith)) ∙ d.shows i (omega (arith, q))

-- ---- from a feed on

module _ {s pay : List ℕ} {f : Feed} {steps : List ℕ} where
  -- nothing is read yet
  pub Grown_start : Stands s pay f.walk → f.end ≤ length steps → Grown s pay f steps f steps
  Grown_start t h = record { stands = t; keeps = λ xs d. d; from = refl; longer = omega arith; within = h; size = refl }

  module _ {g : Feed} {steps' : List ℕ} (k : Grown s pay f steps g steps') where
    pub Grown_same : (v : Walk) → Stands s pay v → ahead s pay g.walk ≡ ahead s pay v
        → Grown s pay f steps (record { walk = v; at = g.at; end = g.end }) steps'
    Grown_same v t e =
        record { stands = t; keeps = λ xs d. Fed_same (k.keeps xs d) v t e; from = k.from; longer = k.longer; within = k.within; size = k.size }

    pub Grown_one : g.end < length steps' → (v : Walk) → Stands s pay v → ahead s pay g.walk ≡ g.walk.step ∷ ahead s pay v
        → Grown s pay f steps (record { walk = v; at = g.at; end = g.end + 1 }) (set steps' g.end g.walk.step)
    Grown_one h v t e =
        let n = length-set steps' g.end g.walk.step in
        record {
          stands = t;
          keeps = λ xs d. Fed_one (k.keeps xs d) h v t e;
          from = k.from;
          longer = omega (arith, k.longer);
          within = omega (arith, n);
          size = n ∙ k.size;
        }

    pub Grown_more : {r : Feed} {steps'' : List ℕ} → Grown s pay g steps' r steps'' → Grown s pay f steps r steps''
    Grown_more m =
        record {
          stands = m.stands;
          keeps = λ xs d. m.keeps xs (k.keeps xs d);
          from = m.from ∙ k.from;
          longer = omega (arith, m.longer, k.longer);
          within = m.within;
          size = m.size ∙ k.size;
        }
