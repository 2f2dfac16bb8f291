-- Taking numbers from a feed.
-- Assumes nothing.
use mathlib.Core.Path.{◌≡◌, sym, ap, ◌∙◌}
use mathlib.Core.List.{List}
use Prim.Native.Nat.{ℕ, ◌+◌, ◌-◌, ◌≤◌, ◌<◌}
use native.Mathlib.Omega.{arith}
use lib.ListN.{length, get_or, drop, length-drop}
use lib.Seq.{drop-drop, get_or-drop}
use Rattle.rules.specs.Limits.{no_step}
use Rattle.pair_feed.specs.declared.Feed.{Feed}
use Rattle.pair_feed.specs.Feed.{Fed}

-- taking `m` of the numbers that a feed shows
pub Fed-past : {s pay : List ℕ} {f : Feed} {steps xs : List ℕ} → Fed s pay f steps xs → (m : ℕ) → m ≤ f.end - f.at
    → Fed s pay (record { walk = f.walk; at = f.at + m; end = f.end }) steps (drop m xs)
Fed-past {s} {pay} {f} {steps} {xs} t m h =
    let past : m + (f.end - (f.at + m)) ≡ f.end - f.at = omega arith in
    record {
      stands = t.stands;
      rest = t.rest ∙ ap (λ (n : ℕ). drop n xs) (sym past) ∙ sym (drop-drop (f.end - (f.at + m)) m xs);
      shows =
          λ i l.
          let q : f.at + m + i ≡ f.at + (m + i) = omega arith in
          ap (λ (n : ℕ). get_or steps n 0) q ∙ t.shows (m + i) (omega arith) ∙ sym (get_or-drop m xs i no_step);
      order = omega (arith, t.order);
      within = t.within;
      real = λ l. let some : 0 < length xs = omega (arith, length-drop m xs) in omega (arith, t.real some, length-drop m xs);
    }
