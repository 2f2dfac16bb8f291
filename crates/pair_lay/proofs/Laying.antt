-- Laying the steps ahead of a walk into a window, one turn after the other.
-- Assumes nothing.
use mathlib.Core.Path.{◌≡◌, refl, sym, ap, ◌∙◌}
use mathlib.Core.List.{List, [], ◌++◌, append_assoc}
use Prim.Native.Nat.{ℕ, ◌+◌, ◌*◌, ◌^◌, ◌≤◌, ◌<◌}
use native.Mathlib.Omega.{arith}
use lib.ListN.{length, length-append}
use Rattle.lists.specs.Rising.{beyond}
use Rattle.lists.proofs.Rising.{beyond-append, beyond_rest}
use Rattle.rules.specs.Limits.{no_step}
use Rattle.row.specs.Words.{word_bits}
use Rattle.pair_window.specs.Window.{words_from}
use Rattle.pair_window.proofs.Words.{length_words}
use Rattle.image_walk.specs.declared.Walk.{Walk}
use Rattle.image_walk.specs.Walk.{ahead, Stands}
use Rattle.image_walk.proofs.Ahead.{later_from}
use Rattle.pair_lay_row.specs.Lays.{Lays}
use Rattle.pair_lay.specs.Lays.{LaysWindow}

-- what of the steps ahead of `w` is laid already

pub record LayingWindow (s pay : List ℕ) (w : Walk) (o k : ℕ) (words : List ℕ) (r : Walk) : Type 0 where
  pub laid : List ℕ
  pub stands : Stands s pay r
  pub split : ahead s pay w ≡ laid ++ ahead s pay r
  pub before : beyond o laid ≤ o + word_bits * k
  pub size : length words ≡ k
  pub are : words ≡ words_from k o laid

module _ {s pay : List ℕ} {w : Walk} {o k : ℕ} where
  pub laying_start : {words : List ℕ} → Stands s pay w → length words ≡ k → words ≡ words_from (length words) o []
      → LayingWindow s pay w o k words w
  laying_start {words} t n e =
      record {
        laid = [];
        stands = t;
        split = refl;
        before = omega arith;
        size = n;
        are = e ∙ ap (λ (m : ℕ). words_from m o []) n;
      }

  module _ {words : List ℕ} {r : Walk} (f : LayingWindow s pay w o k words r) where
    -- the walk is not before the window
    pub laying_from : Stands s pay w → w.bits < 2 ^ word_bits → o ≤ w.step → o ≤ r.step
    laying_from t fits h = later_from s pay w t fits o f.laid r h f.split

    pub laying_turn : {words' : List ℕ} {r' : Walk} → Lays s pay r o words words' r'
        → LayingWindow s pay w o k words' r' × (length (ahead s pay r') < length (ahead s pay r))
    laying_turn {words'} {r'} y =
        let e : words' ≡ words_from k o (f.laid ++ y.laid) =
        y.are f.laid (f.are ∙ ap (λ (m : ℕ). words_from m o f.laid) (sym f.size))
        ∙ ap (λ (m : ℕ). words_from m o (f.laid ++ y.laid)) f.size
        in (
          record {
            laid = f.laid ++ y.laid;
            stands = y.stands;
            split = f.split ∙ ap (λ (l : List ℕ). f.laid ++ l) y.split ∙ sym (append_assoc f.laid y.laid (ahead s pay r'));
            before =
                omega (
                  arith,
                  beyond-append o f.laid y.laid,
                  beyond_rest o (beyond o f.laid) (o + word_bits * k) [] y.laid f.before (omega (arith, y.before, f.size)),
                );
            size = ap length e ∙ length_words k o (f.laid ++ y.laid);
            are = e;
          },
          omega (arith, y.some, ap length y.split ∙ length-append y.laid (ahead s pay r')),
        )

  pub laying_end : {words : List ℕ} {r : Walk} → LayingWindow s pay w o k words r → (r.step < no_step → o + word_bits * k ≤ r.step)
      → LaysWindow s pay w o words r
  laying_end {words} {r} f h =
      record {
        laid = f.laid;
        stands = f.stands;
        split = f.split;
        before = omega (arith, f.before, f.size);
        after = λ g. omega (arith, h g, f.size);
        are = f.are ∙ ap (λ (m : ℕ). words_from m o f.laid) (sym f.size);
      }
