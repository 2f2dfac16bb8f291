-- Laying the steps of codes of one byte or two into a window, one after the other.
-- Assumes nothing.
use mathlib.Core.Path.{◌≡◌, refl, sym, ap, ◌∙◌, subst}
use mathlib.Core.List.{List, [], ◌∷◌, ◌++◌, append-nil, append_assoc}
use Prim.Native.Nat.{ℕ, ◌+◌, ◌-◌, ◌*◌, ◌≤◌, ◌<◌}
use native.Mathlib.Omega.{arith}
use lib.ListN.{length, length-append}
use Rattle.lists.specs.Rising.{beyond}
use Rattle.lists.specs.Parts.{part}
use Rattle.lists.specs.Bytes.{Bytes}
use Rattle.lists.proofs.Choice.{by_lt}
use Rattle.lists.proofs.Rising.{beyond-append, beyond_rest}
use Rattle.rules.specs.Limits.{no_step}
use Rattle.std.specs.Prelude.{Ok}
use Rattle.code.specs.Code.{reading, read_at}
use Rattle.row.specs.Words.{word_bits}
use Rattle.pair_window.specs.Window.{words_from, Adds}
use Rattle.image.specs.Entry.{before_at}
use Rattle.image_walk.specs.declared.Walk.{Walk}
use Rattle.image_walk.specs.Blocks.{later}
use Rattle.image_walk.specs.Walk.{here, ahead, Placed, Stands}
use Rattle.image_walk.specs.Turns.{coded_walk}
use Rattle.pair_lay_row.specs.Lays.{Lays}
use Rattle.pair_lay.specs.Inside.Runs.{Ran}
use Rattle.image_walk.proofs.Shapes.{beyond_first, ahead_step}
use Rattle.image_walk.proofs.Passing.{code_next, code_same}

module _ (pay : List ℕ) (w : Walk) (o : ℕ) (words : List ℕ) where
  -- before the first
  pub Ran_start : Placed pay w → w.bits ≡ 0 → w.at < w.end → o ≤ w.step
      → Ran pay w o words words (coded_walk w.step w.at w.end w.block)
  Ran_start p b h l =
      let k = code_same pay w p b h in
      record {
        laid = [];
        block = refl;
        end = refl;
        placed = k.0;
        on = by_lt w.step no_step (λ g. g) (λ g. absurd (omega (arith, (p.off g).at)));
        from = l;
        is = ap (λ (m : List ℕ). w.step ∷ m) (sym k.1);
        before = omega arith;
        size = refl;
        are = λ xs e. e ∙ ap (words_from (length words) o) (sym (append-nil xs));
      }

  -- one more, whose code is followed by that of `gap`
  module _ (words' : List ℕ) (step at : ℕ) (s : Ran pay w o words words' (coded_walk step at w.end w.block)) where
    pub Ran_turn : Bytes pay → at < w.end → step < o + word_bits * length words → (gap n : ℕ) → read_at (part pay at w.end) 0 ≡ Ok (reading gap n)
        → (words'' : List ℕ) → length words'' ≡ length words' → Adds words' (λ (p : ℕ). (p + (step - o)) ∷ []) words''
        → Ran pay w o words words'' (coded_walk (step + (gap + 1)) (at + n) w.end w.block)
    Ran_turn y h l gap n r words'' z a =
        let v : Walk = coded_walk step at w.end w.block in
        let q : step + 1 + gap ≡ step + (gap + 1) = omega arith in
        let k = code_next pay v s.placed refl h gap n y r in
        let rest : List ℕ = (step + 1 + gap) ∷ here pay (coded_walk (step + 1 + gap) (at + n) w.end w.block) in
        let at-step : o + (step - o) ≡ step = omega (arith, s.from) in
        let len : ℕ = length words in
        subst (λ (m : ℕ). Ran pay w o words words'' (coded_walk m (at + n) w.end w.block)) q
        (record {
          laid = s.laid ++ (step ∷ []);
          block = refl;
          end = refl;
          placed = k.placed;
          on = k.on;
          from = omega (arith, s.from);
          is = s.is ∙ ap (λ (m : List ℕ). s.laid ++ (step ∷ m)) k.is ∙ sym (append_assoc s.laid (step ∷ []) rest);
          before = omega (arith, beyond-append o s.laid (step ∷ []));
          size = z ∙ s.size;
          are =
              λ xs e.
              a o (xs ++ s.laid) (s.are xs e ∙ ap (λ (m : ℕ). words_from m o (xs ++ s.laid)) (sym s.size))
              ∙ ap (λ (m : ℕ). words_from m o ((xs ++ s.laid) ++ ((o + (step - o)) ∷ []))) s.size
              ∙ ap (λ (m : ℕ). words_from len o ((xs ++ s.laid) ++ (m ∷ []))) at-step
              ∙ ap (words_from len o) (append_assoc xs s.laid (step ∷ []));
        })

-- ---- in the image: the step of a code

module _ {s pay : List ℕ} {w : Walk} {o : ℕ} {words words' : List ℕ} {r : Walk} where
  pub Lays_code : (place : ℕ) → o + place ≡ w.step → w.step < o + word_bits * length words
      → Adds words (λ (p : ℕ). (p + place) ∷ []) words' → Stands s pay r → ahead s pay w ≡ w.step ∷ ahead s pay r
      → Lays s pay w o words words' r
  Lays_code place q l a t e =
      record {
        laid = w.step ∷ [];
        stands = t;
        split = e;
        some = omega arith;
        before = omega arith;
        are = λ xs is. a o xs is ∙ ap (λ (n : ℕ). words_from (length words) o (xs ++ (n ∷ []))) q;
      }

-- and then a run, after a turn that came to `v`

module _ {s pay : List ℕ} {w : Walk} {o : ℕ} {words between words' : List ℕ} {v r : Walk} (y : Lays s pay w o words between v)
    (n : length between ≡ length words) (h : v.step < no_step) (k : Ran pay v o between words' r) where
  run_ahead : ahead s pay v ≡ k.laid ++ ahead s pay r
  run_ahead =
      ahead_step s pay v h
      ∙ ap (λ (l : List ℕ). l ++ later s pay v.block) k.is
      ∙ append_assoc k.laid (r.step ∷ here pay r) (later s pay v.block)
      ∙ ap (λ (i : ℕ). k.laid ++ (r.step ∷ (here pay r ++ later s pay i))) (sym k.block)
      ∙ ap (λ (l : List ℕ). k.laid ++ l) (sym (ahead_step s pay r k.on))

  run_last : beyond (r.step + 1) (here pay r) ≡ (before_at s r.block).next
  run_last =
      beyond_first (beyond 0 k.laid) r.step (r.step ∷ here pay r) (here pay r) refl
      ∙ sym (beyond-append 0 k.laid (r.step ∷ here pay r))
      ∙ ap (beyond 0) (sym k.is)
      ∙ sym (beyond_first 0 v.step (v.step ∷ here pay v) (here pay v) refl)
      ∙ y.stands.last h
      ∙ ap (λ (i : ℕ). (before_at s i).next) (sym k.block)

  pub Lays_run : Lays s pay w o words words' r
  Lays_run =
      record {
        laid = y.laid ++ k.laid;
        stands = record { placed = k.placed; blocks = rw (k.block, k.end) y.stands.blocks; last = λ g. run_last };
        split =
            y.split
            ∙ ap (λ (l : List ℕ). y.laid ++ l) run_ahead
            ∙ sym (append_assoc y.laid k.laid (ahead s pay r));
        some = omega (arith, y.some, length-append y.laid k.laid);
        before =
            omega (
              arith,
              beyond-append o y.laid k.laid,
              beyond_rest o (beyond o y.laid) (o + word_bits * length words) [] k.laid y.before (omega (arith, k.before, n)),
            );
        are =
            λ xs e.
            k.are (xs ++ y.laid) (y.are xs e ∙ ap (λ (m : ℕ). words_from m o (xs ++ y.laid)) (sym n))
            ∙ ap (λ (m : ℕ). words_from m o ((xs ++ y.laid) ++ k.laid)) n
            ∙ ap (words_from (length words) o) (append_assoc xs y.laid k.laid);
      }
