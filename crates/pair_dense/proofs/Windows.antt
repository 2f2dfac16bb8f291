-- Two walks by windows: what falls into a window is laid into its words, the result has the steps of the joined words, and then the result of what
-- the walks have after the window.
-- Assumes nothing.
use mathlib.Core.Path.{◌≡◌, sym, ap, ap₂, ◌∙◌, subst}
use mathlib.Core.Bool.{Bool, ◌||◌, or-false}
use mathlib.Core.List.{List, [], ◌∷◌, ◌++◌}
use Prim.Native.Nat.{ℕ, ◌+◌, ◌*◌, ◌≤◌, ◌<◌, min}
use native.Mathlib.Omega.{arith}
use lib.ListN.{length, length-append}
use Rattle.lists.specs.Rising.{Rising, beyond}
use Rattle.lists.specs.Members.{has}
use Rattle.lists.proofs.Choice.{by_lt}
use Rattle.lists.proofs.Rising.{Rising_weaken, Rising-append, Rising_front, Rising_back, beyond_rest}
use Rattle.lists.proofs.Members.{has-append, has_below, has-beyond}
use Rattle.rules.specs.Limits.{no_step}
use Rattle.row.specs.Words.{word_bits}
use Rattle.pair_window.specs.Window.{words_from}
use Rattle.image_walk.specs.declared.Walk.{Walk}
use Rattle.image_walk.specs.Walk.{ahead}
use Rattle.pair_lay.specs.Lays.{LaysWindow}
use Rattle.image_walk.proofs.Shapes.{ahead_none}
use Rattle.pair_operation.specs.declared.Operation.{Operation}
use Rattle.pair_operation.specs.Result.{keeps, sieve, result_of}
use Rattle.pair_operation.specs.Inside.Merge.{head_of}
use Rattle.pair_dense.specs.declared.Walks.{Walks}
use Rattle.pair_dense.specs.Inside.Words.{steps_in}
use Rattle.pair_dense.specs.Inside.Walks.{Along, Together, result_ahead, Passes}
use Rattle.pair_operation.proofs.Result.{keeps_none, Rising-sieve, beyond-sieve, has-sieve, has_result, Result_one, Result_is}
use Rattle.pair_operation.proofs.Turns.{Rising_result_from}
use Rattle.pair_dense.proofs.Words.{steps_in_words}
use Rattle.pair_dense.proofs.Walking.{head_ahead}

-- ---- two lists

-- a list that has `xs` in the window of `w` steps from `x` on, and `ys` after it
pub record Split (x w : ℕ) (xs ys : List ℕ) : Type 0 where
  pub rising : Rising x (xs ++ ys)
  pub before : beyond x xs ≤ x + w
  pub after : Rising (x + w) ys

module _ {x w : ℕ} {xs ys : List ℕ} (s : Split x w xs ys) where
  split_rising : Rising 0 (xs ++ ys)
  split_rising = Rising_weaken (xs ++ ys) (omega arith) s.rising

  has_within : (z : ℕ) → z < x + w → has z (xs ++ ys) ≡ has z xs
  has_within z h =
      has-append z xs ys ∙ ap (λ (b : Bool). has z xs || b) (has_below z (x + w) ys s.after h) ∙ or-false (has z xs)

  has_past_window : (z : ℕ) → x + w ≤ z → has z (xs ++ ys) ≡ has z ys
  has_past_window z h =
      has-append z xs ys
      ∙ ap (λ (b : Bool). b || has z ys) (has-beyond z x xs (Rising_front x xs ys s.rising) (omega (arith, s.before)))

-- A WINDOW OF THE RESULT: what the operation keeps there, and then the result of what is left
module _ (op : Operation) (x w : ℕ) {xs ys xs' ys' : List ℕ} (s : Split x w xs xs') (t : Split x w ys ys') where
  kept : List ℕ
  kept = sieve w x (λ (z : ℕ). keeps op (has z xs) (has z ys))

  rest : List ℕ
  rest = result_of op xs' ys'

  rising_rest : Rising (x + w) rest
  unfolding rest
  rising_rest = Rising_result_from op (x + w) xs' ys' s.after t.after

  beyond_kept : (n : ℕ) → n ≤ x + w → beyond n kept ≤ x + w
  unfolding kept
  beyond_kept n h = beyond-sieve w x n (x + w) (λ (z : ℕ). keeps op (has z xs) (has z ys)) h (omega arith)

  rising_kept : Rising x kept
  unfolding kept
  rising_kept = Rising-sieve w x (λ (z : ℕ). keeps op (has z xs) (has z ys))

  kept_within : (z : ℕ) → x ≤ z → z < x + w → has z kept ≡ keeps op (has z xs) (has z ys)
  unfolding kept
  kept_within z h g = has-sieve w x (λ (y : ℕ). keeps op (has y xs) (has y ys)) z h g

  has_rest : (z : ℕ) → has z rest ≡ keeps op (has z xs') (has z ys')
  unfolding rest
  has_rest = has_result op xs' ys' (Rising_weaken xs' (omega arith) s.after) (Rising_weaken ys' (omega arith) t.after)

  member : (z : ℕ) → has z (kept ++ rest) ≡ keeps op (has z (xs ++ xs')) (has z (ys ++ ys'))
  member z =
      has-append z kept rest
      ∙ by_lt z (x + w)
      (λ h.
      ap (λ (b : Bool). has z kept || b) (has_below z (x + w) rest rising_rest h)
      ∙ or-false (has z kept)
      ∙ by_lt z x
      (λ g.
      has_below z x kept rising_kept g
      ∙ sym (ap₂ (keeps op) (has_below z x (xs ++ xs') s.rising g) (has_below z x (ys ++ ys') t.rising g) ∙ keeps_none op))
      (λ g. kept_within z g h ∙ sym (ap₂ (keeps op) (has_within s z h) (has_within t z h))))
      (λ h.
      ap (λ (b : Bool). b || has z rest) (has-beyond z x kept rising_kept (omega (arith, beyond_kept x (omega arith))))
      ∙ has_rest z
      ∙ sym (ap₂ (keeps op) (has_past_window s z h) (has_past_window t z h)))

  pub result_window : result_of op (xs ++ xs') (ys ++ ys') ≡ sieve w x (λ (z : ℕ). keeps op (has z xs) (has z ys)) ++ result_of op xs' ys'
  unfolding kept rest
  result_window =
      Result_one op (xs ++ xs') (ys ++ ys') (result_of op (xs ++ xs') (ys ++ ys')) (kept ++ rest)
      (Result_is op (xs ++ xs') (ys ++ ys') (split_rising s) (split_rising t))
      (record {
        rising =
            Rising-append 0 kept rest (Rising_weaken kept (omega arith) rising_kept)
            (Rising_weaken rest (beyond_kept 0 (omega arith)) rising_rest);
        members = member;
      })

-- ---- one walk

head_Rising : (o x t : ℕ) (l : List ℕ) → Rising o l → x ≤ head_of t l → Rising x l
head_Rising o x t [] r h = tt
head_Rising o x t (y ∷ l) r h = (h, r.1)

-- where the next window begins at the earliest
abbrev pub window_end : ℕ → ℕ → ℕ
window_end x w = min (x + w) no_step

-- the walk `r` has after the window of these words what `a` had ahead
module _ {o x : ℕ} {s pay : List ℕ} {a : Walk} {words : List ℕ} {r : Walk} (l : Along o s pay a) (h : x ≤ a.step) (f : LaysWindow s pay a x words r) where
  window : ℕ
  window = word_bits * length words

  Rising-ahead : Rising x (f.laid ++ ahead s pay r)
  Rising-ahead =
      subst (Rising x) f.split
      (head_Rising o x no_step (ahead s pay a) l.below.rising (omega (arith, head_ahead s pay a l.stands)))

  Rising_after : (n : ℕ) → n ≤ x + window → Rising n (ahead s pay r)
  unfolding window
  Rising_after n k =
      by_lt r.step no_step
      (λ g.
      head_Rising (beyond x f.laid) n no_step (ahead s pay r) (Rising_back x f.laid (ahead s pay r) Rising-ahead)
      (omega (arith, head_ahead s pay r f.stands, f.after g)))
      (λ g. subst (Rising n) (sym (ahead_none s pay r g)) tt)

  pub laid_Split : Split x (word_bits * length words) f.laid (ahead s pay r)
  unfolding window
  laid_Split = record { rising = Rising-ahead; before = f.before; after = Rising_after (x + window) (omega arith) }

  pub laid_Along : Along (window_end x (word_bits * length words)) s pay r
  unfolding window
  laid_Along =
      record {
        stands = f.stands;
        below =
            record {
              rising = Rising_after (window_end x window) (omega arith);
              small =
                  beyond_rest o (window_end x window) no_step f.laid (ahead s pay r) (omega arith)
                  (subst (λ (m : List ℕ). beyond o m ≤ no_step) f.split l.below.small);
            };
      }

  -- the next step is after the window, or there is none
  pub laid_past : 0 < length words → x < no_step → x < r.step
  laid_past k g = by_lt r.step no_step (λ e. omega (arith, f.after e)) (λ e. omega arith)

-- ---- two walks

module _ {s pay t tail : List ℕ} {m : Walks} (w : Together s pay t tail m) {left right : List ℕ} {a b : Walk}
    (f : LaysWindow s pay m.first m.next left a) (g : LaysWindow t tail m.second m.next right b) (same : length left ≡ length right) where
  from_first : m.next ≤ m.first.step
  from_first = omega (arith, w.lower)

  from_second : m.next ≤ m.second.step
  from_second = omega (arith, w.lower)

  window_turn : (op : Operation) → result_ahead op s pay t tail m ≡ steps_in op m.next left right ++ result_of op (ahead s pay a) (ahead t tail b)
  window_turn op =
      let x : ℕ = m.next in
      let n : ℕ = length left in
      let v : Split x (word_bits * n) g.laid (ahead t tail b) =
      subst (λ (k : ℕ). Split x (word_bits * k) g.laid (ahead t tail b)) (sym same) (laid_Split w.second from_second g)
      in
      let r : right ≡ words_from n x g.laid = g.are ∙ ap (λ (k : ℕ). words_from k x g.laid) (sym same) in
      ap₂ (result_of op) f.split g.split
      ∙ result_window op x (word_bits * n) (laid_Split w.first from_first f) v
      ∙ ap (λ (l : List ℕ). l ++ result_of op (ahead s pay a) (ahead t tail b))
      (sym (ap₂ (steps_in op x) f.are r ∙ steps_in_words op n x f.laid g.laid))

  pub window_Passes : {x : ℕ} → x ≡ min a.step b.step → 0 < length left → m.next < no_step
      → Passes s pay t tail m left right (record { first = a; second = b; next = x })
  window_Passes e k h =
      record {
        together =
            record {
              from = window_end m.next (word_bits * length left);
              first = laid_Along w.first from_first f;
              second =
                  subst (λ (n : ℕ). Along (window_end m.next (word_bits * n)) t tail b) (sym same) (laid_Along w.second from_second g);
              lower = e;
            };
        same = same;
        past = omega (arith, laid_past w.first from_first f k h, laid_past w.second from_second g (omega arith) h);
        turn = window_turn;
      }

module _ {s pay t tail : List ℕ} {m : Walks} {left right : List ℕ} {r : Walks} (p : Passes s pay t tail m left right r) (op : Operation) where
  pub passes_length : length (result_ahead op s pay t tail m) ≡ length (steps_in op m.next left right) + length (result_ahead op s pay t tail r)
  passes_length = ap length (p.turn op) ∙ length-append (steps_in op m.next left right) (result_ahead op s pay t tail r)

  -- where there is room for all, there is room for the steps of the window
  pub passes_room : (n k : ℕ) → n + length (result_ahead op s pay t tail m) ≤ k → n + length (steps_in op m.next left right) ≤ k
  passes_room n k h = omega (arith, passes_length)
