-- A move past ones of the loaded word, several at once: past all of them, or past those before a bound.
-- Assumes nothing.
use mathlib.Core.Path.{◌≡◌, refl, sym, ap, ◌∙◌, subst}
use mathlib.Core.List.{List, [], ◌∷◌, ◌++◌, append-nil, append_assoc}
use Prim.Native.Nat.{ℕ, ◌+◌, ◌-◌, ◌*◌, ◌/◌, ◌%◌, ◌^◌, ◌≤◌, ◌<◌}
use native.Mathlib.Omega.{arith}
use native.Mathlib.Nat.{div-add-mod'}
use lib.Count.{count_leading_zeros, leading_top}
use lib.ListN.{length}
use Rattle.lists.specs.Rising.{Rising, beyond}
use Rattle.lists.specs.Parts.{part}
use Rattle.lists.proofs.Rising.{beyond-append, beyond_rest, Rising_weaken, Rising-append}
use Rattle.rules.specs.Limits.{no_step}
use Rattle.rules.specs.Limits.Laws.{largest_coded}
use Rattle.row.specs.Row.{bits_from}
use Rattle.row.specs.Words.{word_bits}
use Rattle.row.proofs.Row.{Rising_row}
use Rattle.row.proofs.Bits.{bits_zero, Rising_bits, beyond_bits, Rising_bits_on, bits_lowest, beyond_highest}
use Rattle.image_walk.specs.declared.Walk.{Walk}
use Rattle.image_walk.specs.Blocks.{later}
use Rattle.image_walk.specs.Walk.{row_in, here, ahead, Stands}
use Rattle.image_walk.specs.Turns.{met_walk, left, Left, onward, Turned}
use Rattle.pair_lay_row.specs.Inside.Rows.{word_rest, Cuts}
use Rattle.image_walk.proofs.Shapes.{left_row, first_below}
use Rattle.image_walk.proofs.Ahead.{word_here, word_beyond, word_ahead}
use Rattle.image_walk.proofs.Passing.{on_step}
use Rattle.image_walk.proofs.Standing.{met_Placed, row_Readable}
use Rattle.pair_lay_row.proofs.Bits.{bits_above, bits_split, lowest_shifted}

-- ---- at a one of the loaded word

module _ {s pay : List ℕ} {w : Walk} (t : Stands s pay w) (some : 0 < w.bits) (fits : w.bits < 2 ^ word_bits) where
  pub at_step : (w.step < no_step) × ((w.low ≤ w.step) × (w.low < 2 ^ 32))
  at_step =
      let h = on_step pay w t.placed (λ z. omega arith) fits in
      let l = (t.placed.on h).low in
      (h, (l, omega (arith, l, largest_coded)))

  -- the word from its lowest one on
  pub shifted : (w.low ≤ w.step) × ((w.step - w.low < word_bits) × (bits_from word_bits w.step (w.bits / 2 ^ (w.step - w.low)) ≡ bits_from word_bits w.low w.bits))
  shifted =
      let o = t.placed.on at_step.0 in
      (o.low, lowest_shifted w.low w.step w.bits some fits (o.row (λ z. omega arith)).lowest)

-- ---- past all of them

-- one past the highest
highest : (o v : ℕ) → 0 < v → v < 2 ^ word_bits → (p : ℕ) → beyond p (bits_from word_bits o v) ≡ o + word_bits - count_leading_zeros word_bits v
highest o v g h p =
    let t = leading_top word_bits v g h in
    omega (arith, beyond_highest word_bits o p t.0 v (omega (arith, t.1)) t.2 t.3, t.1)

module _ {s pay : List ℕ} {w : Walk} (t : Stands s pay w) (b : w.bits ≡ 0 → ⊥) (fits : w.bits < 2 ^ word_bits) (h : w.step < no_step) where
  row : List ℕ
  row = row_in (w.low + word_bits) pay w.at w.end

  beyond_word : beyond (word_rest w).next (left pay (word_rest w)) ≡ beyond (w.step + 1) (here pay w)
  unfolding row
  beyond_word =
      let l = ((t.placed.on h).row b).lowest in
      ap (beyond (word_rest w).next) (left_row pay (word_rest w) b)
      ∙ ap (λ (n : ℕ). beyond n row) (sym (highest w.low w.bits (omega arith) fits 0))
      ∙ sym (beyond-append 0 (bits_from word_bits w.low w.bits) row)
      ∙ sym (word_beyond pay w b fits l 0)

  pub word_Left : Left s pay (word_rest w)
  word_Left =
      let a = t.placed.on h in
      record {
        readable =
            row_Readable a.few a.within b (omega (arith, beyond_word, a.small)) (omega arith) (λ g. omega (arith, beyond_word, (a.row b).tight g));
        blocks = t.blocks;
        last = beyond_word ∙ t.last h;
      }

  pub word_onward : ahead s pay w ≡ bits_from word_bits w.low w.bits ++ onward s pay (word_rest w)
  word_onward =
      word_ahead pay w b fits ((t.placed.on h).row b).lowest s h
      ∙ ap (λ (l : List ℕ). bits_from word_bits w.low w.bits ++ (l ++ later s pay w.block)) (sym (left_row pay (word_rest w) b))

  -- all of them lie before the bound
  pub cut_all : {r : Walk} {e : ℕ} → Turned s pay (word_rest w) r → beyond 0 (bits_from word_bits w.low w.bits) ≤ e → Cuts s pay w e r
  cut_all {r} {e} d g =
      let word : List ℕ = bits_from word_bits w.low w.bits in
      record {
        laid = word;
        others = [];
        stands = d.stands;
        split = word_onward ∙ ap (λ (l : List ℕ). word ++ l) (sym d.is);
        word = sym (append-nil word);
        some = omega (arith, ap length (bits_lowest word_bits w.low w.bits (omega arith) fits));
        before = g;
        after = tt;
      }

-- where the first of two lists together lies before the second may begin, the first list has it
front_some : (e x : ℕ) (zs xs ys : List ℕ) → x ∷ zs ≡ xs ++ ys → Rising e ys → x < e → 0 < length xs
front_some e x zs [] ys q r h = let u : Rising e (x ∷ zs) = subst (Rising e) (sym q) r in absurd (omega (arith, u.0))
front_some e x zs (y ∷ xs) ys q r h = omega arith

-- ---- past those before a bound, which falls into the word

module _ {s pay : List ℕ} {w : Walk} (t : Stands s pay w) (b : w.bits ≡ 0 → ⊥) (fits : w.bits < 2 ^ word_bits) (h : w.step < no_step)
    (e kept : ℕ) (from : w.low ≤ e) (inside : e < w.low + word_bits) (k : w.step < e)
    (is : kept ≡ w.bits / 2 ^ (e - w.low) * 2 ^ (e - w.low)) where
  under : List ℕ
  under = bits_from (e - w.low) w.low (w.bits % 2 ^ (e - w.low))

  word_parts : bits_from word_bits w.low w.bits ≡ under ++ bits_from word_bits w.low kept
  unfolding under
  word_parts =
      bits_split word_bits (e - w.low) w.low w.bits (omega arith)
      ∙ ap (λ (n : ℕ). under ++ bits_from word_bits w.low n) (sym is)

  under_before : beyond 0 under ≤ e
  unfolding under
  under_before =
      beyond_rest w.low 0 e [] under (omega arith) (omega (arith, beyond_bits (e - w.low) w.low (w.bits % 2 ^ (e - w.low))))

  kept_after : Rising e (bits_from word_bits w.low kept)
  kept_after =
      let u : ℕ = e - w.low in
      let q : w.low + u ≡ e = omega arith in
      let a : bits_from word_bits w.low kept ≡ bits_from (word_bits - u) e (w.bits / 2 ^ u) =
      ap (bits_from word_bits w.low) is
      ∙ bits_above word_bits u w.low (w.bits / 2 ^ u) (omega arith)
      ∙ ap (λ (n : ℕ). bits_from (word_bits - u) n (w.bits / 2 ^ u)) q
      in
      rw a (Rising_bits (word_bits - u) e (w.bits / 2 ^ u))

  -- no other one is left
  pub cut_out : {r : Walk} → kept ≡ 0 → Turned s pay (word_rest w) r → Cuts s pay w e r
  cut_out z d =
      let same : bits_from word_bits w.low w.bits ≡ under =
      word_parts
      ∙ ap (λ (n : ℕ). under ++ bits_from word_bits w.low n) z
      ∙ ap (λ (l : List ℕ). under ++ l) (bits_zero word_bits w.low)
      ∙ append-nil under
      in
      cut_all t b fits h d (omega (arith, ap (beyond 0) same, under_before))

  -- the first of the others is the walk's step
  pub cut_to : (kept ≡ 0 → ⊥) → Cuts s pay w e (met_walk w.low kept w.at w.end w.block)
  cut_to z =
      let r : Walk = met_walk w.low kept w.at w.end w.block in
      let o = t.placed.on h in
      let l = o.row b in
      let row : List ℕ = row_in (w.low + word_bits) pay w.at w.end in
      let rest : List ℕ = bits_from word_bits w.low kept ++ row in
      let small : kept < 2 ^ word_bits = kept_fits in
      let two : bits_from word_bits w.low w.bits ++ row ≡ under ++ rest =
      ap (λ (m : List ℕ). m ++ row) word_parts ∙ append_assoc under (bits_from word_bits w.low kept) row
      in
      let last : beyond (beyond 0 under) rest ≡ beyond (w.step + 1) (here pay w) =
      sym (beyond-append 0 under rest) ∙ ap (beyond 0) (sym two) ∙ sym (word_beyond pay w b fits l.lowest 0)
      in
      let up : Rising w.low rest = Rising_bits_on word_bits w.low kept row (Rising_row (w.low + word_bits) (part pay w.at w.end)) in
      let on : r.step < no_step =
      first_below (beyond 0 under) w.low r.step rest (here pay r) no_step up (sym (word_here pay r z small refl)) (omega (arith, o.small))
      in
      let q : beyond (r.step + 1) (here pay r) ≡ beyond (w.step + 1) (here pay w) = word_beyond pay r z small refl (beyond 0 under) ∙ last in
      record {
        laid = under;
        others = bits_from word_bits w.low kept;
        stands =
            record {
              placed =
                  met_Placed o b kept z on q;
              blocks = t.blocks;
              last = λ g. q ∙ t.last h;
            };
        split =
            word_ahead pay w b fits l.lowest s h
            ∙ ap (λ (m : List ℕ). m ++ (row ++ later s pay w.block)) word_parts
            ∙ append_assoc under (bits_from word_bits w.low kept) (row ++ later s pay w.block)
            ∙ ap (λ (m : List ℕ). under ++ m) (sym (word_ahead pay r z small refl s on));
        word = word_parts;
        some =
            front_some e w.step (here pay w) under rest (word_here pay w b fits l.lowest ∙ two) after k;
        before = under_before;
        after = kept_after;
      }
    where
      kept_fits : kept < 2 ^ word_bits
      kept_fits = omega (arith, is, div-add-mod' w.bits (2 ^ (e - w.low)))

      beyond_most : beyond e (bits_from word_bits w.low kept) ≤ w.low + word_bits
      beyond_most =
          beyond_rest w.low e (w.low + word_bits) [] (bits_from word_bits w.low kept) (omega arith) (beyond_bits word_bits w.low kept)

      after : Rising e (bits_from word_bits w.low kept ++ row_in (w.low + word_bits) pay w.at w.end)
      after =
          Rising-append e (bits_from word_bits w.low kept) (row_in (w.low + word_bits) pay w.at w.end) kept_after
          (Rising_weaken (row_in (w.low + word_bits) pay w.at w.end)
          beyond_most
          (Rising_row (w.low + word_bits) (part pay w.at w.end)))
