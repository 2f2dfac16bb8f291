-- A move to the next step: within the loaded word, by a code of one byte, or by a turn.
-- Assumes nothing.
use mathlib.Core.Path.{◌≡◌, refl, sym, ap, ◌∙◌, subst}
use mathlib.Core.List.{List, ◌∷◌, ◌++◌}
use Prim.Native.Nat.{ℕ, ◌+◌, ◌-◌, ◌^◌, ◌≤◌, ◌<◌}
use native.Mathlib.Omega.{arith}
use native.Mathlib.Decide.{ℕ_discrete}
use borrow.Author.Tests.{eq-eqb, ne_eqb}
use lib.Bits.{and_le_l}
use lib.Dec.{eqb}
use Rattle.lists.specs.Rising.{Rising, beyond}
use Rattle.lists.specs.Parts.{part}
use Rattle.lists.specs.Bytes.{Bytes}
use Rattle.lists.proofs.Choice.{pick_yes, pick_no, by_lt}
use Rattle.rules.specs.Limits.{no_step}
use Rattle.std.specs.Prelude.{Ok}
use Rattle.code.specs.Code.{reading, read_at}
use Rattle.codes.proofs.Codes.{Rising_steps}
use Rattle.row.specs.Row.{bits_from}
use Rattle.row.specs.Words.{word_bits}
use Rattle.row.proofs.Row.{Rising_row}
use Rattle.row.proofs.Bits.{bits_zero, beyond_bits, Rising_bits_on, bits_lowest, lowest_below}
use Rattle.image.specs.Entry.{before_at}
use Rattle.image_walk.specs.declared.Walk.{Walk}
use Rattle.std.specs.Prelude.{Some, None}
use Rattle.image_walk.specs.Blocks.{later}
use Rattle.image_walk.specs.Walk.{codes_in, row_in, others, here, Open, Placed, Stands, Follows}
use Rattle.image_walk.specs.Turns.{met_walk, coded_walk, left, Left, Turned}
use Rattle.image_walk.specs.Inside.Moves.{rest_of, Slid, bit_move, Moves}
use Rattle.image_walk.proofs.Shapes.{here_codes, here_row, left_codes, left_row, first_below, beyond_first, ahead_step}
use Rattle.image_walk.proofs.Coding.{opening, coded_is, opened}
use Rattle.image_walk.proofs.Standing.{met_Placed, coded_Open}

-- ---- within the loaded word

module _ (w : Walk) where
  pub move_none : others w.bits ≡ 0 → bit_move w ≡ None
  move_none h = pick_yes (eqb (others w.bits) 0) _ _ (eq-eqb (others w.bits) 0 h)

  pub move_to : (others w.bits ≡ 0 → ⊥) → bit_move w ≡ Some (met_walk w.low (others w.bits) w.at w.end w.block)
  move_to h = pick_no (eqb (others w.bits) 0) _ _ (ne_eqb (others w.bits) 0 h)

module _ (pay : List ℕ) (w : Walk) (p : Placed pay w) (b : w.bits ≡ 0 → ⊥) (fits : w.bits < 2 ^ word_bits) where
  pub on_step : w.step < no_step
  on_step = by_lt w.step no_step (λ h. h) (λ h. absurd (b (p.off h).bits))

  -- no other one is left
  word_out : others w.bits ≡ 0 → here pay w ≡ left pay (rest_of w)
  word_out z =
      here_row pay w b
      ∙ ap (λ (n : ℕ). bits_from word_bits w.low n ++ row_in (w.low + word_bits) pay w.at w.end) z
      ∙ ap (λ (l : List ℕ). l ++ row_in (w.low + word_bits) pay w.at w.end) (bits_zero word_bits w.low)
      ∙ sym (left_row pay (rest_of w) b)

  -- the next one
  word_next : (others w.bits ≡ 0 → ⊥) → Slid pay w (met_walk w.low (others w.bits) w.at w.end w.block)
  word_next z =
      let n : ℕ = others w.bits in
      let v : Walk = met_walk w.low n w.at w.end w.block in
      let o = p.on on_step in
      let rest : List ℕ = row_in (w.low + word_bits) pay w.at w.end in
      let is : here pay w ≡ v.step ∷ here pay v =
      here_row pay w b
      ∙ ap (λ (r : List ℕ). r ++ rest) (bits_lowest word_bits w.low n (omega arith) (omega (arith, and_le_l w.bits (w.bits - 1))))
      ∙ ap (λ (r : List ℕ). v.step ∷ r) (sym (here_row pay v z))
      in
      let up : Rising w.low (here pay w) =
      rw (here_row pay w b) (Rising_bits_on word_bits w.low n rest (Rising_row (w.low + word_bits) (part pay w.at w.end)))
      in
      let h : v.step < no_step = first_below (w.step + 1) w.low v.step (here pay w) (here pay v) no_step up is o.small in
      record {
        block = refl;
        end = refl;
        placed =
            met_Placed o b n z h (beyond_first (w.step + 1) v.step (here pay w) (here pay v) is);
        on = h;
        is = is;
      }

  pub bit_Moves : Moves pay w (bit_move w)
  bit_Moves = by (ℕ_discrete (others w.bits) 0)
    where
      by : Dec (others w.bits ≡ 0) → Moves pay w (bit_move w)
      by (yes z) = subst (Moves pay w) (sym (move_none w z)) (word_out z)
      by (no z) = subst (Moves pay w) (sym (move_to w z)) (word_next z)

-- ---- by a code

module _ (pay : List ℕ) (w : Walk) (p : Placed pay w) (b : w.bits ≡ 0) where
  -- all its codes are left
  pub code_out : here pay w ≡ left pay (rest_of w)
  code_out = here_codes pay w b ∙ sym (left_codes pay (rest_of w) b)

  module _ (h : w.at < w.end) where
    pub among : Open pay w
    among = p.on (by_lt w.step no_step (λ g. g) (λ g. absurd (omega (arith, (p.off g).at))))

    pub code_next : (gap n : ℕ) → Bytes pay → read_at (part pay w.at w.end) 0 ≡ Ok (reading gap n)
        → Slid pay w (coded_walk (w.step + 1 + gap) (w.at + n) w.end w.block)
    code_next gap n y r =
        let o = among in
        let v : Walk = coded_walk (w.step + 1 + gap) (w.at + n) w.end w.block in
        let f = opening (w.step + 1) pay w.at w.end (o.codes b) gap n y (omega arith) o.within r in
        let c = here_codes pay w b in
        let is : here pay w ≡ v.step ∷ here pay v = c ∙ coded_is f w.block in
        let small : beyond (w.step + 1) (codes_in (w.step + 1) pay w.at w.end) ≤ no_step = omega (arith, o.small, ap (beyond (w.step + 1)) c) in
        let k : v.step < no_step =
        first_below (w.step + 1) (w.step + 1) v.step (codes_in (w.step + 1) pay w.at w.end) (here pay v) no_step
        (Rising_steps (w.step + 1) (part pay w.at w.end) 0) (coded_is f w.block) small
        in
        record {
          block = refl;
          end = refl;
          placed =
              record {
                step = omega arith;
                on = λ g. opened f w.block o.few o.within small;
                off = λ g. absurd (omega arith);
              };
          on = k;
          is = is;
        }

    -- the walk said by its numbers
    pub code_same : Placed pay (coded_walk w.step w.at w.end w.block) × (here pay (coded_walk w.step w.at w.end w.block) ≡ here pay w)
    code_same =
        let o = among in
        let v : Walk = coded_walk w.step w.at w.end w.block in
        let is : here pay v ≡ here pay w = here_codes pay v refl ∙ sym (here_codes pay w b) in (
          record {
            step = p.step;
            on =
                λ g.
                coded_Open pay w.at w.end w.block o.few o.within w.step (omega (arith, o.small, ap (beyond (w.step + 1)) is)) (o.codes b);
            off = λ g. absurd (omega (arith, (p.off g).at));
          },
          is,
        )

-- ---- in the image

module _ {s pay : List ℕ} {w : Walk} (t : Stands s pay w) (h : w.step < no_step) where
  -- to a walk in the open block
  pub pass_to : {v : Walk} → Slid pay w v → Follows s pay w v
  pass_to {v} k = (
    record {
      placed = k.placed;
      blocks = rw (k.block, k.end) t.blocks;
      last =
          λ g.
          beyond_first (w.step + 1) v.step (here pay w) (here pay v) k.is
          ∙ t.last h
          ∙ ap (λ (i : ℕ). (before_at s i).next) (sym k.block);
    },
    ahead_step s pay w h
        ∙ ap (λ (l : List ℕ). w.step ∷ (l ++ later s pay w.block)) k.is
        ∙ ap (λ (i : ℕ). w.step ∷ (v.step ∷ (here pay v ++ later s pay i))) (sym k.block)
        ∙ ap (λ (l : List ℕ). w.step ∷ l) (sym (ahead_step s pay v k.on)),
  )

  -- out of what is loaded
  module _ (o : here pay w ≡ left pay (rest_of w)) where
    pub pass_out : w.bits < 2 ^ word_bits → Left s pay (rest_of w)
    pass_out fits =
        let a : Open pay w = t.placed.on h in
        let q : beyond (w.step + 1) (left pay (rest_of w)) ≡ beyond (w.step + 1) (here pay w) = ap (beyond (w.step + 1)) (sym o) in
        record {
          readable =
              record {
                small = omega (arith, a.small);
                few = a.few;
                within = a.within;
                codes = a.codes;
                order =
                    λ k.
                    omega (
                      arith,
                      (a.row k).lowest,
                      lowest_below word_bits w.low w.bits (w.low + word_bits) (omega arith) fits (beyond_bits word_bits w.low w.bits),
                    );
                tight = λ k g. omega (arith, (a.row k).tight g);
              };
          blocks = t.blocks;
          last = q ∙ t.last h;
        }

    pub pass_Turned : {r : Walk} → Turned s pay (rest_of w) r → Follows s pay w r
    pass_Turned k = (
      k.stands,
      ahead_step s pay w h
          ∙ ap (λ (l : List ℕ). w.step ∷ (l ++ later s pay w.block)) o
          ∙ ap (λ (l : List ℕ). w.step ∷ l) (sym k.is),
    )
