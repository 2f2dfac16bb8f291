-- The turn of a walk gives the first of the steps that were ahead, or none; and the first turn of all, in an accepted image.
-- Assumes nothing.
use mathlib.Core.Path.{◌≡◌, refl, sym, ap, ◌∙◌, subst}
use mathlib.Core.List.{List, ◌∷◌, ◌++◌}
use Prim.Native.Nat.{ℕ, ◌-◌, ◌≤◌, ◌<◌}
use native.Mathlib.Omega.{arith}
use lib.ListN.{length, drop}
use Rattle.std.specs.Prelude.{Ok}
use Rattle.lists.specs.Rising.{beyond}
use Rattle.lists.specs.Bytes.{Bytes}
use Rattle.rules.specs.Numbers.{number_at}
use Rattle.rules.proofs.Numbers.{number_lt}
use Rattle.rules.specs.Limits.{no_step}
use Rattle.codes.specs.Codes.{all, list_of}
use Rattle.image.specs.Entry.{entry_place, payload_place, entries_at, start, before_at}
use Rattle.image.specs.Verdict.{taken, directory_of, blocks_of}
use Rattle.image.proofs.Verdict.{length_payload, peel}
use Rattle.image.specs.Taken.{list_in, steps_of, Taken, payload_in}
use Rattle.image_walk.specs.declared.Walk.{Walk}
use Rattle.image_walk.specs.declared.Rest.{Rest}
use Rattle.image_walk.specs.Blocks.{blocks_from, later, Blocks}
use Rattle.image_walk.specs.Walk.{here}
use Rattle.image_walk.specs.Turns.{left, coded_walk, Left, onward, Turned}
use Rattle.image_walk.specs.Inside.Moves.{Current, Met}
use Rattle.image_walk.proofs.Shapes.{whole_none, left_none, Met_step, beyond_first, ahead_step, ahead_none}

module _ {s pay : List ℕ} {p q : Rest} (c : Current s pay p q) where
  -- a step was met in the block that is open then
  pub Turned-Met : {r : Walk} → Met pay q r → Turned s pay p r
  Turned-Met {r} m =
      let h : r.step < no_step = Met_step pay q r c.left.readable m in
      let b : Blocks s pay r.block r.end = rw (m.block, m.end) c.left.blocks in
      record {
        stands =
            record {
              placed = record { step = omega arith; on = λ g. m.stands; off = λ g. absurd (omega arith) };
              blocks = b;
              last =
                  λ g.
                  beyond_first q.next r.step (left pay q) (here pay r) m.is
                  ∙ c.left.last
                  ∙ ap (λ (i : ℕ). (before_at s i).next) (sym m.block);
            };
        is =
            ahead_step s pay r h
            ∙ ap (λ (i : ℕ). r.step ∷ (here pay r ++ later s pay i)) m.block
            ∙ ap (λ (l : List ℕ). l ++ later s pay q.block) (sym m.is)
            ∙ sym c.same;
      }

  -- nothing is left
  pub Turned_over : (x : ℕ) → x ≡ no_step → q.end ≤ q.at → Turned s pay p (coded_walk x q.at q.end q.block)
  Turned_over x e h =
      record {
        stands =
            record {
              placed = record { step = omega arith; on = λ g. absurd (omega arith); off = λ g. record { bits = refl; at = h } };
              blocks = c.left.blocks;
              last = λ g. absurd (omega arith);
            };
        is = ahead_none s pay (coded_walk x q.at q.end q.block) (omega arith) ∙ sym (c.none h) ∙ sym c.same;
      }

-- ---- the start

-- nothing is read yet, and the first block is the next
abbrev pub start_rest : Rest
start_rest = record { next = 0; from = 0; kind = 0; at = 0; end = 0; block = 0 }

module _ (s pay : List ℕ) (w : Bytes s) (t : Taken s) (e : pay ≡ payload_in s) where
  start_Blocks : Blocks s pay 0 0 × (later s pay 0 ≡ steps_of s)
  start_Blocks =
      let x = peel s (steps_of s) t in
      let z : x.m ≡ number_at s 0 - 0 = omega (arith, x.is_m) in
      let is : drop (payload_place x.m) s ≡ pay = ap (λ (n : ℕ). drop (payload_place n) s) x.is_m ∙ sym e in
      let p : length pay ≡ x.p = ap length (sym is) ∙ length_payload s x.m x.p x.size in
      let v : blocks_from s pay 0 ≡ taken (steps_of s) =
      ap (λ (n : ℕ). blocks_of pay start 0 (entries_at n s (entry_place 0))) (sym z)
      ∙ ap (λ (l : List ℕ). blocks_of l start 0 (entries_at x.m s (entry_place 0))) (sym is)
      ∙ x.blocks
      in (
        record {
          size = omega (arith, x.size, x.is_m);
          few = omega (arith, x.is_p, number_lt s (entry_place x.m) w (omega (arith, x.size)));
          end = refl;
          fine = subst (λ (n : ℕ). directory_of (length pay) start 0 (entries_at n s (entry_place 0)) ≡ Ok tt) z (rw p x.fine);
          takes = v ∙ ap taken (sym (ap list_in v));
        },
        ap list_in v,
      )

  pub start_left : Left s pay start_rest × (onward s pay start_rest ≡ steps_of s)
  start_left =
      let b = start_Blocks in
      let l = left_none pay start_rest (omega arith) in
      let n = whole_none 0 pay 0 0 (omega arith) in (
        record {
          readable =
              record {
                small = omega (arith, ap (beyond 0) l);
                few = b.0.few;
                within = omega arith;
                codes = λ k. n ∙ ap (λ (xs : List ℕ). all xs) (sym (ap list_of n));
                order = λ k. omega arith;
                tight = λ k h. absurd (omega arith);
              };
          blocks = b.0;
          last = ap (beyond 0) l;
        },
        ap (λ (xs : List ℕ). xs ++ later s pay 0) l ∙ b.1,
      )
