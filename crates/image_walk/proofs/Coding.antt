-- Codes in a part of the payload: the first of them, the rest read as a part of its own, and the walk at the first.
-- Assumes nothing.
use mathlib.Core.Path.{◌≡◌, refl, sym, ap, ◌∙◌, subst}
use mathlib.Core.List.{List, ◌∷◌}
use Prim.Native.Nat.{ℕ, ◌+◌, ◌^◌, ◌≤◌, ◌<◌}
use native.Mathlib.Omega.{arith}
use lib.ListN.{length, drop}
use Rattle.lists.specs.Rising.{beyond}
use Rattle.lists.specs.Parts.{part}
use Rattle.lists.specs.Bytes.{Bytes}
use Rattle.lists.proofs.Parts.{drop-part, length_part}
use Rattle.lists.proofs.Bytes.{Bytes-part}
use Rattle.rules.specs.Limits.{no_step}
use Rattle.code.specs.declared.Flaw.{Flaw}
use Rattle.std.specs.Prelude.{Ok, Err}
use Rattle.code.specs.Code.{reading, read_at}
use Rattle.code.specs.Code.Read.{Read}
use Rattle.code.proofs.Laws.{read_sound}
use Rattle.codes.specs.Codes.{Values, all, bad, on_top, values_from, as_steps, steps_from, list_of}
use Rattle.codes.proofs.Codes.{values_back, bad_all, values_sound, steps_bad, steps_more}
use Rattle.image_walk.specs.declared.Walk.{Walk}
use Rattle.image_walk.specs.declared.Rest.{Rest}
use Rattle.image_walk.specs.Walk.{codes_in, Whole, here, Open}
use Rattle.image_walk.specs.Turns.{coded_walk, Readable}
use Rattle.image_walk.specs.Inside.Moves.{Met}
use Rattle.image_walk.proofs.Shapes.{here_codes, left_codes, beyond_first}
use Rattle.image_walk.proofs.Standing.{coded_Open}

-- codes that are good from a place on are good as a part of their own
steps_drop : (o : ℕ) (s : List ℕ) (n : ℕ) (xs : List ℕ) → Bytes s → steps_from o s n ≡ all xs → steps_from o (drop n s) 0 ≡ all xs
steps_drop o s n xs w e = by (values_from s n) refl e
  where
    by : (v : Values) → values_from s n ≡ v → as_steps o v ≡ all xs → steps_from o (drop n s) 0 ≡ all xs
    by (all vs) q p =
        let f = values_sound s n vs w q in
        ap (as_steps o) (values_back (drop n s) 0 vs f.1 f.0) ∙ p
    by (bad v k) q p = bad_all p

-- the code of the value `x` opens a part and has `n` bytes
pub record Opening (o : ℕ) (pay : List ℕ) (at end x n : ℕ) : Type 0 where
  pub is : codes_in o pay at end ≡ (o + x) ∷ codes_in (o + x + 1) pay (at + n) end
  pub whole : Whole (o + x + 1) pay (at + n) end
  pub within : at + n ≤ end

module _ (o : ℕ) (pay : List ℕ) (at end : ℕ) (good : Whole o pay at end) where
  pub opening : (x n : ℕ) → Bytes pay → at ≤ end → end ≤ length pay → read_at (part pay at end) 0 ≡ Ok (reading x n) → Opening o pay at end x n
  opening x n b h k e = by (steps_from (o + x + 1) (part pay at end) n) refl
    where
      w : Bytes (part pay at end)
      w = Bytes-part pay at end b

      r : Read (part pay at end) 0 x n
      r = read_sound (part pay at end) 0 x n (Bytes-part pay at end b) e

      on_top_lem : (v : Values) → steps_from (o + x + 1) (part pay at end) n ≡ v → steps_from o (part pay at end) 0 ≡ on_top (o + x) v
      on_top_lem v q = steps_more o (part pay at end) 0 r e ∙ ap (on_top (o + x)) q

      by : (v : Values) → steps_from (o + x + 1) (part pay at end) n ≡ v → Opening o pay at end x n
      by (all xs) q =
          let d : steps_from (o + x + 1) (part pay (at + n) end) 0 ≡ all xs =
          subst (λ (l : List ℕ). steps_from (o + x + 1) l 0 ≡ all xs) (drop-part pay at end n)
          (steps_drop (o + x + 1) (part pay at end) n xs w q)
          in
          record {
            is = ap list_of (on_top_lem (all xs) q) ∙ ap (λ (l : List ℕ). (o + x) ∷ l) (sym (ap list_of d));
            whole = d ∙ ap (λ (l : List ℕ). all l) (sym (ap list_of d));
            within = omega (arith, r.within, length_part pay at end h k);
          }
      by (bad f i) q = bad_all (sym (on_top_lem (bad f i) q) ∙ good)

  -- no code of them fails
  pub opening_bad : (f : Flaw) → at < end → end ≤ length pay → read_at (part pay at end) 0 ≡ Err f → ⊥
  opening_bad f h k e =
      bad_all (sym (steps_bad o (part pay at end) 0 f (omega (arith, length_part pay at end (omega arith) k)) e) ∙ good)

-- ---- the walk at a code's step

module _ {o : ℕ} {pay : List ℕ} {at end x n : ℕ} (f : Opening o pay at end x n) (block : ℕ) where
  pub coded_is : codes_in o pay at end ≡ (o + x) ∷ here pay (coded_walk (o + x) (at + n) end block)
  coded_is = f.is ∙ ap (λ (l : List ℕ). (o + x) ∷ l) (sym (here_codes pay (coded_walk (o + x) (at + n) end block) refl))

  pub opened : length pay < 2 ^ 32 → end ≤ length pay → beyond o (codes_in o pay at end) ≤ no_step
      → Open pay (coded_walk (o + x) (at + n) end block)
  opened few within small =
      let v : Walk = coded_walk (o + x) (at + n) end block in
      coded_Open pay (at + n) end block few within (o + x) (omega (arith, beyond_first o (o + x) (codes_in o pay at end) (here pay v) coded_is))
      f.whole

-- what is left of a block of codes
module _ (pay : List ℕ) (p : Rest) (r : Readable pay p) (k : p.kind ≡ 0) (h : p.at < p.end) where
  pub code_met : (x n : ℕ) → Bytes pay → read_at (part pay p.at p.end) 0 ≡ Ok (reading x n)
      → Met pay p (coded_walk (p.next + x) (p.at + n) p.end p.block) × (p.at + n ≤ p.end)
  code_met x n b e =
      let f = opening p.next pay p.at p.end (r.codes k) x n b (omega arith) r.within e in
      let l = left_codes pay p k in (
        record {
          block = refl;
          end = refl;
          is = l ∙ coded_is f p.block;
          stands = opened f p.block r.few r.within (omega (arith, r.small, ap (beyond p.next) l));
        },
        f.within,
      )

  pub code_good : (f : Flaw) → read_at (part pay p.at p.end) 0 ≡ Err f → ⊥
  code_good f e = opening_bad p.next pay p.at p.end (r.codes k) f h r.within e
