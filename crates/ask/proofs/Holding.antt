-- What the directory of an accepted image says: the block that holds a rank, and the block that holds the first step at or after a bound.
-- Assumes nothing.
use mathlib.Core.Path.{◌≡◌, refl, sym, ap, ◌∙◌, subst}
use mathlib.Core.Bool.{false}
use mathlib.Core.List.{List, ◌++◌}
use Prim.Native.Nat.{ℕ, ◌+◌, ◌-◌, ◌≤◌, ◌<◌}
use native.Mathlib.Omega.{arith}
use borrow.Author.Tests.{ltb-true, ltb-false, leb-true, leb-false}
use lib.ListN.{length, get_or, length-append, get_or-append}
use Rattle.lists.specs.Below.{below}
use Rattle.lists.specs.Bytes.{Bytes}
use Rattle.lists.proofs.Below.{below-nil, below_left}
use Rattle.rules.specs.Limits.{most_steps}
use Rattle.rules.specs.Numbers.{number_at}
use Rattle.image.specs.declared.Entry.{Entry}
use Rattle.image.specs.declared.Before.{Before}
use Rattle.image.specs.Entry.{entry_place, start, after_entry}
use Rattle.image.specs.Taken.{steps_of, Taken, entries_in, payload_in}
use Rattle.image_directory.specs.declared.Question.{Question}
use Rattle.image_directory.specs.declared.Question.TheVariants.{Rank, Bound}
use Rattle.image_directory.specs.declared.Spot.{Spot}
use Rattle.std.proofs.Common.{Option, None, Some}
use Rattle.image_directory.specs.Search.{passes, spot_in}
use Rattle.image_directory.specs.Part.{part_in, Within}
use Rattle.image_directory.proofs.Whole.{Taken-Open, Taken_blocks}
use Rattle.image_block.specs.Block.{steps_in, Sound}
use Rattle.image_block.proofs.Steps.{length_steps, below_within}
use Rattle.ask.proofs.Landing.{Landed, Outcome, lands, Reached-start, reached_rank, reached_below, reached_length}

-- a block of an accepted image: its part, and its steps at their ranks
pub record Holds (s : List ℕ) (b : Before) (e : Entry) : Type 0 where
  pub inside : Within s b e
  pub sound : Sound b e (part_in s b e)
  pub order : b.upto ≤ e.upto
  pub few : e.upto ≤ most_steps
  pub within : e.upto ≤ length (steps_of s)
  pub at : (j : ℕ) → j < e.upto - b.upto → get_or (steps_of s) (b.upto + j) 0 ≡ get_or (steps_in b e (part_in s b e)) j 0

-- it holds the rank
pub record RankIn (s : List ℕ) (k : ℕ) (b : Before) (e : Entry) : Type 0 where
  pub holds : Holds s b e
  pub from : b.upto ≤ k
  pub upto : k < e.upto

-- it holds the first step at or after the bound
pub record BoundIn (s : List ℕ) (x : ℕ) (b : Before) (e : Entry) : Type 0 where
  pub holds : Holds s b e
  pub reach : x ≤ e.last
  pub rank : below (steps_of s) x ≡ b.upto + below (steps_in b e (part_in s b e)) x

module _ (s : List ℕ) (w : Bytes s) (t : Taken s) where
  -- the directory can be read
  pub directory_within : entry_place (number_at s 0) ≤ length s
  directory_within = omega (arith, (Taken-Open w t).size)

  -- a search from the first block on
  outcome : (q : Question) (from : Before → Type 0) → ((e : Entry) → passes q e ≡ false → from (after_entry e)) → from start
      → Outcome q from (payload_in s) (steps_of s) (spot_in q s)
  outcome q from fails h =
      let o = (Taken-Open w t).sound in
      lands q from fails (payload_in s) (steps_of s) o.few start 0 (entries_in s) (steps_of s) h (Reached-start (steps_of s)) o.fine
      (Taken_blocks s t)

  holding : {q : Question} {from : Before → Type 0} {b : Before} {e : Entry} → Landed q from (payload_in s) (steps_of s) b e → Holds s b e
  holding {q} {from} {b} {e} l =
      let us : List ℕ = steps_in b e (part_in s b e) in
      let n : length us ≡ e.upto - b.upto = length_steps l.sound in
      record {
        inside = record { order = omega (arith, l.clean); within = omega (arith, l.clean, (Taken-Open w t).size) };
        sound = l.sound;
        order = omega (arith, l.clean);
        few = l.clean.few;
        within = omega (arith, l.clean, reached_length l.reached, length-append us l.others);
        at = λ j h.
            let z : b.upto + j - b.upto ≡ j = omega arith in
            reached_rank l.reached (b.upto + j) (omega arith)
            ∙ ap (λ (i : ℕ). get_or (us ++ l.others) i 0) z
            ∙ get_or-append us l.others 0 j (omega arith);
      }

  -- whatever was asked
  pub spot_Holds : (q : Question) {b : Before} {e : Entry} → spot_in q s ≡ Some (record { before = b; entry = e }) → Holds s b e
  spot_Holds q f =
      holding (subst (Outcome q (λ (b : Before). b ≡ b) (payload_in s) (steps_of s)) f (outcome q (λ (b : Before). b ≡ b) (λ e h. refl) refl))

  -- ---- a rank

  module _ (k : ℕ) where
    ranks : {r : Option Spot} → spot_in (Rank k) s ≡ r → Outcome (Rank k) (λ (b : Before). b.upto ≤ k) (payload_in s) (steps_of s) r
    ranks f =
        subst (Outcome (Rank k) (λ (b : Before). b.upto ≤ k) (payload_in s) (steps_of s)) f
        (outcome (Rank k) (λ (b : Before). b.upto ≤ k) (λ e h. ltb-false k e.upto h) (omega arith))

    pub rank_in_lem : {b : Before} {e : Entry} → spot_in (Rank k) s ≡ Some (record { before = b; entry = e }) → RankIn s k b e
    rank_in_lem {b} {e} f =
        let l = ranks f in
        record { holds = holding l; from = l.since; upto = ltb-true k e.upto l.test }

    pub rank_out : spot_in (Rank k) s ≡ None → length (steps_of s) ≤ k
    rank_out f = let l = ranks f in omega (arith, l.since, reached_length l.reached)

  -- ---- a bound

  module _ (x : ℕ) where
    bounds : {r : Option Spot} → spot_in (Bound x) s ≡ r → Outcome (Bound x) (λ (b : Before). b.next ≤ x) (payload_in s) (steps_of s) r
    bounds f =
        subst (Outcome (Bound x) (λ (b : Before). b.next ≤ x) (payload_in s) (steps_of s)) f
        (outcome (Bound x) (λ (b : Before). b.next ≤ x) (λ e h. omega (arith, leb-false x e.last h)) (omega arith))

    pub bound_in : {b : Before} {e : Entry} → spot_in (Bound x) s ≡ Some (record { before = b; entry = e }) → BoundIn s x b e
    bound_in {b} {e} f =
        let l = bounds f in
        let us : List ℕ = steps_in b e (part_in s b e) in
        let h : x ≤ e.last = leb-true x e.last l.test in
        let n : below us x < length us = omega (arith, length_steps l.sound, below_within l.sound x h) in
        record {
          holds = holding l;
          reach = h;
          rank = reached_below l.reached x l.since ∙ ap (λ (j : ℕ). b.upto + j) (below_left us l.others x n);
        }

    pub bound_out : spot_in (Bound x) s ≡ None → below (steps_of s) x ≡ length (steps_of s)
    bound_out f =
        let l = bounds f in
        omega (arith, reached_below l.reached x l.since, below-nil x, reached_length l.reached)

-- ---- what the block answers, read in its part, is the image's answer

module _ {s : List ℕ} {b : Before} {e : Entry} {p : List ℕ} (here : p ≡ part_in s b e) where
  pub held_sound : Holds s b e → Sound b e p
  held_sound h = subst (Sound b e) (sym here) h.sound

  pub held_step : Holds s b e → {j r : ℕ} → j < e.upto - b.upto → r ≡ get_or (steps_in b e p) j 0 → r ≡ get_or (steps_of s) (b.upto + j) 0
  held_step h {j} {r} l q = q ∙ ap (λ (z : List ℕ). get_or (steps_in b e z) j 0) here ∙ sym (h.at j l)

  pub rank_step : {k r : ℕ} → RankIn s k b e → r ≡ get_or (steps_in b e p) (k - b.upto) 0 → r ≡ get_or (steps_of s) k 0
  rank_step {k} {r} l q =
      let z : b.upto + (k - b.upto) ≡ k = omega (arith, l.from) in
      held_step l.holds (omega (arith, l.from, l.upto)) q ∙ ap (λ (n : ℕ). get_or (steps_of s) n 0) z

  pub bound_rank : {x j : ℕ} → BoundIn s x b e → j ≡ below (steps_in b e p) x → b.upto + j ≡ below (steps_of s) x
  bound_rank {x} {j} l q =
      omega (arith, l.rank, q ∙ ap (λ (z : List ℕ). below (steps_in b e z) x) here)
