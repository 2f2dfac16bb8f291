-- Laws of blocks: a block by its kind, what a good block says, and a loop over the blocks (a turn, a halt, the end).
-- Assumes nothing.
use mathlib.Core.Path.{◌≡◌, refl, sym, ap, ◌∙◌, subst}
use mathlib.Core.List.{List, [], ◌∷◌, ◌++◌}
use Prim.Native.Nat.{ℕ, suc, ◌+◌, ◌-◌, ◌<◌}
use native.Mathlib.Omega.{arith}
use native.Mathlib.Decide.{ℕ_discrete}
use native.Mathlib.Numerals.{add-one}
use lib.ListN.{length}
use Rattle.lists.specs.Rising.{beyond}
use Rattle.lists.specs.Parts.{part}
use Rattle.rules.specs.Refusals.{refusal}
use Rattle.rules.specs.declared.Refusal.{Refusal}
use Rattle.codes.specs.Codes.{steps_from}
use Rattle.image.specs.declared.Entry.{Entry}
use Rattle.image.specs.declared.Before.{Before}
use Rattle.image.specs.Entry.{entry_place, entry_at, entries_at, after_entry}
use Rattle.image.specs.Block.{Found, steps, wrong, in_codes, in_row, in_part, judged, block_of}
use Rattle.image.specs.Verdict.{Verdict, taken, refused, prepend, on_block, blocks_of}
use Rattle.image.proofs.Entries.{entries_here, entries_done}
use Rattle.image.proofs.Found.{wrong_steps, part_codes, part_row, judged-wrong, judged_count, judged-last, judged_good, Numbered, Numbered-part}

pub taken_eq : {xs ys : List ℕ} → taken xs ≡ taken ys → xs ≡ ys
taken_eq e = cc

pub refused_taken : {X : Type 0} {r : Refusal} {xs : List ℕ} → refused r ≡ taken xs → X
refused_taken e = let z : ◌≡◌ {A = ℕ} 0 1 = cc in absurd (omega arith)

-- ---- one block

module _ (b : Before) (e : Entry) (part : List ℕ) where
  pub block_part : {f : Found} → in_part b e part ≡ f → block_of b e part ≡ judged b e f
  unfolding block_of
  block_part h = ap (judged b e) h

  pub block_codes : e.kind ≡ 0 → block_of b e part ≡ judged b e (in_codes (steps_from b.next part 0))
  block_codes h = block_part (part_codes b e part h)

  pub block_row : (e.kind ≡ 0 → ⊥) → block_of b e part ≡ judged b e (in_row b.next (e.last + 1) part)
  block_row h = block_part (part_row b e part h)

  -- the number of a block's refusal is not 0
  pub block_wrong : (n : ℕ) → block_of b e part ≡ wrong n → 0 < n
  block_wrong n h = subst Numbered (sym (block_part refl) ∙ h) (Numbered-part b e part)

-- a block that stands for its steps
pub record Good (b : Before) (e : Entry) (part : List ℕ) : Type 0 where
  pub list : List ℕ
  pub is : block_of b e part ≡ steps list
  pub found : in_part b e part ≡ steps list
  pub count : length list ≡ e.upto - b.upto
  pub last : beyond b.next list ≡ e.last + 1

module _ (b : Before) (e : Entry) (part : List ℕ) where
  -- what the tests say of a block that passed them
  pub block_good : (xs : List ℕ) → block_of b e part ≡ steps xs → Good b e part
  block_good xs h = by (in_part b e part) refl
    where
      by : (f : Found) → in_part b e part ≡ f → Good b e part
      by (steps ys) q = count (ℕ_discrete (length ys) (e.upto - b.upto))
        where
          is : judged b e (steps ys) ≡ steps xs
          is = sym (block_part b e part q) ∙ h

          last : length ys ≡ e.upto - b.upto → Dec (beyond b.next ys ≡ e.last + 1) → Good b e part
          last k (yes l) =
              record { list = ys; is = block_part b e part q ∙ judged_good b e ys k l; found = q; count = k; last = l }
          last k (no l) = wrong_steps (sym (judged-last b e ys k l) ∙ is)

          count : Dec (length ys ≡ e.upto - b.upto) → Good b e part
          count (yes k) = last k (ℕ_discrete (beyond b.next ys) (e.last + 1))
          count (no k) = wrong_steps (sym (judged_count b e ys k) ∙ is)
      by (wrong n) q = wrong_steps (sym (block_part b e part q ∙ judged-wrong b e n) ∙ h)

-- ---- the blocks in turn

module _ (pay : List ℕ) (b : Before) (i : ℕ) (e : Entry) (es : List Entry) where
  pub blocks_next : (g : Good b e (part pay b.end e.end))
      → blocks_of pay b i (e ∷ es) ≡ prepend g.list (blocks_of pay (after_entry e) (i + 1) es)
  blocks_next g =
      ap (λ (f : Found). on_block f i (blocks_of pay (after_entry e) (suc i) es)) g.is
      ∙ ap (λ (j : ℕ). prepend g.list (blocks_of pay (after_entry e) j es)) (sym (add-one i))

  pub blocks_stop : (n : ℕ) → block_of b e (part pay b.end e.end) ≡ wrong n → blocks_of pay b i (e ∷ es) ≡ refused (refusal n i)
  blocks_stop n h = ap (λ (f : Found). on_block f i (blocks_of pay (after_entry e) (suc i) es)) h

-- a block and what comes after it, where the whole is taken
pub record Split (pay : List ℕ) (b : Before) (i : ℕ) (e : Entry) (es : List Entry) (xs : List ℕ) : Type 0 where
  pub first : Good b e (part pay b.end e.end)
  pub others : List ℕ
  pub more : blocks_of pay (after_entry e) (i + 1) es ≡ taken others
  pub both : first.list ++ others ≡ xs

module _ (pay : List ℕ) (b : Before) (i : ℕ) (e : Entry) (es : List Entry) (xs : List ℕ) where
  pub split : blocks_of pay b i (e ∷ es) ≡ taken xs → Split pay b i e es xs
  split h = by (block_of b e (part pay b.end e.end)) refl
    where
      rest : (g : Good b e (part pay b.end e.end)) (v : Verdict) → blocks_of pay (after_entry e) (i + 1) es ≡ v
          → prepend g.list v ≡ taken xs
          → Split pay b i e es xs
      rest g (taken ys) q t = record { first = g; others = ys; more = q; both = taken_eq t }
      rest g (refused r) q t = refused_taken t

      by : (f : Found) → block_of b e (part pay b.end e.end) ≡ f → Split pay b i e es xs
      by (steps ys) q =
          let g : Good b e (part pay b.end e.end) = block_good b e (part pay b.end e.end) ys q in
          rest g (blocks_of pay (after_entry e) (i + 1) es) refl (sym (blocks_next pay b i e es g) ∙ h)
      by (wrong n) q = refused_taken (sym (blocks_stop pay b i e es n q) ∙ h)

-- ---- a loop over the entries of `s`: `i` of `m` were passed, and `b` stands before the next

module _ (s pay : List ℕ) (m : ℕ) (b : Before) (i : ℕ) where
  module _ (e : Entry) (here : e ≡ entry_at s (entry_place i)) (h : i < m) where
    -- a turn that goes on
    pub blocks_turn : (g : Good b e (part pay b.end e.end))
        → blocks_of pay b i (entries_at (m - i) s (entry_place i))
        ≡ prepend g.list (blocks_of pay (after_entry e) (i + 1) (entries_at (m - (i + 1)) s (entry_place (i + 1))))
    blocks_turn g =
        ap (blocks_of pay b i) (entries_here s m i e here h) ∙ blocks_next pay b i e (entries_at (m - (i + 1)) s (entry_place (i + 1))) g

    -- and one that stops
    pub blocks_halt : (n : ℕ) → block_of b e (part pay b.end e.end) ≡ wrong n
        → blocks_of pay b i (entries_at (m - i) s (entry_place i)) ≡ refused (refusal n i)
    blocks_halt n q =
        ap (blocks_of pay b i) (entries_here s m i e here h) ∙ blocks_stop pay b i e (entries_at (m - (i + 1)) s (entry_place (i + 1))) n q

  pub blocks_end : i ≡ m → blocks_of pay b i (entries_at (m - i) s (entry_place i)) ≡ taken []
  blocks_end h = ap (blocks_of pay b i) (entries_done s m i (omega arith))
