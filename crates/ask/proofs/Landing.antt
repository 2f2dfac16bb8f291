-- The block that the directory names holds the answer: of a rank, and of a bound.
-- Assumes nothing.
use mathlib.Core.Path.{◌≡◌, refl, sym, ap, ◌∙◌, subst}
use mathlib.Core.Bool.{Bool, true, false}
use mathlib.Core.List.{List, [], ◌∷◌, ◌++◌, append_assoc}
use Prim.Native.Nat.{ℕ, ◌+◌, ◌-◌, ◌^◌, ◌≤◌, ◌<◌}
use native.Mathlib.Omega.{arith}
use lib.ListN.{length, get_or, length-append}
use lib.Seq.{get_or-append-add}
use Rattle.std.specs.Prelude.{Ok}
use Rattle.lists.specs.Choice.{pick}
use Rattle.lists.specs.Rising.{Rising, beyond}
use Rattle.lists.specs.Parts.{part}
use Rattle.lists.specs.Below.{below}
use Rattle.lists.proofs.Rising.{beyond-append, Rising-append}
use Rattle.lists.proofs.Below.{below-append}
use Rattle.image.specs.declared.Entry.{Entry}
use Rattle.image.specs.declared.Before.{Before}
use Rattle.image.specs.Entry.{start, after_entry}
use Rattle.image.specs.Verdict.{taken, directory_of, blocks_of}
use Rattle.image.proofs.Directory.{Clean, directory_clean}
use Rattle.image.proofs.Blocks.{taken_eq, split}
use Rattle.image_directory.specs.declared.Question.{Question}
use Rattle.image_directory.specs.declared.Spot.{Spot}
use Rattle.std.proofs.Common.{Option, None, Some}
use Rattle.image_directory.specs.Search.{passes, spot_of}
use Rattle.image_block.specs.Block.{steps_in, Sound}
use Rattle.image_block.proofs.Steps.{part_size, steps_good, Sound_good, length_steps, beyond_steps, Rising-steps_in}

-- ---- going along the blocks

-- the steps before a block, and those from it on
pub record Reached (xs : List ℕ) (b : Before) (ys : List ℕ) : Type 0 where
  pub front : List ℕ
  pub both : front ++ ys ≡ xs
  pub count : length front ≡ b.upto
  pub rising : Rising 0 front
  pub end : beyond 0 front ≡ b.next

pub Reached-start : (xs : List ℕ) → Reached xs start xs
Reached-start xs = record { front = []; both = refl; count = refl; rising = tt; end = refl }

module _ {xs : List ℕ} {b : Before} {ys : List ℕ} (r : Reached xs b ys) where
  -- a block was passed
  pub Reached_past : {e : Entry} {part : List ℕ} {zs : List ℕ} → Sound b e part → b.upto ≤ e.upto → steps_in b e part ++ zs ≡ ys
      → Reached xs (after_entry e) zs
  Reached_past {e} {part} {zs} s h q =
      let us : List ℕ = steps_in b e part in
      record {
        front = r.front ++ us;
        both = append_assoc r.front us zs ∙ ap (λ (l : List ℕ). r.front ++ l) q ∙ r.both;
        count = omega (arith, length-append r.front us, r.count, length_steps s);
        rising = Rising-append 0 r.front us r.rising (subst (λ (o : ℕ). Rising o us) (sym r.end) (Rising-steps_in s));
        end = beyond-append 0 r.front us ∙ ap (λ (o : ℕ). beyond o us) r.end ∙ beyond_steps s;
      }

  -- what stands at a rank, and where a bound falls
  pub reached_rank : (k : ℕ) → b.upto ≤ k → get_or xs k 0 ≡ get_or ys (k - b.upto) 0
  reached_rank k h =
      let q : k ≡ length r.front + (k - b.upto) = omega (arith, r.count) in
      ap (λ (l : List ℕ). get_or l k 0) (sym r.both)
      ∙ ap (λ (n : ℕ). get_or (r.front ++ ys) n 0) q
      ∙ get_or-append-add r.front ys (k - b.upto) 0

  pub reached_below : (x : ℕ) → b.next ≤ x → below xs x ≡ b.upto + below ys x
  reached_below x h =
      omega (
        arith,
        ap (λ (l : List ℕ). below l x) r.both,
        below-append 0 r.front ys x r.rising (omega (arith, r.end)),
        r.count,
      )

  pub reached_length : length xs ≡ b.upto + length ys
  reached_length = omega (arith, ap length r.both, length-append r.front ys, r.count)

-- ---- the first block that has the answer to a question; `from` holds of what stands before the first block, and after each entry that fails

-- it is there, with the steps from it on
pub record Landed (q : Question) (from : Before → Type 0) (pay xs : List ℕ) (b : Before) (e : Entry) : Type 0 where
  pub clean : Clean (length pay) b e
  pub sound : Sound b e (part pay b.end e.end)
  pub since : from b
  pub test : passes q e ≡ true
  pub others : List ℕ
  pub reached : Reached xs b (steps_in b e (part pay b.end e.end) ++ others)

-- or all were passed
pub record Missed (from : Before → Type 0) (xs : List ℕ) : Type 0 where
  pub end : Before
  pub since : from end
  pub reached : Reached xs end []

abbrev pub Outcome : Question → (Before → Type 0) → List ℕ → List ℕ → Option Spot → Type 0
Outcome q from pay xs (Some s) = Landed q from pay xs s.before s.entry
Outcome q from pay xs None = Missed from xs

module _ (q : Question) (from : Before → Type 0) (fails : (e : Entry) → passes q e ≡ false → from (after_entry e)) (pay xs : List ℕ)
    (few : length pay < 2 ^ 32) where
  pub lands : (b : Before) (i : ℕ) (es : List Entry) (ys : List ℕ) → from b → Reached xs b ys → directory_of (length pay) b i es ≡ Ok tt
      → blocks_of pay b i es ≡ taken ys
      → Outcome q from pay xs (spot_of q b es)
  lands b i [] ys h r d t = record { end = b; since = h; reached = subst (Reached xs b) (sym (taken_eq t)) r }
  lands b i (e ∷ es) ys h r d t =
      let c = directory_clean (length pay) b i e es d in
      let sp = split pay b i e es ys t in
      let s = Sound_good sp.first c.0 (part_size pay c.0 few) in
      let both : steps_in b e (part pay b.end e.end) ++ sp.others ≡ ys =
      ap (λ (l : List ℕ). l ++ sp.others) (steps_good sp.first) ∙ sp.both
      in
      by c.0 s sp.others both (passes q e) refl
      (λ f. lands (after_entry e) (i + 1) es sp.others (fails e f) (Reached_past r s (omega (arith, c.0)) both) c.1 sp.more)
    where
      by : Clean (length pay) b e → Sound b e (part pay b.end e.end) → (zs : List ℕ)
          → steps_in b e (part pay b.end e.end) ++ zs ≡ ys
          → (v : Bool) → passes q e ≡ v
          → (passes q e ≡ false → Outcome q from pay xs (spot_of q (after_entry e) es))
          → Outcome q from pay xs (pick v (Some (record { before = b; entry = e })) (spot_of q (after_entry e) es))
      by c s zs both true f on =
          record { clean = c; sound = s; since = h; test = f; others = zs; reached = subst (Reached xs b) (sym both) r }
      by c s zs both false f on = on f
