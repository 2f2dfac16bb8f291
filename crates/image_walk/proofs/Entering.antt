-- From block to block: where nothing is left of the open block, the next one is opened, or there is none.
-- Assumes nothing.
use mathlib.Core.Path.{◌≡◌, refl, sym, ap, ◌∙◌, subst}
use mathlib.Core.List.{List, [], ◌∷◌, ◌++◌}
use Prim.Native.Nat.{ℕ, ◌+◌, ◌-◌, ◌^◌, ◌≤◌, ◌<◌}
use native.Mathlib.Omega.{arith}
use native.Mathlib.Numerals.{add-one}
use lib.ListN.{length}
use Rattle.lists.specs.Rising.{Rising, beyond}
use Rattle.lists.specs.Parts.{part}
use Rattle.lists.proofs.Choice.{by_lt}
use Rattle.lists.proofs.Parts.{length_part}
use Rattle.lists.proofs.Rising.{Rising-append}
use Rattle.rules.specs.Numbers.{number_at}
use Rattle.codes.specs.Codes.{all, list_of, steps_from}
use Rattle.codes.proofs.Codes.{Rising_steps}
use Rattle.row.specs.Row.{row_size}
use Rattle.row.proofs.Row.{Rising_row}
use Rattle.image.specs.declared.Entry.{Entry}
use Rattle.image.specs.declared.Before.{Before}
use Rattle.image.specs.Entry.{entry_place, entry_at, after_entry, before_at}
use Rattle.image.specs.Verdict.{taken, directory_of, blocks_of}
use Rattle.image.proofs.Entries.{entries_here, entries_done}
use Rattle.image.proofs.Directory.{Clean, directory_clean, directory_whole}
use Rattle.image.proofs.Found.{part_codes, part_row, codes_found, row_found}
use Rattle.image.proofs.Blocks.{Good, Split, taken_eq, split}
use Rattle.image.specs.Taken.{list_in}
use Rattle.image_walk.specs.declared.Rest.{Rest}
use Rattle.image_walk.specs.Blocks.{entries_from, blocks_from, later, Blocks}
use Rattle.image_walk.specs.Walk.{row_in}
use Rattle.image_walk.specs.Turns.{left, Readable, Left, onward}
use Rattle.image_walk.specs.Inside.Moves.{Current}
use Rattle.image_walk.proofs.Shapes.{left_codes, left_row, left_none, by_kind}

-- what is left at the front of the next block, whose entry is `e`
abbrev pub entered : Rest → Entry → Rest
entered p e = record { next = p.next; from = p.next; kind = e.kind; at = p.end; end = e.end; block = p.block + 1 }

before_after : (s : List ℕ) (i : ℕ) (e : Entry) → e ≡ entry_at s (entry_place i) → before_at s (i + 1) ≡ after_entry e
before_after s i e q = ap (before_at s) (add-one i) ∙ ap after_entry (sym q)

-- ---- the blocks from number `i` on

module _ {s pay : List ℕ} {i e : ℕ} (b : Blocks s pay i e) where
  -- none, where the open block ends with the payload
  blocks_over : e ≡ length pay → number_at s 0 ≤ i
  blocks_over h =
      by_lt i (number_at s 0)
      (λ g.
      let n = entry_at s (entry_place i) in
      let c = (directory_clean (length pay) (before_at s i) i n (entries_from s (i + 1))
      (ap (directory_of (length pay) (before_at s i) i) (sym (entries_here s (number_at s 0) i n refl g)) ∙ b.fine)).0
      in
      absurd (omega (arith, c.end, c.within, b.end)))
      (λ g. g)

  pub later_none : e ≡ length pay → later s pay i ≡ []
  later_none h = ap (λ (l : List Entry). list_in (blocks_of pay (before_at s i) i l)) (entries_done s (number_at s 0) i (blocks_over h))

  -- and some, where it ends before
  pub block_more : (e ≡ length pay → ⊥) → i < number_at s 0
  block_more h =
      by_lt i (number_at s 0) (λ g. g)
      (λ g.
      let w = directory_whole (length pay) (before_at s i) i
      (ap (directory_of (length pay) (before_at s i) i) (sym (entries_done s (number_at s 0) i g)) ∙ b.fine)
      in
      absurd (h (b.end ∙ w)))

-- ---- the block that is opened

-- a block after `b` with the entry `e`, and those after it
record Next (s pay : List ℕ) (b : Before) (e : Entry) (i : ℕ) : Type 0 where
  clean : Clean (length pay) b e
  good : Good b e (part pay b.end e.end)
  blocks : Blocks s pay (i + 1) e.end
  both : good.list ++ later s pay (i + 1) ≡ later s pay i

Next_block : {s pay : List ℕ} {i k : ℕ} (e : Entry) → Blocks s pay i k → e ≡ entry_at s (entry_place i) → (k ≡ length pay → ⊥)
    → Next s pay (before_at s i) e i
Next_block {s} {pay} {i} {k} e b at h =
    let es : List Entry = entries_from s (i + 1) in
    let a : Before = before_at s i in
    let here : entries_from s i ≡ e ∷ es = entries_here s (number_at s 0) i e at (block_more b h) in
    let c = directory_clean (length pay) a i e es (ap (directory_of (length pay) a i) (sym here) ∙ b.fine) in
    let x : Split pay a i e es (later s pay i) = split pay a i e es (later s pay i) (ap (blocks_of pay a i) (sym here) ∙ b.takes) in
    let n : after_entry e ≡ before_at s (i + 1) = sym (before_after s i e at) in
    let m : blocks_from s pay (i + 1) ≡ taken x.others = ap (λ (y : Before). blocks_of pay y (i + 1) es) (sym n) ∙ x.more in
    record {
      clean = c.0;
      good = x.first;
      blocks =
          record {
            size = b.size;
            few = b.few;
            end = ap (λ (y : Before). y.end) n;
            fine = ap (λ (y : Before). directory_of (length pay) y (i + 1) es) (sym n) ∙ c.1;
            takes = m ∙ ap taken (sym (ap list_in m));
          };
      both = ap (λ (l : List ℕ). x.first.list ++ l) (ap list_in m) ∙ x.both;
    }

-- what is left at its front
abbrev front : Before → Entry → ℕ → Rest
front b e i = record { next = b.next; from = b.next; kind = e.kind; at = b.end; end = e.end; block = i }

module _ (pay : List ℕ) (b : Before) (e : Entry) (g : Good b e (part pay b.end e.end)) (i : ℕ) where
  codes_list : e.kind ≡ 0 → steps_from b.next (part pay b.end e.end) 0 ≡ all g.list
  codes_list k =
      codes_found (steps_from b.next (part pay b.end e.end) 0) (sym (part_codes b e (part pay b.end e.end) k) ∙ g.found)

  row_list : (e.kind ≡ 0 → ⊥)
      → (length (part pay b.end e.end) ≡ row_size (e.last + 1 - b.next)) × (row_in b.next pay b.end e.end ≡ g.list)
  row_list k =
      row_found b.next (e.last + 1) (part pay b.end e.end) (sym (part_row b e (part pay b.end e.end) k) ∙ g.found)

  front-left : left pay (front b e i) ≡ g.list
  front-left =
      let q : Rest = front b e i in
      by_kind pay q (λ k. left_codes pay q k ∙ ap list_of (codes_list k)) (λ k. left_row pay q k ∙ (row_list k).1)

  front_Rising : Rising b.next g.list
  front_Rising =
      by_kind pay (front b e i) (λ k. subst (Rising b.next) (ap list_of (codes_list k)) (Rising_steps b.next (part pay b.end e.end) 0))
      (λ k. subst (Rising b.next) (row_list k).1 (Rising_row b.next (part pay b.end e.end)))

  front-last : beyond b.next (left pay (front b e i)) ≡ e.last + 1
  front-last = ap (beyond b.next) front-left ∙ g.last

  front-Readable : Clean (length pay) b e → length pay < 2 ^ 32 → Readable pay (front b e i)
  front-Readable c few =
      record {
        small = omega (arith, front-last, c.small);
        few = few;
        within = c.within;
        codes = λ k. codes_list k ∙ ap (λ (xs : List ℕ). all xs) (sym (ap list_of (codes_list k)));
        order = λ k. omega arith;
        tight =
            λ k h. omega (arith, (row_list k).0, length_part pay b.end e.end (omega arith) c.within, front-last, c.last);
      }

-- ---- the steps of all blocks to come

blocks_Rising : (pay : List ℕ) (b : Before) (i : ℕ) (es : List Entry) (xs : List ℕ) → blocks_of pay b i es ≡ taken xs → Rising b.next xs
blocks_Rising pay b i [] xs q = subst (Rising b.next) (taken_eq q) tt
blocks_Rising pay b i (e ∷ es) xs q =
    let x : Split pay b i e es xs = split pay b i e es xs q in
    let g : Good b e (part pay b.end e.end) = x.first in
    subst (Rising b.next) x.both
    (Rising-append b.next g.list x.others (front_Rising pay b e g i)
    (subst (λ (n : ℕ). Rising n x.others) (sym g.last) (blocks_Rising pay (after_entry e) (i + 1) es x.others x.more)))

pub later-Rising : {s pay : List ℕ} {i e : ℕ} → Blocks s pay i e → Rising (before_at s i).next (later s pay i)
later-Rising {s} {pay} {i} b = blocks_Rising pay (before_at s i) i (entries_from s i) (later s pay i) b.takes

-- ---- what is left, or the next block

module _ {s pay : List ℕ} {p : Rest} (l : Left s pay p) where
  pub Current_here : p.at < p.end → Current s pay p p
  Current_here h = record { left = l; same = refl; none = λ g. absurd (omega arith) }

  module _ (h : p.end ≤ p.at) where
    onward_none : onward s pay p ≡ later s pay p.block
    onward_none = ap (λ (r : List ℕ). r ++ later s pay p.block) (left_none pay p h)

    pub Current_over : p.end ≡ length pay → Current s pay p p
    Current_over z = record { left = l; same = refl; none = λ g. onward_none ∙ later_none l.blocks z }

    pub Current_next : (e : Entry) → e ≡ entry_at s (entry_place p.block) → (p.end ≡ length pay → ⊥) → Current s pay p (entered p e)
    Current_next e at z =
        let n = Next_block e l.blocks at z in
        let b : Before = before_at s p.block in
        let q : Rest = front b e (p.block + 1) in
        let next : b.next ≡ p.next = sym l.last ∙ ap (beyond p.next) (left_none pay p h) in
        let end : b.end ≡ p.end = sym l.blocks.end in
        let is : q ≡ entered p e =
        λ j. record { next = next j; from = next j; kind = e.kind; at = end j; end = e.end; block = p.block + 1 }
        in
        let f = front-left pay b e n.good (p.block + 1) in
        let last : beyond q.next (left pay q) ≡ (before_at s q.block).next =
        front-last pay b e n.good (p.block + 1) ∙ ap (λ (y : Before). y.next) (sym (before_after s p.block e at))
        in
        subst (Current s pay p) is
        (record {
          left =
              record {
                readable = front-Readable pay b e n.good (p.block + 1) n.clean l.blocks.few;
                blocks = n.blocks;
                last = last;
              };
          same = onward_none ∙ sym n.both ∙ ap (λ (r : List ℕ). r ++ later s pay (p.block + 1)) (sym f);
          none = λ g. absurd (omega (arith, n.clean.end));
        })
