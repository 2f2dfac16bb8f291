-- What is taken is the image of a cut: of bytes that the verdict takes, the entries say a cut of the list, and the bytes are its image.
-- Assumes nothing.
use mathlib.Core.Path.{◌≡◌, refl, sym, ap, ◌∙◌, subst}
use mathlib.Core.List.{List, [], ◌∷◌, ◌++◌}
use Prim.Native.Nat.{ℕ, suc, ◌+◌, ◌-◌, ◌≤◌, ◌<◌}
use native.Mathlib.Omega.{arith}
use lib.ListN.{length, get_or, drop, length-drop, drop_of_length-le}
use Rattle.std.specs.Prelude.{Ok}
use Rattle.lists.specs.Rising.{Rising, beyond, past}
use Rattle.lists.specs.Parts.{part}
use Rattle.lists.specs.Bytes.{Bytes}
use Rattle.lists.proofs.Rising.{Rising-append}
use Rattle.lists.proofs.Parts.{length_part, part-drop, part_run, drop_run, length_run}
use Rattle.lists.proofs.Ranks.{past_suc, beyond-part, beyond-past}
use Rattle.lists.proofs.Bytes.{bytes_drop, Bytes-part}
use Rattle.rules.specs.Limits.{largest_step, most_steps}
use Rattle.rules.specs.Numbers.{number_bytes}
use Rattle.rules.proofs.Numbers.{number_written}
use Rattle.cut.specs.Cut.{number, kind_of, Block, block, Cuts}
use Rattle.cut.proofs.Blocks.{number-kind_of}
use Rattle.image.specs.declared.Entry.{Entry}
use Rattle.image.specs.declared.Before.{Before}
use Rattle.image.specs.Entry.{entry_place, payload_place, directory_bytes, entries_at, start, after_entry}
use Rattle.image.specs.Grammar.{bytes_of, part_of, payload_of, entry_of, entries_of, image_of, Accepted}
use Rattle.image.specs.Verdict.{taken, blocks_of, directory_of, verdict}
use Rattle.image.proofs.Entries.{entry_eq, length_entries, directory_written}
use Rattle.image.proofs.Directory.{Clean, directory_clean, directory_whole}
use Rattle.image.proofs.Blocks.{Good, Split, split, taken_eq}
use Rattle.image.proofs.Verdict.{Peeled, peel, length_payload}
use Rattle.image.proofs.Parts.{block_written}
use Rattle.image.proofs.Places.{before_at}

-- the cut that entries say
abbrev block_for : Entry → Block
block_for e = block (kind_of e.kind) e.upto

abbrev cut_for : List Entry → List Block
cut_for [] = []
cut_for (e ∷ es) = block_for e ∷ cut_for es

length-cut_for : (es : List Entry) → length (cut_for es) ≡ length es
length-cut_for [] = refl
length-cut_for (e ∷ es) = ap suc (length-cut_for es)

-- ---- one block

-- what a good block at rank `i` says of the list, in which its steps stand there
record Written (pay xs : List ℕ) (i e : ℕ) (x : Entry) : Type 0 where
  after : after_entry x ≡ before_at xs x.upto x.end
  upto : x.upto ≤ length xs
  entry : entry_of xs i e (block_for x) ≡ x
  bytes : part_of xs i (block_for x) ≡ part pay e x.end
  rising : Rising (past xs i) (part xs i x.upto)

module _ (pay xs : List ℕ) (w : Bytes pay) (i e : ℕ) (x : Entry) (c : Clean (length pay) (before_at xs i e) x)
    (g : Good (before_at xs i e) x (part pay e x.end)) (others : List ℕ) (both : drop i xs ≡ g.list ++ others) (h : i ≤ length xs) where
  upto_is : x.upto ≡ i + length g.list
  upto_is = omega (arith, g.count, c.upto)

  steps_here : part xs i x.upto ≡ g.list
  steps_here = ap (part xs i) upto_is ∙ part_run xs i g.list others both

  steps_after_lem : drop x.upto xs ≡ others
  steps_after_lem = ap (λ (k : ℕ). drop k xs) upto_is ∙ drop_run xs i g.list others both

  upto_le : x.upto ≤ length xs
  upto_le = omega (arith, upto_is, length_run xs i g.list others h both)

  past_is : past xs x.upto ≡ x.last + 1
  past_is = sym (beyond-part xs i x.upto (omega (arith, c.upto)) upto_le) ∙ ap (beyond (past xs i)) steps_here ∙ g.last

  write_block : Written pay xs i e x
  write_block =
      let k : number (kind_of x.kind) ≡ x.kind = number-kind_of x.kind c.kind in
      let b = block_written (before_at xs i e) x (part pay e x.end) (Bytes-part pay e x.end w) g (kind_of x.kind) (sym k) in
      let bytes : part_of xs i (block_for x) ≡ part pay e x.end = ap (bytes_of (kind_of x.kind) (past xs i)) steps_here ∙ b.0 in
      let n : length (part pay e x.end) ≡ x.end - e = length_part pay e x.end (omega (arith, c.end)) c.within in
      let next : x.last + 1 ≡ past xs x.upto = sym past_is in
      let last : get_or xs (x.upto - 1) 0 ≡ x.last = omega (arith, past_suc xs x.upto (λ z. omega (arith, c.upto)), past_is) in
      let end : e + length (part_of xs i (block_for x)) ≡ x.end = omega (arith, ap length bytes, c.end) in
      record {
        after = λ t. record { next = next t; upto = x.upto; end = x.end };
        upto = upto_le;
        entry = entry_eq k last refl end;
        bytes = bytes;
        rising = subst (Rising (past xs i)) (sym steps_here) b.1;
      }

-- ---- all of them

-- what the entries `es` of blocks from rank `i` on say, where the payload before them has `e` bytes
record Cutting (pay xs : List ℕ) (i e : ℕ) (es : List Entry) : Type 0 where
  cuts : Cuts i (length xs) (cut_for es)
  entries : entries_of xs i e (cut_for es) ≡ es
  payload : payload_of xs i (cut_for es) ≡ drop e pay
  rising : Rising (past xs i) (drop i xs)
  small : past xs (length xs) ≤ largest_step + 1
  few : length xs ≤ most_steps

module _ (pay xs : List ℕ) where
  cutting_none : (i e : ℕ) → i ≤ length xs → drop i xs ≡ [] → e ≡ length pay → past xs i ≤ largest_step + 1 → i ≤ most_steps
      → Cutting pay xs i e []
  cutting_none i e h d n small few =
      let z : i ≡ length xs = omega (arith, ap length d, length-drop i xs) in
      record {
        cuts = z;
        entries = refl;
        payload = sym (drop_of_length-le pay {i = e} (omega arith));
        rising = subst (Rising (past xs i)) (sym d) tt;
        small = omega (arith, ap (past xs) z);
        few = omega arith;
      }

  cutting_cons : (i e : ℕ) (x : Entry) (es : List Entry) → i < x.upto → e < x.end → Written pay xs i e x
      → Cutting pay xs x.upto x.end es
      → Cutting pay xs i e (x ∷ es)
  cutting_cons i e x es hi he w r =
      let end : e + length (part_of xs i (block_for x)) ≡ x.end = ap (λ (y : Entry). y.end) w.entry in
      record {
        cuts = (hi, r.cuts);
        entries =
            ap (λ (y : Entry). y ∷ entries_of xs x.upto (e + length (part_of xs i (block_for x))) (cut_for es)) w.entry
            ∙ ap (λ (k : ℕ). x ∷ entries_of xs x.upto k (cut_for es)) end
            ∙ ap (λ (l : List Entry). x ∷ l) r.entries;
        payload =
            ap (λ (l : List ℕ). l ++ payload_of xs x.upto (cut_for es)) w.bytes
            ∙ ap (λ (l : List ℕ). part pay e x.end ++ l) r.payload
            ∙ part-drop pay e x.end (omega arith);
        rising =
            subst (Rising (past xs i)) (part-drop xs i x.upto (omega arith))
            (Rising-append (past xs i) (part xs i x.upto) (drop x.upto xs) w.rising
            (subst (λ (o : ℕ). Rising o (drop x.upto xs)) (sym (beyond-part xs i x.upto (omega arith) w.upto)) r.rising));
        small = r.small;
        few = r.few;
      }

  module _ (w : Bytes pay) where
    write_blocks : (i e n : ℕ) (es : List Entry) → i ≤ length xs → past xs i ≤ largest_step + 1 → i ≤ most_steps
        → directory_of (length pay) (before_at xs i e) n es ≡ Ok tt → blocks_of pay (before_at xs i e) n es ≡ taken (drop i xs)
        → Cutting pay xs i e es
    write_blocks i e n [] h small few d t =
        cutting_none i e h (sym (taken_eq t)) (directory_whole (length pay) (before_at xs i e) n d) small few
    write_blocks i e n (x ∷ es) h small few d t =
        let f = directory_clean (length pay) (before_at xs i e) n x es d in
        let c : Clean (length pay) (before_at xs i e) x = f.0 in
        let sp : Split pay (before_at xs i e) n x es (drop i xs) = split pay (before_at xs i e) n x es (drop i xs) t in
        let both : drop i xs ≡ sp.first.list ++ sp.others = sym sp.both in
        let b : Written pay xs i e x = write_block pay xs w i e x c sp.first sp.others both h in
        let rest : drop x.upto xs ≡ sp.others = steps_after_lem pay xs w i e x c sp.first sp.others both h in
        cutting_cons i e x es c.upto c.end b
        (write_blocks x.upto x.end (n + 1) es b.upto
        (omega (arith, ap (λ (y : Before). y.next) b.after, c.small)) c.few
        (ap (λ (y : Before). directory_of (length pay) y (n + 1) es) (sym b.after) ∙ f.1)
        (ap (λ (y : Before). blocks_of pay y (n + 1) es) (sym b.after) ∙ sp.more ∙ ap (λ (l : List ℕ). taken l) (sym rest)))

-- WHAT IS TAKEN IS THE IMAGE OF A CUT of a list of document 01
pub write_image : (s xs : List ℕ) → Bytes s → verdict s ≡ taken xs → Accepted s xs
unfolding image_of
write_image s xs w v =
    let t : Peeled s xs = peel s xs v in
    let m : ℕ = t.m in
    let p : ℕ = t.p in
    let pay : List ℕ = drop (payload_place m) s in
    let es : List Entry = entries_at m s (entry_place 0) in
    let lp : length pay ≡ p = length_payload s m p t.size in
    let c : Cutting pay xs 0 0 es =
    write_blocks pay xs (bytes_drop s (payload_place m) w) 0 0 0 es (omega arith) (omega arith) (omega arith)
    (ap (λ (n : ℕ). directory_of n start 0 es) lp ∙ t.fine) t.blocks
    in
    let lm : length (cut_for es) ≡ m = length-cut_for es ∙ length_entries m s (entry_place 0) in
    record {
      listed = record { rising = c.rising; small = omega (arith, beyond-past xs, c.small); few = c.few };
      cut = cut_for es;
      cuts = c.cuts;
      image =
          rw (lm, c.entries, c.payload, lp)
          (sym
          (number_written s 0 w (omega (arith, t.size))
          ∙ ap (λ (n : ℕ). number_bytes n ++ drop (entry_place 0) s) (sym t.is_m)
          ∙ ap (λ (l : List ℕ). number_bytes m ++ l)
          (directory_written s w m (entry_place 0) (omega (arith, t.size))
          ∙ ap (λ (l : List ℕ). directory_bytes es ++ l)
          (number_written s (entry_place m) w (omega (arith, t.size))
          ∙ ap (λ (n : ℕ). number_bytes n ++ pay) (sym t.is_p)))));
    }
