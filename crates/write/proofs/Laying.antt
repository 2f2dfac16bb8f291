-- Storing the blocks of a cut, each one's part and then its entry, and with them the image.
-- Assumes nothing.
use mathlib.Core.Path.{◌≡◌, refl, sym, ap, ◌∙◌, subst}
use mathlib.Core.List.{List, [], ◌∷◌, ◌++◌, append-nil}
use Prim.Native.Nat.{ℕ, ◌+◌, ◌-◌, ◌*◌, ◌/◌, ◌%◌, ◌≤◌, ◌<◌}
use native.Mathlib.Omega.{arith}
use lib.ListN.{length, get_or, length-append}
use lib.Seq.{sets, length-sets}
use Rattle.lists.proofs.Stores.{sets-append, sets_comm, Storing_start, Storing_run, storing_end}
use Rattle.rules.specs.Sizes.{number_size, entry_size}
use Rattle.rules.specs.Numbers.{number_bytes}
use Rattle.rules.proofs.Numbers.{length_little}
use Rattle.cut.specs.Cut.{kind_of, Block, Cuts}
use Rattle.cut.proofs.Blocks.{kind_of-number}
use Rattle.cut.proofs.Cuts.{Cuts-le}
use Rattle.image.specs.Entry.{entry_place, payload_place, entry_bytes, directory_bytes}
use Rattle.image.specs.Grammar.{part_of, payload_of, entry_of, entries_of, image_of}
use Rattle.image.proofs.Entries.{length_directory, length_entry}
use Rattle.image.proofs.Sizes.{length-entries_of, length-payload_of, length_image}
use Rattle.plan.specs.Planned.{cut_of, word_of, Marked}
use Rattle.plan.proofs.Walk.{Cuts_planned, word_upto, word_number, Head, marked_head, Cuts_none}
use Rattle.write.specs.Written.{image_for}
use Rattle.write.specs.Inside.Blocks.{block_at, Within, Laid, Marks, Filled}

-- a word says its block
Block_at : {word : ℕ} (b : Block) → word ≡ word_of b → block_at word ≡ b
Block_at {word} b e =
    let n : kind_of (word % 2) ≡ b.kind = ap (λ (k : ℕ). kind_of (k % 2)) e ∙ ap kind_of (word_number b) ∙ kind_of-number b.kind in
    let u : word / 2 ≡ b.upto = ap (λ (k : ℕ). k / 2) e ∙ word_upto b in
    λ t. record { kind = n t; upto = u t }

length_directory_of : (xs : List ℕ) (i e : ℕ) (bs : List Block) → length (directory_bytes (entries_of xs i e bs)) ≡ entry_size * length bs
length_directory_of xs i e bs = length_directory (entries_of xs i e bs) ∙ ap (λ (n : ℕ). entry_size * n) (length-entries_of xs i e bs)

-- ---- the loop

module _ (xs work : List ℕ) (m : ℕ) (out₀ : List ℕ) where
  -- the blocks `left` begin at rank `i`; the entries of these go to `at`, their parts to `p`
  pub record Laying (out : List ℕ) (i at p : ℕ) (left : List Block) : Type 0 where
    pub marks : Marks xs work
    pub cuts : Cuts i (length xs) left
    pub marked : Marked work i left
    pub same : length out ≡ length out₀
    pub low : payload_place m ≤ p
    pub directory : at + entry_size * length left ≡ entry_place m
    pub place : p + length (payload_of xs i left) ≡ payload_place m + length (payload_of xs 0 (cut_of xs))
    pub room : p + length (payload_of xs i left) ≤ length out
    pub stores : sets (sets out at (directory_bytes (entries_of xs i (p - payload_place m) left))) p (payload_of xs i left)
        ≡ sets (sets out₀ (entry_place 0) (directory_bytes (entries_of xs 0 0 (cut_of xs)))) (payload_place m) (payload_of xs 0 (cut_of xs))

  -- the block that begins at rank `i` is the next, and there is room for it
  pub record Turn (out : List ℕ) (i at p : ℕ) : Type 0 where
    pub rest : List Block
    pub laying : Laying out i at p (block_at (get_or work i 0) ∷ rest)
    pub within : Within xs i (get_or work i 0)
    pub entry : at + entry_size ≤ length out
    pub part : p + length (part_of xs i (block_at (get_or work i 0))) ≤ length out

module _ {xs work : List ℕ} {m : ℕ} {out₀ : List ℕ} where
  pub laying_start : Marks xs work → m ≡ length (cut_of xs) → payload_place m + length (payload_of xs 0 (cut_of xs)) ≤ length out₀
      → Laying xs work m out₀ out₀ 0 (entry_place 0) (payload_place m) (cut_of xs)
  laying_start k e h =
      let z : payload_place m - payload_place m ≡ 0 = omega arith in
      record {
        marks = k;
        cuts = Cuts_planned xs;
        marked = k.marked;
        same = refl;
        low = omega arith;
        directory = omega arith;
        place = refl;
        room = h;
        stores =
            ap
            (λ (n : ℕ). sets (sets out₀ (entry_place 0) (directory_bytes (entries_of xs 0 n (cut_of xs)))) (payload_place m) (payload_of xs 0 (cut_of xs)))
            z;
      }

  -- the next block, which the word at `i` says
  pub Laying_next : {out : List ℕ} {i at p : ℕ} {left : List Block} → Laying xs work m out₀ out i at p left → i < length xs
      → Turn xs work m out₀ out i at p
  Laying_next {out} {i} {at} {p} {left} l h =
      let word : ℕ = get_or work i 0 in
      let f : Head work i (length xs) left = marked_head left l.cuts l.marked h in
      let q : f.first ≡ block_at word = sym (Block_at f.first f.word) in
      let t : Laying xs work m out₀ out i at p (block_at word ∷ f.rest) =
      subst (Laying xs work m out₀ out i at p) (f.is ∙ ap (λ (b : Block). b ∷ f.rest) q) l
      in
      record {
        rest = f.rest;
        laying = t;
        within = record { listed = l.marks.listed; after = t.cuts.0; inside = Cuts-le (word / 2) (length xs) f.rest t.cuts.1 };
        entry = omega (arith, t.directory, t.low, t.room);
        part = omega (arith, t.room, length-payload_of xs i (block_at word) f.rest);
      }

  -- its part and its entry were stored
  pub laying_turn : {out out' : List ℕ} {i at p next : ℕ} (t : Turn xs work m out₀ out i at p)
      → Laid xs i (get_or work i 0) (payload_place m) out at p out' next
      → Laying xs work m out₀ out' (get_or work i 0 / 2) (at + entry_size) next t.rest
  laying_turn {out} {out'} {i} {at} {p} {next} t d =
      let word : ℕ = get_or work i 0 in
      let bs : List Block = t.rest in
      let l = t.laying in
      let n = length-payload_of xs i (block_at word) bs in
      let base : ℕ = payload_place m in
      let part : List ℕ = part_of xs i (block_at word) in
      let entry : List ℕ = entry_bytes (entry_of xs i (p - base) (block_at word)) in
      let rest : List ℕ = directory_bytes (entries_of xs (word / 2) (p - base + length part) bs) in
      let more : List ℕ = payload_of xs (word / 2) bs in
      let q : next - base ≡ p - base + length part = omega (arith, d.place, l.low) in
      let a : at + entry_size ≡ at + length entry = omega (arith, length_entry (entry_of xs i (p - base) (block_at word))) in
      let s : length out' ≡ length out = ap length d.stores ∙ length-sets (sets out p part) at entry ∙ length-sets out p part in
      record {
        marks = l.marks;
        cuts = l.cuts.1;
        marked = l.marked.1;
        same = s ∙ l.same;
        low = omega (arith, d.place, l.low);
        directory = omega (arith, l.directory);
        place = omega (arith, d.place, l.place);
        room = omega (arith, d.place, l.room);
        stores =
            ap (λ (n : ℕ). sets (sets out' (at + entry_size) (directory_bytes (entries_of xs (word / 2) n bs))) next more) q
            ∙ ap (λ (r : List ℕ). sets (sets r (at + entry_size) rest) next more) d.stores
            ∙ ap (λ (n : ℕ). sets (sets (sets (sets out p part) at entry) n rest) next more) a
            ∙ ap (λ (n : ℕ). sets (sets (sets (sets out p part) at entry) (at + length entry) rest) n more) d.place
            ∙ ap (λ (r : List ℕ). sets r (p + length part) more)
            (sym (sets-append (sets out p part) at entry rest)
            ∙ sym
            (sets_comm out at (entry ++ rest) p part
            (omega (
              arith,
              l.directory,
              l.low,
              length-append entry rest,
              length_entry (entry_of xs i (p - base) (block_at word)),
              length_directory_of xs (word / 2) (p - base + length part) bs,
            ))))
            ∙ sym (sets-append (sets out at (entry ++ rest)) p part more)
            ∙ l.stores;
      }

  pub laying_end : {out : List ℕ} {i at p : ℕ} {left : List Block} → Laying xs work m out₀ out i at p left → length xs ≤ i
      → Filled xs m out₀ out p
  laying_end {out} {i} {at} {p} {left} l h =
      let v : Laying xs work m out₀ out i at p [] = subst (Laying xs work m out₀ out i at p) (Cuts_none left l.cuts h) l in
      record { place = omega (arith, v.place); stores = v.stores }

-- ---- the image

module _ (xs : List ℕ) {m : ℕ} (e : m ≡ length (cut_of xs)) where
  -- its length, by the places in it
  pub length_places : length (image_for xs) ≡ payload_place m + length (payload_of xs 0 (cut_of xs))
  unfolding image_for
  length_places = omega (arith, length_image xs (cut_of xs))

  -- its sections, stored in the order first, second and last, third
  pub image_stored : (out : List ℕ) {l₁ l₂ l₃ : List ℕ} {end : ℕ} → length (image_for xs) ≤ length out
      → l₁ ≡ sets out 0 (number_bytes m) → Filled xs m l₁ l₂ end
      → l₃ ≡ sets l₂ (entry_place m) (number_bytes (end - entry_place m - number_size))
      → l₃ ≡ sets out 0 (image_for xs)
  unfolding image_for image_of
  image_stored out {l₁} {l₂} {l₃} {end} h one two three =
      let ds : List ℕ = directory_bytes (entries_of xs 0 0 (cut_of xs)) in
      let ps : List ℕ = payload_of xs 0 (cut_of xs) in
      let cs : List ℕ = number_bytes (length ps) in
      let n : end - entry_place m - number_size ≡ length ps = omega (arith, two.place) in
      let filled : List ℕ = sets l₁ (entry_place 0) ds in
      let s = Storing_start out 0 (image_of xs (cut_of xs)) (omega (arith, h)) in
      let a = Storing_run s (number_bytes (length (cut_of xs))) (ds ++ (cs ++ ps)) {p' = entry_place 0} refl
      (omega (arith, length_little number_size (length (cut_of xs)))) (one ∙ ap (λ (k : ℕ). sets out 0 (number_bytes k)) e) in
      let b = Storing_run a ds (cs ++ ps) {p' = entry_place m} refl (omega (arith, length_directory_of xs 0 0 (cut_of xs))) refl in
      let c = Storing_run b cs ps {p' = payload_place m} refl (omega (arith, length_little number_size (length ps))) refl in
      three
      ∙ ap (λ (k : ℕ). sets l₂ (entry_place m) (number_bytes k)) n
      ∙ ap (λ (l : List ℕ). sets l (entry_place m) cs) two.stores
      ∙ sym (sets_comm filled (entry_place m) cs (payload_place m) ps (omega (arith, length_little number_size (length ps))))
      ∙ (storing_end (Storing_run c ps [] (sym (append-nil ps)) refl refl) refl).stores
