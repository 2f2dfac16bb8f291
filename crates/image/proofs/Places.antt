-- What stands where in the image of a cut, that all of it are bytes, and that an image says its cut.
-- Assumes nothing.
use mathlib.Core.Path.{◌≡◌, refl, sym, ap, ◌∙◌}
use mathlib.Core.List.{List, [], ◌∷◌, ◌++◌}
use Prim.Native.Nat.{ℕ, ◌+◌, ◌-◌, ◌≤◌, ◌<◌}
use native.Mathlib.Omega.{arith}
use lib.ListN.{length, get_or, drop}
use Rattle.lists.specs.Rising.{past}
use Rattle.lists.specs.Parts.{part}
use Rattle.lists.specs.Bytes.{Bytes}
use Rattle.lists.proofs.Parts.{drop_run}
use Rattle.lists.proofs.Ranks.{past_suc, past-beyond, beyond-part, rising_part}
use Rattle.lists.proofs.Bytes.{Bytes-nil, Bytes-append}
use Rattle.rules.specs.Sizes.{number_size}
use Rattle.rules.specs.Numbers.{number_at, number_bytes}
use Rattle.rules.specs.Listed.{Listed}
use Rattle.rules.specs.Limits.Laws.{most_counted}
use Rattle.rules.proofs.Numbers.{number_read, Bytes_little}
use Rattle.cut.specs.Cut.{Block, Cuts}
use Rattle.cut.proofs.Blocks.{number-le, Block-eq}
use Rattle.cut.proofs.Cuts.{Cuts-le, Cuts-length}
use Rattle.image.specs.declared.Entry.{Entry}
use Rattle.image.specs.declared.Before.{Before}
use Rattle.image.specs.Entry.{entry_place, payload_place, entry_bytes, directory_bytes, entries_at, after_entry}
use Rattle.image.specs.Grammar.{part_of, payload_of, entry_of, entries_of, image_of}
use Rattle.image.proofs.Entries.{length_directory, Bytes_entry, drop-number, entries_read}
use Rattle.image.proofs.Parts.{Bytes-bytes_of}
use Rattle.image.proofs.Sizes.{length-entries_of, payload_fits, narrow_entries}

module _ (xs : List ℕ) (cut : List Block) where
  -- the second section: the count of payload bytes, and these
  abbrev second : List ℕ
  second = number_bytes (length (payload_of xs 0 cut)) ++ payload_of xs 0 cut

  after_count : drop (entry_place 0) (image_of xs cut) ≡ directory_bytes (entries_of xs 0 0 cut) ++ second
  unfolding image_of
  after_count = drop-number (image_of xs cut) 0 (length cut) _ refl

  after_entries : drop (entry_place (length cut)) (image_of xs cut) ≡ second
  after_entries =
      let n : entry_place 0 + length (directory_bytes (entries_of xs 0 0 cut)) ≡ entry_place (length cut) =
      omega (arith, length_directory (entries_of xs 0 0 cut), length-entries_of xs 0 0 cut)
      in
      ap (λ (k : ℕ). drop k (image_of xs cut)) (sym n)
      ∙ drop_run (image_of xs cut) (entry_place 0) (directory_bytes (entries_of xs 0 0 cut)) second after_count

  pub image_payload : drop (payload_place (length cut)) (image_of xs cut) ≡ payload_of xs 0 cut
  image_payload = drop-number (image_of xs cut) (entry_place (length cut)) (length (payload_of xs 0 cut)) (payload_of xs 0 cut) after_entries

  module _ (l : Listed xs) (c : Cuts 0 (length xs) cut) where
    pub image_m : number_at (image_of xs cut) 0 ≡ length cut
    unfolding image_of
    image_m = number_read (image_of xs cut) 0 (length cut) _ (omega (arith, Cuts-length 0 (length xs) cut c, l.few, most_counted)) refl

    pub image_p : number_at (image_of xs cut) (entry_place (length cut)) ≡ length (payload_of xs 0 cut)
    image_p =
        number_read (image_of xs cut) (entry_place (length cut)) (length (payload_of xs 0 cut)) (payload_of xs 0 cut)
        (payload_fits xs l cut c) after_entries

    pub image_entries : entries_at (length cut) (image_of xs cut) (entry_place 0) ≡ entries_of xs 0 0 cut
    image_entries =
        ap (λ (k : ℕ). entries_at k (image_of xs cut) (entry_place 0)) (sym (length-entries_of xs 0 0 cut))
        ∙ entries_read (image_of xs cut) (entry_place 0) (entries_of xs 0 0 cut) second
        (narrow_entries xs l 0 0 cut c (omega (arith, payload_fits xs l cut c))) after_count

-- ---- what stands before a rank

-- before rank `i`, where the payload so far has `e` bytes
abbrev pub before_at : List ℕ → ℕ → ℕ → Before
before_at xs i e = record { next = past xs i; upto = i; end = e }

-- after a block stands what is before the next
pub after_entry_lem : (xs : List ℕ) (i e : ℕ) (b : Block) → i < b.upto
    → after_entry (entry_of xs i e b) ≡ before_at xs b.upto (e + length (part_of xs i b))
after_entry_lem xs i e b h =
    let q : get_or xs (b.upto - 1) 0 + 1 ≡ past xs b.upto = sym (past_suc xs b.upto (λ z. omega arith)) in
    λ t. record { next = q t; upto = b.upto; end = e + length (part_of xs i b) }

-- ---- an image is a list of bytes

Bytes_directory : (xs : List ℕ) (i e : ℕ) (bs : List Block) → Bytes (directory_bytes (entries_of xs i e bs))
Bytes_directory xs i e [] = Bytes-nil
Bytes_directory xs i e (b ∷ bs) =
    Bytes-append (entry_bytes (entry_of xs i e b)) (directory_bytes (entries_of xs b.upto (e + length (part_of xs i b)) bs))
    (Bytes_entry (entry_of xs i e b) (omega (arith, number-le b.kind))) (Bytes_directory xs b.upto (e + length (part_of xs i b)) bs)

module _ (xs : List ℕ) (l : Listed xs) where
  Bytes_payload : (i : ℕ) (bs : List Block) → Cuts i (length xs) bs → Bytes (payload_of xs i bs)
  Bytes_payload i [] c = Bytes-nil
  Bytes_payload i (b ∷ bs) c =
      let k : b.upto ≤ length xs = Cuts-le b.upto (length xs) bs c.1 in
      Bytes-append (part_of xs i b) (payload_of xs b.upto bs)
      (Bytes-bytes_of (past xs i) (part xs i b.upto) (rising_part xs i b.upto (omega (arith, c.0)) l.rising) b.kind
      (omega (arith, beyond-part xs i b.upto (omega (arith, c.0)) k, past-beyond xs b.upto k l.rising, l.small)))
      (Bytes_payload b.upto bs c.1)

  pub Bytes_image : (cut : List Block) → Cuts 0 (length xs) cut → Bytes (image_of xs cut)
  unfolding image_of
  Bytes_image cut c =
      let es : List Entry = entries_of xs 0 0 cut in
      let pay : List ℕ = payload_of xs 0 cut in
      Bytes-append (number_bytes (length cut)) (directory_bytes es ++ (number_bytes (length pay) ++ pay)) (Bytes_little number_size (length cut))
      (Bytes-append (directory_bytes es) (number_bytes (length pay) ++ pay) (Bytes_directory xs 0 0 cut)
      (Bytes-append (number_bytes (length pay)) pay (Bytes_little number_size (length pay)) (Bytes_payload 0 cut c)))

-- ---- an image says its cut

entries_one : (xs : List ℕ) (i e : ℕ) (cs bs : List Block) → entries_of xs i e cs ≡ entries_of xs i e bs → cs ≡ bs
entries_one xs i e [] [] q = refl
entries_one xs i e [] (b ∷ bs) q = absurd (omega (arith, ap length q))
entries_one xs i e (a ∷ cs) [] q = absurd (omega (arith, ap length q))
entries_one xs i e (a ∷ cs) (b ∷ bs) q =
    let first : entry_of xs i e a ≡ entry_of xs i e b = cc in
    let rest : entries_of xs a.upto (e + length (part_of xs i a)) cs ≡ entries_of xs b.upto (e + length (part_of xs i b)) bs = cc in
    let same : a ≡ b = Block-eq a b (ap (λ (x : Entry). x.upto) first) (ap (λ (x : Entry). x.kind) first) in
    let more : cs ≡ bs =
    entries_one xs a.upto (e + length (part_of xs i a)) cs bs
    (rest ∙ ap (λ (x : Block). entries_of xs x.upto (e + length (part_of xs i x)) bs) (sym same))
    in
    λ t. same t ∷ more t

-- TWO CUTS OF A LIST WITH ONE IMAGE ARE ONE
pub image_cut_one : (xs : List ℕ) → Listed xs → (cs bs : List Block) → Cuts 0 (length xs) cs → Cuts 0 (length xs) bs
    → image_of xs cs ≡ image_of xs bs → cs ≡ bs
image_cut_one xs l cs bs c d q =
    let n : length cs ≡ length bs = sym (image_m xs cs l c) ∙ ap (λ (s : List ℕ). number_at s 0) q ∙ image_m xs bs l d in
    entries_one xs 0 0 cs bs
    (sym (image_entries xs cs l c)
    ∙ ap (λ (k : ℕ). entries_at k (image_of xs cs) (entry_place 0)) n
    ∙ ap (λ (s : List ℕ). entries_at (length bs) s (entry_place 0)) q
    ∙ image_entries xs bs l d)
