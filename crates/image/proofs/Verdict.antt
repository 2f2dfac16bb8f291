-- Laws of the verdict: it is that of counts and directory and then that of the blocks, what the opening is in each case of the two counts, and what
-- was tested of an image that opens, and of one that is taken.
-- Assumes nothing.
use mathlib.Core.Path.{◌≡◌, refl, sym, ap, ◌∙◌, subst}
use mathlib.Core.Bool.{Bool, true, false}
use mathlib.Core.List.{List}
use Prim.Native.Nat.{ℕ, ◌+◌, ◌≤◌, ◌<◌}
use native.Mathlib.Omega.{arith}
use borrow.Author.Tests.{lt-ltb, le-ltb}
use lib.Dec.{ltb}
use lib.ListN.{length, drop, length-drop}
use Rattle.std.specs.Prelude.{Result, Ok, Err, ⊤}
use Rattle.lists.specs.Choice.{pick}
use Rattle.lists.proofs.Choice.{by_lt}
use Rattle.rules.specs.Sizes.{number_size}
use Rattle.rules.specs.Numbers.{number_at}
use Rattle.rules.specs.Refusals.{too_few_bytes, bytes_left_over, refusal}
use Rattle.rules.specs.declared.Refusal.{Refusal}
use Rattle.image.specs.Entry.{entry_place, payload_place, entries_at, start}
use Rattle.image.specs.Verdict.{Verdict, taken, refused, directory_of, blocks_of, on_directory, verdict, on_entries, opening_for, opening_of, on_opening}
use Rattle.image.specs.Taken.{entries_in, payload_in}
use Rattle.image.proofs.Blocks.{refused_taken}

pub length_payload : (s : List ℕ) (m p : ℕ) → length s ≡ payload_place m + p → length (drop (payload_place m) s) ≡ p
length_payload s m p h = omega (arith, length-drop (payload_place m) s)

-- THE VERDICT IS THAT OF COUNTS AND DIRECTORY, AND THEN THAT OF THE BLOCKS
pub verdict_opening : (s : List ℕ)
    → verdict s ≡ on_opening (opening_of s) (blocks_of (payload_in s) start 0 (entries_in s))
unfolding verdict opening_of
verdict_opening s =
    by (ltb (length s) number_size) (ltb (length s) (payload_place m)) (ltb (length s) (payload_place m + p)) (ltb (payload_place m + p) (length s))
    (directory_of (length (payload_in s)) start 0 (entries_in s))
  where
    m : ℕ
    m = number_at s 0

    p : ℕ
    p = number_at s (entry_place m)

    v : Verdict
    v = blocks_of (payload_in s) start 0 (entries_in s)

    few : Refusal
    few = refusal too_few_bytes 0

    over : Refusal
    over = refusal bytes_left_over 0

    by : (x y z w : Bool) (f : Result ⊤ Refusal)
        → pick x (refused few) (pick y (refused few) (pick z (refused few) (pick w (refused over) (on_directory f v))))
        ≡ on_opening (pick x (Err few) (pick y (Err few) (pick z (Err few) (pick w (Err over) (on_entries m f))))) v
    by true y z w f = refl
    by false true z w f = refl
    by false false true w f = refl
    by false false false true f = refl
    by false false false false (Ok u) = refl
    by false false false false (Err r) = refl

module _ (s : List ℕ) where
  -- too few bytes for the count of blocks
  pub short : length s < number_size → opening_of s ≡ Err (refusal too_few_bytes 0)
  unfolding opening_of
  short h = rw (lt-ltb (length s) number_size h)

  module _ (m : ℕ) (em : m ≡ number_at s 0) where
    -- too few for the entries and the count of payload bytes
    pub short_m : number_size ≤ length s → length s < payload_place m → opening_of s ≡ Err (refusal too_few_bytes 0)
    unfolding opening_of
    short_m h k = rw (le-ltb (length s) number_size h, ← em, lt-ltb (length s) (payload_place m) k)

    module _ (p : ℕ) (ep : p ≡ number_at s (entry_place m)) where
      known : payload_place m ≤ length s → opening_of s ≡ opening_for s m p
      unfolding opening_of
      known h = rw (le-ltb (length s) number_size (omega arith), ← em, le-ltb (length s) (payload_place m) h, ← ep)

      -- too few for the payload
      pub short_p : payload_place m ≤ length s → length s < payload_place m + p → opening_of s ≡ Err (refusal too_few_bytes 0)
      short_p h k = known h ∙ rw (lt-ltb (length s) (payload_place m + p) k)

      -- bytes after it
      pub long : payload_place m + p < length s → opening_of s ≡ Err (refusal bytes_left_over 0)
      long h =
          known (omega arith)
          ∙ rw (le-ltb (length s) (payload_place m + p) (omega arith), lt-ltb (payload_place m + p) (length s) h)

      -- as many bytes as the counts say: then the entries are tested
      pub just : length s ≡ payload_place m + p → opening_of s ≡ on_entries m (directory_of p start 0 (entries_at m s (entry_place 0)))
      just size =
          known (omega arith)
          ∙ rw (
            le-ltb (length s) (payload_place m + p) (omega arith),
            le-ltb (payload_place m + p) (length s) (omega arith),
            length_payload s m p size,
          )

-- what was tested of an image whose counts and directory are as they should be
pub record Unsealed (s : List ℕ) (m : ℕ) : Type 0 where
  pub is : m ≡ number_at s 0
  pub size : length s ≡ payload_place m + number_at s (entry_place m)
  pub fine : directory_of (number_at s (entry_place m)) start 0 (entries_at m s (entry_place 0)) ≡ Ok tt

opened_refused : {A : Type 0} {m : ℕ} {r : Refusal} → ◌≡◌ {A = Result ℕ Refusal} (Err r) (Ok m) → A
opened_refused q = let z : ◌≡◌ {A = ℕ} 0 1 = cc in absurd (omega arith)

opened_eq : {k m : ℕ} → ◌≡◌ {A = Result ℕ Refusal} (Ok k) (Ok m) → k ≡ m
opened_eq q = ap (λ (o : Result ℕ Refusal). blocks_in o) q
  where
    blocks_in : Result ℕ Refusal → ℕ
    blocks_in (Ok m) = m
    blocks_in (Err r) = 0

module _ (s : List ℕ) (m : ℕ) (e : opening_of s ≡ Ok m) where
  pub unseal : Unsealed s m
  unseal = by_lt (length s) number_size (λ h. opened_refused (sym (short s h) ∙ e)) after_count
    where
      k : ℕ
      k = number_at s 0

      p : ℕ
      p = number_at s (entry_place k)

      tested : length s ≡ payload_place k + p → (f : Result ⊤ Refusal) → directory_of p start 0 (entries_at k s (entry_place 0)) ≡ f → Unsealed s m
      tested z (Ok u) q =
          let here : k ≡ m = opened_eq (sym (just s k refl p refl z ∙ ap (on_entries k) q) ∙ e) in
          subst (Unsealed s) here (record { is = refl; size = z; fine = q })
      tested z (Err r) q = opened_refused (sym (just s k refl p refl z ∙ ap (on_entries k) q) ∙ e)

      after_payload : payload_place k ≤ length s → payload_place k + p ≤ length s → Unsealed s m
      after_payload h g =
          by_lt (payload_place k + p) (length s) (λ l. opened_refused (sym (long s k refl p refl l) ∙ e))
          (λ l. tested (omega arith) (directory_of p start 0 (entries_at k s (entry_place 0))) refl)

      after_entries : payload_place k ≤ length s → Unsealed s m
      after_entries h =
          by_lt (length s) (payload_place k + p) (λ g. opened_refused (sym (short_p s k refl p refl h g) ∙ e)) (after_payload h)

      after_count : number_size ≤ length s → Unsealed s m
      after_count h = by_lt (length s) (payload_place k) (λ g. opened_refused (sym (short_m s k refl h g) ∙ e)) after_entries

-- ---- what the opening says of the verdict

module _ (s : List ℕ) where
  pub verdict_opened : {m : ℕ} → opening_of s ≡ Ok m → verdict s ≡ blocks_of (payload_in s) start 0 (entries_in s)
  verdict_opened q = verdict_opening s ∙ ap (λ (o : Result ℕ Refusal). on_opening o (blocks_of (payload_in s) start 0 (entries_in s))) q

  pub verdict_refused : {r : Refusal} → opening_of s ≡ Err r → verdict s ≡ refused r
  verdict_refused q = verdict_opening s ∙ ap (λ (o : Result ℕ Refusal). on_opening o (blocks_of (payload_in s) start 0 (entries_in s))) q

  -- where counts and directory are as they should be, the blocks decide
  pub just_fine : (m : ℕ) → m ≡ number_at s 0 → (p : ℕ) → p ≡ number_at s (entry_place m) → length s ≡ payload_place m + p
      → directory_of p start 0 (entries_at m s (entry_place 0)) ≡ Ok tt
      → verdict s ≡ blocks_of (drop (payload_place m) s) start 0 (entries_at m s (entry_place 0))
  just_fine m em p ep size f =
      verdict_opened (just s m em p ep size ∙ ap (on_entries m) f)
      ∙ ap (λ (k : ℕ). blocks_of (drop (payload_place k) s) start 0 (entries_at k s (entry_place 0))) (sym em)

-- what was tested of an image that is taken
pub record Peeled (s xs : List ℕ) : Type 0 where
  pub m : ℕ
  pub p : ℕ
  pub is_m : m ≡ number_at s 0
  pub is_p : p ≡ number_at s (entry_place m)
  pub size : length s ≡ payload_place m + p
  pub fine : directory_of p start 0 (entries_at m s (entry_place 0)) ≡ Ok tt
  pub blocks : blocks_of (drop (payload_place m) s) start 0 (entries_at m s (entry_place 0)) ≡ taken xs

peel_opened : (s xs : List ℕ) (m : ℕ) → opening_of s ≡ Ok m → verdict s ≡ taken xs → Peeled s xs
peel_opened s xs m q e =
    let u = unseal s m q in
    let v : verdict s ≡ blocks_of (payload_in s) start 0 (entries_in s) = verdict_opened s q in
    record {
      m = m;
      p = number_at s (entry_place m);
      is_m = u.is;
      is_p = refl;
      size = u.size;
      fine = u.fine;
      blocks = subst (λ (k : ℕ). blocks_of (drop (payload_place k) s) start 0 (entries_at k s (entry_place 0)) ≡ taken xs) (sym u.is) (sym v ∙ e);
    }

pub peel : (s xs : List ℕ) → verdict s ≡ taken xs → Peeled s xs
peel s xs e = by (opening_of s) refl
  where
    by : (o : Result ℕ Refusal) → opening_of s ≡ o → Peeled s xs
    by (Ok m) q = peel_opened s xs m q e
    by (Err r) q = refused_taken (sym (verdict_refused s q) ∙ e)
