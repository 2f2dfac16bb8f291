-- That each way out of `check` and of `read` keeps the promise, and what an image that was accepted has for the loop that stores its steps.
-- Assumes nothing.
use mathlib.Core.Path.{◌≡◌, refl, sym, ap, ◌∙◌, subst}
use mathlib.Core.List.{List, [], ◌∷◌}
use Prim.Native.Nat.{ℕ, ◌+◌, ◌≤◌, ◌<◌}
use native.Mathlib.Omega.{arith}
use borrow.Author.Tests.{lt-ltb, le-ltb}
use lib.ListN.{length}
use lib.Seq.{sets}
use Rattle.std.specs.Prelude.{Ok}
use Rattle.lists.specs.Bytes.{Bytes}
use Rattle.lists.proofs.Stores.{sets_front}
use Rattle.rules.specs.declared.Refusal.{Refusal}
use Rattle.rules.specs.Refusals.{steps_too_short, refusal}
use Rattle.rules.specs.Numbers.{number_at}
use Rattle.rules.specs.Paper.{accepting, refusing}
use Rattle.image.specs.Entry.{entry_place, entries_at, start}
use Rattle.image.specs.Verdict.{Verdict, taken, refused, blocks_of, verdict, opening_of}
use Rattle.image.specs.Taken.{list_in, Taken, entries_in, payload_in}
use Rattle.image.proofs.Taken.{taken_is}
use Rattle.image.proofs.Verdict.{unseal, verdict_opened}
use Rattle.image_directory.specs.Sound.{Sound}
use Rattle.image_directory.proofs.Ahead.{Takes_list}
use Rattle.image_directory.proofs.Whole.{opened_Open, Taken-Open, Taken_blocks}
use Rattle.read.specs.Inside.{answer_of, Ready}
use Rattle.read.specs.Read.{values, paper_of, check_paper, read_promise, read_steps}
use Rattle.read.proofs.Answers.{Yes}

pub checked : (v : Verdict) → paper_of (answer_of 0 v) ≡ check_paper v
checked (taken xs) = let z : 0 + length xs ≡ length xs = omega arith in ap (λ (n : ℕ). accepting (n ∷ [])) z
checked (refused r) = refl

-- ---- an image that opened, with its number of blocks and its payload

pub opened_Sound : {s pay : List ℕ} {m : ℕ} → Bytes s → opening_of s ≡ Ok m → pay ≡ payload_in s → Sound s pay m
opened_Sound {s} {pay} {m} w e ip =
    subst (λ (l : List ℕ). Sound s l m) (sym ip)
    (subst (λ (k : ℕ). Sound s (payload_in s) k) (sym (unseal s m e).is) (opened_Open w e).sound)

pub opened_checked : (s : List ℕ) {pay : List ℕ} {m : ℕ} → opening_of s ≡ Ok m → pay ≡ payload_in s
    → paper_of (answer_of 0 (blocks_of pay start 0 (entries_at m s (entry_place 0)))) ≡ check_paper (verdict s)
opened_checked s {pay} {m} e ip =
    ap (λ (l : List ℕ). paper_of (answer_of 0 (blocks_of l start 0 (entries_at m s (entry_place 0))))) ip
    ∙ ap (λ (k : ℕ). paper_of (answer_of 0 (blocks_of (payload_in s) start 0 (entries_at k s (entry_place 0))))) (unseal s m e).is
    ∙ checked (blocks_of (payload_in s) start 0 (entries_in s))
    ∙ sym (ap check_paper (verdict_opened s e))

-- ---- a buffer

module _ (s buffer : List ℕ) where
  pub read_no : {q : Refusal} → verdict s ≡ refused q → (refusing values q ≡ read_promise s buffer) × (buffer ≡ read_steps s buffer)
  read_no e = rw e (refl, refl)

  module _ {n : ℕ} (y : Yes s n) where
    pub read_short : length buffer < n
        → (refusing values (refusal steps_too_short n) ≡ read_promise s buffer) × (buffer ≡ read_steps s buffer)
    read_short h =
        let t = lt-ltb (length buffer) (length y.list) (omega (arith, y.count)) in
        rw (y.is, t) (ap (λ (k : ℕ). refusing values (refusal steps_too_short k)) (sym y.count), refl)

    pub read_full : n ≤ length buffer
        → (accepting (n ∷ []) ≡ read_promise s buffer) × (sets buffer 0 y.list ≡ read_steps s buffer)
    read_full h =
        let t = le-ltb (length buffer) (length y.list) (omega (arith, y.count)) in
        rw (y.is, t) (ap (λ (k : ℕ). accepting (k ∷ [])) (sym y.count), sets_front buffer y.list (omega (arith, y.count)))

-- ---- an image that was accepted, with its number of blocks and its payload

module _ {s : List ℕ} {n : ℕ} (y : Yes s n) where
  pub yes_Taken_is : Taken s
  yes_Taken_is = (taken_is s y.list y.is).0

  module _ {m : ℕ} {pay : List ℕ} (im : m ≡ number_at s 0) (ip : pay ≡ payload_in s) where
    blocks : blocks_of pay start 0 (entries_at m s (entry_place 0)) ≡ taken y.list
    blocks =
        ap (λ (l : List ℕ). blocks_of l start 0 (entries_at m s (entry_place 0))) ip
        ∙ ap (λ (k : ℕ). blocks_of (payload_in s) start 0 (entries_at k s (entry_place 0))) im
        ∙ Taken_blocks s yes_Taken_is
        ∙ ap (λ (l : List ℕ). taken l) (taken_is s y.list y.is).1

    pub taken_list : list_in (blocks_of pay start 0 (entries_at m s (entry_place 0))) ≡ y.list
    taken_list = ap list_in blocks

    pub taken_Ready : Bytes s → {k : ℕ} → n ≤ k → Ready s pay m k
    taken_Ready w {k} room =
        record {
          sound =
              subst (λ (l : List ℕ). Sound s l m) (sym ip)
              (subst (λ (x : ℕ). Sound s (payload_in s) x) (sym im) (Taken-Open w yes_Taken_is).sound);
          takes = Takes_list blocks;
          room = omega (arith, ap length taken_list, y.count);
        }
