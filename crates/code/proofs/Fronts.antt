-- The code at the front of a part where it has one byte or two.
-- Assumes nothing.
use mathlib.Core.Path.{◌≡◌, refl, sym, ap, ◌∙◌}
use mathlib.Core.List.{List, ◌∷◌}
use Prim.Native.Nat.{ℕ, suc, ◌+◌, ◌-◌, ◌*◌, ◌/◌, ◌%◌, ◌≤◌, ◌<◌}
use native.Mathlib.Omega.{arith}
use native.Mathlib.Decide.{ℕ_discrete}
use lib.ListN.{length, get_or, drop}
use Rattle.lists.proofs.Parts.{drop_one}
use Rattle.lists.proofs.Choice.{by_lt}
use Rattle.code.specs.declared.Flaw.{Flaw}
use Rattle.code.specs.declared.Flaw.TheVariants.{Padded}
use Rattle.code.specs.declared.Reading.{Reading}
use Rattle.std.specs.Prelude.{Result, Ok}
use Rattle.code.specs.Code.{one_group, flag, reading, read_at}
use Rattle.code.specs.Code.Inside.{Reached, reached_as, read_padded, read_first, read_last, read_on}
use Rattle.code.specs.Flagged.{kept}
use Rattle.code.specs.Fronts.{Starts, Brief}
use Rattle.code.proofs.Flagged.{kept_all, kept-le}

-- what stands from a place on, by the byte there
pub byte_at : (s : List ℕ) (p b : ℕ) → p < length s → b ≡ get_or s p 0 → drop p s ≡ b ∷ drop (p + 1) s
byte_at s p b h e = drop_one s p 0 h ∙ ap (λ (x : ℕ). x ∷ drop (p + 1) s) (sym e)

-- ---- a reading, byte by byte

module _ (s : List ℕ) (at : ℕ) where
  -- the first byte is not the flag alone
  pub read_starts : (a : ℕ) → at < length s → a ≡ get_or s at 0 → (a ≡ flag → ⊥) → Reached s at 3 at 0
  read_starts a h e z = read_first s at (byte_at s at a h e) z

  -- a byte with the flag
  pub read_passes : (k p h b : ℕ) → Reached s at (suc k) p h → p < length s → b ≡ get_or s p 0 → flag ≤ b
      → Reached s at k (p + 1) (h * one_group + (b - flag))
  read_passes k p h b r l e g = read_on (byte_at s p b l e) r g

  -- one without it
  pub read_ends : {k : ℕ} (p h b v n : ℕ) → Reached s at k p h → p < length s → b ≡ get_or s p 0 → b < flag → v ≡ h * one_group + b → n ≡ p + 1
      → read_at s at ≡ Ok (reading v n)
  read_ends p h b v n r l e g ev en = read_last (byte_at s p b l e) r g ev en

  -- after the first byte, which has the flag
  pub after_one : (a : ℕ) → at < length s → a ≡ get_or s at 0 → flag < a → Reached s at 2 (at + 1) (a - flag)
  after_one a h e g = reached_as (read_passes 2 at 0 a (read_starts a h e (λ z. omega arith)) h e (omega arith)) refl refl (omega arith)

  -- and after the second
  pub after_two : (a b : ℕ) → at + 1 < length s → a ≡ get_or s at 0 → flag < a → b ≡ get_or s (at + 1) 0 → flag ≤ b
      → Reached s at 1 (at + 2) ((a - flag) * one_group + (b - flag))
  after_two a b h ea ga eb gb =
      reached_as (read_passes 1 (at + 1) (a - flag) b (after_one a (omega arith) ea ga) h eb gb) refl (omega arith) refl

  -- and after the third
  pub after_three : (h c : ℕ) → Reached s at 1 (at + 2) h → at + 2 < length s → c ≡ get_or s (at + 2) 0 → flag ≤ c
      → Reached s at 0 (at + 3) (h * one_group + (c - flag))
  after_three h c r l e g = reached_as (read_passes 0 (at + 2) h c r l e g) refl (omega arith) refl

-- ---- a short code at the front of a part

-- a byte without the flag is its own code
pub read_single : (s : List ℕ) (b : ℕ) → 0 < length s → b ≡ get_or s 0 0 → b < flag → read_at s 0 ≡ Ok (reading b 1)
read_single s b h e g = read_ends s 0 0 0 b b 1 (read_starts s 0 b h e (λ z. omega arith)) h e g (omega arith) (omega arith)

-- a byte with the flag, which is not the flag alone, and one without it are a code
pub read_double : (s : List ℕ) (a b : ℕ) → 1 < length s → a ≡ get_or s 0 0 → b ≡ get_or s 1 0 → flag < a → b < flag
    → read_at s 0 ≡ Ok (reading ((a - flag) * one_group + b) 2)
read_double s a b h ea eb g l =
    read_ends s 0 1 (a - flag) b ((a - flag) * one_group + b) 2 (after_one s 0 a (omega arith) ea g) h eb l refl (omega arith)

-- a code that does not fail does not start with the flag alone
Starts_above : (s : List ℕ) (a : ℕ) → 0 < length s → a ≡ get_or s 0 0 → Starts s → flag ≤ a → flag < a
Starts_above s a h e t g = by (ℕ_discrete a flag)
  where
    by : Dec (a ≡ flag) → flag < a
    by (yes z) = absurd (t Padded (read_padded s 0 (drop_one s 0 0 h) (sym e ∙ z)))
    by (no z) = omega (arith, z)

code_as : {x y i j : ℕ} → x ≡ y → i ≡ j → ◌≡◌ {A = Result Reading Flaw} (Ok (reading x i)) (Ok (reading y j))
code_as p q = cc

-- by the flag of the first byte
pub brief : (a b v n m : ℕ) → a < 256 → b < 256 → (a / flag ≡ 0 → v ≡ a) → (0 < a / flag → v ≡ a % one_group * one_group + b) → n ≡ a / flag
    → m ≡ kept a (kept b 1)
    → Brief a b v n m
brief a b v n m la lb one two en em =
    by_lt a flag
    (λ g.
    let z : a / flag ≡ 0 = omega arith in
    let e : v ≡ a = one z in
    let k : 1 ≡ 1 + n = omega (arith, en) in
    record {
      small = omega arith;
      second = omega (arith, en);
      flagged = omega (arith, em, kept-le a (kept b 1), kept-le b 1);
      reads = λ o s h ea eb t. read_single s a (omega arith) (sym ea) g ∙ code_as (sym e) k;
    })
    (λ g.
    let z : a / flag ≡ 1 = omega arith in
    let e : v ≡ a % one_group * one_group + b = two (omega arith) in
    let d : v ≡ (a - flag) * one_group + b = omega arith in
    let k : 2 ≡ 1 + n = omega (arith, en) in
    record {
      small = omega arith;
      second = omega (arith, en);
      flagged = omega (arith, em, kept-le a (kept b 1), kept-le b 1);
      reads =
          λ o s h ea eb t.
          read_double s a b h (sym ea) (sym eb) (Starts_above s a (omega arith) (sym ea) t g)
          (by_lt b flag (λ l. l) (λ l. absurd (omega (arith, o, em, kept_all a (kept b 1) g, kept_all b 1 l))))
          ∙ code_as (sym d) k;
    })
