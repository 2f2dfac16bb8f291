-- Laws of putting the steps of a row into a buffer word by word, where nothing else changes, or where four places are left loose.
-- Assumes nothing.
use mathlib.Core.Path.{◌≡◌, refl, sym, ap, ◌∙◌, subst}
use mathlib.Core.List.{List, [], append-nil}
use Prim.Native.Nat.{ℕ, ◌+◌, ◌*◌, ◌/◌, ◌^◌, ◌≤◌, ◌<◌}
use native.Mathlib.Omega.{arith}
use lib.ListN.{length, get_or, drop, length-drop, length-append}
use Rattle.std.specs.Simd.{first_chunks}
use Rattle.lists.specs.Rising.{beyond}
use Rattle.lists.specs.Bytes.{Bytes}
use Rattle.lists.specs.Stores.{Puts}
use Rattle.lists.proofs.Stores.{Storing, Storing_start, Storing_same, Storing_run, storing_end}
use Rattle.rules.specs.Numbers.{little}
use Rattle.row.specs.Row.{byte_bits, bits_from, row_steps}
use Rattle.row.specs.Words.{word_bytes, word_bits}
use Rattle.row.proofs.Bits.{beyond_bits}
use Rattle.row.proofs.Row.{beyond_row_most}
use Rattle.row.proofs.Words.{words_left, words_start, row_word, words_rest, row_rest}
use Rattle.row_word.specs.Groups.{group_bits, PutsLoose}
use Rattle.row_word.proofs.Loosely.{Loosely, Loosely_start, Loosely_run, loosely_end, exact_loose}

-- ---- a word of a row

-- the steps of its word v of index `i`
abbrev pub word_steps : ℕ → ℕ → ℕ → List ℕ
word_steps o i v = bits_from word_bits (o + word_bits * i) v

-- they are 32-bit numbers, and fit a buffer from place `k` on
abbrev pub Room : ℕ → ℕ → ℕ → List ℕ → ℕ → Type 0
Room o i v out k = (beyond (o + word_bits * i) (word_steps o i v) ≤ 2 ^ 32) × (k + length (word_steps o i v) ≤ length out)

-- the words of a row, and the bytes after them
abbrev pub Words : List ℕ → List (List ℕ) → Type 0
Words s ws = ws ≡ first_chunks word_bytes (length s / word_bytes) s

abbrev pub Rest : List ℕ → List ℕ → Type 0
Rest s r = r ≡ drop (length s / word_bytes * word_bytes) s

-- ---- where nothing else changes

-- the steps of the words from index `i` on are left, which go to `k`
pub record Putting (s : List ℕ) (o : ℕ) (out₀ : List ℕ) (at : ℕ) (out : List ℕ) (i k : ℕ) : Type 0 where
  pub storing : Storing out₀ at (row_steps o s) out k (words_left o s i)

pub Putting-start : (s : List ℕ) (o : ℕ) (out : List ℕ) (at : ℕ) → at + length (row_steps o s) ≤ length out → Putting s o out at out 0 at
Putting-start s o out at h = record { storing = Storing_same (Storing_start out at (row_steps o s) h) (sym (words_start o s)) }

module _ {s : List ℕ} {o : ℕ} {out₀ : List ℕ} {at : ℕ} {out : List ℕ} {i k : ℕ} (p : Putting s o out₀ at out i k) (w : Bytes s) where
  -- one word more
  module _ (ws : List (List ℕ)) (e : Words s ws) (h : i < length s / word_bytes) (v : ℕ) (f : v ≡ little (get_or ws i [])) where
    pub putting_room : o + byte_bits * length s ≤ 2 ^ 32 → Room o i v out k
    putting_room l =
        let n : length (words_left o s i) ≡ length (word_steps o i v) + length (words_left o s (i + 1)) =
        ap length (row_word o s w ws e i h v f) ∙ length-append (word_steps o i v) (words_left o s (i + 1))
        in
        (omega (arith, beyond_bits word_bits (o + word_bits * i) v), omega (arith, p.storing.room))

    pub Putting_turn : {out' : List ℕ} {k' : ℕ} → Puts out k (word_steps o i v) out' k' → Putting s o out₀ at out' (i + 1) k'
    Putting_turn r = record { storing = Storing_run p.storing (word_steps o i v) (words_left o s (i + 1)) (row_word o s w ws e i h v f) r.place r.stores }

  -- the bytes that are left, after `n` words
  module _ (b : List ℕ) (e : Rest s b) (n : ℕ) (h : n ≡ length s / word_bytes) (j : i ≡ n) (v : ℕ) (f : v ≡ little b) where
    left : words_left o s i ≡ word_steps o n v
    left = ap (words_left o s) j ∙ row_rest o s w b e n h v f

    pub putting_Room_rest : o + byte_bits * length s ≤ 2 ^ 32 → Room o n v out k
    putting_Room_rest l =
        let q : row_steps (o + word_bits * n) b ≡ word_steps o n v = sym (words_rest o s w b e n h) ∙ row_rest o s w b e n h v f in
        let m : beyond (o + word_bits * n) (row_steps (o + word_bits * n) b) ≤ 2 ^ 32 =
        omega (arith, beyond_row_most (o + word_bits * n) b, ap length e, length-drop (length s / word_bytes * word_bytes) s)
        in
        (subst (λ (t : List ℕ). beyond (o + word_bits * n) t ≤ 2 ^ 32) q m, omega (arith, p.storing.room, ap length left))

    pub putting_end : {out' : List ℕ} {k' : ℕ} → Puts out k (word_steps o n v) out' k' → Puts out₀ at (row_steps o s) out' k'
    putting_end r = storing_end (Storing_run p.storing (word_steps o n v) [] (left ∙ sym (append-nil (word_steps o n v))) r.place r.stores) refl

-- ---- where four places are left loose

pub record Running (s : List ℕ) (o : ℕ) (out₀ : List ℕ) (at : ℕ) (out : List ℕ) (i k : ℕ) : Type 0 where
  pub room : at + length (row_steps o s) + group_bits ≤ length out₀
  pub loosely : Loosely out₀ at (row_steps o s) out k (words_left o s i)

pub Running_start : (s : List ℕ) (o : ℕ) (out : List ℕ) (at : ℕ) → at + length (row_steps o s) + group_bits ≤ length out → Running s o out at out 0 at
Running_start s o out at h = record { room = h; loosely = Loosely_start out at (row_steps o s) (words_left o s 0) (words_start o s) }

module _ {s : List ℕ} {o : ℕ} {out₀ : List ℕ} {at : ℕ} {out : List ℕ} {i k : ℕ} (p : Running s o out₀ at out i k) (w : Bytes s) where
  -- one word more
  module _ (ws : List (List ℕ)) (e : Words s ws) (h : i < length s / word_bytes) (v : ℕ) (f : v ≡ little (get_or ws i [])) where
    pub running_room : k + length (word_steps o i v) + group_bits ≤ length out
    running_room =
        let n : length (words_left o s i) ≡ length (word_steps o i v) + length (words_left o s (i + 1)) =
        ap length (row_word o s w ws e i h v f) ∙ length-append (word_steps o i v) (words_left o s (i + 1))
        in
        omega (arith, p.room, p.loosely.same, p.loosely.place)

    pub Running_turn : {out' : List ℕ} {k' : ℕ} → length out' ≡ length out → PutsLoose out k (word_steps o i v) out' k'
        → Running s o out₀ at out' (i + 1) k'
    Running_turn n r = record {
      room = p.room;
      loosely = Loosely_run p.loosely (word_steps o i v) (words_left o s (i + 1)) (row_word o s w ws e i h v f) n r;
    }

  -- the bytes that are left, after `n` words
  module _ (b : List ℕ) (e : Rest s b) (n : ℕ) (h : n ≡ length s / word_bytes) (j : i ≡ n) (v : ℕ) (f : v ≡ little b) where
    others : words_left o s i ≡ word_steps o n v
    others = ap (words_left o s) j ∙ row_rest o s w b e n h v f

    pub running_Room_rest : o + byte_bits * length s < 2 ^ 31 → Room o n v out k
    running_Room_rest l = (
      omega (arith, beyond_bits word_bits (o + word_bits * n) v),
      omega (arith, p.room, p.loosely.same, p.loosely.place, ap length others),
    )

    pub running_end : {out' : List ℕ} {k' : ℕ} → length out' ≡ length out → Puts out k (word_steps o n v) out' k'
        → PutsLoose out₀ at (row_steps o s) out' k'
    running_end m r = loosely_end (Loosely_run p.loosely (word_steps o n v) [] (others ∙ sym (append-nil (word_steps o n v))) m (exact_loose r)) refl
