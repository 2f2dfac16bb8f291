-- Laws of marking the steps of a list in bytes that are 0 at first: how a mark stands in bytes that are stored, what all of them make, what
-- is left after one, and after eight that are neighbours.
-- Assumes nothing.
use mathlib.Core.Path.{◌≡◌, refl, sym, ap, ◌∙◌, subst}
use mathlib.Core.List.{List, [], ◌∷◌, ◌++◌, append_assoc}
use Prim.Native.Nat.{ℕ, zero, suc, ◌+◌, ◌-◌, ◌*◌, ◌/◌, ◌%◌, ◌^◌, ◌≤◌, ◌<◌}
use native.Mathlib.Omega.{arith}
use native.Mathlib.Nat.{pow-succ'}
use native.Mathlib.Decide.{ℕ_discrete}
use lib.Pow.{pow_mono}
use borrow.Rule.Slice.PartMut.{put_mid}
use lib.ListN.{length, get_or, set, drop, take, replicate, length-set, length-drop, take-append-drop, drop_of_length-le}
use lib.Seq.{sets, length-sets, ext_get_or, set-set, set-get_or, set_out, get_or-set_same, get_or-set_other, get_or-drop, drop-drop}
use Rattle.lists.specs.Rising.{Rising, beyond}
use Rattle.lists.specs.Bytes.{Bytes, byte_values}
use Rattle.lists.proofs.Choice.{by_lt}
use Rattle.lists.proofs.Parts.{drop_one}
use Rattle.lists.proofs.Rising.{Rising-beyond, Rising_back, Rising-get_or_below, Rising-get_or_from}
use Rattle.lists.proofs.Members.{has-past, has_below}
use Rattle.lists.proofs.Stores.{get_or_sets, set-sets}
use Rattle.lists.proofs.Bytes.{Bytes-sets}
use Rattle.rules.proofs.Numbers.{put_run}
use Rattle.row.specs.Row.{byte_bits, bits_of, bytes_from, row_size, row_of}
use Rattle.row_write.specs.Inside.Marks.{plus, place_of, bit_of, marked, Markable}
use Rattle.row.proofs.Written.{bits_of_same, bits_of_none, bits_of-cons, length-bytes_from, bytes_from_none, bytes_from_zeros, get_or-bytes_from, length_row, Bytes_row}

-- ---- bytes that are 0

zeros : (n o : ℕ) → replicate n 0 ≡ bytes_from n o []
zeros zero o = sym (bytes_from_none o [])
zeros (suc n) o = ap (λ (l : List ℕ). 0 ∷ l) (zeros n o) ∙ sym (bytes_from_zeros n o)

-- the part of a buffer that was filled with them
pub zeros_run : (l : List ℕ) (at n k : ℕ) (us : List ℕ) → us ≡ replicate k 0 → n ≡ k → at + n ≤ length l → put_mid at n l us ≡ sets l at (bytes_from k 0 [])
zeros_run l at n k us e q r =
    let h : n ≡ length (bytes_from k 0 []) = omega (arith, length-bytes_from k 0 []) in
    put_run l at n us (bytes_from k 0 []) (e ∙ zeros k 0) h (omega arith)

-- ---- one number more

plus-sets : (l : List ℕ) (at : ℕ) (vs : List ℕ) (j x : ℕ) → at + length vs ≤ length l → j < length vs
    → plus (sets l at vs) (at + j) x ≡ sets l at (plus vs j x)
plus-sets l at vs j x h g =
    ap (λ (y : ℕ). set (sets l at vs) (at + j) (y + x)) (get_or_sets l at vs j h g) ∙ set-sets l at vs j (get_or vs j 0 + x) g

plus_none : (l : List ℕ) (p : ℕ) → plus l p 0 ≡ l
plus_none l p =
    let z : get_or l p 0 + 0 ≡ get_or l p 0 = omega arith in
    ap (set l p) z ∙ set-get_or l p 0

plus-plus : (l : List ℕ) (p x y : ℕ) → p < length l → plus (plus l p x) p y ≡ plus l p (x + y)
plus-plus l p x y h =
    let z : get_or l p 0 + x + y ≡ get_or l p 0 + (x + y) = omega arith in
    set-set l p (get_or l p 0 + x) (get_or (plus l p x) p 0 + y)
    ∙ ap (λ (v : ℕ). set l p (v + y)) (get_or-set_same l p (get_or l p 0 + x) 0 h)
    ∙ ap (set l p) z

get_or-plus : (l : List ℕ) (p v j : ℕ) → p < length l → j ≡ p → get_or (plus l p v) j 0 ≡ get_or l j 0 + v
get_or-plus l p v j h e =
    ap (λ (i : ℕ). get_or (plus l p v) i 0) e ∙ get_or-set_same l p (get_or l p 0 + v) 0 h ∙ ap (λ (i : ℕ). get_or l i 0 + v) (sym e)

plus_grows : (l : List ℕ) (q v p : ℕ) → get_or l p 0 ≤ get_or (plus l q v) p 0
plus_grows l q v p = by (ℕ_discrete p q)
  where
    by : Dec (p ≡ q) → get_or l p 0 ≤ get_or (plus l q v) p 0
    by (yes e) =
        by_lt q (length l) (λ h. omega (arith, get_or-plus l q v p h e))
        (λ h. omega (arith, ap (λ (r : List ℕ). get_or r p 0) (set_out l q (get_or l q 0 + v) h)))
    by (no e) = omega (arith, get_or-set_other l q p (get_or l q 0 + v) 0 e)

-- ---- the marks of a list

marked_none : (o at : ℕ) (l : List ℕ) → marked o at [] l ≡ l
unfolding marked
marked_none o at l = refl

marked-cons : (o at x : ℕ) (xs l : List ℕ) → marked o at (x ∷ xs) l ≡ marked o at xs (plus l (place_of o at x) (bit_of o x))
unfolding marked
marked-cons o at x xs l = refl

marked_append : (o at : ℕ) (xs ys l : List ℕ) → marked o at (xs ++ ys) l ≡ marked o at ys (marked o at xs l)
unfolding marked
marked_append o at [] ys l = refl
marked_append o at (x ∷ xs) ys l = marked_append o at xs ys (plus l (place_of o at x) (bit_of o x))

length_marked : (o at : ℕ) (xs l : List ℕ) → length (marked o at xs l) ≡ length l
unfolding marked
length_marked o at [] l = refl
length_marked o at (x ∷ xs) l =
    length_marked o at xs (plus l (place_of o at x) (bit_of o x)) ∙ length-set l (place_of o at x) _

marked_grows : (o at : ℕ) (xs l : List ℕ) (p : ℕ) → get_or l p 0 ≤ get_or (marked o at xs l) p 0
unfolding marked
marked_grows o at [] l p = omega arith
marked_grows o at (x ∷ xs) l p =
    omega (arith, plus_grows l (place_of o at x) (bit_of o x) p, marked_grows o at xs (plus l (place_of o at x) (bit_of o x)) p)

-- ---- what they make

-- one step more in its byte, and in any other
byte_here : (o x j : ℕ) (xs : List ℕ) → o ≤ x → Rising (suc x) xs → j ≡ (x - o) / byte_bits
    → bits_of byte_bits (o + byte_bits * j) (x ∷ xs) ≡ bit_of o x + bits_of byte_bits (o + byte_bits * j) xs
byte_here o x j xs h r e =
    let p : ℕ = o + byte_bits * j in
    let z : x - p ≡ (x - o) % byte_bits = omega arith in
    bits_of-cons byte_bits p x xs (has_below x (suc x) xs r (omega arith)) (omega arith) (omega arith)
    ∙ ap (λ (t : ℕ). 2 ^ t + bits_of byte_bits p xs) z

byte_there : (o x j : ℕ) (xs : List ℕ) → o ≤ x → (j ≡ (x - o) / byte_bits → ⊥)
    → bits_of byte_bits (o + byte_bits * j) (x ∷ xs) ≡ bits_of byte_bits (o + byte_bits * j) xs
byte_there o x j xs h n = bits_of_same byte_bits (o + byte_bits * j) (x ∷ xs) xs (λ z l g. has-past z x xs (λ e. n (omega arith)))

get_or-marked : (o p : ℕ) (xs l : List ℕ) (j : ℕ) → o ≤ p → Rising p xs → j < length l
    → get_or (marked o 0 xs l) j 0 ≡ get_or l j 0 + bits_of byte_bits (o + byte_bits * j) xs
get_or-marked o p [] l j h r g =
    ap (λ (m : List ℕ). get_or m j 0) (marked_none o 0 l) ∙ omega (arith, bits_of_none byte_bits (o + byte_bits * j) [] tt)
get_or-marked o p (x ∷ xs) l j h r g =
    by (ℕ_discrete j q) (get_or-marked o (suc x) xs (plus l (0 + q) v) j (omega (arith, r.0)) r.1 (omega (arith, length-set l (0 + q) (get_or l (0 + q) 0 + v))))
  where
    q : ℕ
    q = (x - o) / byte_bits

    v : ℕ
    v = bit_of o x

    by : Dec (j ≡ q) → get_or (marked o 0 xs (plus l (0 + q) v)) j 0 ≡ get_or (plus l (0 + q) v) j 0 + bits_of byte_bits (o + byte_bits * j) xs
        → get_or (marked o 0 (x ∷ xs) l) j 0 ≡ get_or l j 0 + bits_of byte_bits (o + byte_bits * j) (x ∷ xs)
    by (yes e) ih =
        let k : j ≡ 0 + q = omega arith in
        ap (λ (m : List ℕ). get_or m j 0) (marked-cons o 0 x xs l)
        ∙ ih
        ∙ omega (arith, get_or-plus l (0 + q) v j (omega arith) k, byte_here o x j xs (omega (arith, r.0)) r.1 e)
    by (no e) ih =
        ap (λ (m : List ℕ). get_or m j 0) (marked-cons o 0 x xs l)
        ∙ ih
        ∙ omega (arith, get_or-set_other l (0 + q) j (get_or l (0 + q) 0 + v) 0 (λ k. e (omega arith)), byte_there o x j xs (omega (arith, r.0)) e)

-- bytes that are stored in a buffer are marked as they are before
marked-sets : (o p at : ℕ) (xs l bs : List ℕ) → o ≤ p → Rising p xs → beyond p xs ≤ o + byte_bits * length bs → at + length bs ≤ length l
    → marked o at xs (sets l at bs) ≡ sets l at (marked o 0 xs bs)
marked-sets o p at [] l bs h r e g = marked_none o at (sets l at bs) ∙ ap (sets l at) (sym (marked_none o 0 bs))
marked-sets o p at (x ∷ xs) l bs h r e g =
    let q : ℕ = (x - o) / byte_bits in
    let v : ℕ = bit_of o x in
    let z : 0 + q ≡ q = omega arith in
    let n : length (plus bs q v) ≡ length bs = length-set bs q (get_or bs q 0 + v) in
    let w : q < length bs = omega (arith, r.0, Rising-beyond (suc x) xs r.1) in
    marked-cons o at x xs (sets l at bs)
    ∙ ap (marked o at xs) (plus-sets l at bs q v g w)
    ∙ marked-sets o (suc x) at xs l (plus bs q v) (omega (arith, r.0)) r.1 (omega arith) (omega arith)
    ∙ ap (sets l at) (ap (λ (k : ℕ). marked o 0 xs (plus bs k v)) (sym z) ∙ sym (marked-cons o 0 x xs bs))

-- ALL MARKS IN BYTES THAT ARE 0 MAKE THE ROW
marked_row : (o n : ℕ) (xs : List ℕ) → Rising o xs → n ≡ length (row_of o xs) → marked o 0 xs (bytes_from n 0 []) ≡ row_of o xs
unfolding row_of
marked_row o n xs r e =
    ext_get_or 0 (marked o 0 xs zeros) (row_of o xs) (m ∙ length-bytes_from n 0 [] ∙ e)
    (λ j h.
    let k : j < n = omega (arith, m, length-bytes_from n 0 []) in
    get_or-marked o o xs zeros j (omega arith) r (omega (arith, length-bytes_from n 0 []))
    ∙ omega (
      arith,
      get_or-bytes_from n 0 [] j k,
      bits_of_none byte_bits (0 + byte_bits * j) [] tt,
      get_or-bytes_from (row_size (beyond o xs - o)) o xs j (omega (arith, length_row o xs)),
    ))
  where
    zeros : List ℕ
    zeros = bytes_from n 0 []

    m : length (marked o 0 xs zeros) ≡ length zeros
    m = length_marked o 0 xs zeros

-- at first the row's bytes are 0
module _ (o at n : ℕ) (xs out zeros : List ℕ) (r : Rising o xs) (e : n ≡ length (row_of o xs)) (h : at + length (row_of o xs) ≤ length out)
    (z : zeros ≡ sets out at (bytes_from n 0 [])) where
  pub marked_start : marked o at xs zeros ≡ sets out at (row_of o xs)
  marked_start =
      ap (marked o at xs) z
      ∙ marked-sets o o at xs out (bytes_from n 0 []) (omega arith) r
      (omega (arith, length-bytes_from n 0 [], length_row o xs, Rising-beyond o xs r))
      (omega (arith, length-bytes_from n 0 []))
      ∙ ap (sets out at) (marked_row o n xs r e)

  pub mark_start : Bytes out → Markable o at xs 0 zeros
  mark_start w = record {
    rising = r;
    room = omega (arith, ap length z, length-sets out at (bytes_from n 0 []));
    bytes = subst Bytes (sym marked_start) (Bytes-sets out at (row_of o xs) w (Bytes_row o xs));
  }

-- ---- what is left

pub marked_end : (o at i : ℕ) (xs l : List ℕ) → length xs ≤ i → marked o at (drop i xs) l ≡ l
marked_end o at i xs l h = ap (λ (r : List ℕ). marked o at r l) (drop_of_length-le xs {i = i} h) ∙ marked_none o at l

module _ {o at : ℕ} {xs : List ℕ} {i : ℕ} {l : List ℕ} (m : Markable o at xs i l) where
  pub mark_from : (k : ℕ) → k < length xs → o ≤ get_or xs k 0
  mark_from k h = omega (arith, Rising-get_or_from o xs k m.rising h)

  -- the byte of a step is one of the row
  pub mark_room : (k : ℕ) → k < length xs → place_of o at (get_or xs k 0) < length l
  mark_room k h = omega (arith, m.room, length_row o xs, Rising-get_or_below o xs k m.rising h, mark_from k h)

  -- some steps were marked
  pub mark_next : {j : ℕ} {l' : List ℕ} → length l' ≡ length l → marked o at (drop j xs) l' ≡ marked o at (drop i xs) l → Markable o at xs j l'
  mark_next n e = record { rising = m.rising; room = omega (arith, m.room); bytes = subst Bytes (sym e) m.bytes }

  -- one step
  module _ (h : i < length xs) where
    marked_one : marked o at (drop (i + 1) xs) (plus l (place_of o at (get_or xs i 0)) (bit_of o (get_or xs i 0))) ≡ marked o at (drop i xs) l
    marked_one = sym (ap (λ (r : List ℕ). marked o at r l) (drop_one xs i 0 h) ∙ marked-cons o at (get_or xs i 0) (drop (i + 1) xs) l)

    module _ (v : ℕ) (e : v ≡ bit_of o (get_or xs i 0)) where
      pub mark_fits : get_or l (place_of o at (get_or xs i 0)) 0 + v < byte_values
      mark_fits =
          let p : ℕ = place_of o at (get_or xs i 0) in
          let l' : List ℕ = plus l p (bit_of o (get_or xs i 0)) in
          omega (
            arith,
            get_or-plus l p (bit_of o (get_or xs i 0)) p (mark_room i h) refl,
            marked_grows o at (drop (i + 1) xs) l' p,
            ap (λ (r : List ℕ). get_or r p 0) marked_one,
            m.bytes p,
          )

      pub mark_turn : {l' : List ℕ} → l' ≡ plus l (place_of o at (get_or xs i 0)) v → marked o at (drop (i + 1) xs) l' ≡ marked o at (drop i xs) l
      mark_turn f =
          ap (marked o at (drop (i + 1) xs)) (f ∙ ap (plus l (place_of o at (get_or xs i 0))) e) ∙ marked_one

-- ---- eight neighbours

-- `k` of them from `x` on
unfoldable neighbours : ℕ → ℕ → List ℕ
neighbours zero x = []
neighbours (suc k) x = x ∷ neighbours k (suc x)

neighbours-append : (j k x : ℕ) → neighbours (j + k) x ≡ neighbours j x ++ neighbours k (x + j)
unfolding neighbours
neighbours-append zero k x =
    let z : 0 + k ≡ k = omega arith in
    let y : x ≡ x + 0 = omega arith in
    ap (λ (n : ℕ). neighbours n x) z ∙ ap (neighbours k) y
neighbours-append (suc j) k x =
    let z : suc j + k ≡ suc (j + k) = omega arith in
    let y : suc x + j ≡ x + suc j = omega arith in
    ap (λ (n : ℕ). neighbours n x) z
    ∙ ap (λ (r : List ℕ). x ∷ r) (neighbours-append j k (suc x) ∙ ap (λ (p : ℕ). neighbours j (suc x) ++ neighbours k p) y)

-- a rising list that has come no further than it has to
Rising-neighbours : (k x : ℕ) (xs : List ℕ) → Rising x xs → k < length xs → get_or xs k 0 ≡ x + k → xs ≡ neighbours (suc k) x ++ drop (suc k) xs
unfolding neighbours
Rising-neighbours k x [] r h e = absurd (omega arith)
Rising-neighbours zero x (y ∷ ys) r h e =
    let z : y ≡ x = omega arith in
    ap (λ (w : ℕ). w ∷ ys) z
Rising-neighbours (suc k) x (y ∷ ys) r h e =
    let z : y ≡ x = omega (arith, r.0, Rising-get_or_from (suc y) ys k r.1 (omega arith)) in
    ap (λ (w : ℕ). w ∷ ys) z
    ∙ ap (λ (t : List ℕ). x ∷ t) (Rising-neighbours k (suc x) ys (subst (λ (w : ℕ). Rising (suc w) ys) z r.1) (omega arith) (omega arith))

-- within one byte they are the ones from the first bit on
marked-neighbours : (o at q m s : ℕ) (l : List ℕ) → s + m ≤ byte_bits → at + q < length l
    → marked o at (neighbours m (o + byte_bits * q + s)) l ≡ plus l (at + q) (2 ^ (s + m) - 2 ^ s)
unfolding neighbours
marked-neighbours o at q zero s l h g =
    let y : s + 0 ≡ s = omega arith in
    let z : 2 ^ (s + 0) - 2 ^ s ≡ 0 = omega (arith, ap (λ (n : ℕ). 2 ^ n) y) in
    marked_none o at l ∙ sym (ap (plus l (at + q)) z ∙ plus_none l (at + q))
marked-neighbours o at q (suc m) s l h g =
    let x : ℕ = o + byte_bits * q + s in
    let p : place_of o at x ≡ at + q = omega arith in
    let t : (x - o) % byte_bits ≡ s = omega arith in
    let n : suc x ≡ o + byte_bits * q + suc s = omega arith in
    let y : s + suc m ≡ suc s + m = omega arith in
    let l' : List ℕ = plus l (at + q) (2 ^ s) in
    let d : 2 ^ suc s ≡ 2 * 2 ^ s = pow-succ' 2 s in
    let u : 2 ^ suc s ≤ 2 ^ (suc s + m) = pow_mono {i = suc s} {j = suc s + m} (omega arith) in
    let sum : 2 ^ s + (2 ^ (suc s + m) - 2 ^ suc s) ≡ 2 ^ (s + suc m) - 2 ^ s = rw y (omega arith) in
    marked-cons o at x (neighbours m (suc x)) l
    ∙ ap (λ (k : ℕ). marked o at (neighbours m (suc x)) (plus l k (bit_of o x))) p
    ∙ ap (λ (k : ℕ). marked o at (neighbours m (suc x)) (plus l (at + q) (2 ^ k))) t
    ∙ ap (λ (k : ℕ). marked o at (neighbours m k) l') n
    ∙ marked-neighbours o at q m (suc s) l' (omega arith) (omega (arith, length-set l (at + q) (get_or l (at + q) 0 + 2 ^ s)))
    ∙ plus-plus l (at + q) (2 ^ s) (2 ^ (suc s + m) - 2 ^ suc s) g
    ∙ ap (plus l (at + q)) sum

-- the byte of the last of eight neighbours from `x` on
abbrev pub last_place : ℕ → ℕ → ℕ → ℕ
last_place o at x = at + (x - o + (byte_bits - 1)) / byte_bits

-- the bytes after the marks of the neighbours from `x` on, whose bit is `low`: of those in its byte, and of all eight
abbrev pub first_byte : ℕ → ℕ → ℕ → ℕ → List ℕ → List ℕ
first_byte o at x low l = plus l (place_of o at x) (byte_values - low)

abbrev pub both_bytes : ℕ → ℕ → ℕ → ℕ → List ℕ → List ℕ
both_bytes o at x low l = plus (first_byte o at x low l) (last_place o at x) (low - 1)

module _ (o at x low : ℕ) (l : List ℕ) (h : o ≤ x) (e : low ≡ bit_of o x) (g : last_place o at x < length l) where
  offset : ℕ
  offset = (x - o) % byte_bits

  in_first : marked o at (neighbours (byte_bits - offset) x) l ≡ first_byte o at x low l
  unfolding offset
  in_first =
      let z : x ≡ o + byte_bits * ((x - o) / byte_bits) + offset = omega arith in
      let y : offset + (byte_bits - offset) ≡ byte_bits = omega arith in
      let v : 2 ^ (offset + (byte_bits - offset)) - 2 ^ offset ≡ byte_values - low = omega (arith, ap (λ (n : ℕ). 2 ^ n) y) in
      ap (λ (w : ℕ). marked o at (neighbours (byte_bits - offset) w) l) z
      ∙ marked-neighbours o at ((x - o) / byte_bits) (byte_bits - offset) offset l (omega arith) (omega arith)
      ∙ ap (plus l (place_of o at x)) v

  in_second : marked o at (neighbours offset (x + (byte_bits - offset))) (first_byte o at x low l) ≡ both_bytes o at x low l
  unfolding offset neighbours
  in_second = by offset refl
    where
      l' : List ℕ
      l' = first_byte o at x low l

      by : (s : ℕ) → offset ≡ s → marked o at (neighbours s (x + (byte_bits - s))) l' ≡ both_bytes o at x low l
      by zero f =
          let z : low - 1 ≡ 0 = omega (arith, ap (λ (n : ℕ). 2 ^ n) f) in
          marked_none o at l' ∙ sym (ap (plus l' (last_place o at x)) z ∙ plus_none l' _)
      by (suc s) f =
          let q : ℕ = (x - o) / byte_bits + 1 in
          let z : x + (byte_bits - suc s) ≡ o + byte_bits * q + 0 = omega arith in
          let y : at + q ≡ last_place o at x = omega arith in
          let u : 0 + suc s ≡ offset = omega arith in
          let v : 2 ^ (0 + suc s) - 2 ^ 0 ≡ low - 1 = omega (arith, ap (λ (n : ℕ). 2 ^ n) u) in
          ap (λ (w : ℕ). marked o at (neighbours (suc s) w) l') z
          ∙ marked-neighbours o at q (suc s) 0 l' (omega arith) (omega (arith, length-set l (place_of o at x) (get_or l (place_of o at x) 0 + (byte_values - low))))
          ∙ ap (plus l' (at + q)) v
          ∙ ap (λ (w : ℕ). plus l' w (low - 1)) y

  left_second : (rest : List ℕ)
      → marked o at (neighbours byte_bits x ++ rest) l ≡ marked o at (neighbours offset (x + (byte_bits - offset)) ++ rest) (first_byte o at x low l)
  unfolding offset
  left_second rest =
      let s : ℕ = byte_bits - offset in
      let z : byte_bits ≡ s + offset = omega arith in
      ap (λ (n : ℕ). marked o at (neighbours n x ++ rest) l) z
      ∙ ap (λ (r : List ℕ). marked o at (r ++ rest) l) (neighbours-append s offset x)
      ∙ ap (λ (r : List ℕ). marked o at r l) (append_assoc (neighbours s x) (neighbours offset (x + s)) rest)
      ∙ marked_append o at (neighbours s x) (neighbours offset (x + s) ++ rest) l
      ∙ ap (marked o at (neighbours offset (x + s) ++ rest)) in_first

  left_none : (rest : List ℕ) → marked o at (neighbours byte_bits x ++ rest) l ≡ marked o at rest (both_bytes o at x low l)
  left_none rest =
      left_second rest
      ∙ marked_append o at (neighbours offset (x + (byte_bits - offset))) rest (first_byte o at x low l)
      ∙ ap (marked o at rest) in_second

  fits_first : (rest : List ℕ) → Bytes (marked o at (neighbours byte_bits x ++ rest) l) → get_or l (place_of o at x) 0 + (byte_values - low) < byte_values
  fits_first rest w =
      let p : ℕ = place_of o at x in
      omega (
        arith,
        get_or-plus l p (byte_values - low) p (omega arith) refl,
        marked_grows o at (neighbours offset (x + (byte_bits - offset)) ++ rest) (first_byte o at x low l) p,
        ap (λ (r : List ℕ). get_or r p 0) (left_second rest),
        w p,
      )

  fits_second : (rest : List ℕ) → Bytes (marked o at (neighbours byte_bits x ++ rest) l)
      → get_or (first_byte o at x low l) (last_place o at x) 0 + (low - 1) < byte_values
  fits_second rest w =
      let p : ℕ = last_place o at x in
      let n : length (first_byte o at x low l) ≡ length l = length-set l (place_of o at x) _ in
      omega (
        arith,
        get_or-plus (first_byte o at x low l) p (low - 1) p (omega arith) refl,
        marked_grows o at rest (both_bytes o at x low l) p,
        ap (λ (r : List ℕ). get_or r p 0) (left_none rest),
        w p,
      )

-- eight neighbours from rank `i` on
module _ {o at : ℕ} {xs : List ℕ} {i : ℕ} {l : List ℕ} (m : Markable o at xs i l) (low : ℕ) (h : i + byte_bits ≤ length xs)
    (e : get_or xs (i + (byte_bits - 1)) 0 ≡ get_or xs i 0 + (byte_bits - 1)) (b : low ≡ bit_of o (get_or xs i 0)) where
  front : drop i xs ≡ neighbours byte_bits (get_or xs i 0) ++ drop (i + byte_bits) xs
  front =
      let x : ℕ = get_or xs i 0 in
      let n : i < length xs = omega arith in
      let p : ℕ = beyond o (take i xs) in
      let whole : Rising o (take i xs ++ drop i xs) = subst (Rising o) (sym (take-append-drop i xs)) m.rising in
      let later : Rising p (x ∷ drop (i + 1) xs) = subst (Rising p) (drop_one xs i 0 n) (Rising_back o (take i xs) (drop i xs) whole) in
      let here : Rising x (drop i xs) = subst (Rising x) (sym (drop_one xs i 0 n)) (omega arith, later.1) in
      Rising-neighbours (byte_bits - 1) x (drop i xs) here (omega (arith, length-drop i xs)) (get_or-drop i xs (byte_bits - 1) 0 ∙ e)
      ∙ ap (λ (r : List ℕ). neighbours byte_bits x ++ r) (drop-drop byte_bits i xs)

  from : o ≤ get_or xs i 0
  from = mark_from m i (omega arith)

  pub neighbours_room : last_place o at (get_or xs i 0) < length l
  neighbours_room = omega (arith, from, mark_room m (i + (byte_bits - 1)) (omega arith))

  bytes : Bytes (marked o at (neighbours byte_bits (get_or xs i 0) ++ drop (i + byte_bits) xs) l)
  bytes = subst (λ (r : List ℕ). Bytes (marked o at r l)) front m.bytes

  pub neighbours_fits : get_or l (place_of o at (get_or xs i 0)) 0 + (byte_values - low) < byte_values
  neighbours_fits = fits_first o at (get_or xs i 0) low l from b neighbours_room (drop (i + byte_bits) xs) bytes

  -- after the first byte
  module _ {l' : List ℕ} (f : l' ≡ first_byte o at (get_or xs i 0) low l) where
    pub neighbours_room_next : last_place o at (get_or xs i 0) < length l'
    neighbours_room_next = omega (arith, neighbours_room, ap length f, length-set l (place_of o at (get_or xs i 0)) (get_or l (place_of o at (get_or xs i 0)) 0 + (byte_values - low)))

    pub neighbours_fits_next : get_or l' (last_place o at (get_or xs i 0)) 0 + (low - 1) < byte_values
    neighbours_fits_next =
        subst (λ (r : List ℕ). get_or r (last_place o at (get_or xs i 0)) 0 + (low - 1) < byte_values) (sym f)
        (fits_second o at (get_or xs i 0) low l from b neighbours_room (drop (i + byte_bits) xs) bytes)

    pub neighbours_turn : {r : List ℕ} → r ≡ plus l' (last_place o at (get_or xs i 0)) (low - 1) → marked o at (drop (i + byte_bits) xs) r ≡ marked o at (drop i xs) l
    neighbours_turn {r} g =
        ap (marked o at (drop (i + byte_bits) xs)) (g ∙ ap (λ (t : List ℕ). plus t (last_place o at (get_or xs i 0)) (low - 1)) f)
        ∙ sym (left_none o at (get_or xs i 0) low l from b neighbours_room (drop (i + byte_bits) xs))
        ∙ ap (λ (t : List ℕ). marked o at t l) (sym front)
