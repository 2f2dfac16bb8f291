-- Laws of the row of a list: its bytes go by what the list has, and a row and its steps say each other.
-- Assumes nothing.
use mathlib.Core.Path.{◌≡◌, refl, sym, ap, ◌∙◌, subst}
use mathlib.Core.Bool.{Bool, true, false, ◌||◌, or-false}
use mathlib.Core.List.{List, [], ◌∷◌, ◌++◌}
use Prim.Native.Nat.{ℕ, zero, suc, ◌+◌, ◌-◌, ◌*◌, ◌/◌, ◌^◌, ◌≤◌, ◌<◌}
use native.Mathlib.Omega.{arith}
use native.Mathlib.Nat.{pow-succ'}
use native.Mathlib.Decide.{ℕ_discrete}
use lib.ListN.{length, get_or}
use Rattle.lists.specs.Rising.{Rising, beyond}
use Rattle.lists.specs.Members.{has}
use Rattle.lists.specs.Bytes.{Bytes}
use Rattle.lists.proofs.Choice.{by_lt}
use Rattle.lists.proofs.Rising.{Rising-beyond, Rising-length, beyond-last}
use Rattle.lists.proofs.Members.{has_here, has-past, has-append, has_below, has-beyond, same_members}
use Rattle.lists.proofs.Bytes.{Bytes-nil, Bytes-cons}
use Rattle.row.specs.Row.{byte_bits, bits_from, row_steps, bits_of, bytes_from, row_size, row_of}
use Rattle.row.proofs.Bits.{bits_odd, bits_even, by_bit, Rising_bits, beyond_bits, Rising_bits_on}
use Rattle.row.proofs.Row.{row_cons, Rising_row, beyond_row_most}

-- by whether a list has an element
by_has : {X : Type 0} (z : ℕ) (xs : List ℕ) → (has z xs ≡ true → X) → (has z xs ≡ false → X) → X
by_has {X} z xs f g = go (has z xs) refl
  where
    go : (t : Bool) → has z xs ≡ t → X
    go true e = f e
    go false e = g e

-- ---- the bits of a list

bits_of_zero : (o : ℕ) (xs : List ℕ) → bits_of 0 o xs ≡ 0
unfolding bits_of
bits_of_zero o xs = refl

bits_of_yes : (k o : ℕ) (xs : List ℕ) → has o xs ≡ true → bits_of (suc k) o xs ≡ 1 + 2 * bits_of k (suc o) xs
unfolding bits_of
bits_of_yes k o xs e = rw e

bits_of_no : (k o : ℕ) (xs : List ℕ) → has o xs ≡ false → bits_of (suc k) o xs ≡ 2 * bits_of k (suc o) xs
unfolding bits_of
bits_of_no k o xs e = rw e (omega arith)

bits_of-lt : (k o : ℕ) (xs : List ℕ) → bits_of k o xs < 2 ^ k
bits_of-lt zero o xs = omega (arith, bits_of_zero o xs)
bits_of-lt (suc k) o xs =
    let q : 2 ^ suc k ≡ 2 * 2 ^ k = pow-succ' 2 k in
    by_has o xs (λ e. omega (arith, bits_of_yes k o xs e, bits_of-lt k (suc o) xs)) (λ e. omega (arith, bits_of_no k o xs e, bits_of-lt k (suc o) xs))

-- they go by what the list has there
pub bits_of_same : (k o : ℕ) (xs ys : List ℕ) → ((z : ℕ) → o ≤ z → z < o + k → has z xs ≡ has z ys) → bits_of k o xs ≡ bits_of k o ys
bits_of_same zero o xs ys f = bits_of_zero o xs ∙ sym (bits_of_zero o ys)
bits_of_same (suc k) o xs ys f =
    let e : has o xs ≡ has o ys = f o (omega arith) (omega arith) in
    let ih : bits_of k (suc o) xs ≡ bits_of k (suc o) ys = bits_of_same k (suc o) xs ys (λ z h g. f z (omega arith) (omega arith)) in
    by_has o xs (λ t. omega (arith, bits_of_yes k o xs t, bits_of_yes k o ys (sym e ∙ t)))
    (λ t. omega (arith, bits_of_no k o xs t, bits_of_no k o ys (sym e ∙ t)))

-- a list that begins after them
pub bits_of_none : (k o : ℕ) (xs : List ℕ) → Rising (o + k) xs → bits_of k o xs ≡ 0
bits_of_none zero o xs r = bits_of_zero o xs
bits_of_none (suc k) o xs r =
    let q : o + suc k ≡ suc o + k = omega arith in
    omega (
      arith,
      bits_of_no k o xs (has_below o (o + suc k) xs r (omega arith)),
      bits_of_none k (suc o) xs (subst (λ (p : ℕ). Rising p xs) q r),
    )

-- one element more
pub bits_of-cons : (k o x : ℕ) (xs : List ℕ) → has x xs ≡ false → o ≤ x → x < o + k → bits_of k o (x ∷ xs) ≡ 2 ^ (x - o) + bits_of k o xs
bits_of-cons zero o x xs n h l = absurd (omega arith)
bits_of-cons (suc k) o x xs n h l = by (ℕ_discrete x o) (λ g. bits_of-cons k (suc o) x xs n g (omega arith))
  where
    by : Dec (x ≡ o) → (suc o ≤ x → bits_of k (suc o) (x ∷ xs) ≡ 2 ^ (x - suc o) + bits_of k (suc o) xs)
        → bits_of (suc k) o (x ∷ xs) ≡ 2 ^ (x - o) + bits_of (suc k) o xs
    by (yes e) ih =
        let z : x - o ≡ 0 = omega arith in
        let s : bits_of k (suc o) (x ∷ xs) ≡ bits_of k (suc o) xs =
        bits_of_same k (suc o) (x ∷ xs) xs (λ y g m. has-past y x xs (λ r. omega arith))
        in
        omega (
          arith,
          bits_of_yes k o (x ∷ xs) (has_here o x xs (sym e)),
          bits_of_no k o xs (ap (λ (y : ℕ). has y xs) (sym e) ∙ n),
          ap (λ (t : ℕ). 2 ^ t) z,
        )
    by (no e) ih =
        let z : x - o ≡ suc (x - suc o) = omega arith in
        let p : 2 ^ (x - o) ≡ 2 * 2 ^ (x - suc o) = ap (λ (t : ℕ). 2 ^ t) z ∙ pow-succ' 2 (x - suc o) in
        let s : has o (x ∷ xs) ≡ has o xs = has-past o x xs (λ r. e (sym r)) in
        let i : bits_of k (suc o) (x ∷ xs) ≡ 2 ^ (x - suc o) + bits_of k (suc o) xs = ih (omega arith) in
        by_has o xs (λ t. omega (arith, bits_of_yes k o (x ∷ xs) (s ∙ t), bits_of_yes k o xs t))
        (λ t. omega (arith, bits_of_no k o (x ∷ xs) (s ∙ t), bits_of_no k o xs t))

-- ---- the bytes of a list

pub bytes_from_none : (o : ℕ) (xs : List ℕ) → bytes_from 0 o xs ≡ []
unfolding bytes_from
bytes_from_none o xs = refl

bytes_from-cons : (k o : ℕ) (xs : List ℕ) → bytes_from (suc k) o xs ≡ bits_of byte_bits o xs ∷ bytes_from k (o + byte_bits) xs
unfolding bytes_from
bytes_from-cons k o xs = refl

pub length-bytes_from : (k o : ℕ) (xs : List ℕ) → length (bytes_from k o xs) ≡ k
unfolding bytes_from
length-bytes_from zero o xs = refl
length-bytes_from (suc k) o xs = ap suc (length-bytes_from k (o + byte_bits) xs)

pub get_or-bytes_from : (k o : ℕ) (xs : List ℕ) (j : ℕ) → j < k → get_or (bytes_from k o xs) j 0 ≡ bits_of byte_bits (o + byte_bits * j) xs
unfolding bytes_from
get_or-bytes_from zero o xs j h = absurd (omega arith)
get_or-bytes_from (suc k) o xs zero h = let z : o ≡ o + byte_bits * 0 = omega arith in ap (λ (p : ℕ). bits_of byte_bits p xs) z
get_or-bytes_from (suc k) o xs (suc j) h =
    let z : o + byte_bits + byte_bits * j ≡ o + byte_bits * suc j = omega arith in
    get_or-bytes_from k (o + byte_bits) xs j (omega arith) ∙ ap (λ (p : ℕ). bits_of byte_bits p xs) z

Bytes-bytes_from : (k o : ℕ) (xs : List ℕ) → Bytes (bytes_from k o xs)
unfolding bytes_from
Bytes-bytes_from zero o xs = Bytes-nil
Bytes-bytes_from (suc k) o xs =
    Bytes-cons (bits_of byte_bits o xs) (bytes_from k (o + byte_bits) xs) (bits_of-lt byte_bits o xs) (Bytes-bytes_from k (o + byte_bits) xs)

bytes_from_same : (k o : ℕ) (xs ys : List ℕ) → ((z : ℕ) → o ≤ z → has z xs ≡ has z ys) → bytes_from k o xs ≡ bytes_from k o ys
bytes_from_same zero o xs ys f = bytes_from_none o xs ∙ sym (bytes_from_none o ys)
bytes_from_same (suc k) o xs ys f =
    let b : bits_of byte_bits o xs ≡ bits_of byte_bits o ys = bits_of_same byte_bits o xs ys (λ z h g. f z h) in
    let r : bytes_from k (o + byte_bits) xs ≡ bytes_from k (o + byte_bits) ys = bytes_from_same k (o + byte_bits) xs ys (λ z h. f z (omega arith)) in
    bytes_from-cons k o xs ∙ (cc) ∙ sym (bytes_from-cons k o ys)

-- of no list they are 0, wherever they begin
bytes_from-nil : (k o p : ℕ) → bytes_from k o [] ≡ bytes_from k p []
bytes_from-nil zero o p = bytes_from_none o [] ∙ sym (bytes_from_none p [])
bytes_from-nil (suc k) o p =
    let b : bits_of byte_bits o [] ≡ bits_of byte_bits p [] = bits_of_none byte_bits o [] tt ∙ sym (bits_of_none byte_bits p [] tt) in
    let r : bytes_from k (o + byte_bits) [] ≡ bytes_from k (p + byte_bits) [] = bytes_from-nil k (o + byte_bits) (p + byte_bits) in
    bytes_from-cons k o [] ∙ (cc) ∙ sym (bytes_from-cons k p [])

pub bytes_from_zeros : (k o : ℕ) → bytes_from (suc k) o [] ≡ 0 ∷ bytes_from k o []
bytes_from_zeros k o =
    bytes_from-cons k o []
    ∙ ap (λ (b : ℕ). b ∷ bytes_from k (o + byte_bits) []) (bits_of_none byte_bits o [] tt)
    ∙ ap (λ (l : List ℕ). 0 ∷ l) (bytes_from-nil k (o + byte_bits) o)

pub length_row : (o : ℕ) (xs : List ℕ) → length (row_of o xs) ≡ row_size (beyond o xs - o)
unfolding row_of
length_row o xs = length-bytes_from (row_size (beyond o xs - o)) o xs

pub length_row_none : (o : ℕ) (xs : List ℕ) → length xs ≡ 0 → length (row_of o xs) ≡ 0
length_row_none o [] h = omega (arith, length_row o [])
length_row_none o (x ∷ xs) h = absurd (omega arith)

-- the last step is in the last byte
pub length_row-last : (o : ℕ) (xs : List ℕ) → Rising o xs → 0 < length xs → length (row_of o xs) ≡ (get_or xs (length xs - 1) 0 - o) / byte_bits + 1
length_row-last o xs r h = omega (arith, length_row o xs, beyond-last o xs h, Rising-length o xs r)

pub Bytes_row : (o : ℕ) (xs : List ℕ) → Bytes (row_of o xs)
unfolding row_of
Bytes_row o xs = Bytes-bytes_from (row_size (beyond o xs - o)) o xs

-- ---- the steps of a list's row are the list

read_yes : (k o : ℕ) (xs : List ℕ) → has o xs ≡ true
    → bits_from (suc k) o (bits_of (suc k) o xs) ≡ o ∷ bits_from k (suc o) (bits_of k (suc o) xs)
read_yes k o xs e =
    let b : ℕ = bits_of k (suc o) xs in
    let d : (1 + 2 * b) / 2 ≡ b = omega arith in
    rw (bits_of_yes k o xs e) (bits_odd k o (1 + 2 * b) (omega arith) ∙ ap (λ (n : ℕ). o ∷ bits_from k (suc o) n) d)

read_no : (k o : ℕ) (xs : List ℕ) → has o xs ≡ false → bits_from (suc k) o (bits_of (suc k) o xs) ≡ bits_from k (suc o) (bits_of k (suc o) xs)
read_no k o xs e =
    let b : ℕ = bits_of k (suc o) xs in
    let d : 2 * b / 2 ≡ b = omega arith in
    rw (bits_of_no k o xs e) (bits_even k o (2 * b) (λ r. omega arith) ∙ ap (bits_from k (suc o)) d)

has_bits : (k o z : ℕ) (xs : List ℕ) → o ≤ z → z < o + k → has z (bits_from k o (bits_of k o xs)) ≡ has z xs
has_bits zero o z xs h g = absurd (omega arith)
has_bits (suc k) o z xs h g = by (ℕ_discrete z o) (λ l. has_bits k (suc o) z xs l (omega arith))
  where
    rest : List ℕ
    rest = bits_from k (suc o) (bits_of k (suc o) xs)

    by : Dec (z ≡ o) → (suc o ≤ z → has z rest ≡ has z xs) → has z (bits_from (suc k) o (bits_of (suc k) o xs)) ≡ has z xs
    by (yes e) ih =
        by_has o xs (λ t. ap (has z) (read_yes k o xs t) ∙ has_here z o rest e ∙ sym (ap (λ (y : ℕ). has y xs) e ∙ t))
        (λ t.
        ap (has z) (read_no k o xs t)
        ∙ has_below z (suc o) rest (Rising_bits k (suc o) (bits_of k (suc o) xs)) (omega arith)
        ∙ sym (ap (λ (y : ℕ). has y xs) e ∙ t))
    by (no e) ih =
        by_has o xs (λ t. ap (has z) (read_yes k o xs t) ∙ has-past z o rest e ∙ ih (omega arith))
        (λ t. ap (has z) (read_no k o xs t) ∙ ih (omega arith))

-- what stands after some bits is past them
has_after : (k o v z : ℕ) (rest : List ℕ) → o + k ≤ z → has z (bits_from k o v ++ rest) ≡ has z rest
has_after k o v z rest h =
    has-append z (bits_from k o v) rest
    ∙ ap (λ (t : Bool). t || has z rest) (has-beyond z o (bits_from k o v) (Rising_bits k o v) (omega (arith, beyond_bits k o v)))

has_before : (k o v z : ℕ) (rest : List ℕ) → z < o + k → Rising (o + k) rest → has z (bits_from k o v ++ rest) ≡ has z (bits_from k o v)
has_before k o v z rest h r =
    has-append z (bits_from k o v) rest ∙ ap (λ (t : Bool). has z (bits_from k o v) || t) (has_below z (o + k) rest r h) ∙ or-false (has z (bits_from k o v))

has_row : (n o z : ℕ) (xs : List ℕ) → o ≤ z → z < o + byte_bits * n → has z (row_steps o (bytes_from n o xs)) ≡ has z xs
has_row zero o z xs h g = absurd (omega arith)
has_row (suc n) o z xs h g =
    let b : ℕ = bits_of byte_bits o xs in
    let rest : List ℕ = row_steps (o + byte_bits) (bytes_from n (o + byte_bits) xs) in
    ap (λ (l : List ℕ). has z (row_steps o l)) (bytes_from-cons n o xs)
    ∙ ap (has z) (row_cons o b (bytes_from n (o + byte_bits) xs))
    ∙ by_lt z (o + byte_bits)
    (λ l. has_before byte_bits o b z rest l (Rising_row (o + byte_bits) (bytes_from n (o + byte_bits) xs)) ∙ has_bits byte_bits o z xs h l)
    (λ l. has_after byte_bits o b z rest l ∙ has_row n (o + byte_bits) z xs l (omega arith))

-- THE STEPS OF A LIST'S ROW ARE THE LIST
pub row_read : (o : ℕ) (xs : List ℕ) → Rising o xs → row_steps o (row_of o xs) ≡ xs
unfolding row_of
row_read o xs r = same_members o o (row_steps o row) xs (Rising_row o row) r member
  where
    n : ℕ
    n = row_size (beyond o xs - o)

    row : List ℕ
    row = bytes_from n o xs

    member : (z : ℕ) → has z (row_steps o row) ≡ has z xs
    member z =
        by_lt z o (λ h. has_below z o (row_steps o row) (Rising_row o row) h ∙ sym (has_below z o xs r h))
        (λ h.
        by_lt z (o + byte_bits * n) (λ g. has_row n o z xs h g)
        (λ g.
        has-beyond z o (row_steps o row) (Rising_row o row) (omega (arith, beyond_row_most o row, length-bytes_from n o xs))
        ∙ sym (has-beyond z o xs r (omega (arith, Rising-beyond o xs r)))))

-- ---- and the row of a row's steps is the row

bits_back : (k o v : ℕ) (rest : List ℕ) → v < 2 ^ k → Rising (o + k) rest → bits_of k o (bits_from k o v ++ rest) ≡ v
bits_back zero o v rest h r = omega (arith, bits_of_zero o (bits_from 0 o v ++ rest))
bits_back (suc k) o v rest h r =
    let q : 2 ^ suc k ≡ 2 * 2 ^ k = pow-succ' 2 k in
    let p : o + suc k ≡ suc o + k = omega arith in
    let l : List ℕ = bits_from k (suc o) (v / 2) ++ rest in
    let u : Rising (suc o + k) rest = subst (λ (n : ℕ). Rising n rest) p r in
    let ih : bits_of k (suc o) l ≡ v / 2 = bits_back k (suc o) (v / 2) rest (omega arith) u in
    let s : bits_of k (suc o) (o ∷ l) ≡ bits_of k (suc o) l = bits_of_same k (suc o) (o ∷ l) l (λ z g m. has-past z o l (λ e. omega arith)) in
    by_bit v
    (λ e. ap (λ (m : List ℕ). bits_of (suc k) o (m ++ rest)) (bits_odd k o v e) ∙ bits_of_yes k o (o ∷ l) (has_here o o l refl) ∙ omega arith)
    (λ e.
    ap (λ (m : List ℕ). bits_of (suc k) o (m ++ rest)) (bits_even k o v e)
    ∙ bits_of_no k o l (has_below o (suc o) l (Rising_bits_on k (suc o) (v / 2) rest u) (omega arith))
    ∙ omega arith)

bytes_back : (o : ℕ) (part : List ℕ) → Bytes part → bytes_from (length part) o (row_steps o part) ≡ part
bytes_back o [] w = bytes_from_none o (row_steps o [])
bytes_back o (b ∷ bs) w =
    let rest : List ℕ = row_steps (o + byte_bits) bs in
    let whole : List ℕ = bits_from byte_bits o b ++ rest in
    let e : bits_of byte_bits o whole ≡ b = bits_back byte_bits o b rest (w 0) (Rising_row (o + byte_bits) bs) in
    let r : bytes_from (length bs) (o + byte_bits) whole ≡ bs =
    bytes_from_same (length bs) (o + byte_bits) whole rest (λ z h. has_after byte_bits o b z rest h)
    ∙ bytes_back (o + byte_bits) bs (λ i. w (suc i))
    in
    ap (bytes_from (suc (length bs)) o) (row_cons o b bs) ∙ bytes_from-cons (length bs) o whole ∙ cc

-- THE ROW OF A ROW'S STEPS IS THE ROW, where it is as long as its last step asks
pub row_written : (o : ℕ) (part : List ℕ) → Bytes part → length part ≡ row_size (beyond o (row_steps o part) - o) → row_of o (row_steps o part) ≡ part
unfolding row_of
row_written o part w e = ap (λ (n : ℕ). bytes_from n o (row_steps o part)) (sym e) ∙ bytes_back o part w
