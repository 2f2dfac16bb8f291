-- Laws of the steps of a row: the row of two parts, a row that begins elsewhere, their order and end, and what a loop over bytes goes by.
-- Assumes nothing.
use mathlib.Core.Path.{◌≡◌, refl, sym, ap, ◌∙◌}
use mathlib.Core.List.{List, [], ◌∷◌, ◌++◌, map, map-append, append_assoc}
use Prim.Native.Nat.{ℕ, suc, ◌+◌, ◌-◌, ◌*◌, ◌≤◌, ◌<◌}
use native.Mathlib.Omega.{arith}
use lib.ListN.{length, get_or, take, drop, length-map, length-append, length-drop, take-append-drop, drop_of_length-le}
use lib.Seq.{take_all, length-take-le}
use Rattle.lists.specs.Rising.{Rising, beyond}
use Rattle.lists.proofs.Parts.{drop_one}
use Rattle.lists.proofs.Rising.{beyond-append, beyond-le, beyond-map}
use Rattle.row.specs.Row.{byte_bits, bits_from, row_steps}
use Rattle.row.proofs.Bits.{bits_moved, beyond_bits, Rising_bits_on}

pub row_none : (o : ℕ) → row_steps o [] ≡ []
unfolding row_steps
row_none o = refl

pub row_cons : (o b : ℕ) (bs : List ℕ) → row_steps o (b ∷ bs) ≡ bits_from byte_bits o b ++ row_steps (o + byte_bits) bs
unfolding row_steps
row_cons o b bs = refl

pub row_append : (o : ℕ) (bs cs : List ℕ) → row_steps o (bs ++ cs) ≡ row_steps o bs ++ row_steps (o + byte_bits * length bs) cs
row_append o [] cs =
    let z : o ≡ o + byte_bits * 0 = omega arith in
    rw (row_none o) (ap (λ (p : ℕ). row_steps p cs) z)
row_append o (b ∷ bs) cs =
    let z : o + byte_bits + byte_bits * length bs ≡ o + byte_bits * suc (length bs) = omega arith in
    row_cons o b (bs ++ cs)
    ∙ ap (λ (l : List ℕ). bits_from byte_bits o b ++ l) (row_append (o + byte_bits) bs cs ∙ ap (λ (p : ℕ). row_steps (o + byte_bits) bs ++ row_steps p cs) z)
    ∙ sym (append_assoc (bits_from byte_bits o b) (row_steps (o + byte_bits) bs) (row_steps (o + byte_bits * suc (length bs)) cs))
    ∙ ap (λ (l : List ℕ). l ++ row_steps (o + byte_bits * suc (length bs)) cs) (sym (row_cons o b bs))

-- ---- a row that begins elsewhere

pub row_moved : (o p : ℕ) (part : List ℕ) → row_steps (o + p) part ≡ map (λ (x : ℕ). o + x) (row_steps p part)
row_moved o p [] = row_none (o + p) ∙ ap (map (λ (x : ℕ). o + x)) (sym (row_none p))
row_moved o p (b ∷ bs) =
    let q : o + p + byte_bits ≡ o + (p + byte_bits) = omega arith in
    row_cons (o + p) b bs
    ∙ ap (λ (l : List ℕ). l ++ row_steps (o + p + byte_bits) bs) (bits_moved byte_bits o p b)
    ∙ ap (λ (l : List ℕ). map (λ (x : ℕ). o + x) (bits_from byte_bits p b) ++ l) (ap (λ (n : ℕ). row_steps n bs) q ∙ row_moved o (p + byte_bits) bs)
    ∙ sym (map-append (λ (x : ℕ). o + x) (bits_from byte_bits p b) (row_steps (p + byte_bits) bs))
    ∙ ap (map (λ (x : ℕ). o + x)) (sym (row_cons p b bs))

row_from : (o : ℕ) (part : List ℕ) → row_steps o part ≡ map (λ (x : ℕ). o + x) (row_steps 0 part)
row_from o part = let z : o ≡ o + 0 = omega arith in ap (λ (p : ℕ). row_steps p part) z ∙ row_moved o 0 part

pub length_row_moved : (o : ℕ) (part : List ℕ) → length (row_steps o part) ≡ length (row_steps 0 part)
length_row_moved o part = ap length (row_from o part) ∙ length-map (row_steps 0 part) (λ (x : ℕ). o + x)

pub beyond_row_moved : (o : ℕ) (part : List ℕ) → beyond o (row_steps o part) ≡ o + beyond 0 (row_steps 0 part)
beyond_row_moved o part =
    let z : o ≡ o + 0 = omega arith in
    ap (beyond o) (row_from o part)
    ∙ ap (λ (p : ℕ). beyond p (map (λ (x : ℕ). o + x) (row_steps 0 part))) z
    ∙ beyond-map o 0 (row_steps 0 part)

-- ---- order and end

pub Rising_row : (o : ℕ) (part : List ℕ) → Rising o (row_steps o part)
Rising_row o [] = rw (row_none o) tt
Rising_row o (b ∷ bs) = rw (row_cons o b bs) (Rising_bits_on byte_bits o b (row_steps (o + byte_bits) bs) (Rising_row (o + byte_bits) bs))

pub beyond_row_most : (o : ℕ) (part : List ℕ) → beyond o (row_steps o part) ≤ o + byte_bits * length part
beyond_row_most o [] = omega (arith, ap (beyond o) (row_none o))
beyond_row_most o (b ∷ bs) =
    let rest : List ℕ = row_steps (o + byte_bits) bs in
    let m : beyond (beyond o (bits_from byte_bits o b)) rest ≤ beyond (o + byte_bits) rest = beyond-le rest (beyond_bits byte_bits o b) in
    omega (arith, ap (beyond o) (row_cons o b bs) ∙ beyond-append o (bits_from byte_bits o b) rest, m, beyond_row_most (o + byte_bits) bs)

-- ---- a loop over bytes

-- the steps of a row from its byte `i` on
abbrev pub row_left : ℕ → List ℕ → ℕ → List ℕ
row_left o s i = row_steps (o + byte_bits * i) (drop i s)

pub row_start : (o : ℕ) (s : List ℕ) → row_left o s 0 ≡ row_steps o s
row_start o s = let z : o + byte_bits * 0 ≡ o = omega arith in ap (λ (p : ℕ). row_steps p s) z

-- the bytes before it
pub row_split : (o : ℕ) (s : List ℕ) (i : ℕ) → i ≤ length s → row_steps o s ≡ row_steps o (take i s) ++ row_left o s i
row_split o s i h =
    ap (row_steps o) (sym (take-append-drop i s))
    ∙ row_append o (take i s) (drop i s)
    ∙ ap (λ (k : ℕ). row_steps o (take i s) ++ row_steps (o + byte_bits * k) (drop i s)) (length-take-le i s h)

-- a row in two parts
pub row_parts : (o : ℕ) (s : List ℕ) (i : ℕ) → i ≤ length s
    → row_steps o s ≡ row_steps o (take i s) ++ row_steps (o + byte_bits * i) (take (length s - i) (drop i s))
row_parts o s i h =
    row_split o s i h
    ∙ ap (λ (l : List ℕ). row_steps o (take i s) ++ row_steps (o + byte_bits * i) l)
    (sym (take_all (length s - i) (drop i s) (omega (arith, length-drop i s))))

pub length_row_parts : (o : ℕ) (s : List ℕ) (i : ℕ) → i ≤ length s
    → length (row_steps o s) ≡ length (row_steps o (take i s)) + length (row_steps (o + byte_bits * i) (take (length s - i) (drop i s)))
length_row_parts o s i h =
    ap length (row_parts o s i h) ∙ length-append (row_steps o (take i s)) (row_steps (o + byte_bits * i) (take (length s - i) (drop i s)))

-- one byte more
pub row_turn : (o : ℕ) (s : List ℕ) (i x : ℕ) → i < length s → x ≡ get_or s i 0
    → row_left o s i ≡ bits_from byte_bits (o + byte_bits * i) x ++ row_left o s (i + 1)
row_turn o s i x h e =
    let q : o + byte_bits * i + byte_bits ≡ o + byte_bits * (i + 1) = omega arith in
    ap (row_steps (o + byte_bits * i)) (drop_one s i 0 h)
    ∙ row_cons (o + byte_bits * i) (get_or s i 0) (drop (i + 1) s)
    ∙ ap (λ (p : ℕ). bits_from byte_bits (o + byte_bits * i) (get_or s i 0) ++ row_steps p (drop (i + 1) s)) q
    ∙ ap (λ (v : ℕ). bits_from byte_bits (o + byte_bits * i) v ++ row_left o s (i + 1)) (sym e)

pub row_end : (o : ℕ) (s : List ℕ) (i : ℕ) → length s ≤ i → row_left o s i ≡ []
row_end o s i h = ap (row_steps (o + byte_bits * i)) (drop_of_length-le s {i = i} h) ∙ row_none (o + byte_bits * i)
