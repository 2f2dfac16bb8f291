-- Laws of groups: the table has the places and the number of each group's ones, what is stored for a group, and for all groups of a word.
-- Assumes nothing.
use mathlib.Core.Path.{◌≡◌, refl, sym, ap, ◌∙◌, subst}
use mathlib.Core.List.{List, [], ◌∷◌, ◌++◌, map, map-append}
use Prim.Native.Nat.{ℕ, zero, suc, ◌+◌, ◌-◌, ◌*◌, ◌/◌, ◌%◌, ◌^◌, ◌≤◌, ◌<◌}
use native.Mathlib.Omega.{arith}
use lib.ListN.{length, get_or, length-map, length-drop, length-append}
use lib.Seq.{sets}
use Rattle.lists.proofs.Stores.{sets-append, sets_over}
use Rattle.row.specs.Row.{bits_from}
use Rattle.row.specs.Words.{word_bits}
use Rattle.row_word.specs.Groups.{group_bits, group_values, four_places, other_places, places_of, Loose, PutsLoose}
use Rattle.row_word.specs.declared.Group.{Group}
use Rattle.row_word.specs.declared.TheConstants.{GROUPS}
use Rattle.row.proofs.Bits.{bits_none, bits_moved, bits_join, length_bits_most, length_bits_moved}
use Rattle.row_word.proofs.Loosely.{Loosely, Loosely_start, Loosely_run, loosely_end}

-- ---- the table

length-places_of : (v : ℕ) → length (places_of v) ≡ group_bits
length-places_of v =
    let bits : List ℕ = bits_from group_bits 0 v in
    omega (
      arith,
      length-append bits (other_places (length bits)),
      length-drop (length bits) four_places,
      length_bits_most group_bits 0 v,
    )

-- what is to be looked up for the group `v`, and for `k` groups from it on
group_of : ℕ → Group
group_of v = record { places = places_of v; count = length (bits_from group_bits 0 v) }

groups_from : ℕ → ℕ → List Group
groups_from zero v = []
groups_from (suc k) v = group_of v ∷ groups_from k (suc v)

groups_at : (k v m : ℕ) (d : Group) → m < k → get_or (groups_from k v) m d ≡ group_of (v + m)
unfolding groups_from
groups_at zero v m d h = absurd (omega arith)
groups_at (suc k) v zero d h = let z : v ≡ v + 0 = omega arith in ap group_of z
groups_at (suc k) v (suc m) d h =
    let y : suc v + m ≡ v + suc m = omega arith in
    groups_at k (suc v) m d (omega arith) ∙ ap group_of y

-- it has them all
table : GROUPS ≡ groups_from group_values 0
unfolding groups_from group_of bits_from
table = refl

table_at : (v : ℕ) (d : Group) → v < group_values → get_or GROUPS v d ≡ group_of v
table_at v d h =
    let z : 0 + v ≡ v = omega arith in
    ap (λ (l : List Group). get_or l v d) table ∙ groups_at group_values 0 v d h ∙ ap group_of z

module _ (v : ℕ) (d : Group) (h : v < group_values) where
  -- how many ones it says that the group has, wherever its first bit stands
  pub table_count : (o n : ℕ) → n ≡ (get_or GROUPS v d).count → n ≡ length (bits_from group_bits o v)
  unfolding group_of
  table_count o n q = q ∙ ap (λ (g : Group). g.count) (table_at v d h) ∙ sym (length_bits_moved group_bits o v)

  -- the four places that it has for the group
  table_four : (w x y z : ℕ) → w ≡ get_or (get_or GROUPS v d).places 0 0 → x ≡ get_or (get_or GROUPS v d).places 1 0
      → y ≡ get_or (get_or GROUPS v d).places 2 0 → z ≡ get_or (get_or GROUPS v d).places 3 0 → w ∷ x ∷ y ∷ z ∷ [] ≡ places_of v
  unfolding group_of
  table_four w x y z ew ex ey ez =
      rw (ew, ex, ey, ez) (ap (λ (g : Group). four g.places) (table_at v d h) ∙ four_all (places_of v) (length-places_of v))
    where
      four : List ℕ → List ℕ
      four l = get_or l 0 0 ∷ get_or l 1 0 ∷ get_or l 2 0 ∷ get_or l 3 0 ∷ []

      four_all : (l : List ℕ) → length l ≡ 4 → four l ≡ l
      four_all (a ∷ b ∷ c ∷ e ∷ []) n = refl
      four_all [] n = absurd (omega arith)
      four_all (a ∷ []) n = absurd (omega arith)
      four_all (a ∷ b ∷ []) n = absurd (omega arith)
      four_all (a ∷ b ∷ c ∷ []) n = absurd (omega arith)
      four_all (a ∷ b ∷ c ∷ e ∷ f ∷ l) n = absurd (omega arith)

-- ---- one group

junk : ℕ → ℕ → List ℕ
junk o v = map (λ (x : ℕ). o + x) (other_places (length (bits_from group_bits 0 v)))

length_junk : (o v : ℕ) → length (junk o v) ≤ group_bits
unfolding junk
length_junk o v =
    let n : ℕ = length (bits_from group_bits 0 v) in
    omega (arith, length-map (other_places n) (λ (x : ℕ). o + x), length-drop n four_places)

-- the steps of a group, and after them anything
group_steps : (o v : ℕ) → map (λ (x : ℕ). o + x) (places_of v) ≡ bits_from group_bits o v ++ junk o v
unfolding junk
group_steps o v =
    let bits : List ℕ = bits_from group_bits 0 v in
    let z : o + 0 ≡ o = omega arith in
    map-append (λ (x : ℕ). o + x) bits (other_places (length bits))
    ∙ ap (λ (l : List ℕ). l ++ junk o v) (sym (bits_moved group_bits o 0 v) ∙ ap (λ (p : ℕ). bits_from group_bits p v) z)

Loose_junk : (l : List ℕ) (at : ℕ) (vs us : List ℕ) → length us ≤ group_bits → Loose l at vs (sets l at (vs ++ us))
Loose_junk l at vs us h rest g =
    ap (λ (r : List ℕ). sets r (at + length vs) rest) (sets-append l at vs us)
    ∙ sets_over (sets l at vs) (at + length vs) us rest (omega arith)
    ∙ sym (sets-append l at vs rest)

pub group_Loose : (v : ℕ) (d : Group) (o at : ℕ) (l : List ℕ) (w x y z : ℕ) → v < group_values → w ≡ get_or (get_or GROUPS v d).places 0 0
    → x ≡ get_or (get_or GROUPS v d).places 1 0 → y ≡ get_or (get_or GROUPS v d).places 2 0 → z ≡ get_or (get_or GROUPS v d).places 3 0
    → Loose l at (bits_from group_bits o v) (sets l at ((o + w) ∷ (o + x) ∷ (o + y) ∷ (o + z) ∷ []))
group_Loose v d o at l w x y z h ew ex ey ez =
    let vals : w ∷ x ∷ y ∷ z ∷ [] ≡ places_of v = table_four v d h w x y z ew ex ey ez in
    let runs : sets l at ((o + w) ∷ (o + x) ∷ (o + y) ∷ (o + z) ∷ []) ≡ sets l at (bits_from group_bits o v ++ junk o v) =
    ap (λ (m : List ℕ). sets l at (map (λ (u : ℕ). o + u) m)) vals ∙ ap (sets l at) (group_steps o v)
    in
    subst (Loose l at (bits_from group_bits o v)) (sym runs) (Loose_junk l at (bits_from group_bits o v) (junk o v) (length_junk o v))

-- ---- all groups of a word

-- the groups from bit `j` on are left, which are `bits` and go to `k`
pub record Grouping (word o : ℕ) (out₀ : List ℕ) (at : ℕ) (out : List ℕ) (bits j k : ℕ) : Type 0 where
  pub few : j ≤ word_bits
  pub whole : j % group_bits ≡ 0
  pub loosely : Loosely out₀ at (bits_from word_bits o word) out k (bits_from (word_bits - j) (o + j) bits)

pub Grouping_start : (word o : ℕ) (out : List ℕ) (at : ℕ) → Grouping word o out at out word 0 at
Grouping_start word o out at =
    let z : o + 0 ≡ o = omega arith in
    record {
      few = omega arith;
      whole = refl;
      loosely = Loosely_start out at (bits_from word_bits o word) (bits_from word_bits (o + 0) word) (ap (λ (p : ℕ). bits_from word_bits p word) z);
    }

module _ {word o : ℕ} {out₀ : List ℕ} {at : ℕ} {out : List ℕ} {bits j k : ℕ} (g : Grouping word o out₀ at out bits j k) where
  pub grouping_room : k ≤ at + length (bits_from word_bits o word)
  grouping_room = omega (arith, g.loosely.place)

  split : j < word_bits
      → bits_from (word_bits - j) (o + j) bits
      ≡ bits_from group_bits (o + j) (bits % group_values) ++ bits_from (word_bits - (j + group_bits)) (o + (j + group_bits)) (bits / group_values)
  split h =
      let n : ℕ = word_bits - (j + group_bits) in
      let q : word_bits - j ≡ group_bits + n = omega (arith, g.whole) in
      let r : o + j + group_bits ≡ o + (j + group_bits) = omega arith in
      let v : bits ≡ bits % group_values + 2 ^ group_bits * (bits / group_values) = omega arith in
      ap (λ (m : ℕ). bits_from m (o + j) bits) q
      ∙ ap (bits_from (group_bits + n) (o + j)) v
      ∙ bits_join group_bits n (o + j) (bits % group_values) (bits / group_values) (omega arith)
      ∙ ap (λ (p : ℕ). bits_from group_bits (o + j) (bits % group_values) ++ bits_from n p (bits / group_values)) r

  -- one group more
  pub Grouping_turn : {out' : List ℕ} {k' : ℕ} → j < word_bits → length out' ≡ length out
      → PutsLoose out k (bits_from group_bits (o + j) (bits % group_values)) out' k'
      → Grouping word o out₀ at out' (bits / group_values) (j + group_bits) k'
  Grouping_turn {out'} {k'} h n w =
      let us : List ℕ = bits_from group_bits (o + j) (bits % group_values) in
      let rest : List ℕ = bits_from (word_bits - (j + group_bits)) (o + (j + group_bits)) (bits / group_values) in
      record {
        few = omega (arith, g.whole);
        whole = omega (arith, g.whole);
        loosely = Loosely_run g.loosely us rest (split h) n w;
      }

  pub grouping_end : word_bits ≤ j → PutsLoose out₀ at (bits_from word_bits o word) out k
  grouping_end h =
      let q : word_bits - j ≡ 0 = omega arith in
      loosely_end g.loosely (ap (λ (n : ℕ). bits_from n (o + j) bits) q ∙ bits_none (o + j) bits)
