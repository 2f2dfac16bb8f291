-- The code by the size of the number, and its reading byte by byte. For this crate's own functions, and for nothing else.
use Rattle.std.specs.Prelude.{◌≡◌, List, [], ◌∷◌, drop, Ok, Err}
use Rattle.std.proofs.Common.{sym, ◌∙◌, arith, drop_of_length-le, lt-ltb, le-ltb, eq-eqb, ne_eqb}
use Rattle.std.proofs.Math.Path.{ap}
use Prim.Native.Nat.{ℕ, zero, suc, ◌+◌, ◌-◌, ◌*◌, ◌/◌, ◌%◌, ◌≤◌, ◌<◌}
use Rattle.std.proofs.Math.ListN.{length}
use Rattle.lists.proofs.Choice.{pick_yes, pick_no}
use Rattle.lists.proofs.Parts.{drop_run}
use Rattle.code.specs.declared.Flaw.TheVariants.{Padded, Long, Cut}
use Rattle.code.specs.Code.Open.{one_group, two_groups, three_groups, flag, code_of, code_size, more, first, reading, read_at}

-- ---- the code by the size of the number

module _ (x : ℕ) where
  pub code_one_byte : x < one_group → code_of x ≡ x ∷ []
  unfolding code_of
  code_one_byte h = pick_yes _ _ _ (lt-ltb x one_group h)

  pub code_two_bytes : one_group ≤ x → x < two_groups → code_of x ≡ (x / one_group + flag) ∷ (x % one_group) ∷ []
  unfolding code_of
  code_two_bytes g h = pick_no _ _ _ (le-ltb x one_group g) ∙ pick_yes _ _ _ (lt-ltb x two_groups h)

  pub code_three_bytes : two_groups ≤ x → x < three_groups
      → code_of x ≡ (x / two_groups + flag) ∷ (x / one_group % one_group + flag) ∷ (x % one_group) ∷ []
  unfolding code_of
  code_three_bytes g h =
      pick_no _ _ _ (le-ltb x one_group (omega arith))
      ∙ pick_no _ _ _ (le-ltb x two_groups g)
      ∙ pick_yes _ _ _ (lt-ltb x three_groups h)

  pub code_four_bytes : three_groups ≤ x
      → code_of x
      ≡ (x / three_groups + flag) ∷ (x / two_groups % one_group + flag) ∷ (x / one_group % one_group + flag) ∷ (x % one_group) ∷ []
  unfolding code_of
  code_four_bytes g =
      pick_no _ _ _ (le-ltb x one_group (omega arith))
      ∙ pick_no _ _ _ (le-ltb x two_groups (omega arith))
      ∙ pick_no _ _ _ (le-ltb x three_groups g)

  pub size_one : x < one_group → code_size x ≡ 1
  unfolding code_size code_of
  size_one h = ap length (pick_yes _ _ _ (lt-ltb x one_group h))

  pub size_two : one_group ≤ x → x < two_groups → code_size x ≡ 2
  unfolding code_size code_of
  size_two g h = ap length (pick_no _ _ _ (le-ltb x one_group g) ∙ pick_yes _ _ _ (lt-ltb x two_groups h))

  pub size_three : two_groups ≤ x → x < three_groups → code_size x ≡ 3
  unfolding code_size code_of
  size_three g h =
      ap length
      (pick_no _ _ _ (le-ltb x one_group (omega arith))
      ∙ pick_no _ _ _ (le-ltb x two_groups g)
      ∙ pick_yes _ _ _ (lt-ltb x three_groups h))

  pub size_four : three_groups ≤ x → code_size x ≡ 4
  unfolding code_size code_of
  size_four g =
      ap length
      (pick_no _ _ _ (le-ltb x one_group (omega arith))
      ∙ pick_no _ _ _ (le-ltb x two_groups (omega arith))
      ∙ pick_no _ _ _ (le-ltb x three_groups g))

-- ---- what is read, byte by byte

more_last : (k at h b : ℕ) (t : List ℕ) → b < flag → more k at h (b ∷ t) ≡ Ok (reading (h * one_group + b) (at + 1))
unfolding more
more_last zero at h b t g = pick_yes _ _ _ (lt-ltb b flag g)
more_last (suc k) at h b t g = pick_yes _ _ _ (lt-ltb b flag g)

-- the reading at `at` has come to `p`: the groups so far are worth `h`, and after the next byte as many as `k` more may follow
pub record Reached (s : List ℕ) (at k p h : ℕ) : Type 0 where
  is : read_at s at ≡ more k p h (drop p s)

module _ (s : List ℕ) (at : ℕ) where
  pub read_none : length s ≤ at → read_at s at ≡ Err Cut
  unfolding read_at first
  read_none h = ap (first at) (drop_of_length-le s h)

  pub read_padded : {b : ℕ} {t : List ℕ} → drop at s ≡ b ∷ t → b ≡ flag → read_at s at ≡ Err Padded
  unfolding read_at first
  read_padded {b} e h = ap (first at) e ∙ pick_yes _ _ _ (eq-eqb b flag h)

  pub read_first : {b : ℕ} {t : List ℕ} → drop at s ≡ b ∷ t → (b ≡ flag → ⊥) → Reached s at 3 at 0
  unfolding read_at first
  read_first {b} e h = record { is = ap (first at) e ∙ pick_no _ _ _ (ne_eqb b flag h) ∙ ap (more 3 at 0) (sym e) }

-- a reading that has come to a place, with its numbers said otherwise
pub reached_as : {s : List ℕ} {at k k' p p' h h' : ℕ} → Reached s at k p h → k' ≡ k → p' ≡ p → h' ≡ h → Reached s at k' p' h'
reached_as r ek ep eh = rw (ek, ep, eh) r

module _ {s : List ℕ} {at k p h : ℕ} where
  pub read_cut : Reached s at k p h → length s ≤ p → read_at s at ≡ Err Cut
  unfolding more
  read_cut r l = r.is ∙ ap (more k p h) (drop_of_length-le s l)

module _ {s : List ℕ} {at p h b : ℕ} {t : List ℕ} (e : drop p s ≡ b ∷ t) where
  pub read_last : {k v n : ℕ} → Reached s at k p h → b < flag → v ≡ h * one_group + b → n ≡ p + 1 → read_at s at ≡ Ok (reading v n)
  read_last {k} {v} {n} r g ev en =
      let c : Ok (reading (h * one_group + b) (p + 1)) ≡ Ok (reading v n) = cc in
      r.is ∙ ap (more k p h) e ∙ more_last k p h b t g ∙ c

  pub read_long : Reached s at zero p h → flag ≤ b → read_at s at ≡ Err Long
  unfolding more
  read_long r g = r.is ∙ ap (more zero p h) e ∙ pick_no _ _ _ (le-ltb b flag g)

  pub read_on : {k : ℕ} → Reached s at (suc k) p h → flag ≤ b → Reached s at k (p + 1) (h * one_group + (b - flag))
  unfolding more
  read_on {k} r g =
      record {
        is =
            r.is
            ∙ ap (more (suc k) p h) e
            ∙ pick_no _ _ _ (le-ltb b flag g)
            ∙ ap (more k (p + 1) (h * one_group + (b - flag))) (sym (drop_run s p (b ∷ []) t e));
      }
