-- Laws of what bytes say one by one, and of sums over places.
-- Assumes nothing.
use mathlib.Core.Path.{◌≡◌, ap, ◌∙◌}
use mathlib.Core.List.{List}
use Prim.Native.Nat.{ℕ, zero, suc, ◌+◌, ◌-◌, ◌*◌, ◌/◌, ◌%◌, ◌≤◌, ◌<◌}
use native.Mathlib.Omega.{arith}
use native.Mathlib.Decide.{ℕ_discrete}
use lib.ListN.{get_or}
use borrow.Author.Tests.{lt-ltb, le-ltb, eq-eqb, ne_eqb}
use Rattle.lists.proofs.Choice.{pick_yes, pick_no, by_lt}
use Rattle.code.specs.Code.{one_group, two_groups, three_groups, flag}
use Rattle.code.specs.Flagged.{kept}
use Rattle.code.proofs.Flagged.{Kept_none, kept_all, kept-le}
use Rattle.code_stretch.specs.Inside.Bytewise.{
  weight,
  last,
  wrong,
  weight_at,
  last_at,
  wrong_at,
  sum,
  between,
  stretch,
  Shares,
  Added,
}

-- ---- by the flag

module _ (a : ℕ) where
  pub weight_one : (b c : ℕ) → a < flag → weight a b c ≡ a
  unfolding weight
  weight_one b c h = pick_yes _ _ _ (lt-ltb a flag h)

  pub last_yes : a < flag → last a ≡ 1
  unfolding last
  last_yes h = pick_yes _ _ _ (lt-ltb a flag h)

  pub wrong_next : (b c d : ℕ) → a < flag → b ≡ flag → wrong a b c d ≡ 1
  unfolding wrong
  wrong_next b c d h e = pick_yes _ _ _ (lt-ltb a flag h) ∙ pick_yes _ _ _ (eq-eqb b flag e)

  pub wrong_not : (b c d : ℕ) → a < flag → (b ≡ flag → ⊥) → wrong a b c d ≡ 0
  unfolding wrong
  wrong_not b c d h e = pick_yes _ _ _ (lt-ltb a flag h) ∙ pick_no _ _ _ (ne_eqb b flag e)

  module _ (g : flag ≤ a) where
    pub weight_two : (b c : ℕ) → b < flag → weight a b c ≡ (a - flag) * one_group
    unfolding weight
    weight_two b c h = pick_no _ _ _ (le-ltb a flag g) ∙ pick_yes _ _ _ (lt-ltb b flag h)

    pub weight_three : (b c : ℕ) → flag ≤ b → c < flag → weight a b c ≡ (a - flag) * two_groups
    unfolding weight
    weight_three b c k h = pick_no _ _ _ (le-ltb a flag g) ∙ pick_no _ _ _ (le-ltb b flag k) ∙ pick_yes _ _ _ (lt-ltb c flag h)

    pub weight_four : (b c : ℕ) → flag ≤ b → flag ≤ c → weight a b c ≡ (a - flag) * three_groups
    unfolding weight
    weight_four b c k h = pick_no _ _ _ (le-ltb a flag g) ∙ pick_no _ _ _ (le-ltb b flag k) ∙ pick_no _ _ _ (le-ltb c flag h)

    pub last_no : last a ≡ 0
    unfolding last
    last_no = pick_no _ _ _ (le-ltb a flag g)

    pub wrong_long : (b c d : ℕ) → wrong a b c d ≡ kept b (kept c (kept d 1))
    unfolding wrong
    wrong_long b c d = pick_no _ _ _ (le-ltb a flag g)

-- ---- the shares of a byte

module _ (a b c : ℕ) (w : a < 256) where
  pub shares_worth : (x y z : ℕ) → x ≡ kept a (a % flag) → y ≡ kept b x → z ≡ kept c y
      → a % flag + (one_group - 1) * x + (two_groups - one_group) * y + (three_groups - two_groups) * z ≡ weight a b c
  shares_worth x y z ex ey ez =
      by_lt a flag
      (λ h. omega (arith, weight_one a b c h, Kept_none a (a % flag) h, kept-le b x, kept-le c y))
      (λ g.
      let e = kept_all a (a % flag) g in
      by_lt b flag (λ h. omega (arith, e, weight_two a g b c h, Kept_none b x h, kept-le c y))
      (λ k.
      by_lt c flag (λ h. omega (arith, e, weight_three a g b c k h, kept_all b x k, Kept_none c y h))
      (λ h. omega (arith, e, weight_four a g b c k h, kept_all b x k, kept_all c y h))))

  pub shares_ends : 1 - a / flag ≡ last a
  shares_ends = by_lt a flag (λ h. omega (arith, last_yes a h)) (λ g. omega (arith, last_no a g))

  pub shares_flaws : (d l p : ℕ) → l ≡ kept a (kept b (kept c (kept d 1))) → p ≤ 1 - a / flag
      → (b ≡ flag → p ≡ 1 - a / flag)
      → ((b ≡ flag → ⊥) → p ≡ 0)
      → l + p ≡ wrong a b c d
  shares_flaws d l p e m u v =
      by_lt a flag
      (λ h.
      let z = Kept_none a (kept b (kept c (kept d 1))) h in
      elim (ℕ_discrete b flag) [ yes q ↦ omega (arith, z, u q, wrong_next a b c d h q) | no q ↦ omega (arith, z, v q, wrong_not a b c d h q) ])
      (λ g. omega (arith, kept_all a (kept b (kept c (kept d 1))) g, wrong_long a g b c d))

-- ---- sums over places

module _ (f : ℕ → ℕ) where
  pub between_none : (at upto : ℕ) → upto ≤ at → between f at upto ≡ 0
  unfolding sum
  between_none at upto h = let e : upto - at ≡ 0 = omega arith in rw e

  pub between_more : (at upto : ℕ) → at < upto → between f at upto ≡ f at + between f (at + 1) upto
  unfolding sum
  between_more at upto h = let e : upto - at ≡ suc (upto - (at + 1)) = omega arith in rw e

  sum_join : (k j at : ℕ) → sum f (k + j) at ≡ sum f k at + sum f j (at + k)
  unfolding sum
  sum_join zero j at =
      let e : 0 + j ≡ j = omega arith in
      let p : at + 0 ≡ at = omega arith in
      rw (e, p) (omega arith)
  sum_join (suc k) j at =
      let e : suc k + j ≡ suc (k + j) = omega arith in
      let p : at + suc k ≡ at + 1 + k = omega arith in
      rw (e, p) (omega (arith, sum_join k j (at + 1)))

  pub between_join : (at mid upto : ℕ) → at ≤ mid → mid ≤ upto → between f at upto ≡ between f at mid + between f mid upto
  between_join at mid upto h g =
      let e : upto - at ≡ mid - at + (upto - mid) = omega arith in
      let p : at + (mid - at) ≡ mid = omega arith in
      ap (λ (k : ℕ). sum f k at) e ∙ sum_join (mid - at) (upto - mid) at ∙ ap (λ (q : ℕ). sum f (mid - at) at + sum f (upto - mid) q) p

-- ---- a loop that adds up what bytes say: those before `i` are added

pub record Adding (s : List ℕ) (at upto i low second third fourth ends flaws : ℕ) : Type 0 where
  pub worth : low + (one_group - 1) * second + (two_groups - one_group) * third + (three_groups - two_groups) * fourth + between (weight_at s) i upto
      ≡ between (weight_at s) at upto
  pub many : ends + between (last_at s) i upto ≡ between (last_at s) at upto
  pub faults : flaws + between (wrong_at s) i upto ≡ between (wrong_at s) at upto
  pub group : (low ≤ one_group * (i - at)) × (second ≤ one_group * (i - at)) × (third ≤ one_group * (i - at)) × (fourth ≤ one_group * (i - at))
  pub few : (ends ≤ i - at) × (flaws ≤ 2 * (i - at))

pub Adding_start : (s : List ℕ) (at upto : ℕ) → Adding s at upto at 0 0 0 0 0 0
Adding_start s at upto =
    record {
      worth = omega arith;
      many = omega arith;
      faults = omega arith;
      group = (omega arith, omega arith, omega arith, omega arith);
      few = (omega arith, omega arith);
    }

module _ {s : List ℕ} {at upto i low second third fourth ends flaws : ℕ} (t : Adding s at upto i low second third fourth ends flaws) where
  pub Adding_turn : {x y z u e f : ℕ} → at ≤ i → i < upto
      → Shares (get_or s i 0) (get_or s (i + 1) 0) (get_or s (i + 2) 0) (get_or s (i + 3) 0) x y z u e f
      → Adding s at upto (i + 1) (low + x) (second + y) (third + z) (fourth + u) (ends + e) (flaws + f)
  unfolding weight_at last_at wrong_at
  Adding_turn h k w =
      record {
        worth = omega (arith, t.worth, w.worth, between_more (weight_at s) i upto k);
        many = omega (arith, t.many, w.ends_is.0, between_more (last_at s) i upto k);
        faults = omega (arith, t.faults, w.flaws_is.0, between_more (wrong_at s) i upto k);
        group = (
          omega (arith, t.group.0, w.group.0),
          omega (arith, t.group.1, w.group.1),
          omega (arith, t.group.2, w.group.2),
          omega (arith, t.group.3, w.group.3),
        );
        few = (omega (arith, t.few.0, w.ends_is.1), omega (arith, t.few.1, w.flaws_is.1));
      }

  pub adding_end : {v : ℕ}
      → i ≤ at + stretch
      → upto ≤ i
      → v ≡ low + (one_group - 1) * second + (two_groups - one_group) * third + (three_groups - two_groups) * fourth
      → Added s at upto v ends flaws
  adding_end k h e =
      record {
        worth = omega (arith, t.worth, between_none (weight_at s) i upto h);
        many = omega (arith, t.many, between_none (last_at s) i upto h);
        faults = omega (arith, t.faults, between_none (wrong_at s) i upto h);
        small = (
          omega (arith, t.group.0, t.group.1, t.group.2, t.group.3),
          omega (arith, t.few.0),
          omega (arith, t.few.1),
        );
      }
