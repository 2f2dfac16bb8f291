-- Laws of codes that stand one after the other: bytes that start and end like codes, and with which nothing is wrong, are codes, and what
-- the bytes add up to is what the codes do.
-- Assumes nothing.
use mathlib.Core.Path.{◌≡◌, refl, sym, ◌∙◌, subst}
use mathlib.Core.List.{List, [], ◌∷◌}
use Prim.Native.Nat.{ℕ, zero, suc, ◌+◌, ◌-◌, ◌*◌, ◌≤◌, ◌<◌}
use native.Mathlib.Omega.{arith}
use lib.ListN.{length, get_or}
use Rattle.lists.proofs.Choice.{by_lt}
use Rattle.lists.proofs.Parts.{drop_one}
use Rattle.std.specs.Prelude.{Ok}
use Rattle.code.specs.Code.{one_group, two_groups, three_groups, flag, reading, read_at}
use Rattle.code.specs.Code.Inside.{Reached, read_first, read_last, read_on}
use Rattle.code_stretch.specs.Inside.Bytewise.{weight_at, last_at, wrong_at, between, Added}
use Rattle.code_stretch.specs.Runs.{Passed}
use Rattle.code.proofs.Flagged.{kept_all}
use Rattle.code_stretch.proofs.Bytewise.{
  weight_one,
  weight_two,
  weight_three,
  weight_four,
  last_yes,
  last_no,
  wrong_next,
  wrong_long,
  between_none,
  between_more,
  between_join,
}

-- ---- what a byte says, by the bytes that follow it

module _ (s : List ℕ) (i : ℕ) where
  at_one : get_or s i 0 < flag → (weight_at s i ≡ get_or s i 0) × (last_at s i ≡ 1)
  unfolding weight_at last_at
  at_one h = (weight_one _ _ _ h, last_yes _ h)

  at_next : get_or s i 0 < flag → get_or s (i + 1) 0 ≡ flag → wrong_at s i ≡ 1
  unfolding wrong_at
  at_next h e = wrong_next _ _ _ _ h e

  module _ (g : flag ≤ get_or s i 0) where
    at_open : last_at s i ≡ 0
    unfolding last_at
    at_open = last_no _ g

    at_two : get_or s (i + 1) 0 < flag → weight_at s i ≡ (get_or s i 0 - flag) * one_group
    unfolding weight_at
    at_two h = weight_two _ g _ _ h

    at_three : flag ≤ get_or s (i + 1) 0 → get_or s (i + 1 + 1) 0 < flag → weight_at s i ≡ (get_or s i 0 - flag) * two_groups
    unfolding weight_at
    at_three k h = let e : i + 1 + 1 ≡ i + 2 = omega arith in weight_three _ g _ _ k (subst (λ (p : ℕ). get_or s p 0 < flag) e h)

    at_four : flag ≤ get_or s (i + 1) 0 → flag ≤ get_or s (i + 1 + 1) 0 → weight_at s i ≡ (get_or s i 0 - flag) * three_groups
    unfolding weight_at
    at_four k h = let e : i + 1 + 1 ≡ i + 2 = omega arith in weight_four _ g _ _ k (subst (λ (p : ℕ). flag ≤ get_or s p 0) e h)

    at_long : flag ≤ get_or s (i + 1) 0 → flag ≤ get_or s (i + 1 + 1) 0 → flag ≤ get_or s (i + 1 + 1 + 1) 0 → wrong_at s i ≡ 1
    unfolding wrong_at
    at_long j k h =
        let e : i + 1 + 1 ≡ i + 2 = omega arith in
        let f : i + 1 + 1 + 1 ≡ i + 3 = omega arith in
        wrong_long _ g _ _ _
        ∙ kept_all _ _ j
        ∙ kept_all _ _ (subst (λ (p : ℕ). flag ≤ get_or s p 0) e k)
        ∙ kept_all _ _ (subst (λ (p : ℕ). flag ≤ get_or s p 0) f h)

-- ---- a code

-- the code at `at` goes on at `p`, before `n`, as no byte before has ended it: the groups so far are worth `h`
record Open (s : List ℕ) (at n k p h : ℕ) : Type 0 where
  reached : Reached s at k p h
  from : at ≤ p
  to : p < n
  none : between (last_at s) at p ≡ 0

-- a code stands at `at`, its last byte at `end`, before `n`; its bytes add up to its value and to one end
record One (s : List ℕ) (at n : ℕ) : Type 0 where
  end : ℕ
  from : at ≤ end
  to : end < n
  closed : get_or s end 0 < flag
  read : read_at s at ≡ Ok (reading (between (weight_at s) at (end + 1)) (end + 1))
  many : between (last_at s) at (end + 1) ≡ 1

-- the sum over one place
over_one : (f : ℕ → ℕ) (p : ℕ) → between f p (p + 1) ≡ f p
over_one f p = omega (arith, between_more f p (p + 1) (omega arith), between_none f (p + 1) (p + 1) (omega arith))

-- the sum over one place more
one_more : (f : ℕ → ℕ) (at p : ℕ) → at ≤ p → between f at (p + 1) ≡ between f at p + f p
one_more f at p h = omega (arith, between_join f at p (p + 1) h (omega arith), over_one f p)

module _ (s : List ℕ) (at n : ℕ) (l : n ≤ length s) (e : get_or s (n - 1) 0 < flag) where
  Open_start : at < n → (get_or s at 0 ≡ flag → ⊥) → Open s at n 3 at 0
  Open_start h z =
      record {
        reached = read_first s at (drop_one s at 0 (omega arith)) z;
        from = omega arith;
        to = h;
        none = between_none (last_at s) at at (omega arith);
      }

  -- a byte with the flag is not the last
  Open_on : {k p h : ℕ} → Open s at n (suc k) p h → flag ≤ get_or s p 0 → Open s at n k (p + 1) (h * one_group + (get_or s p 0 - flag))
  Open_on {k} {p} o g =
      record {
        reached = read_on (drop_one s p 0 (omega (arith, o.to))) o.reached g;
        from = omega (arith, o.from);
        to =
            by_lt (p + 1) n (λ y. y)
            (λ y.
            let q : n - 1 ≡ p = omega (arith, o.to) in
            let z : get_or s p 0 < flag = subst (λ (i : ℕ). get_or s i 0 < flag) q e in
            absurd (omega arith));
        none = omega (arith, one_more (last_at s) at p o.from, o.none, at_open s p g);
      }

  -- a byte without it is
  Open_end : {k p h : ℕ} → Open s at n k p h → get_or s p 0 < flag → between (weight_at s) at (p + 1) ≡ h * one_group + get_or s p 0 → One s at n
  Open_end {k} {p} o c v =
      record {
        end = p;
        from = o.from;
        to = o.to;
        closed = c;
        read = read_last (drop_one s p 0 (omega (arith, o.to))) o.reached c v refl;
        many = omega (arith, one_more (last_at s) at p o.from, o.none, (at_one s p c).1);
      }

  one : at < n → (get_or s at 0 ≡ flag → ⊥) → wrong_at s at ≡ 0 → One s at n
  one h z w =
      let f = weight_at s in
      let p = at + 1 in
      let q = p + 1 in
      let r = q + 1 in
      let m : (i : ℕ) → at ≤ i → between f at (i + 1) ≡ between f at i + f i = one_more f at in
      let u = over_one f at in
      let o = Open_start h z in
      by_lt (get_or s at 0) flag (λ c. Open_end o c (omega (arith, u, (at_one s at c).0)))
      (λ ga.
      let oa = Open_on o ga in
      by_lt (get_or s p 0) flag (λ c. Open_end oa c (omega (arith, u, m p (omega arith), at_two s at ga c, (at_one s p c).0)))
      (λ gp.
      let op = Open_on oa gp in
      by_lt (get_or s q 0) flag
      (λ c.
      Open_end op c
      (omega (arith, u, m p (omega arith), m q (omega arith), at_three s at ga gp c, at_two s p gp c, (at_one s q c).0)))
      (λ gq.
      let oq = Open_on op gq in
      by_lt (get_or s r 0) flag
      (λ c.
      Open_end oq c
      (omega (
        arith,
        u,
        m p (omega arith),
        m q (omega arith),
        m r (omega arith),
        at_four s at ga gp gq,
        at_three s p gp gq c,
        at_two s q gq c,
        (at_one s r c).0,
      )))
      (λ gr. absurd (omega (arith, w, at_long s at ga gp gq gr))))))

-- ---- codes, one after the other

-- a code and what follows it
Passed-cons : {s : List ℕ} {at n c v : ℕ} → (o : One s at n) → Passed s (o.end + 1) n c v
    → Passed s at n (between (last_at s) at (o.end + 1) + c) (between (weight_at s) at (o.end + 1) + v)
Passed-cons {s} {at} o t =
    record {
      values = between (weight_at s) at (o.end + 1) ∷ t.values;
      codes = (o.end + 1, o.read, t.codes);
      many = omega (arith, o.many, t.many);
      worth = omega (arith, t.worth);
      within = t.within;
    }

passed_none : (s : List ℕ) (n : ℕ) → n ≤ length s → Passed s n n 0 0
passed_none s n l = record { values = []; codes = refl; many = refl; worth = refl; within = l }

module _ (s : List ℕ) (n : ℕ) (l : n ≤ length s) (e : get_or s (n - 1) 0 < flag) where
  -- from a place on stand codes alone, if it is the first of one and nothing is wrong
  abbrev From : ℕ → Type 0
  From at = at ≤ n → (at < n → get_or s at 0 ≡ flag → ⊥) → between (wrong_at s) at n ≡ 0
      → Passed s at n (between (last_at s) at n) (between (weight_at s) at n)

  -- after a code with which nothing is wrong goes on what starts as a code may
  Passed_more : {at : ℕ} (o : One s at n) → between (wrong_at s) at n ≡ 0 → From (o.end + 1)
      → Passed s at n (between (last_at s) at n) (between (weight_at s) at n)
  Passed_more {at} o w rest =
      let m = o.end + 1 in
      let j : (f : ℕ → ℕ) → between f at n ≡ between f at m + between f m n =
      λ f. between_join f at m n (omega (arith, o.from)) (omega (arith, o.to))
      in
      let u : wrong_at s o.end ≡ 0 =
      omega (
        arith,
        w,
        between_join (wrong_at s) at o.end n o.from (omega (arith, o.to)),
        between_more (wrong_at s) o.end n o.to,
      )
      in
      let t = rest (omega (arith, o.to)) (λ y q. omega (arith, u, at_next s o.end o.closed q)) (omega (arith, w, j (wrong_at s))) in
      subst (λ (c : ℕ). Passed s at n c (between (weight_at s) at n)) (sym (j (last_at s)))
      (subst (λ (v : ℕ). Passed s at n (between (last_at s) at m + between (last_at s) m n) v) (sym (j (weight_at s))) (Passed-cons o t))

  passed_end : From n
  passed_end h z w =
      subst (λ (c : ℕ). Passed s n n c (between (weight_at s) n n)) (sym (between_none (last_at s) n n (omega arith)))
      (subst (λ (v : ℕ). Passed s n n 0 v) (sym (between_none (weight_at s) n n (omega arith))) (passed_none s n l))

  -- `k` bounds the bytes that are left
  passed_by : (k at : ℕ) → n ≤ at + k → From at
  passed_by zero at b h z w = let q : n ≡ at = omega arith in subst From q passed_end h z w
  passed_by (suc k) at b h z w =
      by_lt at n
      (λ g.
      let o = one s at n l e g (z g) (omega (arith, w, between_more (wrong_at s) at n g)) in
      Passed_more o w (passed_by k (o.end + 1) (omega (arith, b, o.from))))
      (λ g. let q : n ≡ at = omega arith in subst From q passed_end h z w)

  passed : (at : ℕ) → at < n → (get_or s at 0 ≡ flag → ⊥) → between (wrong_at s) at n ≡ 0
      → Passed s at n (between (last_at s) at n) (between (weight_at s) at n)
  passed at h z w = passed_by n at (omega arith) (omega arith) (λ g. z) w

-- bytes that were added up in two parts are codes, where nothing is wrong in either
pub Passed_parts : {s : List ℕ} {at mid n : ℕ} {v e f v' e' f' : ℕ} → Added s at mid v e f → Added s mid n v' e' f'
    → at < mid
    → mid ≤ n
    → n ≤ length s
    → f + f' ≡ 0
    → (get_or s at 0 ≡ flag → ⊥) × (get_or s (n - 1) 0 < flag)
    → Passed s at n (e + e') (v + v')
Passed_parts {s} {at} {mid} {n} {v} {e} {f} {v'} {e'} {f'} x y h k l w z =
    let j : (g : ℕ → ℕ) → between g at n ≡ between g at mid + between g mid n = λ g. between_join g at mid n (omega arith) k in
    let t = passed s n l z.1 at (omega arith) z.0 (omega (arith, j (wrong_at s), x.faults, y.faults)) in
    let c : between (last_at s) at n ≡ e + e' = omega (arith, j (last_at s), x.many, y.many) in
    let u : between (weight_at s) at n ≡ v + v' = omega (arith, j (weight_at s), x.worth, y.worth) in
    subst (λ (m : ℕ). Passed s at n m (v + v')) c (subst (λ (m : ℕ). Passed s at n (between (last_at s) at n) m) u t)

-- ---- single bytes

-- the bytes from `at` to before `i`, which add up to `value`, are codes if none is larger than a byte without the flag: codes may follow
pub record Singles (s : List ℕ) (at i value largest : ℕ) : Type 0 where
  pub then : largest < flag → {n c v : ℕ} → Passed s i n c v → Passed s at n (i - at + c) (value + v)
  pub small : value ≤ 255 * (i - at)

Passed_as : {s : List ℕ} {at n c v c' v' : ℕ} → Passed s at n c v → c ≡ c' → v ≡ v' → Passed s at n c' v'
Passed_as t p q = record { values = t.values; codes = t.codes; many = t.many ∙ p; worth = t.worth ∙ q; within = t.within }

module _ (s : List ℕ) (at : ℕ) where
  pub Singles_start : Singles s at at 0 0
  Singles_start = record { then = λ h t. Passed_as t (omega arith) (omega arith); small = omega arith }

  -- a byte without the flag before codes
  Passed_single : {n c v : ℕ} → at < length s → get_or s at 0 < flag → Passed s (at + 1) n c v → Passed s at n (1 + c) (get_or s at 0 + v)
  Passed_single l h t =
      let d = drop_one s at 0 l in
      record {
        values = get_or s at 0 ∷ t.values;
        codes = (at + 1, read_last d (read_first s at d (λ z. omega arith)) h (omega arith) refl, t.codes);
        many = omega (arith, t.many);
        worth = omega (arith, t.worth);
        within = t.within;
      }

pub Singles_turn : {s : List ℕ} {at value largest b m : ℕ} (k : ℕ) → Singles s at (at + k) value largest → at + k < length s → b ≡ get_or s (at + k) 0
    → b < 256
    → (largest ≤ m) × (b ≤ m)
    → Singles s at (at + (k + 1)) (value + b) m
Singles_turn {s} {at} {value} {largest} {b} {m} k t l e small g =
    let q : at + k + 1 ≡ at + (k + 1) = omega arith in
    subst (λ (i : ℕ). Singles s at i (value + b) m) q
    (record {
      then =
          λ z r.
          Passed_as (t.then (omega (arith, g.0)) (Passed_single s (at + k) l (omega (arith, e, g.1)) r)) (omega arith) (omega (arith, e));
      small = omega (arith, t.small);
    })

pub Singles_end : {s : List ℕ} {at i value largest : ℕ} (c : ℕ) → Singles s at i value largest → i ≡ at + c → largest < flag
    → i ≤ length s
    → Passed s at (at + c) c value
Singles_end {s} {at} {i} {value} c t e h l =
    subst (λ (n : ℕ). Passed s at n c value) e (Passed_as (t.then h (passed_none s i l)) (omega (arith, e)) (omega arith))
