-- What the passes over the work area keep: a turn of each loop, its start and its end.
-- Assumes nothing.
use mathlib.Core.Path.{◌≡◌, refl, sym, ap, subst, ◌∙◌}
use mathlib.Core.List.{List}
use Prim.Native.Nat.{ℕ, ◌+◌, ◌-◌, ◌*◌, ◌/◌, ◌≤◌, ◌<◌, min}
use native.Mathlib.Omega.{arith}
use borrow.Author.Count.{below_more}
use lib.ListN.{length, get_or, set, length-set}
use lib.Seq.{get_or-set_same, get_or-set_other, drop-set-lt}
use Rattle.lists.specs.Rising.{past}
use Rattle.lists.proofs.Choice.{by_lt}
use Rattle.lists.proofs.Ranks.{past_next, past_suc}
use Rattle.rules.specs.Sizes.{entry_size, work_for}
use Rattle.rules.specs.Listed.{Listed}
use Rattle.code.specs.Code.{code_size}
use Rattle.code.proofs.Laws.{size_most}
use Rattle.row.specs.Row.{byte_bits}
use Rattle.plan.specs.declared.Turn.{Turn}
use Rattle.plan.specs.Inside.Ahead.{most_ahead, row_bits, turned, codes_at, reach_at, row_at}
use Rattle.plan.specs.Inside.Work.{Kept, Sized, Ready}
use Rattle.plan.proofs.Ranks.{codes_end, reach_end, codes_turn, reach_turn, Fits, fits}

-- ---- what is kept

pub Kept_none : {n : ℕ} {work : List ℕ} → Kept n work work
Kept_none = record { same = refl; rest = refl }

pub kept_set : {n : ℕ} {before after : List ℕ} → Kept n before after → (i v : ℕ) → i < work_for n → Kept n before (set after i v)
kept_set {n} {before} {after} k i v h = record {
  same = length-set after i v ∙ k.same;
  rest = drop-set-lt (work_for n) after i v h ∙ k.rest;
}

pub kept_trans : {n : ℕ} {one two three : List ℕ} → Kept n one two → Kept n two three → Kept n one three
kept_trans j k = record { same = k.same ∙ j.same; rest = k.rest ∙ j.rest }

-- ---- the numbers ahead

pub Ready_none : {xs work : List ℕ} {i : ℕ} → Listed xs → work_for (length xs) ≤ length work → length xs ≤ i → Ready xs work i
Ready_none l room e = record {
  listed = l;
  room = room;
  reach = λ u h g. absurd (omega arith);
  codes = λ u h g. absurd (omega arith);
}

-- one past the step before a rank that is not the first
pub past_before : (xs : List ℕ) (i : ℕ) → 0 < i → past xs i ≡ get_or xs (i - 1) 0 + 1
past_before xs i h = past_suc xs i (λ z. omega (arith, z, h))

-- what stands there of a rank, and that it fits
pub record Stands (xs work : List ℕ) (j : ℕ) : Type 0 where
  pub reach : get_or work j 0 ≡ reach_at xs j
  pub codes : get_or work (length xs + j) 0 ≡ codes_at xs j
  pub before : 0 < j → past xs j ≡ get_or xs (j - 1) 0 + 1
  pub fits : Fits xs j

pub stands : {xs work : List ℕ} {i : ℕ} → Ready xs work i → (j : ℕ) → i ≤ j → j < length xs → Stands xs work j
stands {xs} r j h g = record {
  reach = r.reach j h g;
  codes = r.codes j h g;
  before = past_before xs j;
  fits = fits r.listed j (omega arith);
}

-- the fewest bytes of a row from a rank on that is not the first, with its entry and all the blocks after it
pub row_later : {xs work : List ℕ} {j : ℕ} → Stands xs work j → 0 < j
    → (get_or work j 0 - (get_or xs (j - 1) 0 + 1) + row_bits) / byte_bits ≡ entry_size + row_at xs j
row_later s h = omega (arith, s.before h, s.reach, s.fits.from)

-- ---- sizes: the codes of the ranks below `i` are sized

pub record Sizing (xs work₀ work : List ℕ) (i : ℕ) : Type 0 where
  pub within : i ≤ length xs
  pub sized : Sized xs work i
  pub kept : Kept (length xs) work₀ work

pub Sizing_start : (xs work : List ℕ) → Sizing xs work work 0
Sizing_start xs work = record { within = omega arith; sized = λ u h. absurd (omega arith); kept = Kept_none }

pub Sizing_turn : {xs work₀ work : List ℕ} {i p x g : ℕ} → Sizing xs work₀ work i → i < length xs → work_for (length xs) ≤ length work
    → p ≡ length xs + i → x ≡ get_or xs i 0 - past xs i → g ≡ code_size x
    → Sizing xs work₀ (set work p g) (i + 1)
Sizing_turn {xs} {work₀} {work} {i} {p} {x} {g} s h room ep ex eg = record {
  within = omega arith;
  sized =
      below_more (λ u. get_or (set work p g) (length xs + u) 0 ≡ code_size (get_or xs u 0 - past xs u)) i
      (λ u k. get_or-set_other work p (length xs + u) g 0 (λ q. omega arith) ∙ s.sized u k)
      (ap (λ (q : ℕ). get_or (set work p g) q 0) (sym ep) ∙ get_or-set_same work p g 0 (omega arith) ∙ eg ∙ ap code_size ex);
  kept = kept_set s.kept p g (omega arith);
}

-- the size of a code fits
pub sized_fits : {g : ℕ} (x : ℕ) → g ≡ code_size x → g ≤ 4
sized_fits x e = omega (arith, size_most x)

-- ---- values: the numbers ahead of the ranks from `i` on stand in the work area, and below `i` the sizes

pub record Valuing (xs work₀ work : List ℕ) (i : ℕ) (turn : Turn) : Type 0 where
  pub within : i ≤ length xs
  pub rest : turn.rest ≡ min (codes_at xs i) (entry_size + row_at xs i)
  pub reach : turn.reach ≡ min (reach_at xs i) (byte_bits * (entry_size + codes_at xs i) + past xs i) + row_bits
  pub sized : Sized xs work i
  pub ready : Ready xs work i
  pub kept : Kept (length xs) work₀ work

pub Valuing_start : {xs work : List ℕ} {r : ℕ} (i : ℕ) → Listed xs → work_for (length xs) ≤ length work → Sized xs work (length xs)
    → length xs ≡ i + 1 → r ≡ get_or xs i 0 + (1 + row_bits)
    → Valuing xs work work (length xs) (record { rest = 0; reach = r })
Valuing_start {xs} {work} {r} i l room s e er = record {
  within = omega arith;
  rest = omega (arith, codes_end xs);
  reach = omega (arith, er, past_next xs i, ap (past xs) e, codes_end xs, reach_end xs);
  sized = s;
  ready = Ready_none l room (omega arith);
  kept = Kept_none;
}

-- the rank before those that are done: its numbers, as the planner works them out, are those ahead of it, and all fit
module _ {xs work₀ work : List ℕ} {j : ℕ} {turn : Turn} (i : ℕ) (v : Valuing xs work₀ work j turn) (ei : i + 1 ≡ j) where
  rest_next : turn.rest ≡ min (codes_at xs (i + 1)) (entry_size + row_at xs (i + 1))
  rest_next = v.rest ∙ ap (λ (k : ℕ). min (codes_at xs k) (entry_size + row_at xs k)) (sym ei)

  turn_codes : get_or work (length xs + i) 0 + turn.rest ≡ codes_at xs i
  turn_codes = omega (arith, rest_next, v.sized i (omega arith), codes_turn v.ready.listed i (omega (arith, v.within)))

  turn_reach : turn.reach ≡ reach_at xs i + row_bits
  turn_reach =
      omega (
        arith,
        v.reach ∙ ap (λ (k : ℕ). min (reach_at xs k) (byte_bits * (entry_size + codes_at xs k) + past xs k) + row_bits) (sym ei),
        reach_turn v.ready.listed i (omega (arith, v.within)),
      )

  Fits_here : Fits xs i
  Fits_here = fits v.ready.listed i (omega (arith, v.within))

  pub turn_fits : (get_or work (length xs + i) 0 ≤ most_ahead) × (turn.rest ≤ most_ahead)
  turn_fits = (omega (arith, turn_codes, Fits_here.codes), omega (arith, turn_codes, Fits_here.codes))

  -- they are stored
  module _ {after : List ℕ} {reach codes : ℕ} (er : reach ≡ turn.reach - row_bits) (ec : codes ≡ get_or work (length xs + i) 0 + turn.rest)
      (ea : after ≡ set (set work i reach) (length xs + i) codes) where
    other : (p : ℕ) → (p ≡ i → ⊥) → (p ≡ length xs + i → ⊥) → get_or after p 0 ≡ get_or work p 0
    other p h g =
        ap (λ (w : List ℕ). get_or w p 0) ea
        ∙ get_or-set_other (set work i reach) (length xs + i) p codes 0 g
        ∙ get_or-set_other work i p reach 0 h

    room : length xs + i < length work
    room = omega (arith, v.ready.room, v.within)

    reach_here : get_or after i 0 ≡ reach_at xs i
    reach_here =
        ap (λ (w : List ℕ). get_or w i 0) ea
        ∙ get_or-set_other (set work i reach) (length xs + i) i codes 0 (λ q. omega (arith, v.within))
        ∙ get_or-set_same work i reach 0 (omega (arith, room))
        ∙ omega (arith, er, turn_reach)

    codes_here : get_or after (length xs + i) 0 ≡ codes_at xs i
    codes_here =
        ap (λ (w : List ℕ). get_or w (length xs + i) 0) ea
        ∙ get_or-set_same (set work i reach) (length xs + i) codes 0 (omega (arith, room, length-set work i reach))
        ∙ ec
        ∙ turn_codes

    pub turn_Ready : Ready xs after i
    turn_Ready = record {
      listed = v.ready.listed;
      room =
          omega (
            arith,
            v.ready.room,
            ap length ea ∙ length-set (set work i reach) (length xs + i) codes ∙ length-set work i reach,
          );
      reach = λ u h g.
          by_lt i u (λ k. other u (λ q. omega arith) (λ q. omega arith) ∙ v.ready.reach u (omega arith) g)
          (λ k.
          let e : i ≡ u = omega arith in
          rw (← e) reach_here);
      codes = λ u h g.
          by_lt i u (λ k. other (length xs + u) (λ q. omega arith) (λ q. omega arith) ∙ v.ready.codes u (omega arith) g)
          (λ k.
          let e : i ≡ u = omega arith in
          rw (← e) codes_here);
    }

    pub turn_Kept : Kept (length xs) work₀ after
    turn_Kept =
        subst (Kept (length xs) work₀) (sym ea)
        (kept_set (kept_set v.kept i reach (omega (arith, v.within))) (length xs + i) codes (omega (arith, v.within)))

    -- and lead to those of the rank before
    module _ {from : ℕ} (ef : from ≡ past xs i) where
      pub grow_fits : (from ≤ turn.reach) × (codes ≤ most_ahead) × (from ≤ most_ahead)
      grow_fits = (
        omega (arith, ef, turn_reach, Fits_here.from),
        omega (arith, ec, turn_codes, Fits_here.codes),
        omega (arith, ef, Fits_here.start),
      )

      pub Valuing-Turn : {new : Turn} → new ≡ turned codes from turn → Valuing xs work₀ after i new
      Valuing-Turn {new} en = record {
        within = omega (arith, v.within);
        rest = ap (λ (t : Turn). t.rest) en ∙ omega (arith, ec, ef, turn_codes, turn_reach, Fits_here.from);
        reach = ap (λ (t : Turn). t.reach) en ∙ omega (arith, ec, ef, turn_codes, turn_reach);
        sized = λ u h. other (length xs + u) (λ q. omega arith) (λ q. omega arith) ∙ v.sized u (omega arith);
        ready = turn_Ready;
        kept = turn_Kept;
      }
