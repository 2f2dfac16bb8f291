-- Two walks together: each is past every step below a bound, so the lower of their two steps is the next that the result may keep.
-- Assumes nothing.
use mathlib.Core.Path.{◌≡◌, sym, ap, ap₂, ◌∙◌, subst}
use mathlib.Core.List.{List, []}
use Prim.Native.Nat.{ℕ, ◌+◌, ◌≤◌, min}
use native.Mathlib.Omega.{arith}
use lib.ListN.{length}
use Rattle.lists.specs.Bytes.{Bytes}
use Rattle.lists.proofs.Choice.{by_lt}
use Rattle.lists.proofs.Stores.{Storing, Storing_start, Storing_same}
use Rattle.rules.specs.Limits.{no_step}
use Rattle.image.proofs.Taken.{steps_Listed}
use Rattle.image.specs.Taken.{steps_of, Taken}
use Rattle.image_walk.specs.declared.Walk.{Walk}
use Rattle.image_walk.specs.Walk.{ahead, Stands}
use Rattle.image_walk.proofs.Shapes.{ahead_step, ahead_none}
use Rattle.pair_operation.specs.declared.Operation.{Operation}
use Rattle.pair_operation.specs.Result.{result_of}
use Rattle.pair_operation.specs.Inside.Merge.{head_of}
use Rattle.pair_operation.proofs.Result.{length_result}
use Rattle.pair_operation.proofs.Merging.{Below, merge_end}
use Rattle.pair_dense.specs.declared.Walks.{Walks}
use Rattle.pair_dense.specs.Inside.Walks.{Along, Together, result_ahead, Begins}

-- ---- one walk

pub Along_first : (s pay : List ℕ) (w : Walk) → Bytes s → Taken s → Stands s pay w × (ahead s pay w ≡ steps_of s) → Along 0 s pay w
Along_first s pay w b t e =
    let l = steps_Listed s b t in
    record { stands = e.0; below = subst (Below 0 no_step) (sym e.1) (record { rising = l.rising; small = omega (arith, l.small) }) }

module _ (s pay : List ℕ) (w : Walk) where
  -- its step is the first of those ahead
  pub head_ahead : Stands s pay w → head_of no_step (ahead s pay w) ≡ w.step
  head_ahead t =
      by_lt w.step no_step (λ h. ap (head_of no_step) (ahead_step s pay w h))
      (λ h. ap (head_of no_step) (ahead_none s pay w h) ∙ omega (arith, t.placed.step))

-- ---- two walks

module _ {s pay t tail : List ℕ} {m : Walks} (w : Together s pay t tail m) where
  -- no step is left
  pub together_end : (op : Operation) → no_step ≤ m.next → result_ahead op s pay t tail m ≡ []
  together_end op h =
      merge_end no_step op w.from (ahead s pay m.first) (ahead t tail m.second) w.first.below w.second.below
      (omega (arith, head_ahead s pay m.first w.first.stands, w.lower))
      (omega (arith, head_ahead t tail m.second w.second.stands, w.lower))

-- ---- the first steps

module _ {s pay t tail : List ℕ} {a b : Walk} {x : ℕ} where
  pub begins : Bytes s → Bytes t → Taken s → Taken t → Stands s pay a × (ahead s pay a ≡ steps_of s) → Stands t tail b × (ahead t tail b ≡ steps_of t)
      → x ≡ min a.step b.step
      → Begins s pay t tail (record { first = a; second = b; next = x })
  begins m n k l u v e =
      record {
        together = record { from = 0; first = Along_first s pay a m k u; second = Along_first t tail b n l v; lower = e };
        all = λ op. ap₂ (result_of op) u.1 v.1;
        few = λ op. length_result op (steps_of s) (steps_of t) no_step (steps_Listed s m k).small (steps_Listed t n l).small;
      }

-- all of the result is to be stored, where there is room for it
pub Storing_all : {s pay t tail : List ℕ} {m : Walks} → Begins s pay t tail m → (op : Operation) (out : List ℕ)
    → length (result_of op (steps_of s) (steps_of t)) ≤ length out
    → Storing out 0 (result_of op (steps_of s) (steps_of t)) out 0 (result_ahead op s pay t tail m)
Storing_all {s} {t = t} w op out h = Storing_same (Storing_start out 0 (result_of op (steps_of s) (steps_of t)) (omega arith)) (sym (w.all op))

-- ---- counting

-- A loop that counts the steps of `zs`: `n` are counted, and those of `ws` are left.
pub record Counting (zs : List ℕ) (n : ℕ) (ws : List ℕ) : Type 0 where
  pub all : n + length ws ≡ length zs
  pub few : length zs ≤ no_step

pub Counting_start : {s pay t tail : List ℕ} {m : Walks} → Begins s pay t tail m → (op : Operation)
    → Counting (result_of op (steps_of s) (steps_of t)) 0 (result_ahead op s pay t tail m)
Counting_start w op = record { all = omega (arith, ap length (w.all op)); few = w.few op }

module _ {zs : List ℕ} {n : ℕ} {ws : List ℕ} (c : Counting zs n ws) where
  -- `k` more were counted
  pub Counting_run : (k : ℕ) (rest : List ℕ) → length ws ≡ k + length rest → Counting zs (n + k) rest
  Counting_run k rest e = record { all = omega (arith, c.all); few = c.few }

  pub counting_end : ws ≡ [] → n ≡ length zs
  counting_end e = omega (arith, c.all, ap length e)
