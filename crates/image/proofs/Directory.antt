-- Laws of the directory: a loop over its entries (a turn, a halt, the end), and what an entry without a fault says.
-- Assumes nothing.
use mathlib.Core.Path.{◌≡◌, refl, sym, ap, ◌∙◌}
use mathlib.Core.Bool.{Bool, true, false}
use mathlib.Core.List.{List, [], ◌∷◌}
use Prim.Native.Nat.{ℕ, zero, suc, ◌+◌, ◌-◌, ◌≤◌, ◌<◌}
use native.Mathlib.Omega.{arith}
use native.Mathlib.Numerals.{add-one}
use lib.Dec.{ltb, leb, eqb}
use borrow.Author.Tests.{eq-eqb, ne_eqb, eqb-true, le-ltb, lt-leb, ltb-false, leb-false}
use Rattle.std.specs.Prelude.{Result, Ok, Err, ⊤}
use Rattle.lists.specs.Choice.{pick}
use Rattle.lists.proofs.Choice.{pick_yes, pick_no}
use Rattle.rules.specs.Limits.{largest_step, most_steps}
use Rattle.rules.specs.Refusals.{unknown_kind, bad_last, bad_upto, bad_end, refusal}
use Rattle.rules.specs.declared.Refusal.{Refusal}
use Rattle.image.specs.declared.Entry.{Entry}
use Rattle.image.specs.declared.Before.{Before}
use Rattle.image.specs.Entry.{entry_place, entry_at, entries_at, after_entry}
use Rattle.image.specs.Verdict.{fault_of, on_fault, directory_of}
use Rattle.image.proofs.Entries.{entries_here, entries_done}

module _ (p : ℕ) (b : Before) (i : ℕ) where
  -- the closing test, after `i` entries
  pub directory_closing : (b.end ≡ p → ⊥) → directory_of p b i [] ≡ Err (refusal bad_end i)
  directory_closing h = pick_no _ _ _ (ne_eqb b.end p h)

  pub directory_just : b.end ≡ p → directory_of p b i [] ≡ Ok tt
  directory_just h = pick_yes _ _ _ (eq-eqb b.end p h)

  module _ (e : Entry) (es : List Entry) where
    pub directory_next : fault_of p b e ≡ 0 → directory_of p b i (e ∷ es) ≡ directory_of p (after_entry e) (i + 1) es
    directory_next h =
        ap (λ (n : ℕ). on_fault n i (directory_of p (after_entry e) (suc i) es)) h
        ∙ ap (λ (j : ℕ). directory_of p (after_entry e) j es) (sym (add-one i))

    pub directory_stop : (fault_of p b e ≡ 0 → ⊥) → directory_of p b i (e ∷ es) ≡ Err (refusal (fault_of p b e) i)
    directory_stop h = go (fault_of p b e) h
      where
        go : (n : ℕ) → (n ≡ 0 → ⊥) → on_fault n i (directory_of p (after_entry e) (suc i) es) ≡ Err (refusal n i)
        go zero k = absurd (k refl)
        go (suc n) k = refl

-- ---- a loop over the entries of `s`: `i` of `m` were passed, and `b` stands before the next

module _ (s : List ℕ) (m p : ℕ) (b : Before) (i : ℕ) where
  module _ (e : Entry) (n : ℕ) (here : e ≡ entry_at s (entry_place i)) (is : n ≡ fault_of p b e) (h : i < m) where
    -- a turn that goes on
    pub directory_turn : n ≡ 0
        → directory_of p b i (entries_at (m - i) s (entry_place i))
        ≡ directory_of p (after_entry e) (i + 1) (entries_at (m - (i + 1)) s (entry_place (i + 1)))
    directory_turn z =
        ap (directory_of p b i) (entries_here s m i e here h)
        ∙ directory_next p b i e (entries_at (m - (i + 1)) s (entry_place (i + 1))) (sym is ∙ z)

    -- and one that stops
    pub directory_halt : (n ≡ 0 → ⊥) → directory_of p b i (entries_at (m - i) s (entry_place i)) ≡ Err (refusal n i)
    directory_halt z =
        ap (directory_of p b i) (entries_here s m i e here h)
        ∙ directory_stop p b i e (entries_at (m - (i + 1)) s (entry_place (i + 1))) (λ q. z (is ∙ q))
        ∙ ap (λ (k : ℕ). Err (refusal k i)) (sym is)

  pub directory_end : i ≡ m → directory_of p b i (entries_at (m - i) s (entry_place i)) ≡ directory_of p b m []
  directory_end h = ap (directory_of p b i) (entries_done s m i (omega arith)) ∙ ap (λ (j : ℕ). directory_of p b j []) h

-- ---- what an entry without a fault says

pub record Clean (p : ℕ) (b : Before) (e : Entry) : Type 0 where
  pub kind : e.kind ≤ 1
  pub small : e.last ≤ largest_step
  pub last : b.next ≤ e.last
  pub upto : b.upto < e.upto
  pub few : e.upto ≤ most_steps
  pub end : b.end < e.end
  pub within : e.end ≤ p

module _ (p : ℕ) (b : Before) (e : Entry) where
  pub clean : fault_of p b e ≡ 0 → Clean p b e
  unfolding fault_of
  clean h =
      let t1 = untaken (ltb 1 e.kind) unknown_kind _ (omega arith) h in
      let t2 = untaken (ltb largest_step e.last) bad_last _ (omega arith) t1.1 in
      let t3 = untaken (ltb e.last b.next) bad_last _ (omega arith) t2.1 in
      let t4 = untaken (leb e.upto b.upto) bad_upto _ (omega arith) t3.1 in
      let t5 = untaken (ltb most_steps e.upto) bad_upto _ (omega arith) t4.1 in
      let t6 = untaken (leb e.end b.end) bad_end _ (omega arith) t5.1 in
      let t7 = untaken (ltb p e.end) bad_end 0 (omega arith) t6.1 in
      record {
        kind = ltb-false 1 e.kind t1.0;
        small = ltb-false largest_step e.last t2.0;
        last = ltb-false e.last b.next t3.0;
        upto = leb-false e.upto b.upto t4.0;
        few = ltb-false most_steps e.upto t5.0;
        end = leb-false e.end b.end t6.0;
        within = ltb-false p e.end t7.0;
      }
    where
      untaken : (x : Bool) (n k : ℕ) → 0 < n → pick x n k ≡ 0 → (x ≡ false) × (k ≡ 0)
      untaken true n k l q = absurd (omega arith)
      untaken false n k l q = (refl, q)

  pub fault_none : Clean p b e → fault_of p b e ≡ 0
  unfolding fault_of
  fault_none c =
      rw (
        le-ltb 1 e.kind c.kind,
        le-ltb largest_step e.last c.small,
        le-ltb e.last b.next c.last,
        lt-leb e.upto b.upto c.upto,
        le-ltb most_steps e.upto c.few,
        lt-leb e.end b.end c.end,
        le-ltb p e.end c.within,
      )

module _ (p : ℕ) (b : Before) (i : ℕ) where
  -- THE ENTRIES OF A FINE DIRECTORY ARE CLEAN, one by one
  pub directory_clean : (e : Entry) (es : List Entry) → directory_of p b i (e ∷ es) ≡ Ok tt
      → Clean p b e × (directory_of p (after_entry e) (i + 1) es ≡ Ok tt)
  directory_clean e es h =
      let t = go (fault_of p b e) (directory_of p (after_entry e) (suc i) es) h in
      (clean p b e t.0, ap (λ (j : ℕ). directory_of p (after_entry e) j es) (add-one i) ∙ t.1)
    where
      go : (n : ℕ) (f : Result ⊤ Refusal) → on_fault n i f ≡ Ok tt → (n ≡ 0) × (f ≡ Ok tt)
      go zero f q = (refl, q)
      go (suc n) f q = let z : ◌≡◌ {A = ℕ} 0 1 = cc in absurd (omega arith)

  -- and the last of them ends where the payload does
  pub directory_whole : directory_of p b i [] ≡ Ok tt → b.end ≡ p
  directory_whole h = eqb-true b.end p (go (eqb b.end p) h)
    where
      go : (x : Bool) → ◌≡◌ {A = Result ⊤ Refusal} (pick x (Ok tt) (Err (refusal bad_end i))) (Ok tt) → x ≡ true
      go true q = refl
      go false q = let z : ◌≡◌ {A = ℕ} 0 1 = cc in absurd (omega arith)
