-- Laws of runs of stores, `sets`: one after the other, two that do not meet, what stands within, before and after one, one that another covers, one
-- that changes nothing, and a loop that stores a list from its front.
-- Assumes nothing.
use mathlib.Core.Path.{◌≡◌, refl, sym, ap, ◌∙◌}
use mathlib.Core.List.{List, [], ◌∷◌, ◌++◌}
use Prim.Native.Nat.{ℕ, zero, suc, ◌+◌, ◌≤◌, ◌<◌}
use native.Mathlib.Omega.{arith}
use lib.ListN.{length, get_or, drop, set, length-set, length-append}
use lib.Seq.{sets, length-sets, sets-eq, set_comm, set-set, set-get_or, get_or-set_same, get_or-set_other}
use Rattle.lists.specs.Stores.{Puts}

pub sets-append : (l : List ℕ) (at : ℕ) (us vs : List ℕ) → sets l at (us ++ vs) ≡ sets (sets l at us) (at + length us) vs
sets-append l at [] vs = let z : at ≡ at + 0 = omega arith in ap (λ (k : ℕ). sets l k vs) z
sets-append l at (u ∷ us) vs =
    let z : suc at + length us ≡ at + suc (length us) = omega arith in
    sets-append (set l at u) (suc at) us vs ∙ ap (λ (k : ℕ). sets (sets (set l at u) (suc at) us) k vs) z

sets-set : (l : List ℕ) (a x b : ℕ) (ys : List ℕ) → a < b → sets (set l a x) b ys ≡ set (sets l b ys) a x
sets-set l a x b [] h = refl
sets-set l a x b (y ∷ ys) h =
    ap (λ (r : List ℕ). sets r (suc b) ys) (set_comm l a b x y (λ e. omega arith)) ∙ sets-set (set l b y) a x (suc b) ys (omega arith)

-- two runs that do not meet
pub sets_comm : (l : List ℕ) (a : ℕ) (xs : List ℕ) (b : ℕ) (ys : List ℕ) → a + length xs ≤ b → sets (sets l a xs) b ys ≡ sets (sets l b ys) a xs
sets_comm l a [] b ys h = refl
sets_comm l a (x ∷ xs) b ys h =
    sets_comm (set l a x) (suc a) xs b ys (omega arith) ∙ ap (λ (r : List ℕ). sets r (suc a) xs) (sets-set l a x b ys (omega arith))

-- a run from the front on
pub sets_front : (l vs : List ℕ) → length vs ≤ length l → sets l 0 vs ≡ vs ++ drop (length vs) l
sets_front l vs h = let z : 0 + length vs ≡ length vs = omega arith in sets-eq vs l 0 (omega arith) ∙ ap (λ (k : ℕ). vs ++ drop k l) z

get_or_sets_before : (l : List ℕ) (at : ℕ) (vs : List ℕ) (p : ℕ) → p < at → get_or (sets l at vs) p 0 ≡ get_or l p 0
get_or_sets_before l at [] p h = refl
get_or_sets_before l at (v ∷ vs) p h =
    get_or_sets_before (set l at v) (suc at) vs p (omega arith) ∙ get_or-set_other l at p v 0 (λ e. omega arith)

pub get_or_sets : (l : List ℕ) (at : ℕ) (vs : List ℕ) (j : ℕ) → at + length vs ≤ length l → j < length vs → get_or (sets l at vs) (at + j) 0 ≡ get_or vs j 0
get_or_sets l at [] j h g = absurd (omega arith)
get_or_sets l at (v ∷ vs) zero h g =
    let z : at + 0 ≡ at = omega arith in
    ap (λ (p : ℕ). get_or (sets (set l at v) (suc at) vs) p 0) z
    ∙ get_or_sets_before (set l at v) (suc at) vs at (omega arith)
    ∙ get_or-set_same l at v 0 (omega arith)
get_or_sets l at (v ∷ vs) (suc j) h g =
    let z : at + suc j ≡ suc at + j = omega arith in
    ap (λ (p : ℕ). get_or (sets (set l at v) (suc at) vs) p 0) z
    ∙ get_or_sets (set l at v) (suc at) vs j (omega (arith, length-set l at v)) (omega arith)

pub set-sets : (l : List ℕ) (at : ℕ) (vs : List ℕ) (j x : ℕ) → j < length vs → set (sets l at vs) (at + j) x ≡ sets l at (set vs j x)
set-sets l at [] j x h = absurd (omega arith)
set-sets l at (v ∷ vs) zero x h =
    let z : at + 0 ≡ at = omega arith in
    ap (λ (p : ℕ). set (sets (set l at v) (suc at) vs) p x) z
    ∙ sym (sets_comm (set l at v) at (x ∷ []) (suc at) vs (omega arith))
    ∙ ap (λ (r : List ℕ). sets r (suc at) vs) (set-set l at v x)
set-sets l at (v ∷ vs) (suc j) x h =
    let z : at + suc j ≡ suc at + j = omega arith in
    ap (λ (p : ℕ). set (sets (set l at v) (suc at) vs) p x) z ∙ set-sets (set l at v) (suc at) vs j x (omega arith)

pub get_or-sets_after : (l : List ℕ) (at : ℕ) (vs : List ℕ) (p : ℕ) → at + length vs ≤ p → get_or (sets l at vs) p 0 ≡ get_or l p 0
get_or-sets_after l at [] p h = refl
get_or-sets_after l at (v ∷ vs) p h =
    get_or-sets_after (set l at v) (suc at) vs p (omega arith) ∙ get_or-set_other l at p v 0 (λ e. omega arith)

-- a run that is covered by the next
pub sets_over : (l : List ℕ) (at : ℕ) (us vs : List ℕ) → length us ≤ length vs → sets (sets l at us) at vs ≡ sets l at vs
sets_over l at [] vs h = refl
sets_over l at (u ∷ us) [] h = absurd (omega arith)
sets_over l at (u ∷ us) (v ∷ vs) h =
    ap (λ (r : List ℕ). sets r (suc at) vs) (sym (sets_comm (set l at u) at (v ∷ []) (suc at) us (omega arith)))
    ∙ ap (λ (r : List ℕ). sets (sets r (suc at) us) (suc at) vs) (set-set l at u v)
    ∙ sets_over (set l at v) (suc at) us vs (omega arith)

-- a run of what stands there
pub sets_same : (l : List ℕ) (at : ℕ) (vs : List ℕ) → ((j : ℕ) → j < length vs → get_or vs j 0 ≡ get_or l (at + j) 0) → sets l at vs ≡ l
sets_same l at [] f = refl
sets_same l at (v ∷ vs) f =
    let z : at + 0 ≡ at = omega arith in
    let e : set l at v ≡ l = ap (set l at) (f 0 (omega arith) ∙ ap (λ (p : ℕ). get_or l p 0) z) ∙ set-get_or l at 0 in
    ap (λ (r : List ℕ). sets r (suc at) vs) e
    ∙ sets_same l (suc at) vs (λ j h. let y : at + suc j ≡ suc at + j = omega arith in f (suc j) (omega arith) ∙ ap (λ (p : ℕ). get_or l p 0) y)

-- A loop that stores `vs` in `out₀` from the place `at` on: `out` has all of it but `ws`, which is to go to `p`.
pub record Storing (out₀ : List ℕ) (at : ℕ) (vs out : List ℕ) (p : ℕ) (ws : List ℕ) : Type 0 where
  pub same : length out ≡ length out₀
  pub room : p + length ws ≤ length out
  pub place : p + length ws ≡ at + length vs
  pub stores : sets out p ws ≡ sets out₀ at vs

pub Storing_start : (out : List ℕ) (at : ℕ) (vs : List ℕ) → at + length vs ≤ length out → Storing out at vs out at vs
Storing_start out at vs h = record { same = refl; room = h; place = refl; stores = refl }

module _ {out₀ : List ℕ} {at : ℕ} {vs out : List ℕ} {p : ℕ} {ws : List ℕ} (s : Storing out₀ at vs out p ws) where
  -- a run was stored
  pub Storing_run : (us rest : List ℕ) {out' : List ℕ} {p' : ℕ} → ws ≡ us ++ rest → p' ≡ p + length us → out' ≡ sets out p us
      → Storing out₀ at vs out' p' rest
  Storing_run us rest {out'} {p'} e ep eo =
      let n : length ws ≡ length us + length rest = ap length e ∙ length-append us rest in
      let m : length out' ≡ length out = ap length eo ∙ length-sets out p us in
      record {
        same = m ∙ s.same;
        room = omega (arith, s.room);
        place = omega (arith, s.place);
        stores =
            ap (λ (r : List ℕ). sets r p' rest) eo
            ∙ ap (λ (k : ℕ). sets (sets out p us) k rest) ep
            ∙ sym (sets-append out p us rest)
            ∙ ap (sets out p) (sym e)
            ∙ s.stores;
      }

  -- one element was stored
  pub Storing_one : (x : ℕ) (rest : List ℕ) → ws ≡ x ∷ rest → Storing out₀ at vs (set out p x) (p + 1) rest
  Storing_one x rest e = Storing_run (x ∷ []) rest e refl refl

  -- there is room for one more
  pub storing_room : (x : ℕ) (rest : List ℕ) → ws ≡ x ∷ rest → p < length out
  storing_room x rest e = omega (arith, s.room, ap length e)

  -- what is left is the same list, said otherwise
  pub Storing_same : {rest : List ℕ} → ws ≡ rest → Storing out₀ at vs out p rest
  Storing_same {rest} e = Storing_run [] rest e (omega arith) refl

  pub storing_end : ws ≡ [] → Puts out₀ at vs out p
  storing_end e = record { place = omega (arith, s.place, ap length e); stores = ap (sets out p) (sym e) ∙ s.stores }
