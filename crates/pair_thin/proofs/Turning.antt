-- A turn of a merge by the numbers that come next: the lower of the two is a step, and it is what `merge_turn` of `pair_operation` speaks of.
-- Assumes nothing.
use mathlib.Core.Path.{◌≡◌, refl, sym, ap, ◌∙◌, subst}
use mathlib.Core.Bool.{Bool, true, false}
use mathlib.Core.Logic.{⊎_elim}
use mathlib.Core.List.{List, [], ◌∷◌, ◌++◌}
use Prim.Native.Nat.{ℕ, suc, ◌+◌, ◌≤◌, ◌<◌, min}
use native.Mathlib.Omega.{arith}
use native.Mathlib.Numerals.{add-one}
use mir.Val.{bool_byte}
use lib.Dec.{eqb, leb}
use lib.ListN.{length, get_or, take, drop, set, length-drop, length-set}
use lib.Seq.{drop-drop, drop-nil, take-set-le, take-suc-set, append_snoc}
use borrow.Author.Tests.{eq-eqb, ne_eqb, le-leb, lt-leb, leb-true}
use Rattle.lists.specs.Choice.{pick}
use Rattle.lists.proofs.Choice.{by_lt}
use Rattle.lists.proofs.Rising.{Rising-beyond}
use Rattle.lists.proofs.Parts.{get_or_first}
use Rattle.rules.specs.Limits.{no_step}
use Rattle.pair_operation.specs.declared.Operation.{Operation}
use Rattle.pair_operation.specs.Result.{keeps, result_of}
use Rattle.pair_operation.specs.Inside.Merge.{head_of, past_of, kept}
use Rattle.pair_operation.proofs.Merging.{Below, past_below, merge_turn}
use Rattle.pair_thin.specs.Inside.Shown.{Shows, Shown, Went, Merges}

-- ---- the first step of a list

pub head_get_or : (l : List ℕ) → head_of no_step l ≡ get_or l 0 no_step
head_get_or [] = refl
head_get_or (x ∷ l) = refl

head_lt : (o : ℕ) (l : List ℕ) → Below o no_step l → 0 < length l → head_of no_step l < no_step
head_lt o [] w h = absurd (omega arith)
head_lt o (x ∷ l) w h = omega (arith, Rising-beyond (suc x) l w.rising.1, w.small)

head_some : (l : List ℕ) → head_of no_step l < no_step → 0 < length l
head_some [] h = absurd (omega arith)
head_some (x ∷ l) h = omega arith

-- the list past a step that is its first is the list without its first
past_drop : (m : ℕ) (l : List ℕ) → past_of m l ≡ drop (bool_byte (eqb (head_of no_step l) m)) l
past_drop m [] = sym (drop-nil (bool_byte (eqb no_step m)))
past_drop m (x ∷ l) = by (eqb x m)
  where
    by : (b : Bool) → pick b l (x ∷ l) ≡ drop (bool_byte b) (x ∷ l)
    by true = refl
    by false = refl

-- a number is the lower of two where it is not above the other
lower_first : (x y : ℕ) → eqb x (min x y) ≡ leb x y
lower_first x y =
    by_lt y x (λ h. ne_eqb x (min x y) (λ e. omega arith) ∙ sym (lt-leb x y h))
    (λ h. eq-eqb x (min x y) (omega arith) ∙ sym (le-leb x y h))

lower_second : (x y : ℕ) → eqb y (min x y) ≡ leb y x
lower_second x y = let q : min x y ≡ min y x = omega arith in ap (eqb y) q ∙ lower_first y x

-- ---- one side

-- the number that comes next, after `i` that were taken, is the first of the steps that are left
next_head : (numbers xs : List ℕ) → Shows numbers xs → (i x : ℕ) → i < length numbers → x ≡ get_or numbers i 0 → head_of no_step (drop i xs) ≡ x
next_head numbers xs shows i x h e = head_get_or (drop i xs) ∙ sym (get_or_first xs i no_step) ∙ sym (shows i h) ∙ sym e

module _ (xs : List ℕ) (i : ℕ) {x : ℕ} (head : head_of no_step (drop i xs) ≡ x) where
  -- it is taken where it is the step `m`
  next_past : (m : ℕ) (b : Bool) → eqb x m ≡ b → past_of m (drop i xs) ≡ drop (i + bool_byte b) xs
  next_past m b q =
      past_drop m (drop i xs)
      ∙ ap (λ (n : ℕ). drop (bool_byte (eqb n m)) (drop i xs)) head
      ∙ ap (λ (t : Bool). drop (bool_byte t) (drop i xs)) q
      ∙ drop-drop (bool_byte b) i xs

  -- and only steps are taken
  next_most : (y : ℕ) → (x ≤ y → x < no_step) → i ≤ length xs → (b : Bool) → leb x y ≡ b → i + bool_byte b ≤ length xs
  next_most y low most true q =
      omega (arith, head_some (drop i xs) (omega (arith, head, low (leb-true x y q))), length-drop i xs)
  next_most y low most false q = omega (arith, most)

-- a step that is stored after those kept is one of them if it is kept
kept_stored : (b : Bool) (m k : ℕ) (out zs : List ℕ) → k < length out
    → take k out ++ kept b m zs ≡ take (k + bool_byte b) (set out k m) ++ zs
kept_stored true m k out zs h =
    sym (append_snoc (take k out) m zs)
    ∙ ap (λ (l : List ℕ). l ++ zs) (sym (take-suc-set out k m h))
    ∙ ap (λ (n : ℕ). take n (set out k m) ++ zs) (sym (add-one k))
kept_stored false m k out zs h =
    let z : k ≡ k + 0 = omega arith in
    ap (λ (l : List ℕ). l ++ zs) (sym (take-set-le k out k m (omega arith))) ∙ ap (λ (n : ℕ). take n (set out k m) ++ zs) z

-- ---- turns

module _ (op : Operation) {left right xs ys : List ℕ} (s : Shown left right xs ys) where
  pub Went_start : (out : List ℕ) → Went op xs ys 0 0 (take 0 out)
  Went_start out = record { from = s.from; first_below = s.first_below; second_below = s.second_below; first = omega arith; second = omega arith; is = refl }

  module _ {i j : ℕ} {ks : List ℕ} (w : Went op xs ys i j ks) {x y : ℕ} (hi : i < length left) (hj : j < length right)
      (ex : x ≡ get_or left i 0) (ey : y ≡ get_or right j 0) where
    head_first : head_of no_step (drop i xs) ≡ x
    head_first = next_head left xs s.first i x hi ex

    head_second : head_of no_step (drop j ys) ≡ y
    head_second = next_head right ys s.second j y hj ey

    -- the lower of the two is a step
    low : min x y < no_step
    low =
        ⊎_elim (λ h. omega (arith, head_first, head_lt w.from (drop i xs) w.first_below (omega (arith, length-drop i xs))))
        (λ h. omega (arith, head_second, head_lt w.from (drop j ys) w.second_below (omega (arith, length-drop j ys)))) s.real

    past_first : past_of (min x y) (drop i xs) ≡ drop (i + bool_byte (leb x y)) xs
    past_first = next_past xs i head_first (min x y) (leb x y) (lower_first x y)

    past_second : past_of (min x y) (drop j ys) ≡ drop (j + bool_byte (leb y x)) ys
    past_second = next_past ys j head_second (min x y) (leb y x) (lower_second x y)

    -- what the operation says of the lower number, and then the result of what both sides have past it
    turn_is : result_of op (drop i xs) (drop j ys)
        ≡ kept (keeps op (leb x y) (leb y x)) (min x y) (result_of op (drop (i + bool_byte (leb x y)) xs) (drop (j + bool_byte (leb y x)) ys))
    turn_is =
        let m = min x y in
        let zs : List ℕ = result_of op (past_of m (drop i xs)) (past_of m (drop j ys)) in
        merge_turn no_step w.from m low op (drop i xs) (drop j ys) w.first_below w.second_below (omega (arith, head_first)) (omega (arith, head_second))
        ∙ ap (λ (n : ℕ). kept (keeps op (eqb n m) (eqb (head_of no_step (drop j ys)) m)) m zs) head_first
        ∙ ap (λ (n : ℕ). kept (keeps op (eqb x m) (eqb n m)) m zs) head_second
        ∙ ap (λ (b : Bool). kept (keeps op b (eqb y m)) m zs) (lower_first x y)
        ∙ ap (λ (b : Bool). kept (keeps op (leb x y) b) m zs) (lower_second x y)
        ∙ ap (λ (l : List ℕ). kept (keeps op (leb x y) (leb y x)) m (result_of op l (past_of m (drop j ys)))) past_first
        ∙ ap (λ (l : List ℕ). kept (keeps op (leb x y) (leb y x)) m (result_of op (drop (i + bool_byte (leb x y)) xs) l)) past_second

    -- ONE TURN MORE
    pub Went_turn : (k k' : ℕ) (out out' : List ℕ) → ks ≡ take k out → k < length out → k' ≡ k + bool_byte (keeps op (leb x y) (leb y x)) → out' ≡ set out k (min x y)
        → Went op xs ys (i + bool_byte (leb x y)) (j + bool_byte (leb y x)) (take k' out')
    Went_turn k k' out out' e h ek eo =
        let i' : ℕ = i + bool_byte (leb x y) in
        let j' : ℕ = j + bool_byte (leb y x) in
        let zs : List ℕ = result_of op (drop i' xs) (drop j' ys) in
        record {
          from = suc (min x y);
          first_below =
              subst (Below (suc (min x y)) no_step) past_first
              (past_below no_step w.from (min x y) low (drop i xs) w.first_below (omega (arith, head_first)));
          second_below =
              subst (Below (suc (min x y)) no_step) past_second
              (past_below no_step w.from (min x y) low (drop j ys) w.second_below (omega (arith, head_second)));
          first = next_most xs i head_first y (λ k. omega (arith, low)) w.first (leb x y) refl;
          second = next_most ys j head_second x (λ k. omega (arith, low)) w.second (leb y x) refl;
          is =
              w.is
              ∙ ap (λ (l : List ℕ). ks ++ l) turn_is
              ∙ ap (λ (l : List ℕ). l ++ kept (keeps op (leb x y) (leb y x)) (min x y) zs) e
              ∙ kept_stored (keeps op (leb x y) (leb y x)) (min x y) k out zs h
              ∙ ap (λ (n : ℕ). take n (set out k (min x y)) ++ zs) (sym ek)
              ∙ ap (λ (l : List ℕ). take k' l ++ zs) (sym eo);
        }

-- ---- the loop of the turns

pub bool_most : (b : Bool) → bool_byte b ≤ 1
bool_most true = omega arith
bool_most false = omega arith

-- one of two numbers is not above the other
one_taken : (x y : ℕ) → 0 < bool_byte (leb x y) + bool_byte (leb y x)
one_taken x y = by_lt y x (λ h. omega (arith, ap bool_byte (le-leb y x (omega arith)))) (λ h. omega (arith, ap bool_byte (le-leb x y h)))

-- the number that comes next, by whether the one before it was taken
next_number : (b : Bool) (numbers : List ℕ) (i x : ℕ) → x ≡ get_or numbers i 0 → pick b (get_or numbers (i + 1) 0) x ≡ get_or numbers (i + bool_byte b) 0
next_number true numbers i x e = refl
next_number false numbers i x e = let z : i ≡ i + 0 = omega arith in e ∙ ap (λ (n : ℕ). get_or numbers n 0) z

-- before turn `t`: fewer than so many numbers of each side were taken, `x` and `y` come next, and `k` steps were kept
pub record Going (op : Operation) (left right kept₀ kept : List ℕ) (x y i j k t : ℕ) : Type 0 where
  pub same : length kept ≡ length kept₀
  pub first : i < t
  pub second : j < t
  pub few : k < t
  pub first_next : x ≡ get_or left i 0
  pub second_next : y ≡ get_or right j 0
  pub went : (xs ys : List ℕ) → Shown left right xs ys → Went op xs ys i j (take k kept)

pub going_start : (op : Operation) (left right kept : List ℕ) → Going op left right kept kept (get_or left 0 0) (get_or right 0 0) 0 0 0 1
going_start op left right kept =
    record {
      same = refl;
      first = omega arith;
      second = omega arith;
      few = omega arith;
      first_next = refl;
      second_next = refl;
      went = λ xs ys s. Went_start op s kept;
    }

module _ {op : Operation} {left right kept₀ kept : List ℕ} {x y i j k t : ℕ} (g : Going op left right kept₀ kept x y i j k t)
    (hl : t ≤ length left) (hr : t ≤ length right) (hk : length left ≤ length kept₀)
    (b : Bool) (m : ℕ) (eb : b ≡ keeps op (leb x y) (leb y x)) (em : m ≡ min x y) where
  turn_Went : (xs ys : List ℕ) → Shown left right xs ys
      → Went op xs ys (i + bool_byte (leb x y)) (j + bool_byte (leb y x)) (take (k + bool_byte b) (set kept k m))
  turn_Went xs ys s =
      Went_turn op s (g.went xs ys s) (omega (arith, g.first)) (omega (arith, g.second)) g.first_next g.second_next k (k + bool_byte b) kept (set kept k m)
      refl (omega (arith, g.few, g.same)) (ap (λ (c : Bool). k + bool_byte c) eb) (ap (set kept k) em)

  -- a turn, and the next is another
  pub Going_turn : {x' y' : ℕ} → x' ≡ pick (leb x y) (get_or left (i + 1) 0) x → y' ≡ pick (leb y x) (get_or right (j + 1) 0) y
      → Going op left right kept₀ (set kept k m) x' y' (i + bool_byte (leb x y)) (j + bool_byte (leb y x)) (k + bool_byte b) (t + 1)
  Going_turn ex ey =
      record {
        same = length-set kept k m ∙ g.same;
        first = omega (arith, g.first, bool_most (leb x y));
        second = omega (arith, g.second, bool_most (leb y x));
        few = omega (arith, g.few, bool_most b);
        first_next = ex ∙ next_number (leb x y) left i x g.first_next;
        second_next = ey ∙ next_number (leb y x) right j y g.second_next;
        went = turn_Went;
      }

  -- a turn, and it is the last
  pub going_end : Merges op left right (record { left = i + bool_byte (leb x y); right = j + bool_byte (leb y x); kept = k + bool_byte b }) (set kept k m)
  going_end =
      record {
        first = omega (arith, g.first, bool_most (leb x y));
        second = omega (arith, g.second, bool_most (leb y x));
        some = omega (arith, one_taken x y);
        within = omega (arith, g.few, bool_most b, length-set kept k m, g.same);
        went = turn_Went;
      }
