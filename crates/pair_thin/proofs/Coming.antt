-- The steps that are to come from a feed are the ones that it was fed with, so that a round of turns on two feeds is one on two lists.
-- Assumes nothing.
use mathlib.Core.Path.{◌≡◌, refl, sym, ap, ◌∙◌, subst}
use mathlib.Core.Logic.{inl, inr}
use mathlib.Core.List.{List, [], ◌∷◌, ◌++◌}
use Prim.Native.Nat.{ℕ, suc, ◌+◌, ◌-◌, ◌≤◌, ◌<◌, min}
use native.Mathlib.Omega.{arith}
use lib.Dec.{ltb}
use lib.ListN.{length, get_or, take, drop, length-append, length-take, length-drop, take-append-drop}
use lib.Seq.{drop-nil, get_or-take, get_or-drop, ext_get_or}
use borrow.Author.Tests.{lt-ltb, le-ltb}
use Rattle.lists.specs.Bytes.{Bytes}
use Rattle.lists.specs.Parts.{part}
use Rattle.lists.proofs.Choice.{pick_yes, pick_no, by_lt}
use Rattle.lists.proofs.Parts.{length_part, get_or_within}
use Rattle.lists.proofs.Rising.{Rising-beyond, beyond-le}
use Rattle.rules.specs.Limits.{no_step}
use Rattle.image.specs.Taken.{steps_of, Taken}
use Rattle.image.proofs.Taken.{steps_Listed}
use Rattle.image_walk.specs.Walk.{ahead, Stands}
use Rattle.pair_operation.specs.declared.Operation.{Operation}
use Rattle.pair_operation.specs.Result.{result_of}
use Rattle.pair_operation.proofs.Result.{length_result}
use Rattle.pair_operation.proofs.Merging.{Below, merge_end}
use Rattle.pair_feed.specs.declared.Feed.{Feed}
use Rattle.pair_feed.specs.Feed.{Fed}
use Rattle.pair_thin.specs.declared.Progress.{Progress}
use Rattle.pair_thin.specs.declared.Sides.{Sides}
use Rattle.pair_thin.specs.Inside.Shown.{Shows, Shown, Merges}
use Rattle.pair_thin.specs.Inside.Round.{to_come, Comes, Ready, result_to_come, Goes}
use Rattle.pair_feed.proofs.Taking.{Fed-past}
use Rattle.pair_thin.proofs.Turning.{head_get_or}

-- ---- one feed

module _ (s pay : List ℕ) (f : Feed) (steps : List ℕ) where
  come_shown : get_or steps f.at 0 < no_step → to_come s pay f steps ≡ part steps f.at f.end ++ ahead s pay f.walk
  unfolding to_come
  come_shown h =
      ap (λ (l : List ℕ). l ++ ahead s pay f.walk) (pick_yes (ltb (get_or steps f.at 0) no_step) _ _ (lt-ltb (get_or steps f.at 0) no_step h))

  come_over : no_step ≤ get_or steps f.at 0 → to_come s pay f steps ≡ ahead s pay f.walk
  unfolding to_come
  come_over h =
      ap (λ (l : List ℕ). l ++ ahead s pay f.walk) (pick_no (ltb (get_or steps f.at 0) no_step) _ _ (le-ltb (get_or steps f.at 0) no_step h))

module _ {s pay : List ℕ} {f : Feed} {steps : List ℕ} where
  -- the number that a feed shows first
  front : {xs : List ℕ} → Fed s pay f steps xs → f.at < f.end → get_or steps f.at 0 ≡ get_or xs 0 no_step
  front d h = let z : f.at ≡ f.at + 0 = omega arith in ap (λ (n : ℕ). get_or steps n 0) z ∙ d.shows 0 (omega arith)

  -- what a feed shows of its list
  part-Shows : {xs : List ℕ} → Fed s pay f steps xs → Shows (part steps f.at f.end) xs
  part-Shows d i h =
      let n = length_part steps f.at f.end d.order d.within in
      get_or-take (f.end - f.at) (drop f.at steps) i 0 (omega arith) ∙ get_or-drop f.at steps i 0 ∙ d.shows i (omega arith)

  part_front : {xs : List ℕ} → Fed s pay f steps xs → 0 < length xs → part steps f.at f.end ≡ take (f.end - f.at) xs
  part_front {xs} d h =
      let n = length_part steps f.at f.end d.order d.within in
      let k : ℕ = f.end - f.at in
      ext_get_or 0 (part steps f.at f.end) (take k xs) (omega (arith, length-take k xs, d.real h))
      (λ i l.
      part-Shows d i l ∙ get_or_within xs i no_step 0 (omega (arith, d.real h)) ∙ sym (get_or-take k xs i 0 (omega arith)))

  -- WHAT A FEED WAS FED WITH IS TO COME
  pub come_is : {o : ℕ} (xs : List ℕ) → Fed s pay f steps xs → Below o no_step xs → f.at < f.end → to_come s pay f steps ≡ xs
  come_is [] d w h = come_over s pay f steps (omega (arith, front d h)) ∙ d.rest ∙ drop-nil (f.end - f.at)
  come_is (x ∷ xs) d w h =
      let k : ℕ = f.end - f.at in
      come_shown s pay f steps (omega (arith, front d h, Rising-beyond (suc x) xs w.rising.1, w.small))
      ∙ ap (λ (l : List ℕ). l ++ ahead s pay f.walk) (part_front d (omega arith))
      ∙ ap (λ (l : List ℕ). take k (x ∷ xs) ++ l) d.rest
      ∙ take-append-drop k (x ∷ xs)

  pub comes : {o : ℕ} (xs : List ℕ) → Fed s pay f steps xs → Below o no_step xs → f.at < f.end → Comes o s pay f steps
  comes {o} xs d w h =
      let e = sym (come_is xs d w h) in
      record { fed = subst (Fed s pay f steps) e d; below = subst (Below o no_step) e w; shows = h }

  -- where a feed shows a step, it shows no more numbers than steps are to come
  real : {o : ℕ} → Comes o s pay f steps → get_or steps f.at 0 < no_step → length (part steps f.at f.end) ≤ length (to_come s pay f steps)
  real c h =
      let n = length_part steps f.at f.end c.fed.order c.fed.within in
      omega (arith, c.fed.real (some (to_come s pay f steps) (omega (arith, front c.fed c.shows))))
    where
      some : (xs : List ℕ) → get_or xs 0 no_step < no_step → 0 < length xs
      some [] l = absurd (omega arith)
      some (x ∷ xs) l = omega arith

-- a feed at the first step of an accepted image
pub Comes_first : {s pay : List ℕ} {f : Feed} {steps : List ℕ} → Bytes s → Taken s → Fed s pay f steps (steps_of s) × (f.at < f.end)
    → Comes 0 s pay f steps × (to_come s pay f steps ≡ steps_of s)
Comes_first {s} {pay} {f} {steps} b t d =
    let l = steps_Listed s b t in
    let w : Below 0 no_step (steps_of s) = record { rising = l.rising; small = omega (arith, l.small) } in
    (comes (steps_of s) d.0 w d.1, come_is (steps_of s) d.0 w d.1)

-- ---- two feeds

-- a feed after some of its numbers were taken
abbrev pub past : Feed → ℕ → Feed
past f n = record { walk = f.walk; at = f.at + n; end = f.end }

module _ {s pay t tail : List ℕ} {m : Sides} {left right : List ℕ} (w : Ready s pay t tail m left right) where
  abbrev xs : List ℕ
  xs = to_come s pay m.left left

  abbrev ys : List ℕ
  ys = to_come t tail m.right right

  abbrev numbers : List ℕ
  numbers = part left m.left.at m.left.end

  abbrev others : List ℕ
  others = part right m.right.at m.right.end

  shown : m.next < no_step → Shown numbers others xs ys
  shown h =
      record {
        from = w.from;
        first_below = w.first.below;
        second_below = w.second.below;
        first = part-Shows w.first.fed;
        second = part-Shows w.second.fed;
        real =
            by_lt (get_or left m.left.at 0) no_step (λ l. inl (real w.first l))
            (λ l. inr (real w.second (omega (arith, w.lower))));
      }

  -- no step is to come
  pub ready_end : (op : Operation) → no_step ≤ m.next → result_to_come op s pay t tail m left right ≡ []
  ready_end op h =
      let e = head_get_or xs ∙ sym (front w.first.fed w.first.shows) in
      let d = head_get_or ys ∙ sym (front w.second.fed w.second.shows) in
      merge_end no_step op w.from xs ys w.first.below w.second.below (omega (arith, e, w.lower)) (omega (arith, d, w.lower))

  -- the result is not too long to be counted
  pub ready_few : (op : Operation) → length (result_to_come op s pay t tail m left right) ≤ no_step
  ready_few op =
      length_result op xs ys no_step (omega (arith, beyond-le {o = 0} {p = w.from} xs (omega arith), w.first.below.small))
      (omega (arith, beyond-le {o = 0} {p = w.from} ys (omega arith), w.second.below.small))

  -- some turns, by what both feeds show
  module _ {op : Operation} {p : Progress} {kept : List ℕ} (g : Merges op numbers others p kept) where
    pub first_past : m.left.at + p.left ≤ m.left.end
    first_past =
        omega (arith, g.first, w.first.shows, length_part left m.left.at m.left.end w.first.fed.order w.first.fed.within)

    pub second_past : m.right.at + p.right ≤ m.right.end
    second_past =
        omega (arith, g.second, w.second.shows, length_part right m.right.at m.right.end w.second.fed.order w.second.fed.within)

    -- the feeds past the numbers that were taken
    module _ (f h : Feed) (ef : f ≡ past m.left p.left) (eh : h ≡ past m.right p.right) where
      pub first_Stands : Stands s pay f.walk × ((f.at ≤ f.end) × (f.end ≤ length left))
      first_Stands =
          subst (λ (v : Feed). Stands s pay v.walk × ((v.at ≤ v.end) × (v.end ≤ length left))) (sym ef)
          (w.first.fed.stands, (first_past, w.first.fed.within))

      pub second_Stands : Stands t tail h.walk × ((h.at ≤ h.end) × (h.end ≤ length right))
      second_Stands =
          subst (λ (v : Feed). Stands t tail v.walk × ((v.at ≤ v.end) × (v.end ≤ length right))) (sym eh)
          (w.second.fed.stands, (second_past, w.second.fed.within))

      module _ (a b : Feed) (left' right' : List ℕ)
          (u : ((zs : List ℕ) → Fed s pay f left zs → Fed s pay a left' zs) × (a.at < a.end))
          (v : ((zs : List ℕ) → Fed t tail h right zs → Fed t tail b right' zs) × (b.at < b.end)) where
        pub first_Fed : Fed s pay a left' (drop p.left xs)
        first_Fed =
            u.0 (drop p.left xs)
            (subst (λ (v : Feed). Fed s pay v left (drop p.left xs)) (sym ef) (Fed-past w.first.fed p.left (omega (arith, first_past))))

        pub second_Fed : Fed t tail b right' (drop p.right ys)
        second_Fed =
            v.0 (drop p.right ys)
            (subst (λ (v : Feed). Fed t tail v right (drop p.right ys)) (sym eh) (Fed-past w.second.fed p.right (omega (arith, second_past))))

        -- A ROUND: each feed shows a number again
        pub round_Goes : (next : ℕ) → m.next < no_step → next ≡ min (get_or left' a.at 0) (get_or right' b.at 0)
            → Goes op s pay t tail m left right (record { left = a; right = b; next = next; kept = p.kept }) left' right' kept
        round_Goes next l e =
            let k = g.went xs ys (shown l) in
            let ea = come_is (drop p.left xs) first_Fed k.first_below u.1 in
            let eb = come_is (drop p.right ys) second_Fed k.second_below v.1 in
            record {
              ready =
                  record {
                    from = k.from;
                    first = comes (drop p.left xs) first_Fed k.first_below u.1;
                    second = comes (drop p.right ys) second_Fed k.second_below v.1;
                    lower = e;
                  };
              within = g.within;
              is =
                  k.is
                  ∙ ap (λ (l : List ℕ). take p.kept kept ++ result_of op l (drop p.right ys)) (sym ea)
                  ∙ ap (λ (l : List ℕ). take p.kept kept ++ result_of op (to_come s pay a left') l) (sym eb);
              less =
                  omega (
                    arith,
                    ap length ea,
                    ap length eb,
                    length-drop p.left xs,
                    length-drop p.right ys,
                    k.first,
                    k.second,
                    g.some,
                  );
            }

-- ---- round after round

-- the two sides at the first step of each image
abbrev pub Starts : (s pay t tail : List ℕ) → Sides → (left right : List ℕ) → Type 0
Starts s pay t tail m left right =
    Ready s pay t tail m left right × ((to_come s pay m.left left ≡ steps_of s) × (to_come t tail m.right right ≡ steps_of t))

pub start_is : (op : Operation) {s pay t tail : List ℕ} {m : Sides} {left right : List ℕ} → Starts s pay t tail m left right
    → result_to_come op s pay t tail m left right ≡ result_of op (steps_of s) (steps_of t)
start_is op {s} {pay} {t} {tail} {m} {left} {right} w =
    ap (λ (l : List ℕ). result_of op l (to_come t tail m.right right)) w.1.0 ∙ ap (result_of op (steps_of s)) w.1.1

-- a loop of rounds: the buffers are as long as they were
pub record Rounds (op : Operation) (s pay t tail left₀ right₀ kept₀ : List ℕ) (m : Sides) (left right kept : List ℕ) : Type 0 where
  pub ready : Ready s pay t tail m left right
  pub first : length left ≡ length left₀
  pub second : length right ≡ length right₀
  pub third : length kept ≡ length kept₀
  pub few : length (result_of op (steps_of s) (steps_of t)) ≤ no_step

pub Rounds_start : (op : Operation) {s pay t tail left₀ right₀ : List ℕ} (kept : List ℕ) {m : Sides} {left right : List ℕ}
    → Starts s pay t tail m left right → length left ≡ length left₀ → length right ≡ length right₀
    → Rounds op s pay t tail left₀ right₀ kept m left right kept
Rounds_start op kept w p q =
    record { ready = w.0; first = p; second = q; third = refl; few = omega (arith, ap length (start_is op w), ready_few w.0 op) }

module _ {op : Operation} {s pay t tail : List ℕ} {m : Sides} {left right : List ℕ} {r : Sides} {left' right' kept' : List ℕ}
    (g : Goes op s pay t tail m left right r left' right' kept') where
  pub Rounds_turn : {left₀ right₀ kept₀ kept : List ℕ} → Rounds op s pay t tail left₀ right₀ kept₀ m left right kept
      → length left' ≡ length left → length right' ≡ length right → length kept' ≡ length kept
      → Rounds op s pay t tail left₀ right₀ kept₀ r left' right' kept'
  Rounds_turn w p q k = record { ready = g.ready; first = p ∙ w.first; second = q ∙ w.second; third = k ∙ w.third; few = w.few }

  -- a round counts what it keeps
  pub rounds_counted : (n : ℕ) (zs : List ℕ) → n + length (result_to_come op s pay t tail m left right) ≡ length zs
      → n + r.kept + length (result_to_come op s pay t tail r left' right') ≡ length zs
  rounds_counted n zs e =
      omega (
        arith,
        ap length g.is,
        length-append (take r.kept kept') (result_to_come op s pay t tail r left' right'),
        length-take r.kept kept',
        g.within,
      )
