-- The answers about an accepted image are those of its list; an image is accepted with n steps exactly when it is that of a list of n steps;
-- and what writing leaves in the output is the shortest image of the list.
-- Assumes nothing.
use mathlib.Core.Path.{◌≡◌, refl, sym, ap, ◌∙◌, subst}
use mathlib.Core.Logic.{◌↔◌}
use mathlib.Core.List.{List, [], ◌∷◌, ◌++◌}
use Prim.Native.Nat.{ℕ, ◌+◌, ◌-◌, ◌≤◌, ◌<◌}
use native.Mathlib.Omega.{arith}
use borrow.Author.Tests.{lt-ltb, le-ltb}
use lib.ListN.{length, get_or, drop, length-drop}
use lib.Seq.{get_or-drop}
use Rattle.std.specs.Prelude.{Result, Ok}
use Rattle.lists.specs.Below.{below}
use Rattle.lists.specs.Bytes.{Bytes}
use Rattle.lists.proofs.Choice.{by_lt, pick_yes, pick_no}
use Rattle.lists.proofs.Below.{below-le, below_under, below_reach}
use Rattle.rules.specs.Listed.{Listed}
use Rattle.rules.specs.Paper.{accepting}
use Rattle.rules.specs.declared.Refusal.{Refusal}
use Rattle.image.specs.Grammar as image
use Rattle.image.specs.Verdict.{taken, verdict}
use Rattle.image.proofs.Accepted.{verdict-Accepted, Accepted_taken, cut_Accepted}
use Rattle.read.specs.Read as read
use Rattle.read.proofs.Decides as checks
use Rattle.read.proofs.Answers.{answer_Yes}
use Rattle.ask.specs.declared.First.{First}
use Rattle.ask.specs.declared.First.TheVariants.{Found, Nothing}
use Rattle.ask.specs.Rank as rank
use Rattle.ask.specs.First as first
use Rattle.ask.specs.Cursor as cursor
use Rattle.ask.proofs.Decides.{ranked_one, first_one, placed_one}
use Rattle.ask.proofs.Walks.{walk_list}
use Rattle.ask.specs.declared.Cursor.{Cursor}
use Rattle.write.specs.Written.{Written}
use Rattle.write.proofs.Written.{written_Accepted, written_least, written_first}
use Rattle.write.proofs.RoundTrip.{accepted_placed}
use Rattle.demands.specs.Promises.{Check, Read, Rank, FirstAt, SkipTo, Wrote}
use Rattle.demands.specs.Inputs.{ImageWhere}
use Rattle.demands.specs.Plain.{FirstRank, Answers, Shortest}

-- ---- accepted exactly when

pub Accepted_exactly : {s : List ℕ} → Bytes s → (n : ℕ) → Check s (Ok n) ↔ ImageWhere s (λ xs. length xs ≡ n)
Accepted_exactly {s} w n = (there, back)
  where
    there : Check s (Ok n) → ImageWhere s (λ xs. length xs ≡ n)
    there c = let y = answer_Yes s c refl in (y.list, (verdict-Accepted s y.list w).0 y.is, y.count)

    back : ImageWhere s (λ xs. length xs ≡ n) → Check s (Ok n)
    back (xs, a, e) = ap (λ (k : ℕ). accepting (k ∷ [])) (sym e) ∙ sym (ap read.check_paper (Accepted_taken a))

-- ---- the first rank

-- it is where the bound falls in what is left from `k` on
first_rank : (xs : List ℕ) (k x j : ℕ) → FirstRank xs k x j → k + below (drop k xs) x ≡ j
first_rank xs k x j f =
    by_lt (k + b) j
    (λ l. absurd (omega (arith, below_reach (drop k xs) x (omega (arith, f.within, size)), at b, f.passed (k + b) (omega arith) l)))
    (λ g. by_lt j (k + b)
    (λ l. absurd (omega (arith, below_under (drop k xs) x (j - k) (omega (arith, f.from)), at_j, f.reaches (omega (arith, most, f.from, f.within, size)))))
    (λ h. omega arith))
  where
    b : ℕ
    b = below (drop k xs) x

    size : length (drop k xs) ≡ length xs - k
    size = length-drop k xs

    most : b ≤ length (drop k xs)
    most = below-le (drop k xs) x

    at : (i : ℕ) → get_or (drop k xs) i 0 ≡ get_or xs (k + i) 0
    at i = get_or-drop k xs i 0

    at_j : get_or (drop k xs) (j - k) 0 ≡ get_or xs j 0
    at_j = let e : k + (j - k) ≡ j = omega (arith, f.from) in at (j - k) ∙ ap (λ (i : ℕ). get_or xs i 0) e

-- ---- the answers

module _ {s xs : List ℕ} (a : image.Accepted s xs) where
  e : verdict s ≡ taken xs
  e = Accepted_taken a

  steps_of : (steps steps' : List ℕ) (r : Result ℕ Refusal) → length xs ≤ length steps → Read (s, steps) (r, steps')
      → (r ≡ Ok (length xs)) × (steps' ≡ xs ++ drop (length xs) steps)
  steps_of steps steps' r h (p, q) = (
    checks.paper_one r (Ok (length xs)) (p ∙ ap (read.read_paper (length steps)) e ∙ pick_no _ _ _ (le-ltb (length steps) (length xs) h)),
    q ∙ ap (read.steps_after steps) e ∙ pick_no _ _ _ (le-ltb (length steps) (length xs) h),
  )

  Rank_of : (k : ℕ) (r : Result ℕ Refusal) → k < length xs → Rank (s, k) r → r ≡ Ok (get_or xs k 0)
  Rank_of k r h p = ranked_one r (Ok (get_or xs k 0)) (p ∙ ap (rank.rank_in k) e ∙ pick_yes _ _ _ (lt-ltb k (length xs) h))

  first_is : (x k : ℕ) (r : First) → FirstRank xs 0 x k → FirstAt (s, x) r → first.paper_of r ≡ first.at_rank xs k
  first_is x k r f p = p ∙ ap (first.first_in x) e ∙ ap (first.at_rank xs) (b ∙ first_rank xs 0 x k f)
    where
      b : below xs x ≡ 0 + below (drop 0 xs) x
      b = omega arith

  first_of : (x k : ℕ) (r : First) → FirstRank xs 0 x k → k < length xs → FirstAt (s, x) r → r ≡ Found (record { step = get_or xs k 0; rank = k })
  first_of x k r f h p =
      first_one r (Found (record { step = get_or xs k 0; rank = k })) (first_is x k r f p ∙ pick_yes _ _ _ (lt-ltb k (length xs) h))

  nothing_of : (x : ℕ) (r : First) → FirstRank xs 0 x (length xs) → FirstAt (s, x) r → r ≡ Nothing
  nothing_of x r f p =
      first_one r Nothing (first_is x (length xs) r f p ∙ pick_no _ _ _ (le-ltb (length xs) (length xs) (omega arith)))

  skip_of : (k x j : ℕ) (r : Result Cursor Refusal) → FirstRank xs k x j → SkipTo (k, s, x) r → r ≡ Ok (record { rank = j })
  skip_of k x j r f p =
      placed_one r (Ok (record { rank = j }))
      (p
      ∙ ap (cursor.skip_in k x) e
      ∙ pick_no _ _ _ (le-ltb (length xs) k (omega (arith, f.from, f.within)))
      ∙ ap cursor.standing (first_rank xs k x j f))

  -- THE ANSWERS ARE THOSE OF THE LIST
  pub answers_of : Answers s xs
  answers_of =
      record {
        steps = steps_of;
        rank = Rank_of;
        first = first_of;
        nothing = nothing_of;
        skip = skip_of;
        walk = λ next p t kept start h. walk_list s xs e next (λ c l. kept c) p start t h;
      }

-- ---- what is written

shortest : {xs b : List ℕ} → Listed xs → Written xs b → Shortest xs b
shortest {xs} l w =
    record {
      cut = w.cut;
      cuts = w.best.cut;
      image = w.image;
      least = λ other c. written_least w (cut_Accepted xs other l c);
      tie = written_first w;
    }

-- WHAT IS WRITTEN IS THE SHORTEST IMAGE, AND IT IS READ BACK
pub Wrote-Shortest : {xs b : List ℕ} → Wrote xs b → Shortest xs b × image.Accepted b xs × Answers b xs
Wrote-Shortest {xs} {b} w =
    let r = accepted_placed w.kept in
    let v = subst (Written xs) w.front r.written in
    let a = written_Accepted v r.listed in
    (shortest r.listed v, a, answers_of a)
