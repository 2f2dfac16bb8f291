-- What is answered about an image of a list, and what is written for one, in words of the plain list.
use Rattle.std.specs.Prelude.{◌≡◌, List, ◌++◌, ℕ, ◌≤◌, ◌<◌, length, get_or, drop, Result, Ok}
use Rattle.cut.specs.Cut.{Block, Cuts, Earlier}
use Rattle.image.specs.Grammar.{image_of}
use Rattle.ask.specs.declared.Cursor.{Cursor}
use Rattle.ask.specs.declared.First.{First}
use Rattle.ask.specs.declared.First.TheVariants.{Found, Nothing}
use Rattle.ask.proofs.Walks.{walk_from}
use Rattle.ask.specs.declared.Next.{Next}
use Rattle.demands.specs.Promises.{Read, Rank, FirstAt, Start, Move, SkipTo}
use Rattle.rules.specs.declared.Refusal.{Refusal}

-- `j` is the first rank, from `k` on, whose step is at least `x`, or the number of steps where there is none
pub record FirstRank (xs : List ℕ) (k x j : ℕ) : Type 0 where
  pub from : k ≤ j
  pub within : j ≤ length xs
  pub reaches : j < length xs → x ≤ get_or xs j 0
  pub passed : (i : ℕ) → k ≤ i → i < j → get_or xs i 0 < x

-- the answers about the bytes `s` are those of the list `xs`: the steps read back into a buffer with room, the step at a rank, the first step
-- at or after a bound with its rank or nothing, where a cursor skips to, and what a cursor gives from the start on
pub record Answers (s xs : List ℕ) : Type 0 where
  pub steps : (steps steps' : List ℕ) (r : Result ℕ Refusal) → length xs ≤ length steps → Read (s, steps) (r, steps')
      → (r ≡ Ok (length xs)) × (steps' ≡ xs ++ drop (length xs) steps)
  pub rank : (k : ℕ) (r : Result ℕ Refusal) → k < length xs → Rank (s, k) r → r ≡ Ok (get_or xs k 0)
  pub first : (x k : ℕ) (r : First) → FirstRank xs 0 x k → k < length xs → FirstAt (s, x) r
      → r ≡ Found (record { step = get_or xs k 0; rank = k })
  pub nothing : (x : ℕ) (r : First) → FirstRank xs 0 x (length xs) → FirstAt (s, x) r → r ≡ Nothing
  pub skip : (k x j : ℕ) (r : Result Cursor Refusal) → FirstRank xs k x j → SkipTo (k, s, x) r → r ≡ Ok (record { rank = j })
  pub walk : (next : Cursor → Result Next Refusal) (p : Result Cursor Refusal) (t : ℕ) → ((c : Cursor) → Move (c.rank, s) (next c)) → Start s p → length xs ≤ t
      → walk_from next t p ≡ xs

-- `b` is the shortest image that any cut of `xs` can have, and of those as short none comes before it in the tie order
pub record Shortest (xs b : List ℕ) : Type 0 where
  pub cut : List Block
  pub cuts : Cuts 0 (length xs) cut
  pub image : image_of xs cut ≡ b
  pub least : (other : List Block) → Cuts 0 (length xs) other → length b ≤ length (image_of xs other)
  pub tie : (other : List Block) → Cuts 0 (length xs) other → length (image_of xs other) ≡ length b → Earlier other cut → ⊥
