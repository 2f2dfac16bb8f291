-- What the functions below `next` promise each other: a move within the loaded word or to a code of one byte, and the steps of a turn where no
-- such move is left.
use Rattle.std.specs.Prelude.{◌≡◌, List, [], ◌∷◌, ℕ, ◌+◌, ◌≤◌, ◌<◌, eqb, Option, Some, None}
use Rattle.lists.specs.Choice.{pick}
use Rattle.rules.specs.Limits.{no_step}
use Rattle.row.specs.Words.{word_bits}
use Rattle.image_walk.specs.declared.Walk.{Walk}
use Rattle.image_walk.specs.declared.Rest.{Rest}
use Rattle.image_walk.specs.Walk.{others, here, Open, Placed}
use Rattle.image_walk.specs.Turns.{met_walk, left, Left, onward}

-- what a walk has left when its word, or its code, is passed
abbrev pub rest_of : Walk → Rest
rest_of w = record { next = w.step + 1; from = w.low + word_bits; kind = w.bits; at = w.at; end = w.end; block = w.block }

-- something is left of the open block of `q`, which has the steps of `p`; or nothing is left at all
pub record Current (s pay : List ℕ) (p q : Rest) : Type 0 where
  pub left : Left s pay q
  pub same : onward s pay p ≡ onward s pay q
  pub none : q.end ≤ q.at → onward s pay q ≡ []

-- the walk `r` stands at the first step of what is left of the open block
pub record Met (pay : List ℕ) (p : Rest) (r : Walk) : Type 0 where
  pub block : r.block ≡ p.block
  pub end : r.end ≡ p.end
  pub is : left pay p ≡ r.step ∷ here pay r
  pub stands : Open pay r

-- the walk `v` stands at the step after that of `w`, in the open block
pub record Slid (pay : List ℕ) (w v : Walk) : Type 0 where
  pub block : v.block ≡ w.block
  pub end : v.end ≡ w.end
  pub placed : Placed pay v
  pub on : v.step < no_step
  pub is : here pay w ≡ v.step ∷ here pay v

-- a move within the loaded word: none where no one is left in it
abbrev pub bit_move : Walk → Option Walk
bit_move w = pick (eqb (others w.bits) 0) None (Some (met_walk w.low (others w.bits) w.at w.end w.block))

-- a move: to a walk, or to none where it leads out of what is loaded
abbrev pub Moves : List ℕ → Walk → Option Walk → Type 0
Moves pay w (Some v) = Slid pay w v
Moves pay w None = here pay w ≡ left pay (rest_of w)
