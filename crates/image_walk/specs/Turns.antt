-- What a walk has left when its word, or its code, is passed, and the turn that reads on there.
use Rattle.std.specs.Prelude.{◌≡◌, List, ◌++◌, ℕ, ◌+◌, ◌-◌, ◌*◌, ◌^◌, ◌≤◌, ◌<◌, eqb, length}
use Rattle.std.specs.Int.Count.{count_trailing_zeros}
use Rattle.lists.specs.Choice.{pick}
use Rattle.lists.specs.Rising.{beyond}
use Rattle.rules.specs.Limits.{no_step}
use Rattle.row.specs.Row.{byte_bits}
use Rattle.row.specs.Words.{word_bits}
use Rattle.image.specs.Entry.{before_at}
use Rattle.image_walk.specs.declared.Walk.{Walk}
use Rattle.image_walk.specs.declared.Rest.{Rest}
use Rattle.image_walk.specs.Blocks.{later, Blocks}
use Rattle.image_walk.specs.Walk.{codes_in, Whole, row_in, ahead, Stands}

-- the walk at the lowest one of a word, and the walk at a step among codes
abbrev pub met_walk : ℕ → ℕ → ℕ → ℕ → ℕ → Walk
met_walk low bits at end block =
    record { step = low + count_trailing_zeros word_bits bits; low = low; bits = bits; at = at; end = end; block = block }

abbrev pub coded_walk : ℕ → ℕ → ℕ → ℕ → Walk
coded_walk step at end block = record { step = step; low = step; bits = 0; at = at; end = end; block = block }

-- the steps of what is left of the open block
unfoldable pub left : List ℕ → Rest → List ℕ
left pay p = pick (eqb p.kind 0) (codes_in p.next pay p.at p.end) (row_in p.from pay p.at p.end)

-- what is left of the open block can be read
pub record Readable (pay : List ℕ) (p : Rest) : Type 0 where
  pub small : beyond p.next (left pay p) ≤ no_step
  pub few : length pay < 2 ^ 32
  pub within : p.end ≤ length pay
  pub codes : p.kind ≡ 0 → Whole p.next pay p.at p.end
  pub order : (p.kind ≡ 0 → ⊥) → p.next ≤ p.from
  pub tight : (p.kind ≡ 0 → ⊥) → p.at < p.end → p.from + byte_bits * (p.end - p.at) < beyond p.next (left pay p) + byte_bits

-- and it ends where the next block begins
pub record Left (s pay : List ℕ) (p : Rest) : Type 0 where
  pub readable : Readable pay p
  pub blocks : Blocks s pay p.block p.end
  pub last : beyond p.next (left pay p) ≡ (before_at s p.block).next

-- the steps of what is left of the open block and of the blocks after it
abbrev pub onward : List ℕ → List ℕ → Rest → List ℕ
onward s pay p = left pay p ++ later s pay p.block

-- the walk `r` stands at the first of the steps that were ahead
pub record Turned (s pay : List ℕ) (p : Rest) (r : Walk) : Type 0 where
  pub stands : Stands s pay r
  pub is : ahead s pay r ≡ onward s pay p
