-- The promises of the public functions, each as a relation between what goes in and what comes out, lent buffers before and after included.
use Rattle.std.specs.Prelude.{◌≡◌, List, ℕ, take, Result, Ok}
use Rattle.clock.specs.Clock as clock
use Rattle.clock.specs.declared.Time.{Time}
use Rattle.read.specs.Read as read
use Rattle.ask.specs.declared.First.{First}
use Rattle.ask.specs.Rank as rank
use Rattle.ask.specs.First as first
use Rattle.ask.specs.Cursor as cursor
use Rattle.ask.specs.declared.Next.{Next}
use Rattle.ask.specs.declared.Cursor.{Cursor}
use Rattle.write.specs.Promise as write
use Rattle.write.specs.declared.Counted.{Counted}
use Rattle.pair_operation.specs.declared.Operation.{Operation}
use Rattle.pair.specs.Promise as pair
use Rattle.rules.specs.declared.Refusal.{Refusal}

-- ---- the promises

-- a step
abbrev pub Clock : ℕ → Result Time Refusal → Type 0
Clock step r = clock.paper_of r ≡ clock.promised step

-- an image
abbrev pub Check : List ℕ → Result ℕ Refusal → Type 0
Check image r = read.paper_of r ≡ read.check_promise image

-- an image and a step buffer; an answer and the step buffer
abbrev pub Read : List ℕ × List ℕ → Result ℕ Refusal × List ℕ → Type 0
Read (image, steps) (r, steps') = (read.paper_of r ≡ read.read_promise image steps) × (steps' ≡ read.read_steps image steps)

-- an image and a rank
abbrev pub Rank : List ℕ × ℕ → Result ℕ Refusal → Type 0
Rank (image, k) r = rank.paper_of r ≡ rank.promised image k

-- an image and a bound
abbrev pub FirstAt : List ℕ × ℕ → First → Type 0
FirstAt (image, x) r = first.paper_of r ≡ first.promised image x

-- an image
abbrev pub Start : List ℕ → Result Cursor Refusal → Type 0
Start image r = cursor.placed_paper r ≡ cursor.start_promise image

-- a cursor's rank and an image
abbrev pub Move : ℕ × List ℕ → Result Next Refusal → Type 0
Move (k, image) r = cursor.next_paper r ≡ cursor.next_promise k image

-- a cursor's rank, an image and a bound
abbrev pub SkipTo : ℕ × List ℕ × ℕ → Result Cursor Refusal → Type 0
SkipTo (k, image, x) r = cursor.placed_paper r ≡ cursor.skip_promise k image x

-- a list, a work area and an output; an answer, the work area and the output
abbrev pub Write : List ℕ × List ℕ × List ℕ → Result Counted Refusal × List ℕ × List ℕ → Type 0
Write (xs, work, out) (r, work', out') = write.Promise xs work out r work' out'

-- an operation, two images, a step buffer, a work area and an output; an answer and the three buffers
abbrev pub Pair : Operation × List ℕ × List ℕ × List ℕ × List ℕ × List ℕ → Result Counted Refusal × List ℕ × List ℕ × List ℕ → Type 0
Pair (op, one, two, steps, work, out) (r, steps', work', out') = pair.Promise op one two steps work out r steps' work' out'

-- a promise settles each input: there is an outcome that it allows, and two that it allows are equal
pub record Settles {I O : Type 0} (Promise : I → O → Type 0) : Type 0 where
  pub some : (i : I) → (o : O) × Promise i o
  pub only : (i : I) (a b : O) → Promise i a → Promise i b → a ≡ b

-- ---- what acceptance leaves in the output

-- writing the list `xs` was accepted, in some buffers, and `b` are the bytes of its image
pub record Wrote (xs b : List ℕ) : Type 0 where
  pub work : List ℕ
  pub out : List ℕ
  pub work' : List ℕ
  pub out' : List ℕ
  pub steps : ℕ
  pub bytes : ℕ
  pub kept : Write (xs, work, out) (Ok (record { steps = steps; bytes = bytes }), work', out')
  pub front : take bytes out' ≡ b

-- an operation on two images was accepted, in some buffers, and `b` are the bytes of its image
pub record Made (op : Operation) (one two b : List ℕ) : Type 0 where
  pub steps : List ℕ
  pub work : List ℕ
  pub out : List ℕ
  pub steps' : List ℕ
  pub work' : List ℕ
  pub out' : List ℕ
  pub count : ℕ
  pub bytes : ℕ
  pub kept : Pair (op, one, two, steps, work, out) (Ok (record { steps = count; bytes = bytes }), steps', work', out')
  pub front : take bytes out' ≡ b
