-- What the verdict takes, said of the image: it is accepted with the steps that it stands for, and these are one of document 01's lists.
-- Assumes nothing.
use mathlib.Core.Path.{◌≡◌, sym, ap, ◌∙◌}
use mathlib.Core.List.{List}
use Prim.Native.Nat.{ℕ}
use Rattle.lists.specs.Bytes.{Bytes}
use Rattle.rules.specs.Listed.{Listed}
use Rattle.image.specs.Verdict.{taken, verdict}
use Rattle.image.specs.Taken.{list_in, steps_of, Taken}
use Rattle.image.proofs.Accepted.{verdict-Accepted}

pub taken_is : (s xs : List ℕ) → verdict s ≡ taken xs → Taken s × (steps_of s ≡ xs)
taken_is s xs e = (e ∙ ap taken (sym (ap list_in e)), ap list_in e)

pub steps_Listed : (s : List ℕ) → Bytes s → Taken s → Listed (steps_of s)
steps_Listed s w t = ((verdict-Accepted s (steps_of s) w).0 t).listed
