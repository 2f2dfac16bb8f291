-- `image_directory::entries` meets its contract. The loop's invariant: the verdict on the directory is that on the entries from `i` on, after `b`.
-- Assumes nothing.
use mathlib.Core.Path.{◌≡◌}
use Rattle.image.specs.Entry.{entry_place, entries_at, start}
use Rattle.image.specs.Verdict.{directory_of}
use Rattle.image_directory.proofs.Ahead.{left}
use Rattle.image_directory.proofs.entries.Given as goal

abbrev pub invariant-loop-i : goal.invariant-loop-i
invariant-loop-i l =
    directory_of l.p start 0 (entries_at l.m l.image (entry_place 0)) ≡ directory_of l.p l.b l.i (left l.image l.m l.i)
