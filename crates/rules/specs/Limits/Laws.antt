-- What the crates above may know of the limits.
use Rattle.std.specs.Prelude.{◌+◌, ◌^◌, ◌≤◌, ◌<◌}
use Rattle.std.proofs.Common.{arith}
use Rattle.rules.specs.Limits.Values.{largest_step, most_steps}

-- a step has a code
pub largest_coded : largest_step < 2 ^ 28
unfolding largest_step
largest_coded = omega arith

-- there is room for a list that is as long as lists may be, and for one that is not empty
pub most_room : most_steps ≤ largest_step + 1
unfolding largest_step most_steps
most_room = omega arith

pub most_some : 0 < most_steps
unfolding most_steps
most_some = omega arith

-- the entries, the codes and the numbers of work of a list are counted in 32 bits
pub most_counted : most_steps ≤ 2 ^ 25
unfolding most_steps
most_counted = omega arith
