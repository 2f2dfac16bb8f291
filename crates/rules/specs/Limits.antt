-- The two limits of document 01. They are shut: the crates above can name them and not open them, and go by `Limits.Laws` alone, so that new
-- limits are two new numbers in `Limits.Values` and in the source.
use Rattle.std.specs.Prelude.{ℕ, ◌+◌}
pub mod Values
pub mod Laws
-- the largest step, and the largest number of steps of a list
pub use Rattle.rules.specs.Limits.Values.{largest_step, most_steps}

-- no step: one past the largest
abbrev pub no_step : ℕ
no_step = largest_step + 1
