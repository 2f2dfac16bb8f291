-- The variable-byte code of document 01. Its definitions stand in `Code.Open`, and are shut under the names below: the crates above can name
-- them and not open them, and go by `Code.Read` and the `Laws` of `proofs/`, and by nothing else. `Code.Inside` has the equations that this
-- crate's own functions go by.
pub mod Open
pub mod Inside
pub mod Read
-- the values of one, two and three groups of seven bits, the numbers that have a code, and the high bit of a byte
pub use Rattle.code.specs.Code.Open.{one_group, two_groups, three_groups, code_values, flag}
-- the code of a number, its size, and what stands at a place
pub use Rattle.code.specs.Code.Open.{code_of, code_size, reading, read_at}
