-- `code::size` meets its contract: by the size of the number, as the definition. Assumes nothing.
use mathlib.Core.Path.{sym}
use native.Mathlib.Omega.{arith}
use Rattle.code.specs.Code.Inside.{size_one, size_two, size_three, size_four}
use Rattle.code.proofs.size.Goals as goal

pub returns-then-x-lt-ONE_GROUP : goal.returns-then-x-lt-ONE_GROUP
returns-then-x-lt-ONE_GROUP c = sym (size_one _ (omega arith))

pub returns-then-x-lt-TWO_GROUPS : goal.returns-then-x-lt-TWO_GROUPS
returns-then-x-lt-TWO_GROUPS c = sym (size_two _ (omega arith) (omega arith))

pub returns-then-x-lt-THREE_GROUPS : goal.returns-then-x-lt-THREE_GROUPS
returns-then-x-lt-THREE_GROUPS c = sym (size_three _ (omega arith) (omega arith))

pub returns : goal.returns
returns c = sym (size_four _ (omega arith))
