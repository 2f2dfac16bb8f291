-- `pair_dense::joined` meets its contract, operation by operation. Assumes nothing.
use mathlib.Core.Path.{sym, ap}
use lib.Bits.{and_le_l}
use Rattle.pair_operation.specs.declared.Operation.{Operation}
use Rattle.pair_dense.specs.Inside.Words.{word_of}
use Rattle.pair_dense.proofs.joined.Goals as goal

pub overflow_sub-result : goal.overflow_sub-result
overflow_sub-result c = and_le_l c.args.a c.args.b

pub returns-in-Both : goal.returns-in-Both
returns-in-Both c = sym (ap (λ (o : Operation). word_of o c.args.a c.args.b) c.in-Both.is)

pub returns-in-Either : goal.returns-in-Either
returns-in-Either c = sym (ap (λ (o : Operation). word_of o c.args.a c.args.b) c.in-Either.is)

pub returns-in-Without : goal.returns-in-Without
returns-in-Without c = sym (ap (λ (o : Operation). word_of o c.args.a c.args.b) c.in-Without.is)
