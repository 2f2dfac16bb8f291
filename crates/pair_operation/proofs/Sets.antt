-- Laws that users of sets expect, of what an operation keeps: both and either are commutative, associative and idempotent, and the first without
-- nothing is the first.
-- Assumes nothing.
use mathlib.Core.Path.{◌≡◌, refl}
use mathlib.Core.Bool.{Bool, true, false}
use Rattle.pair_operation.specs.declared.Operation.{Operation}
use Rattle.pair_operation.specs.declared.Operation.TheVariants.{Both, Either, Without}
use Rattle.pair_operation.specs.Result.{keeps}

-- the operations that do not tell the first from the second
pub data Even : Operation → Type 0 where
  both : Even Both
  either : Even Either

pub keeps_comm : {op : Operation} → Even op → (p q : Bool) → keeps op p q ≡ keeps op q p
keeps_comm both true true = refl
keeps_comm both true false = refl
keeps_comm both false true = refl
keeps_comm both false false = refl
keeps_comm either true true = refl
keeps_comm either true false = refl
keeps_comm either false true = refl
keeps_comm either false false = refl

pub keeps_assoc : {op : Operation} → Even op → (p q r : Bool) → keeps op (keeps op p q) r ≡ keeps op p (keeps op q r)
keeps_assoc both true q r = refl
keeps_assoc both false q r = refl
keeps_assoc either true q r = refl
keeps_assoc either false q r = refl

pub keeps_self : {op : Operation} → Even op → (p : Bool) → keeps op p p ≡ p
keeps_self both true = refl
keeps_self both false = refl
keeps_self either true = refl
keeps_self either false = refl

pub keeps_all : (p : Bool) → keeps Without p false ≡ p
keeps_all true = refl
keeps_all false = refl
