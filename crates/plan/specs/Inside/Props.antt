-- What the planner goes by has one proof at most, so that a struct may hold it.
use Rattle.std.specs.Prelude.{List, [], ◌∷◌, ℕ, suc}
use Rattle.std.specs.Coded.{×_prop, Unit-prop, le_prop}
use Rattle.std.proofs.Props.{props}
use Rattle.lists.specs.Rising.{Rising}
use Rattle.plan.specs.Inside.Work.{Ready}

pub Rising-prop : (o : ℕ) (xs : List ℕ) → IsProp (Rising o xs)
Rising-prop o [] = Unit-prop
Rising-prop o (x ∷ xs) = ×_prop le_prop (Rising-prop (suc x) xs)

pub Ready-prop : (xs work : List ℕ) (i : ℕ) → IsProp (Ready xs work i)
Ready-prop xs work i = Prim.hlevel (props, Rising-prop)
