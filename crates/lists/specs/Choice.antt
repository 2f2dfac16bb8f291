-- A choice by a test: how a definition goes by cases on numbers.
use Rattle.std.specs.Prelude.{Bool, true, false}

-- the first where the test holds, else the second
abbrev pub pick : {X : Type 0} → Bool → X → X → X
pick true a b = a
pick false a b = b
