-- Laws of kinds and blocks: a kind and its number say each other, and an end and a number say the block.
-- Assumes nothing.
use mathlib.Core.Path.{◌≡◌, refl, sym, ap, ◌∙◌}
use Prim.Native.Nat.{ℕ, zero, suc, ◌≤◌}
use native.Mathlib.Omega.{arith}
use Rattle.cut.specs.Cut.{Kind, codes, row, number, kind_of, Block}

pub number-le : (k : Kind) → number k ≤ 1
number-le codes = omega arith
number-le row = omega arith

pub kind_of-number : (k : Kind) → kind_of (number k) ≡ k
kind_of-number codes = refl
kind_of-number row = refl

pub number-kind_of : (n : ℕ) → n ≤ 1 → number (kind_of n) ≡ n
number-kind_of zero h = refl
number-kind_of (suc n) h = omega arith

pub Kind-eq : (k l : Kind) → number k ≡ number l → k ≡ l
Kind-eq k l e = sym (kind_of-number k) ∙ ap kind_of e ∙ kind_of-number l

pub Block-eq : (a b : Block) → a.upto ≡ b.upto → number a.kind ≡ number b.kind → a ≡ b
Block-eq a b e d = λ t. record { kind = Kind-eq a.kind b.kind d t; upto = e t }
