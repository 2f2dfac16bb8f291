-- Laws of lists of bytes: parts of them, appending, and stores.
-- Assumes nothing.
use mathlib.Core.List.{List, [], ◌∷◌, ◌++◌}
use Prim.Native.Nat.{ℕ, zero, suc, ◌+◌, ◌-◌, ◌<◌}
use native.Mathlib.Omega.{arith}
use native.Mathlib.Decide.{dec_lt}
use lib.ListN.{set, take, drop, length-take, get_or-eq_default}
use lib.Seq.{sets, get_or-drop, get_or-take}
use Rattle.lists.specs.Bytes.{Bytes, byte_values}
use Rattle.lists.specs.Parts.{part}

pub Bytes-nil : Bytes []
Bytes-nil i = omega arith

pub Bytes-cons : (x : ℕ) (s : List ℕ) → x < byte_values → Bytes s → Bytes (x ∷ s)
Bytes-cons x s h w zero = h
Bytes-cons x s h w (suc i) = w i

pub Bytes-append : (s t : List ℕ) → Bytes s → Bytes t → Bytes (s ++ t)
Bytes-append [] t w v = v
Bytes-append (x ∷ s) t w v = Bytes-cons x (s ++ t) (w 0) (Bytes-append s t (λ i. w (suc i)) v)

pub bytes_drop : (s : List ℕ) (n : ℕ) → Bytes s → Bytes (drop n s)
bytes_drop s n w i = rw get_or-drop (w (n + i))

pub bytes_take : (s : List ℕ) (n : ℕ) → Bytes s → Bytes (take n s)
bytes_take s n w i =
    elim (dec_lt i n) [
      | yes h ↦ rw (get_or-take n s i 0 h) (w i)
      | no h ↦ rw (get_or-eq_default (take n s) 0 {n = i} (omega (arith, length-take n s))) (omega arith)
    ]

pub Bytes-part : (s : List ℕ) (i j : ℕ) → Bytes s → Bytes (part s i j)
Bytes-part s i j w = bytes_take (drop i s) (j - i) (bytes_drop s i w)

Bytes-set : (l : List ℕ) (i x : ℕ) → x < byte_values → Bytes l → Bytes (set l i x)
Bytes-set [] i x h w = w
Bytes-set (y ∷ ys) zero x h w = Bytes-cons x ys h (λ j. w (suc j))
Bytes-set (y ∷ ys) (suc i) x h w = Bytes-cons y (set ys i x) (w 0) (Bytes-set ys i x h (λ j. w (suc j)))

pub Bytes-sets : (l : List ℕ) (at : ℕ) (vs : List ℕ) → Bytes l → Bytes vs → Bytes (sets l at vs)
Bytes-sets l at [] w u = w
Bytes-sets l at (v ∷ vs) w u = Bytes-sets (set l at v) (suc at) vs (Bytes-set l at v (u 0) w) (λ j. u (suc j))
