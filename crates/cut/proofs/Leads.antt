-- Which of two first blocks leads, where the bytes of the whole cut are known for each: fewer bytes, then more steps, then codes before a
-- bit row. And the block that leads all that may come first.
-- Assumes nothing.
use mathlib.Core.Path.{◌≡◌, refl}
use Prim.Native.Nat.{ℕ, ◌≤◌, ◌<◌}
use native.Mathlib.Omega.{arith}
use Rattle.cut.specs.Cut.{Kind, codes, number}
use Rattle.lists.proofs.Choice.{by_lt}

-- A first block up to `j` of kind `k` in a cut of `c` bytes leads one up to `j'` of kind `k'` in a cut of `c'` bytes.
pub data Leads (c j : ℕ) (k : Kind) (c' j' : ℕ) (k' : Kind) : Type 0 where
  by_bytes : c < c' → Leads c j k c' j' k'
  by_steps : c ≡ c' → j' < j → Leads c j k c' j' k'
  by_kind : c ≡ c' → j ≡ j' → number k ≤ number k' → Leads c j k c' j' k'

pub Leads_refl : (c j : ℕ) (k : Kind) → Leads c j k c j k
Leads_refl c j k = by_kind refl refl (omega arith)

pub Leads_trans : {c j : ℕ} {k : Kind} {c₁ j₁ : ℕ} {k₁ : Kind} {c₂ j₂ : ℕ} {k₂ : Kind}
    → Leads c j k c₁ j₁ k₁ → Leads c₁ j₁ k₁ c₂ j₂ k₂ → Leads c j k c₂ j₂ k₂
Leads_trans (by_bytes p) (by_bytes q) = by_bytes (omega arith)
Leads_trans (by_bytes p) (by_steps q r) = by_bytes (omega arith)
Leads_trans (by_bytes p) (by_kind q r s) = by_bytes (omega arith)
Leads_trans (by_steps p h) (by_bytes q) = by_bytes (omega arith)
Leads_trans (by_steps p h) (by_steps q r) = by_steps (omega arith) (omega arith)
Leads_trans (by_steps p h) (by_kind q r s) = by_steps (omega arith) (omega arith)
Leads_trans (by_kind p h g) (by_bytes q) = by_bytes (omega arith)
Leads_trans (by_kind p h g) (by_steps q r) = by_steps (omega arith) (omega arith)
Leads_trans (by_kind p h g) (by_kind q r s) = by_kind (omega arith) (omega arith) (omega arith)

-- more steps lead where the bytes are no more
pub Leads_steps : {c j : ℕ} {k : Kind} {c' j' : ℕ} {k' : Kind} → c ≤ c' → j' < j → Leads c j k c' j' k'
Leads_steps {c} {j} {k} {c'} h g = by_lt c c' (λ l. by_bytes l) (λ l. by_steps (omega arith) g)

-- and so do as many steps of a kind that comes no later
pub Leads-Kind : {c j : ℕ} {k : Kind} {c' j' : ℕ} {k' : Kind} → c ≤ c' → j ≡ j' → number k ≤ number k' → Leads c j k c' j' k'
Leads-Kind {c} {j} {k} {c'} h e g = by_lt c c' (λ l. by_bytes l) (λ l. by_kind (omega arith) e g)

pub Leads_codes : {c j c' j' : ℕ} {k' : Kind} → c ≤ c' → j' ≤ j → Leads c j codes c' j' k'
Leads_codes {c} {j} {c'} {j'} h g = by_lt j' j (λ l. Leads_steps h l) (λ l. Leads-Kind h (omega arith) (omega arith))

-- Of the blocks from `i` on that end at `n` at the latest, the one up to `j` of kind `k` leads all, where `v` says the bytes of the whole cut.
pub record Leader (v : ℕ → Kind → ℕ) (i n j : ℕ) (k : Kind) : Type 0 where
  pub after : i < j
  pub within : j ≤ n
  pub leads : (j' : ℕ) (k' : Kind) → i < j' → j' ≤ n → Leads (v j k) j k (v j' k') j' k'
