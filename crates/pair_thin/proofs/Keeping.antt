-- A loop that counts a list and stores it where there is room. Assumes nothing.
use mathlib.Core.Path.{◌≡◌, refl, ap, ◌∙◌}
use mathlib.Core.List.{List, [], ◌++◌}
use Prim.Native.Nat.{ℕ, ◌+◌, ◌≤◌}
use native.Mathlib.Omega.{arith}
use lib.ListN.{length, drop, length-append}
use lib.Seq.{sets}
use Rattle.lists.proofs.Stores.{Storing, Storing_start, Storing_run, Storing_same, storing_end, sets_front}

-- all of `vs` but `ws` was counted, and stored in `out` where `out₀` has room for all of it
pub record Keeping (out₀ vs out : List ℕ) (p : ℕ) (ws : List ℕ) : Type 0 where
  pub counted : p + length ws ≡ length vs
  pub same : length out ≡ length out₀
  pub stored : length vs ≤ length out₀ → Storing out₀ 0 vs out p ws

pub keeping_start : (out vs : List ℕ) {ws : List ℕ} → vs ≡ ws → Keeping out vs out 0 ws
keeping_start out vs e =
    record { counted = omega (arith, ap length e); same = refl; stored = λ h. Storing_same (Storing_start out 0 vs (omega arith)) e }

module _ {out₀ vs out : List ℕ} {p : ℕ} {ws : List ℕ} (k : Keeping out₀ vs out p ws) where
  -- a run was counted, and stored if there was room for it
  pub Keeping_run : (us rest : List ℕ) {out' : List ℕ} {p' : ℕ} → ws ≡ us ++ rest → p' ≡ p + length us → length out' ≡ length out
      → (p + length us ≤ length out → out' ≡ sets out p us)
      → Keeping out₀ vs out' p' rest
  Keeping_run us rest e ep m f =
      let n : length ws ≡ length us + length rest = ap length e ∙ length-append us rest in
      record {
        counted = omega (arith, k.counted);
        same = m ∙ k.same;
        stored = λ h. Storing_run (k.stored h) us rest e ep (f (omega (arith, k.counted, k.same)));
      }

  pub keeping_end : ws ≡ [] → (p ≡ length vs) × (p ≤ length out₀ → out ≡ vs ++ drop (length vs) out₀)
  keeping_end e =
      let n : p ≡ length vs = omega (arith, k.counted, ap length e) in
      (n, λ h. let l : length vs ≤ length out₀ = omega arith in (storing_end (k.stored l) e).stores ∙ sets_front out₀ vs l)
