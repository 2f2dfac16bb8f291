-- A walk that stands at a step of the open block, said by its numbers: in a loaded word, or among codes; and what is left of a row.
-- Assumes nothing.
use mathlib.Core.Path.{◌≡◌, refl}
use mathlib.Core.List.{List}
use Prim.Native.Nat.{ℕ, ◌+◌, ◌-◌, ◌*◌, ◌^◌, ◌≤◌, ◌<◌}
use native.Mathlib.Omega.{arith}
use lib.ListN.{length}
use Rattle.lists.specs.Rising.{beyond}
use Rattle.rules.specs.Limits.{no_step}
use Rattle.row.specs.Row.{byte_bits}
use Rattle.row.specs.Words.{word_bits}
use Rattle.image_walk.specs.declared.Walk.{Walk}
use Rattle.image_walk.specs.declared.Rest.{Rest}
use Rattle.image_walk.specs.Walk.{Whole, here, Open, Placed}
use Rattle.image_walk.specs.Turns.{met_walk, coded_walk, left, Readable}

module _ (pay : List ℕ) (at end block : ℕ) (few : length pay < 2 ^ 32) (within : end ≤ length pay) where
  -- at the lowest one of a word, where the bytes after it, if there are any, hold the row's last one
  pub met_Open : (low bits : ℕ) → (bits ≡ 0 → ⊥)
      → let v = met_walk low bits at end block in
      beyond (v.step + 1) (here pay v) ≤ no_step
      → (at < end → low + word_bits + byte_bits * (end - at) < beyond (v.step + 1) (here pay v) + byte_bits)
      → Open pay v
  met_Open low bits z small tight =
      record {
        small = small;
        few = few;
        within = within;
        low = omega arith;
        codes = λ c. absurd (z c);
        row = λ c. record { lowest = refl; tight = tight };
      }

  -- at a step before codes of which none fails
  pub coded_Open : (step : ℕ)
      → let v = coded_walk step at end block in
      beyond (step + 1) (here pay v) ≤ no_step
      → Whole (step + 1) pay at end
      → Open pay v
  coded_Open step small whole =
      record {
        small = small;
        few = few;
        within = within;
        low = omega arith;
        codes = λ c. whole;
        row = λ c. absurd (c refl);
      }

-- a walk is placed at the lowest of other ones of its word, where the row ends as it did
pub met_Placed : {pay : List ℕ} {w : Walk} → Open pay w → (w.bits ≡ 0 → ⊥) → (bits : ℕ) → (bits ≡ 0 → ⊥)
    → let v = met_walk w.low bits w.at w.end w.block in
    v.step < no_step
    → beyond (v.step + 1) (here pay v) ≡ beyond (w.step + 1) (here pay w)
    → Placed pay v
met_Placed {pay} {w} o b bits z h q =
    record {
      step = omega arith;
      on =
          λ g.
          met_Open pay w.at w.end w.block o.few o.within w.low bits z (omega (arith, o.small)) (λ k. omega (arith, (o.row b).tight k));
      off = λ g. absurd (omega arith);
    }

-- what is left of a row can be read
pub row_Readable : {pay : List ℕ} {p : Rest} → length pay < 2 ^ 32 → p.end ≤ length pay → (p.kind ≡ 0 → ⊥) → beyond p.next (left pay p) ≤ no_step → p.next ≤ p.from
    → (p.at < p.end → p.from + byte_bits * (p.end - p.at) < beyond p.next (left pay p) + byte_bits)
    → Readable pay p
row_Readable few within k small order tight =
    record {
      small = small;
      few = few;
      within = within;
      codes = λ z. absurd (k z);
      order = λ z. order;
      tight = λ z. tight;
    }
