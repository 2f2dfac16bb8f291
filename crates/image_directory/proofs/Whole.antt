-- An image that opens, and one that is accepted, as the functions over its directory and its blocks require it.
-- Assumes nothing.
use mathlib.Core.Path.{◌≡◌, refl, ap, ◌∙◌, subst}
use mathlib.Core.List.{List}
use Prim.Native.Nat.{ℕ, ◌+◌, ◌≤◌}
use native.Mathlib.Omega.{arith}
use lib.ListN.{length, drop, get_or}
use mir.Syntax.{w8}
use mir.Val.{Fits}
use Rattle.std.specs.Prelude.{Ok}
use Rattle.lists.specs.Bytes.{Bytes}
use Rattle.rules.specs.Numbers.{number_at}
use Rattle.rules.proofs.Numbers.{number_lt}
use Rattle.image.specs.Entry.{entry_place, payload_place, entries_at, start}
use Rattle.image.specs.Verdict.{taken, directory_of, blocks_of, opening_of}
use Rattle.image.proofs.Verdict.{length_payload, unseal, peel}
use Rattle.image.specs.Taken.{steps_of, Taken, entries_in, payload_in}
use Rattle.image_directory.specs.Sound.{Sound}

-- a slice of bytes holds bytes
pub slice_Bytes : (s : List ℕ) → ((i : ℕ) → Fits w8 (get_or s i 0)) → Bytes s
slice_Bytes s fits i = omega (arith, fits i)

-- the image is as long as its counts say, and its directory has no fault
pub record Open (s : List ℕ) : Type 0 where
  pub size : length s ≡ payload_place (number_at s 0) + length (payload_in s)
  pub sound : Sound s (payload_in s) (number_at s 0)

opens : (s : List ℕ) (m p : ℕ) → Bytes s → m ≡ number_at s 0 → p ≡ number_at s (entry_place m) → length s ≡ payload_place m + p
    → directory_of p start 0 (entries_at m s (entry_place 0)) ≡ Ok tt → Open s
opens s m p w im ip size fine =
    let n : length (drop (payload_place m) s) ≡ p = length_payload s m p size in
    let all : length s ≡ payload_place m + length (drop (payload_place m) s) = omega arith in
    let whole : Sound s (drop (payload_place m) s) m =
    record {
      blocks = omega (arith, number_lt s 0 w (omega arith));
      size = omega arith;
      few = omega (arith, number_lt s (entry_place m) w (omega arith));
      fine = ap (λ (k : ℕ). directory_of k start 0 (entries_at m s (entry_place 0))) n ∙ fine;
    }
    in
    record {
      size = subst (λ (k : ℕ). length s ≡ payload_place k + length (drop (payload_place k) s)) im all;
      sound = subst (λ (k : ℕ). Sound s (drop (payload_place k) s) k) im whole;
    }

-- what opens
pub opened_Open : {s : List ℕ} {m : ℕ} → Bytes s → opening_of s ≡ Ok m → Open s
opened_Open {s} {m} w q = let u = unseal s m q in opens s m (number_at s (entry_place m)) w u.is refl u.size u.fine

-- what is accepted opens, and its blocks are taken
pub Taken-Open : {s : List ℕ} → Bytes s → Taken s → Open s
Taken-Open {s} w t = let g = peel s (steps_of s) t in opens s g.m g.p w g.is_m g.is_p g.size g.fine

pub Taken_blocks : (s : List ℕ) → Taken s → blocks_of (payload_in s) start 0 (entries_in s) ≡ taken (steps_of s)
Taken_blocks s t =
    let g = peel s (steps_of s) t in
    subst (λ (k : ℕ). blocks_of (drop (payload_place k) s) start 0 (entries_at k s (entry_place 0)) ≡ taken (steps_of s)) g.is_m g.blocks

-- its counts can be read, and its payload begins within it
pub payload_within : (s : List ℕ) → Taken s → payload_place (number_at s 0) ≤ length s
payload_within s t = let g = peel s (steps_of s) t in omega (arith, g.size, g.is_m)
