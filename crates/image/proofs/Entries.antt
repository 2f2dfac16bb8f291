-- Laws of entries: reading returns what was written, and writing what was read; how many bytes they have; and how a loop over the
-- directory takes one entry after the other.
-- Assumes nothing.
use mathlib.Core.Path.{◌≡◌, refl, sym, ap, ◌∙◌}
use mathlib.Core.List.{List, [], ◌∷◌, ◌++◌, append_assoc}
use Prim.Native.Nat.{ℕ, zero, suc, ◌+◌, ◌-◌, ◌*◌, ◌≤◌, ◌<◌}
use native.Mathlib.Omega.{arith}
use lib.ListN.{length, get_or, drop, length-append}
use lib.Seq.{get_or-drop}
use Rattle.lists.specs.Bytes.{Bytes, byte_values}
use Rattle.lists.proofs.Bytes.{Bytes-cons, Bytes-append}
use Rattle.lists.proofs.Parts.{drop_one, drop_run}
use Rattle.rules.specs.Sizes.{number_size, entry_size}
use Rattle.rules.specs.Numbers.{number_at, number_bytes}
use Rattle.rules.proofs.Numbers.{length_little, Bytes_little, number_read, number_written}
use Rattle.image.specs.declared.Entry.{Entry}
use Rattle.image.specs.Entry.{entry_place, entry_bytes, directory_bytes, entry_at, entries_at, Narrow}

pub entry_eq : {k k' l l' u u' n n' : ℕ} → k ≡ k' → l ≡ l' → u ≡ u' → n ≡ n'
    → ◌≡◌ {A = Entry} (record { kind = k; last = l; upto = u; end = n }) (record { kind = k'; last = l'; upto = u'; end = n' })
entry_eq p q r t = λ i. record { kind = p i; last = q i; upto = r i; end = t i }

-- an entry out of the numbers that stand at its places
pub entry_at_lem : (s : List ℕ) (at : ℕ) {k l u n : ℕ}
    → k ≡ get_or s at 0 → l ≡ number_at s (at + 1) → u ≡ number_at s (at + 5) → n ≡ number_at s (at + 9)
    → record { kind = k; last = l; upto = u; end = n } ≡ entry_at s at
unfolding entry_at
entry_at_lem s at ek el eu en =
    let a5 : at + 5 ≡ at + 1 + number_size = omega arith in
    let a9 : at + 9 ≡ at + 1 + number_size + number_size = omega arith in
    entry_eq ek el (eu ∙ ap (number_at s) a5) (en ∙ ap (number_at s) a9)

-- ---- sizes

pub length_entry : (e : Entry) → length (entry_bytes e) ≡ entry_size
length_entry e =
    omega (
      arith,
      length-append (number_bytes e.last) (number_bytes e.upto ++ number_bytes e.end),
      length-append (number_bytes e.upto) (number_bytes e.end),
      length_little number_size e.last,
      length_little number_size e.upto,
      length_little number_size e.end,
    )

pub length_directory : (es : List Entry) → length (directory_bytes es) ≡ entry_size * length es
length_directory [] = refl
length_directory (e ∷ es) = omega (arith, length-append (entry_bytes e) (directory_bytes es), length_entry e, length_directory es)

pub length_entries : (m : ℕ) (s : List ℕ) (at : ℕ) → length (entries_at m s at) ≡ m
length_entries zero s at = refl
length_entries (suc m) s at = ap suc (length_entries m s (at + entry_size))

pub Bytes_entry : (e : Entry) → e.kind < byte_values → Bytes (entry_bytes e)
Bytes_entry e h =
    Bytes-cons e.kind (number_bytes e.last ++ (number_bytes e.upto ++ number_bytes e.end)) h
    (Bytes-append (number_bytes e.last) (number_bytes e.upto ++ number_bytes e.end) (Bytes_little number_size e.last)
    (Bytes-append (number_bytes e.upto) (number_bytes e.end) (Bytes_little number_size e.upto) (Bytes_little number_size e.end)))

-- each entry is narrow
abbrev pub Narrows : List Entry → Type 0
Narrows [] = Unit {0}
Narrows (e ∷ es) = Narrow e × Narrows es

module _ (s : List ℕ) where
  -- what stands after a number
  pub drop-number : (at n : ℕ) (rest : List ℕ) → drop at s ≡ number_bytes n ++ rest → drop (at + number_size) s ≡ rest
  drop-number at n rest e = ap (λ (k : ℕ). drop (at + k) s) (sym (length_little number_size n)) ∙ drop_run s at (number_bytes n) rest e

  -- READING RETURNS WHAT WAS WRITTEN
  pub entry_read : (at : ℕ) (e : Entry) (rest : List ℕ) → Narrow e → drop at s ≡ entry_bytes e ++ rest → entry_at s at ≡ e
  unfolding entry_at
  entry_read at e rest n h =
      let upward : List ℕ = number_bytes e.upto ++ (number_bytes e.end ++ rest) in
      let z : at + 0 ≡ at = omega arith in
      let k : get_or s at 0 ≡ e.kind = ap (λ (j : ℕ). get_or s j 0) (sym z) ∙ sym (get_or-drop at s 0 0) ∙ ap (λ (l : List ℕ). get_or l 0 0) h in
      let d1 : drop (at + 1) s ≡ number_bytes e.last ++ upward =
      drop_run s at (e.kind ∷ []) (number_bytes e.last ++ upward) (h ∙ simp append_assoc)
      in
      let d5 : drop (at + 1 + number_size) s ≡ upward = drop-number (at + 1) e.last upward d1 in
      let d9 : drop (at + 1 + number_size + number_size) s ≡ number_bytes e.end ++ rest =
      drop-number (at + 1 + number_size) e.upto (number_bytes e.end ++ rest) d5
      in
      entry_eq k (number_read s (at + 1) e.last upward n.last d1)
      (number_read s (at + 1 + number_size) e.upto (number_bytes e.end ++ rest) n.upto d5)
      (number_read s (at + 1 + number_size + number_size) e.end rest n.end d9)

  pub entries_read : (at : ℕ) (es : List Entry) (rest : List ℕ) → Narrows es → drop at s ≡ directory_bytes es ++ rest
      → entries_at (length es) s at ≡ es
  entries_read at [] rest n h = refl
  entries_read at (e ∷ es) rest n h =
      let h2 : drop at s ≡ entry_bytes e ++ (directory_bytes es ++ rest) = h ∙ append_assoc (entry_bytes e) (directory_bytes es) rest in
      let d : drop (at + entry_size) s ≡ directory_bytes es ++ rest =
      ap (λ (k : ℕ). drop (at + k) s) (sym (length_entry e)) ∙ drop_run s at (entry_bytes e) (directory_bytes es ++ rest) h2
      in
      ap (λ (x : Entry). x ∷ entries_at (length es) s (at + entry_size)) (entry_read at e (directory_bytes es ++ rest) n.0 h2)
      ∙ ap (λ (l : List Entry). e ∷ l) (entries_read (at + entry_size) es rest n.1 d)

  module _ (w : Bytes s) where
    -- AND WRITING WHAT WAS READ
    pub entry_written : (at : ℕ) → at + entry_size ≤ length s → drop at s ≡ entry_bytes (entry_at s at) ++ drop (at + entry_size) s
    unfolding entry_at
    entry_written at h =
        let a5 : ℕ = at + 1 + number_size in
        let a9 : ℕ = a5 + number_size in
        let z : a9 + number_size ≡ at + entry_size = omega arith in
        drop_one s at 0 (omega arith)
        ∙ ap (λ (l : List ℕ). get_or s at 0 ∷ l)
        (number_written s (at + 1) w (omega arith)
        ∙ ap (λ (l : List ℕ). number_bytes (number_at s (at + 1)) ++ l)
        (number_written s a5 w (omega arith)
        ∙ ap (λ (l : List ℕ). number_bytes (number_at s a5) ++ l)
        (number_written s a9 w (omega arith) ∙ ap (λ (k : ℕ). number_bytes (number_at s a9) ++ drop k s) z)))
        ∙ simp append_assoc

    pub directory_written : (m at : ℕ) → at + entry_size * m ≤ length s
        → drop at s ≡ directory_bytes (entries_at m s at) ++ drop (at + entry_size * m) s
    directory_written zero at h = let z : at ≡ at + entry_size * 0 = omega arith in ap (λ (k : ℕ). drop k s) z
    directory_written (suc m) at h =
        let q : at + entry_size + entry_size * m ≡ at + entry_size * suc m = omega arith in
        let rest : List ℕ = directory_bytes (entries_at m s (at + entry_size)) in
        entry_written at (omega arith)
        ∙ ap (λ (l : List ℕ). entry_bytes (entry_at s at) ++ l)
        (directory_written m (at + entry_size) (omega arith) ∙ ap (λ (k : ℕ). rest ++ drop k s) q)
        ∙ sym (append_assoc (entry_bytes (entry_at s at)) rest (drop (at + entry_size * suc m) s))

  -- ---- a loop over the directory goes by these

  module _ (m i : ℕ) where
    pub entries_step : i < m
        → entries_at (m - i) s (entry_place i) ≡ entry_at s (entry_place i) ∷ entries_at (m - (i + 1)) s (entry_place (i + 1))
    entries_step h =
        let p : m - i ≡ suc (m - (i + 1)) = omega arith in
        let q : entry_place i + entry_size ≡ entry_place (i + 1) = omega arith in
        ap (λ (k : ℕ). entries_at k s (entry_place i)) p
        ∙ ap (λ (k : ℕ). entry_at s (entry_place i) ∷ entries_at (m - (i + 1)) s k) q

    pub entries_here : (e : Entry) → e ≡ entry_at s (entry_place i) → i < m
        → entries_at (m - i) s (entry_place i) ≡ e ∷ entries_at (m - (i + 1)) s (entry_place (i + 1))
    entries_here e q h = entries_step h ∙ ap (λ (x : Entry). x ∷ entries_at (m - (i + 1)) s (entry_place (i + 1))) (sym q)

    pub entries_done : m ≤ i → entries_at (m - i) s (entry_place i) ≡ []
    entries_done h = let p : m - i ≡ 0 = omega arith in ap (λ (k : ℕ). entries_at k s (entry_place i)) p
