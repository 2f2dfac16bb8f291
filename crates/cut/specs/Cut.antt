-- A list is cut into blocks: which cuts there are, what a cut costs, which of two is better, and which is the best. Positions stand for
-- steps: a block from `i` up to `j` has the steps of the ranks `i`, .., `j - 1`. What a block costs is a parameter.
use Rattle.std.specs.Prelude.{◌≡◌, List, [], ◌∷◌, ◌⊎◌, ℕ, zero, suc, ◌+◌, ◌<◌}

-- how the steps of a block are written: as codes or as a bit row
pub data Kind : Type 0 where
  codes : Kind
  row : Kind

-- "kind: 0 codes, 1 bit row"
abbrev pub number : Kind → ℕ
number codes = 0
number row = 1

-- the kind that a number stands for
abbrev pub kind_of : ℕ → Kind
kind_of zero = codes
kind_of (suc n) = row

-- a block: its kind, and its upto, the "number of steps in this and all earlier blocks"
pub record Block : Type 0 where
  pub kind : Kind
  pub upto : ℕ

-- the block of a kind up to a position
abbrev pub block : Kind → ℕ → Block
block k j = record { kind = k; upto = j }

-- the blocks hold the steps from rank `i` up to rank `n`: "a block starts where the one before ended", and upto is above the earlier one
abbrev pub Cuts : ℕ → ℕ → List Block → Type 0
Cuts i n [] = i ≡ n
Cuts i n (b ∷ bs) = (i < b.upto) × Cuts b.upto n bs

-- "the one whose first block has more steps; then codes before bit row; then the same two tests on the second block, and so on"
abbrev pub Earlier : List Block → List Block → Type 0
Earlier [] [] = ⊥
Earlier [] (b ∷ ys) = ⊥
Earlier (a ∷ xs) [] = ⊥
Earlier (a ∷ xs) (b ∷ ys) =
    (b.upto < a.upto) ⊎
    ((a.upto ≡ b.upto) × (number a.kind < number b.kind)) ⊎
    ((a ≡ b) × Earlier xs ys)

module _ (cost : ℕ → ℕ → Kind → ℕ) where
  -- the bytes of the blocks of a cut from `i` on, where `cost i j k` is the bytes of a block from `i` up to `j` of kind `k`
  abbrev pub bytes : ℕ → List Block → ℕ
  bytes i [] = 0
  bytes i (b ∷ bs) = cost i b.upto b.kind + bytes b.upto bs

  -- "the one with the fewest bytes. Among equals": the one that is earlier
  abbrev pub Better : ℕ → List Block → List Block → Type 0
  Better i xs ys = (bytes i xs < bytes i ys) ⊎ ((bytes i xs ≡ bytes i ys) × Earlier xs ys)

  -- "of all .. the one": the cut of the steps from rank `i` up to rank `n` than which none is better
  pub record Best (i n : ℕ) (xs : List Block) : Type 0 where
    pub cut : Cuts i n xs
    pub none_better : (ys : List Block) → Cuts i n ys → Better i ys xs → ⊥
