-- What the functions of this crate promise each other: a move past ones of the loaded word, and words of a row laid into a window.
use Rattle.std.specs.Prelude.{◌≡◌, List, ◌++◌, ℕ, ◌+◌, ◌-◌, ◌*◌, ◌≤◌, ◌<◌, length}
use Rattle.std.specs.Int.Count.{count_leading_zeros}
use Rattle.lists.specs.Rising.{Rising, beyond}
use Rattle.row.specs.Row.{bits_from}
use Rattle.row.specs.Words.{word_bits}
use Rattle.pair_window.specs.Window.{Gains}
use Rattle.image_walk.specs.declared.Walk.{Walk}
use Rattle.image_walk.specs.declared.Rest.{Rest}
use Rattle.image_walk.specs.Walk.{ahead, Stands}
use Rattle.image_walk.specs.Turns.{left, Readable}

-- what a walk in a row has left when all ones of its word are passed
abbrev pub word_rest : Walk → Rest
word_rest w =
    record {
      next = w.low + word_bits - count_leading_zeros word_bits w.bits;
      from = w.low + word_bits;
      kind = w.bits;
      at = w.at;
      end = w.end;
      block = w.block;
    }

-- the walk `r` has passed the ones of the loaded word of `w` that lie before `e`; the word's others are at or after it
pub record Cuts (s pay : List ℕ) (w : Walk) (e : ℕ) (r : Walk) : Type 0 where
  pub laid : List ℕ
  pub others : List ℕ
  pub stands : Stands s pay r
  pub split : ahead s pay w ≡ laid ++ ahead s pay r
  pub word : bits_from word_bits w.low w.bits ≡ laid ++ others
  pub some : 0 < length laid
  pub before : beyond 0 laid ≤ e
  pub after : Rising e others

-- of what is left of a row, some words that fall into the window from `o` on are laid over its words, and `q` is left
pub record Rows (pay : List ℕ) (p : Rest) (o : ℕ) (words words' : List ℕ) (q : Rest) : Type 0 where
  pub laid : List ℕ
  pub readable : Readable pay q
  pub block : q.block ≡ p.block
  pub end : q.end ≡ p.end
  pub is : left pay p ≡ laid ++ left pay q
  pub last : beyond q.next (left pay q) ≡ beyond p.next (left pay p)
  pub before : beyond o laid ≤ o + word_bits * length words
  pub are : Gains o words laid words'
