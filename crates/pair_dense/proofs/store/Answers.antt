-- `pair_dense::store` meets its contract: the steps stand from the front on. Assumes nothing.
use mathlib.Core.Path.{refl, ◌∙◌}
use native.Mathlib.Omega.{arith}
use Rattle.lists.proofs.Stores.{sets_front}
use Rattle.pair_dense.proofs.store.Goals as goal

pub returns : goal.returns
returns c = rw (← c.new.ensures, ← c.new-2.ensures) (omega (arith, c.take_all.ensures.counted), c.take_all.ensures.stored refl ∙ sets_front c.args.steps.now _ (rw (c.new.ensures, c.new-2.ensures) c.requires.second_in_bounds))
