-- `empty` meets its contract: of no level, everything holds.
use mathlib.Core.Path.{refl}
use native.Mathlib.Omega.{arith}
use Rattle.level.specs.Ranked.{All, Sorted}
use Rattle.level.specs.Kept.{held, no_levels}
use Rattle.level.proofs.empty.Goals as goal

pub returns : goal.returns
unfolding held All Sorted no_levels
returns c = record {
  is = refl;
  none = refl;
  bids = record { few = omega arith; room = refl; sorted = tt; within = tt };
  asks = record { few = omega arith; room = refl; sorted = tt; within = tt };
}
