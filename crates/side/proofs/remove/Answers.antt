use mathlib.Core.Path.{◌∙◌, ap}
use native.Mathlib.Omega.{arith}
use Prim.Native.Nat.{◌-◌}
use lib.ListN.{take}
use Rattle.side.proofs.Shifted.{removed}
use Rattle.side.proofs.remove.Goals as goal

pub returns : goal.returns
returns c = ap (take (c.args.count - 1)) c.copy_within.ensures.after ∙ removed c.args.levels.now c.args.at c.args.count c.requires.0 (omega arith)
