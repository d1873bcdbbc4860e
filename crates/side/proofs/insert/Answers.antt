use mathlib.Core.Path.{◌∙◌, ap}
use mathlib.Core.List.{List}
use native.Mathlib.Omega.{arith}
use Prim.Native.Nat.{◌+◌}
use lib.ListN.{set, take}
use Rattle.level.specs.declared.Level.{Level}
use Rattle.side.proofs.Shifted.{inserted}
use Rattle.side.proofs.insert.Goals as goal

pub returns : goal.returns
returns c = ap (λ (x : List Level). take (c.args.count + 1) (set x c.args.at c.args.new)) c.copy_within.ensures.after
    ∙ inserted c.args.levels.now c.args.at c.args.count c.requires.0 (omega arith) c.args.new
