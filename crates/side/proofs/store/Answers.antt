use mathlib.Core.Path.{◌∙◌, ap}
use native.Mathlib.Omega.{arith}
use Prim.Native.Nat.{◌+◌}
use lib.ListN.{take}
use Rattle.level.specs.Words.{levels_in, no_level}
use Rattle.level.proofs.Shift.{copied}
use Rattle.level.proofs.Stored.{length-levels, past_more}
use Rattle.side.proofs.store.Goals as goal

pub loop-i-preserved : goal.loop-i-preserved
loop-i-preserved c =
    let p = c.loop-i in
    let w = c.put_level.ensures in
    let l = length-levels 100 p.words p.invariant.0 in (
      w.room,
      ap (take (p.i + 1)) w.levels
          ∙ copied c.args.levels.now (levels_in p.words) p.i no_level (omega arith) (omega arith) p.invariant.1,
      w.past ∙ past_more p.i (p.i + 1) p.words c.args.words.now (omega arith) p.invariant.2,
    )
