use mathlib.Core.Path.{◌≡◌, ◌∙◌, ap}
use native.Mathlib.Omega.{arith}
use Prim.Native.Nat.{◌+◌}
use lib.ListN.{length-set, set, take}
use Rattle.level.specs.declared.Level.{Level}
use Rattle.level.specs.Words.{levels_in, no_level}
use Rattle.level.specs.Kept.{held}
use Rattle.level.proofs.Shift.{copied}
use Rattle.level.proofs.Stored.{length-levels}
use Rattle.side.proofs.load.Goals as goal

pub loop-i-preserved : goal.loop-i-preserved
loop-i-preserved c =
    let p = c.loop-i in
    let l = length-levels 100 c.args.words.now c.told-words in (
      simp length-set p.invariant.0,
      ap (λ (x : Level). take (p.i + 1) (set p.levels p.i x)) c.level_in.ensures
          ∙ copied (levels_in c.args.words.now) p.levels p.i no_level (omega arith) (omega (arith, p.invariant.0)) p.invariant.1,
    )

pub returns : goal.returns
unfolding held
returns c =
    let e : c.loop-i.i ≡ c.args.kept = omega arith in
    rw e at c.loop-i.invariant.1
