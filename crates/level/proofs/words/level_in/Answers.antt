-- `level_in` meets its contract: level i is the three words from 3i on.
use native.Mathlib.Omega.{arith}
use Rattle.level.proofs.Stored.{level-at-words}
use Rattle.level.proofs.words.level_in.Goals as goal

pub returns : goal.returns
returns c =
    let b = c in
    level-at-words b.args.i b.args.words.now (omega (arith, b.requires.0, b.requires.1))
