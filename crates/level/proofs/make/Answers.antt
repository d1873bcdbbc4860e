-- `make` meets its contract: the level has the words of the price and of the size, whose codes are low.
use native.Mathlib.Omega.{arith}
use Rattle.decimal.specs.Decimal.{number}
use Rattle.decimal.proofs.Words.{parts_low}
use Rattle.level.specs.Words.{level_made}
use Rattle.level.proofs.make.Goals as goal

pub pack-requires : goal.pack-requires
pack-requires c =
    let b = c in
    let p = parts_low (number b.args.price) c.parts_of-p.result b.requires.0.few c.parts_of-p.ensures in
    let s = parts_low (number b.args.size) c.parts_of-s.result b.requires.1.few c.parts_of-s.ensures in
    (b.requires.2, omega arith, omega arith)

pub returns : goal.returns
unfolding level_made
returns c = rw (c.pack.ensures, c.parts_of-p.ensures, c.parts_of-s.ensures)
