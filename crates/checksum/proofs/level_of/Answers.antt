-- `level_of` meets its contract: the level is made of the sum and the length of its piece.
use mathlib.Core.Path.{ap₂, ◌∙◌}
use native.Mathlib.Omega.{arith}
use Rattle.decimal.specs.Decimal.{number}
use Rattle.level.specs.Words.{level_made}
use Rattle.checksum.specs.Carried.{level_for}
use Rattle.checksum.proofs.Pieces.{piece-short}
use Rattle.checksum.proofs.level_of.Goals as goal

pub make-requires : goal.make-requires
make-requires c =
    let a = c.args in
    let p = c.requires in
    (p.0, p.1, let n = c.piece_of-piece.ensures.long in let l = piece-short a.text (number a.price) (number a.size) p.0 p.1 in omega arith)

pub returns : goal.returns
unfolding level_for
returns c =
    let a = c.args in
    c.make.ensures ∙ ap₂ (level_made (number a.price) (number a.size)) c.piece_of-piece.ensures.sum c.piece_of-piece.ensures.long
