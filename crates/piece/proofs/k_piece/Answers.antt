-- `k_piece` meets its contract: the digits of the size, with those of the price in front of them.
use mathlib.Core.Path.{refl, ap}
use native.Mathlib.Omega.{arith}
use lib.ListN.{length}
use Rattle.decimal.specs.Decimal.{number}
use Rattle.decimal.proofs.Text.{length-stripped}
use Rattle.piece.specs.Piece.{k_piece}
use Rattle.piece.proofs.Sums.{fed-first, fed-next}
use Rattle.piece.proofs.k_piece.Goals as goal

pub feed-second-requires : goal.feed-second-requires
feed-second-requires c = let e = ap length c.stripped_tail.ensures in let l = length-stripped (number c.args.size) c.requires.1 in (omega arith, c.requires.2)

pub feed-requires : goal.feed-requires
feed-requires c = let n = (fed-first c.stripped_tail.ensures refl refl c.feed-second.ensures).long in let e = ap length c.stripped_tail-2.ensures in let l = length-stripped (number c.args.size) c.requires.1 in let k = length-stripped (number c.args.price) c.requires.0 in (omega arith, c.requires.2)

pub returns : goal.returns
unfolding k_piece
returns c = fed-next c.stripped_tail-2.ensures (fed-first c.stripped_tail.ensures refl refl c.feed-second.ensures) c.feed.ensures
