-- `m_piece` meets its contract: the text of the size with a colon in front, and that of the price with a colon in front of both.
use mathlib.Core.Path.{refl, ap}
use mathlib.Core.List.{◌∷◌}
use native.Mathlib.Omega.{arith}
use lib.ListN.{length, length-append}
use Rattle.decimal.specs.Decimal.{number, text}
use Rattle.decimal.proofs.Text.{length-text}
use Rattle.piece.specs.Piece.{m_piece}
use Rattle.piece.proofs.Sums.{fed-first, fed-next, sums-fronted}
use Rattle.piece.proofs.m_piece.Goals as goal

pub feed-requires : goal.feed-requires
feed-requires c = let e = ap length c.text_tail.ensures in let l = length-text (number c.args.size) c.requires.1 in let k = length-text (number c.args.price) c.requires.0 in (omega arith, c.requires.2)

pub feed_byte-second-requires : goal.feed_byte-second-requires
feed_byte-second-requires c = let n = (fed-first c.text_tail.ensures refl refl c.feed.ensures).long in let l = length-text (number c.args.size) c.requires.1 in let k = length-text (number c.args.price) c.requires.0 in (omega arith, c.requires.2)

pub feed-requires-2 : goal.feed-requires-2
feed-requires-2 c = let n = (sums-fronted (fed-first c.text_tail.ensures refl refl c.feed.ensures) c.feed_byte-second.ensures).long in let e = ap length c.text_tail-2.ensures in let l = length-text (number c.args.size) c.requires.1 in let k = length-text (number c.args.price) c.requires.0 in (omega arith, c.requires.2)

pub feed_byte-requires : goal.feed_byte-requires
feed_byte-requires c = let n = (fed-next c.text_tail-2.ensures (sums-fronted (fed-first c.text_tail.ensures refl refl c.feed.ensures) c.feed_byte-second.ensures) c.feed-2.ensures).long in let m = (sums-fronted (fed-first c.text_tail.ensures refl refl c.feed.ensures) c.feed_byte-second.ensures).long in let q = length-append (text (number c.args.price)) (58 ∷ text (number c.args.size)) in let l = length-text (number c.args.size) c.requires.1 in let k = length-text (number c.args.price) c.requires.0 in (omega arith, c.requires.2)

pub returns : goal.returns
unfolding m_piece
returns c = sums-fronted (fed-next c.text_tail-2.ensures (sums-fronted (fed-first c.text_tail.ensures refl refl c.feed.ensures) c.feed_byte-second.ensures) c.feed-2.ensures) c.feed_byte.ensures
