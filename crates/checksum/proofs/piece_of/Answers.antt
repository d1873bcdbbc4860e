-- `piece_of` meets its contract: each text has its own piece.
use mathlib.Core.Path.{sym, subst}
use Rattle.decimal.specs.Decimal.{number}
use Rattle.settings.specs.declared.SumText.{SumText}
use Rattle.piece.specs.Piece.{SumsTo}
use Rattle.checksum.specs.Carried.{piece_of}
use Rattle.checksum.proofs.piece_of.Goals as goal

pub returns-in-Stripped : goal.returns-in-Stripped
returns-in-Stripped c =
    let a = c.args in
    subst (λ (t : SumText). SumsTo (piece_of t (number a.price) (number a.size)) c.k_piece.result) (sym c.in-Stripped.is) c.k_piece.ensures

pub returns-in-Interleaved : goal.returns-in-Interleaved
returns-in-Interleaved c =
    let a = c.args in
    subst (λ (t : SumText). SumsTo (piece_of t (number a.price) (number a.size)) c.m_piece.result) (sym c.in-Interleaved.is) c.m_piece.ensures
