-- `word_from` meets its contract: a word is its bytes times powers of 256.
use native.Mathlib.Omega.{arith}
use Rattle.order_edit.proofs.Ids.{bytes-from}
use Rattle.order_edit.proofs.id_text.word_from.Goals as goal

pub returns : goal.returns
returns c =
    let a = c.args in
    omega (arith, bytes-from a.s.now a.at, c.wide.ensures.0, c.byte_at.ensures, c.wide-2.ensures.0, c.byte_at-2.ensures, c.wide-3.ensures.0, c.byte_at-3.ensures, c.wide-4.ensures.0, c.byte_at-4.ensures, c.wide-5.ensures.0, c.byte_at-5.ensures, c.wide-6.ensures.0, c.byte_at-6.ensures, c.wide-7.ensures.0, c.byte_at-7.ensures, c.wide-8.ensures.0, c.byte_at-8.ensures)
