-- `parse_text` meets its contract: a text too short for quotes is no decimal.
use mathlib.Core.Path.{sym}
use native.Mathlib.Omega.{arith}
use Rattle.order_entries.proofs.Texts.{short-read}
use Rattle.order_entries.proofs.saying.parse_text.Goals as goal

pub returns-then-to-from-lt2 : goal.returns-then-to-from-lt2
returns-then-to-from-lt2 c =
    let a = c.args in
    sym (short-read a.s.now (record { from = a.from; to = a.to }) c.if-to-from-lt2.true)

pub parse_quoted-requires : goal.parse_quoted-requires
parse_quoted-requires c = let p = c.requires in let h = c.if-to-from-lt2.false in (omega arith, p.1)

pub returns : goal.returns
returns c = c.parse_quoted.ensures
