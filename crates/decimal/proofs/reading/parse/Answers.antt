-- `parse` meets its contract: a decimal text has a decimal at its front, and nothing after it.
use Rattle.std.proofs.Common.{◌-◌, sym, ap, ◌∙◌, arith}
use Rattle.decimal.specs.Decimal.{number}
use Rattle.decimal.specs.Reads.{parsed}
use Rattle.decimal.proofs.Scan.{read_all, read-part, read_none}
use Rattle.decimal.proofs.reading.parse.Goals as goal

pub returns-then-front-s : goal.returns-then-front-s
returns-then-front-s c =
    let f = c.in_ok-front.front in
    let e = c.if-front-s.true in
    sym (read_all c.args.s.now (record { number = number f.decimal; size = f.end - 0 }) (sym c.in_ok-front.ensures) (omega arith))

pub returns-else-front-s : goal.returns-else-front-s
returns-else-front-s c =
    let f = c.in_ok-front.front in
    let e = c.if-front-s.false in
    sym (read-part c.args.s.now (record { number = number f.decimal; size = f.end - 0 }) (sym c.in_ok-front.ensures) (λ q. e (omega arith)))

pub returns-in_err-front : goal.returns-in_err-front
returns-in_err-front c = ap parsed c.from_residual.ensures ∙ sym (read_none c.args.s.now (sym c.in_err-front.ensures))
