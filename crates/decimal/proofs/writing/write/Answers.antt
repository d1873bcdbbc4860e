-- `write` meets its contract: it lays the text of the decimal.
use Rattle.std.proofs.Common.{ℕ, List, length, ap, subst, arith}
use Rattle.decimal.specs.Decimal.{number}
use Rattle.decimal.specs.Laying.{Laid}
use Rattle.decimal.proofs.Text.{length-text}
use Rattle.decimal.proofs.writing.write.Goals as goal

pub lay-requires : goal.lay-requires
lay-requires c = let e = ap length c.text_tail.ensures in let l = length-text (number c.args.a) c.requires in omega arith

pub returns : goal.returns
returns c = subst (λ (l : List ℕ). Laid c.args.buffer.now c.args.at l c.lay.new.buffer c.lay.result) c.text_tail.ensures c.lay.ensures
