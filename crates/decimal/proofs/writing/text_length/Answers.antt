-- `text_length` meets its contract: a decimal within the limits has a short text.
use Rattle.std.proofs.Common.{length, ap, ◌∙◌, arith}
use Rattle.decimal.specs.Decimal.{number}
use Rattle.decimal.proofs.Text.{length-text}
use Rattle.decimal.proofs.writing.text_length.Goals as goal

pub tail_length-requires : goal.tail_length-requires
tail_length-requires c = let e = ap length c.text_tail.ensures in let l = length-text (number c.args.a) c.requires in omega arith

pub returns : goal.returns
returns c = c.tail_length.ensures ∙ ap length c.text_tail.ensures
