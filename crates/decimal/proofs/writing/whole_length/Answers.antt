-- `whole_length` meets its contract: a number of 64 bits has at most twenty digits.
use Rattle.std.proofs.Common.{length, ap, ◌∙◌, lt_of_lt_of_le, arith, lit≤}
use Rattle.decimal.proofs.Digits.{length-written}
use Rattle.decimal.proofs.writing.whole_length.Goals as goal

pub tail_length-requires : goal.tail_length-requires
tail_length-requires c = let e = ap length c.whole_tail.ensures in let l = length-written 19 c.args.n (lt_of_lt_of_le c.ranges.n.fits (lit≤ tt)) in omega arith

pub returns : goal.returns
returns c = c.tail_length.ensures ∙ ap length c.whole_tail.ensures
