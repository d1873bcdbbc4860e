-- `write_whole` meets its contract: it lays the digits of the number.
use Rattle.std.proofs.Common.{ℕ, List, length, ap, subst, lt_of_lt_of_le, arith, lit≤}
use Rattle.decimal.specs.Laying.{Laid}
use Rattle.decimal.proofs.Digits.{length-written}
use Rattle.decimal.proofs.writing.write_whole.Goals as goal

pub lay-requires : goal.lay-requires
lay-requires c = let e = ap length c.whole_tail.ensures in let l = length-written 19 c.args.n (lt_of_lt_of_le c.ranges.n.fits (lit≤ tt)) in omega arith

pub returns : goal.returns
returns c = subst (λ (l : List ℕ). Laid c.args.buffer.now c.args.at l c.lay.new.buffer c.lay.result) c.whole_tail.ensures c.lay.ensures
