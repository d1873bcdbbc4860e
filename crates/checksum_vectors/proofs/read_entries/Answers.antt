-- Each turn puts one entry more into the buffer.
use Rattle.std.proofs.Common.{subst}
use Rattle.side.specs.Applying.{Given}
use native.Mathlib.Omega.{arith}
use Rattle.decimal.proofs.RoundTrip.{parsed-within}
use Rattle.checksum_vectors.proofs.Valid.{filled_none, filled_more, filled-given}
use Rattle.checksum_vectors.proofs.read_entries.Goals as goal

pub loop-k-init : goal.loop-k-init
loop-k-init c = filled_none c.args.buffer.now c.requires

pub returns-then-s-at : goal.returns-then-s-at
returns-then-s-at c = filled-given c.args.side c.loop-k.invariant

pub returns-then-s-price_end : goal.returns-then-s-price_end
returns-then-s-price_end c = filled-given c.args.side c.loop-k.invariant

pub returns-in_default : goal.returns-in_default
returns-in_default c = filled-given c.args.side c.loop-k.invariant

pub returns-in_default-parse : goal.returns-in_default-parse
returns-in_default-parse c = filled-given c.args.side c.loop-k.invariant

pub put-requires : goal.put-requires
put-requires c = (c.loop-k.invariant.room, parsed-within _ c.parse.ensures c.in-Some.is, parsed-within _ c.parse-in-loop-k.ensures c.in-Some-parse.is)

pub loop-k-preserved : goal.loop-k-preserved
loop-k-preserved c =
    filled_more c.loop-k-test.true c.loop-k.invariant c.put.ensures
    (parsed-within _ c.parse.ensures c.in-Some.is, parsed-within _ c.parse-in-loop-k.ensures c.in-Some-parse.is)

pub returns : goal.returns
returns c = subst (Given c.args.side c.loop-k.buffer) (omega (arith, c.loop-k-test.false, c.loop-k.auto.k-end)) (filled-given c.args.side c.loop-k.invariant)
