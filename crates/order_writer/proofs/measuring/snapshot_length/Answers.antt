-- `snapshot_length` meets its contract: the lengths of its texts, summed.
use Prim.Native.Nat.{◌+◌, ◌≤◌}
use mathlib.Core.Path.{◌≡◌}
use native.Mathlib.Omega.{arith}
use lib.ListN.{length}
use Rattle.writer.proofs.Texts.{checksum-short}
use Rattle.order_writer.specs.Parts.{snapshot_text}
use Rattle.order_writer.proofs.Parts.{length-text}
use Rattle.order_writer.proofs.measuring.snapshot_length.Goals as goal
use Rattle.order_writer.proofs.measuring.snapshot_length.Lts as lts
use Rattle.order_writer.proofs.measuring.snapshot_length.Tie as tie
use Rattle.order_writer.proofs.measuring.snapshot_length.Reads as reads

-- Places in the code.
abbrev Start : Type 0
Start = lts.Start tie.the-claims reads.Pre reads.Post

abbrev After-whole_length : Type 0
After-whole_length = lts.After-whole_length tie.the-claims reads.Pre reads.Post

abbrev start : After-whole_length → Start
start c = c.before.before.before.before.before.before

summed : (c : After-whole_length) →
    let a = (start c).args in
    let n = 93 + (c.side_length.result + c.side_length-2.result) + c.whole_length.result + length a.name.now in
    (n ≡ length (snapshot_text a.name.now a.bids.now a.b a.asks.now a.a a.checksum)) × (n ≤ 65536)
summed c =
    let s = start c in
    let k = length-text s.args.name.now s.args.bids.now s.args.b s.args.asks.now s.args.a s.args.checksum in
    let w = checksum-short s.args.checksum s.ranges.checksum.fits in
    let e = c.whole_length.ensures in
    let b = c.side_length.ensures in
    let a = c.side_length-2.ensures in
    let m = s.requires.2 in
    (omega arith, omega arith)

pub overflow_add-result-2 : goal.overflow_add-result-2
overflow_add-result-2 c = let n = summed c.before in omega arith

pub overflow_add-result-3 : goal.overflow_add-result-3
overflow_add-result-3 c = let n = summed c.before in omega arith

pub returns : goal.returns
returns c = (summed c.before).0
