-- `k_length` meets its contract: the lengths of its texts, summed.
use Prim.Native.Nat.{◌+◌, ◌≤◌}
use mathlib.Core.Path.{◌≡◌}
use native.Mathlib.Omega.{arith}
use lib.ListN.{length}
use Rattle.writer.specs.Parts.{k_snapshot_text}
use Rattle.writer.proofs.Texts.{length-k, whole-short}
use Rattle.writer.proofs.measuring.k_length.Goals as goal
use Rattle.writer.proofs.measuring.k_length.Lts as lts
use Rattle.writer.proofs.measuring.k_length.Tie as tie
use Rattle.writer.proofs.measuring.k_length.Reads as reads

-- Places in the code.
abbrev After-whole_length : Type 0
After-whole_length = lts.After-whole_length tie.the-claims reads.Pre reads.Post

summed : (c : After-whole_length) →
    let s = c in
    let n = 32 + (c.side_length.result + c.side_length-2.result) + c.whole_length.result + length c.args.name.now in
    (n ≡ length (k_snapshot_text s.args.depth s.args.name.now s.args.bids s.args.asks)) × (n ≤ 14000)
summed c =
    let s = c in
    let k = length-k s.args.depth s.args.name.now s.args.bids s.args.asks in
    let w = whole-short s.args.depth s.ranges.depth.fits in
    let e = c.whole_length.ensures in
    let a = c.side_length.ensures in
    let d = c.side_length-2.ensures in
    let m = s.requires.2 in
    (omega arith, omega arith)

pub overflow_add-result-2 : goal.overflow_add-result-2
overflow_add-result-2 c = let n = summed c.before in omega arith

pub overflow_add-result-3 : goal.overflow_add-result-3
overflow_add-result-3 c = let n = summed c.before in omega arith

pub returns : goal.returns
returns c = (summed c.before).0
