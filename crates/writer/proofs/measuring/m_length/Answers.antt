-- `m_length` meets its contract: the lengths of its texts, summed.
use Prim.Native.Nat.{◌+◌, ◌≤◌}
use mathlib.Core.Path.{◌≡◌}
use native.Mathlib.Omega.{arith}
use lib.ListN.{length}
use Rattle.writer.specs.Parts.{m_snapshot_text}
use Rattle.writer.proofs.Texts.{length-m, whole-short, checksum-short}
use Rattle.writer.proofs.measuring.m_length.Goals as goal
use Rattle.writer.proofs.measuring.m_length.Lts as lts
use Rattle.writer.proofs.measuring.m_length.Tie as tie
use Rattle.writer.proofs.measuring.m_length.Reads as reads

-- Places in the code.
abbrev After-whole_length-2 : Type 0
After-whole_length-2 = lts.After-whole_length2 tie.the-claims reads.Pre reads.Post

summed : (c : After-whole_length-2) →
    let s = c in
    let n = 97 + (c.side_length.result + c.side_length-2.result) + (c.whole_length.result + c.whole_length-2.result) + length c.args.name.now in
    (n ≡ length (m_snapshot_text s.args.name.now s.args.bids s.args.asks s.args.checksum s.args.number)) × (n ≤ 14000)
summed c =
    let s = c in
    let k = length-m s.args.name.now s.args.bids s.args.asks s.args.checksum s.args.number in
    let w = checksum-short s.args.checksum s.ranges.checksum.fits in
    let x = whole-short s.args.number s.ranges.number.fits in
    let e = c.whole_length.ensures in
    let f = c.whole_length-2.ensures in
    let d = c.side_length.ensures in
    let a = c.side_length-2.ensures in
    let m = s.requires.2 in
    (omega arith, omega arith)

pub overflow_add-numbers : goal.overflow_add-numbers
overflow_add-numbers c = let n = summed c.before in omega arith

pub overflow_add-result-2 : goal.overflow_add-result-2
overflow_add-result-2 c = let n = summed c.before in omega arith

pub overflow_add-result-3 : goal.overflow_add-result-3
overflow_add-result-3 c = let n = summed c.before in omega arith

pub returns : goal.returns
returns c = (summed c.before).0
