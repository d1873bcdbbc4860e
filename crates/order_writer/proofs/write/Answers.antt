-- `write` meets its contract: the length is known first, so there is room for the whole text, or no byte is laid.
use Prim.Native.Nat.{ℕ}
use mathlib.Core.List.{List}
use native.Mathlib.Omega.{arith}
use Rattle.decimal.proofs.Buffer.{laid-full}
use Rattle.writer.specs.Parts.{Room}
use Rattle.writer.proofs.Owed.{put-laid}
use Rattle.order_writer.specs.Parts.{snapshot_text, WritableSide}
use Rattle.order_writer.proofs.Parts.{kept-writable}
use Rattle.order_writer.proofs.write.Goals as goal
use Rattle.order_writer.proofs.write.Lts as lts
use Rattle.order_writer.proofs.write.Tie as tie
use Rattle.order_writer.proofs.write.Reads as reads

-- Places in the code.
abbrev Start : Type 0
Start = lts.Start tie.the-claims reads.Pre reads.Post

abbrev After-snapshot_length : Type 0
After-snapshot_length = lts.After-snapshot_length tie.the-claims reads.Pre reads.Post

abbrev Else-buffer-snapshot_length : Type 0
Else-buffer-snapshot_length = lts.Else1 tie.the-claims reads.Pre reads.Post

abbrev whole : Start → List ℕ
whole s = snapshot_text s.args.name.now s.args.bids.now s.args.b s.args.asks.now s.args.a s.args.checksum

bids-writable : (s : Start) → WritableSide s.args.bids.now s.args.b
bids-writable s = kept-writable s.requires.0

asks-writable : (s : Start) → WritableSide s.args.asks.now s.args.a
asks-writable s = kept-writable s.requires.1

abbrev start : After-snapshot_length → Start
start c = c.before.before.before.before.before

enough : (c : Else-buffer-snapshot_length) → Room (start c.before).args.buffer.now 0 (whole (start c.before))
enough c = let e = c.snapshot_length.ensures in let h = c.if-buffer-snapshot_length.false in omega arith

pub snapshot_length-requires : goal.snapshot_length-requires
snapshot_length-requires c = let s = c.before.before.before.before.before in (bids-writable s, asks-writable s, s.requires.2)

pub returns-then-buffer-snapshot_length : goal.returns-then-buffer-snapshot_length
unfolding snapshot_text
returns-then-buffer-snapshot_length c =
    let e = c.snapshot_length.ensures in
    let h = c.if-buffer-snapshot_length.true in
    laid-full (start c.before.before).args.buffer.now 0 (whole (start c.before.before)) (omega arith)

pub lay_snapshot-requires : goal.lay_snapshot-requires
lay_snapshot-requires c = let s = start c.before.before.before in (bids-writable s, asks-writable s, enough c.before.before)

pub returns : goal.returns
unfolding snapshot_text
returns c = put-laid (enough c.before.before.before.before.before) c.lay_snapshot.ensures
