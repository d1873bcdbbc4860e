-- `k_write` meets its contract: the length is known first, so there is room for the whole text, or no byte is laid.
use Prim.Native.Nat.{ℕ}
use mathlib.Core.List.{List}
use native.Mathlib.Omega.{arith}
use Rattle.decimal.proofs.Buffer.{laid-full}
use Rattle.writer.specs.Parts.{k_snapshot_text, WritableSide, Room}
use Rattle.writer.proofs.Owed.{put-laid}
use Rattle.writer.proofs.Texts.{good-writable}
use Rattle.writer.proofs.k_write.Goals as goal
use Rattle.writer.proofs.k_write.Lts as lts
use Rattle.writer.proofs.k_write.Tie as tie
use Rattle.writer.proofs.k_write.Reads as reads

-- Places in the code.
abbrev Start : Type 0
Start = lts.Start tie.the-claims reads.Pre reads.Post

abbrev Else-buffer-k_length : Type 0
Else-buffer-k_length = lts.Else1 tie.the-claims reads.Pre reads.Post

abbrev whole : Start → List ℕ
whole s = k_snapshot_text s.args.depth s.args.name.now s.args.bids s.args.asks

sides : (s : Start) → WritableSide s.args.bids × WritableSide s.args.asks
sides s = (good-writable s.requires.0 s.requires.2, good-writable s.requires.1 s.requires.3)

enough : (c : Else-buffer-k_length) → Room c.args.buffer.now 0 (whole c.before.before.before.before)
enough c = let e = c.k_length.ensures in let h = c.if-buffer-k_length.false in omega arith

pub k_length-requires : goal.k_length-requires
k_length-requires c = ((sides c.before.before.before).0, (sides c.before.before.before).1, c.requires.4)

pub returns-then-buffer-k_length : goal.returns-then-buffer-k_length
unfolding k_snapshot_text
returns-then-buffer-k_length c = let e = c.k_length.ensures in let h = c.if-buffer-k_length.true in laid-full c.args.buffer.now 0 (whole c.before.before.before.before.before) (omega arith)

pub lay_k-requires : goal.lay_k-requires
lay_k-requires c = ((sides c.before.before.before.before.before.before).0, (sides c.before.before.before.before.before.before).1, enough c.before.before)

pub returns : goal.returns
unfolding k_snapshot_text
returns c = put-laid (enough c.before.before.before.before.before) c.lay_k.ensures
