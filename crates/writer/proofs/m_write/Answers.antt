-- `m_write` meets its contract: the length is known first, so there is room for the whole text, or no byte is laid.
use Prim.Native.Nat.{ℕ}
use mathlib.Core.List.{List}
use native.Mathlib.Omega.{arith}
use Rattle.decimal.proofs.Buffer.{laid-full}
use Rattle.writer.specs.Parts.{m_snapshot_text, WritableSide, Room}
use Rattle.writer.proofs.Owed.{put-laid}
use Rattle.writer.proofs.Texts.{good-writable}
use Rattle.writer.proofs.m_write.Goals as goal
use Rattle.writer.proofs.m_write.Lts as lts
use Rattle.writer.proofs.m_write.Tie as tie
use Rattle.writer.proofs.m_write.Reads as reads

-- Places in the code.
abbrev Start : Type 0
Start = lts.Start tie.the-claims reads.Pre reads.Post

abbrev Else-buffer-m_length : Type 0
Else-buffer-m_length = lts.Else1 tie.the-claims reads.Pre reads.Post

abbrev whole : Start → List ℕ
whole s = m_snapshot_text s.args.name.now s.args.bids s.args.asks s.args.checksum s.args.number

sides : (s : Start) → WritableSide s.args.bids × WritableSide s.args.asks
sides s = (good-writable s.requires.0 s.requires.2, good-writable s.requires.1 s.requires.3)

enough : (c : Else-buffer-m_length) → Room c.args.buffer.now 0 (whole c.before.before.before.before)
enough c = let e = c.m_length.ensures in let h = c.if-buffer-m_length.false in omega arith

pub m_length-requires : goal.m_length-requires
m_length-requires c = ((sides c.before.before.before).0, (sides c.before.before.before).1, c.requires.4)

pub returns-then-buffer-m_length : goal.returns-then-buffer-m_length
unfolding m_snapshot_text
returns-then-buffer-m_length c = let e = c.m_length.ensures in let h = c.if-buffer-m_length.true in laid-full c.args.buffer.now 0 (whole c.before.before.before.before.before) (omega arith)

pub lay_m-requires : goal.lay_m-requires
lay_m-requires c = ((sides c.before.before.before.before.before.before).0, (sides c.before.before.before.before.before.before).1, enough c.before.before)

pub returns : goal.returns
unfolding m_snapshot_text
returns c = put-laid (enough c.before.before.before.before.before) c.lay_m.ensures
