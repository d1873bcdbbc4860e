-- `with_entries` meets its contract: the entries are read behind those that were told before.
-- Assumes nothing.
use native.Mathlib.Omega.{arith}
use Rattle.message_k.proofs.OneMember.{entries-read}
use Rattle.message_k.proofs.with_entries.Goals as goal

pub entries_at-read-requires : goal.entries_at-read-requires
entries_at-read-requires c = let p = c.requires in (omega arith, p.0, p.1)

pub returns : goal.returns
returns c =
    let a = c.args in
    let e = c.entries_at-read in
    entries-read a.s.now a.members a.from a.side a.buffer.now _ e.result e.ensures
