-- `is_snapshot` meets its contract: kind by kind.
use Rattle.layout.specs.Layout.{is_snapshot}
use Rattle.layout.proofs.is_snapshot.Goals as goal

pub returns-in-Snapshot : goal.returns-in-Snapshot
unfolding is_snapshot
returns-in-Snapshot c = rw c.in-Snapshot.is

pub returns-in-Update : goal.returns-in-Update
unfolding is_snapshot
returns-in-Update c = rw c.in-Update.is
