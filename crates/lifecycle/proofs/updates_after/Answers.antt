-- `updates_after` meets its contract: a snapshot begins the count.
use mathlib.Core.Path.{sym, ◌∙◌}
use Rattle.lifecycle.proofs.updates_after.Goals as goal

pub returns-then-is_snapshot : goal.returns-then-is_snapshot
returns-then-is_snapshot c = let e = sym c.is_snapshot.ensures ∙ c.if-is_snapshot.true in rw e

pub returns-else-is_snapshot : goal.returns-else-is_snapshot
returns-else-is_snapshot c = let e = sym c.is_snapshot.ensures ∙ c.if-is_snapshot.false in rw e c.one_more.ensures
