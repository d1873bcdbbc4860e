-- `bad_at` meets its contract: by the kind.
-- Assumes nothing.
use mathlib.Core.Path.{sym, ◌∙◌}
use Rattle.layout.proofs.Laws.{bad-snapshot, bad-update}
use Rattle.layout.proofs.bad_at.Goals as goal

pub returns-then-is_snapshot : goal.returns-then-is_snapshot
returns-then-is_snapshot c = bad-snapshot c.args.kind c.args.tally (sym c.is_snapshot.ensures ∙ c.if-is_snapshot.true)

pub returns-else-is_snapshot : goal.returns-else-is_snapshot
returns-else-is_snapshot c = bad-update c.args.kind c.args.tally (sym c.is_snapshot.ensures ∙ c.if-is_snapshot.false)
