-- `closed` meets its contract: a copy by fields is what it was.
use mathlib.Core.Path.{ap}
use Rattle.message_k.specs.MembersK.{closed_at}
use Rattle.message_k.proofs.closed.Goals as goal

pub returns : goal.returns
returns c = ap (closed_at c.args.end) c.by_fields-next.ensures
