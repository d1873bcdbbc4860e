-- `renew` meets its contract: field by field.
use Rattle.book.proofs.taking.renew.Goals as goal

pub returns : goal.returns
returns c = rw (c.updates_after.ensures, c.live.ensures)
