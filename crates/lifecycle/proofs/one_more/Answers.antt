-- `one_more` meets its contract: below the end of the count, and at it.
use borrow.Author.Tests.{lt-ltb, le-ltb}
use Rattle.reference.specs.Reference.{one_more}
use Rattle.lifecycle.proofs.one_more.Goals as goal

pub returns-then-updates-lt-MAX_UPDATES : goal.returns-then-updates-lt-MAX_UPDATES
unfolding one_more
returns-then-updates-lt-MAX_UPDATES c =
    let e = lt-ltb c.args.updates 4294967295 c.if-updates-lt-MAX_UPDATES.true in
    rw (e, one_more)

pub returns-else-updates-lt-MAX_UPDATES : goal.returns-else-updates-lt-MAX_UPDATES
unfolding one_more
returns-else-updates-lt-MAX_UPDATES c =
    let e = le-ltb c.args.updates 4294967295 c.if-updates-lt-MAX_UPDATES.false in
    rw (e, one_more)
