-- `rules_of` meets its contract: dialect by dialect.
use Rattle.settings.specs.Rules.{rules_of}
use Rattle.settings.proofs.rules_of.Goals as goal

pub returns-in-K : goal.returns-in-K
unfolding rules_of
returns-in-K c = rw c.in-K.is

pub returns-in-M : goal.returns-in-M
unfolding rules_of
returns-in-M c = rw (c.in-M.is, c.summed_in.ensures, c.is_linked.ensures)

pub returns-in-Unknown : goal.returns-in-Unknown
unfolding rules_of
returns-in-Unknown c = rw c.in-Unknown.is
