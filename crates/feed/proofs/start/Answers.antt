-- `start` meets its contract: nothing is read and nothing replied.
use borrow.Author.Rules.{rules}
use Rattle.feed.specs.Stream.{state_of}
use Rattle.feed.proofs.start.Goals as goal

pub returns : goal.returns
unfolding state_of
returns c = search rules
