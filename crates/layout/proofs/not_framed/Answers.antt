-- `not_framed` meets its contract.
use Rattle.layout.proofs.not_framed.Goals as goal

pub returns : goal.returns
returns c = rw c.no_outline.ensures
