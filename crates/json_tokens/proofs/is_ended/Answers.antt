-- `json_tokens::is_ended` meets its contract: it compares where the blanks end with the length.
-- Assumes nothing.
use lib.Dec.{eqb}
use lib.ListN.{length}
use mathlib.Core.Path.{ap}
use Rattle.json_tokens.specs.Tokens.{ended}
use Rattle.json_tokens.proofs.is_ended.Goals as goal

pub returns : goal.returns
unfolding ended
returns c = ap (λ n. eqb n (length c.args.s.now)) c.skip_blanks.ensures
