-- `outline_of` meets its contract: by whether all that was met are entries.
-- Assumes nothing.
use mathlib.Core.Path.{◌∙◌}
use Rattle.layout.proofs.Laws.{outline-formed, outline-none}
use Rattle.layout.proofs.outline_of.Goals as goal

pub returns-then-tally : goal.returns-then-tally
returns-then-tally c = let a = c.args in outline-formed a.kind a.tally a.printed a.checksum a.number c.if-tally.true c.bad_at.result c.bad_at.ensures

pub returns : goal.returns
returns c = let a = c.args in c.no_outline.ensures ∙ outline-none a.kind a.tally a.printed a.checksum a.number c.if-tally.false
