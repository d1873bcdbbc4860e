-- `count_levels` meets its contract: by whether the question is answered.
use mathlib.Core.Path.{sym, ◌∙◌}
use Rattle.lifecycle.specs.Lifecycle.{counts_of}
use Rattle.lifecycle.proofs.count_levels.Goals as goal

pub returns-then-stands : goal.returns-then-stands
unfolding counts_of
returns-then-stands c = rw (sym c.stands.ensures ∙ c.if-stands.true)

pub returns : goal.returns
unfolding counts_of
returns c = rw (sym c.stands.ensures ∙ c.if-stands.false, c.refusal.ensures)
