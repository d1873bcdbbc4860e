-- `refused` meets its contract: by whether the book stays as it is.
use mathlib.Core.Path.{sym, ◌∙◌}
use Rattle.lifecycle.proofs.Laws.{refused-left, refused-waits}
use Rattle.lifecycle.proofs.refused.Goals as goal

pub returns-then-leaves_state : goal.returns-then-leaves_state
returns-then-leaves_state c =
    refused-left c.args.lifecycle c.args.answer (sym c.leaves_state.ensures ∙ c.if-leaves_state.true)

pub returns : goal.returns
returns c =
    refused-waits c.args.lifecycle c.args.answer (sym c.leaves_state.ensures ∙ c.if-leaves_state.false)
