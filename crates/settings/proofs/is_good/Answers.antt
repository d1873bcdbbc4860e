-- `is_good` meets its contract: depth and name are both to be good.
use mathlib.Core.Path.{sym, ◌∙◌}
use Rattle.settings.proofs.Good.{both-good, bad-depth}
use Rattle.settings.proofs.is_good.Goals as goal

pub returns-then-is_good_depth : goal.returns-then-is_good_depth
returns-then-is_good_depth c = c.is_good_name.ensures ∙ sym (both-good (record { dialect = c.args.dialect; depth = c.args.depth; name = c.args.name.now }) (sym c.is_good_depth.ensures ∙ c.if-is_good_depth.true))

pub returns-else-is_good_depth : goal.returns-else-is_good_depth
returns-else-is_good_depth c = c.if-is_good_depth.false ∙ sym (bad-depth (record { dialect = c.args.dialect; depth = c.args.depth; name = c.args.name.now }) (sym c.is_good_depth.ensures ∙ c.if-is_good_depth.false))
