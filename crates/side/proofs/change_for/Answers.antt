use mathlib.Core.Path.{◌∙◌, sym, ap, subst}
use Rattle.edit.specs.Buffer.{numbers_of}
use Rattle.level.specs.Ranked.{map_edit, IfSet}
use Rattle.side.specs.Applying.{LevelWithin, with_sum}
use Rattle.side.proofs.Entries.{summed-does, plain-within}
use Rattle.side.proofs.change_for.Goals as goal

pub with_sum-requires : goal.with_sum-requires
with_sum-requires c = (subst (IfSet LevelWithin) (sym c.entry_of-entry.ensures.says) (plain-within (numbers_of c.args.numbers) c.requires.0), c.requires.1)

pub returns : goal.returns
returns c =
    c.with_sum.ensures ∙ ap (map_edit (with_sum c.args.text)) c.entry_of-entry.ensures.says
    ∙ summed-does c.args.text (numbers_of c.args.numbers) c.requires.0
