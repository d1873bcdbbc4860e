-- `with_sum` meets its contract: a level that is set gets the sum of its piece, and a removal stays as it is.
use mathlib.Core.Path.{sym, ap, ap₂, ◌∙◌, subst}
use Rattle.decimal.specs.Limits.{Within}
use Rattle.edit.specs.Edit.{sets}
use Rattle.level.specs.declared.Change.{Change}
use Rattle.level.specs.Ranked.{map_edit, IfSet}
use Rattle.level.specs.Words.{edit}
use Rattle.checksum.specs.Carried.{level_for}
use Rattle.side.specs.Applying.{LevelWithin, with_sum}
use Rattle.side.proofs.with_sum.Goals as goal

pub level_of-requires : goal.level_of-requires
unfolding IfSet edit
level_of-requires c =
    let s = c in
    let known = c.in-Set in
    let w : LevelWithin known.level = subst (λ (x : Change). IfSet LevelWithin (edit x)) known.is s.requires.0 in
    (subst Within (sym c.price_of.ensures) w.0, subst Within (sym c.size_of.ensures) w.1, s.requires.1)

pub returns-in-Set : goal.returns-in-Set
unfolding map_edit edit
returns-in-Set c =
    let s = c in
    let known = c.in-Set in
    ap sets (c.level_of.ensures ∙ ap₂ (level_for s.args.text) c.price_of.ensures c.size_of.ensures)
    ∙ sym (ap (λ (x : Change). map_edit (with_sum s.args.text) (edit x)) known.is)

pub returns-in-Remove : goal.returns-in-Remove
unfolding map_edit edit
returns-in-Remove c =
    let s = c in
    sym (ap (λ (x : Change). map_edit (with_sum s.args.text) (edit x)) c.in-Remove.is)
