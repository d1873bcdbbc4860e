-- `entry_of` meets its contract: the test of the size picks the case.
use mathlib.Core.Path.{refl, sym, ap, ◌∙◌}
use Rattle.decimal.specs.Decimal.{number}
use Rattle.edit.specs.Edit.{Numbers, sets}
use Rattle.level.specs.Words.{level_plain, edit}
use Rattle.level.proofs.Changes.{change-removal, change-set}
use Rattle.level.proofs.entry_of.Goals as goal
use Rattle.level.proofs.entry_of.Goals.{Start}

abbrev numbers : Start → Numbers
numbers s = record { side = s.args.side; price = number s.args.price; size = number s.args.size }

pub returns-then-is_zero : goal.returns-then-is_zero
unfolding edit
returns-then-is_zero c = record {
  for_side = refl;
  says = sym (change-removal level_plain (numbers (goal.at.returns-then-is_zero c).Start) (sym c.is_zero.ensures ∙ c.if-is_zero.true));
}

pub returns : goal.returns
unfolding edit
returns c = record {
  for_side = refl;
  says =
      ap sets c.make.ensures
      ∙ sym (change-set level_plain (numbers (goal.at.returns c).Start) (sym c.is_zero.ensures ∙ c.if-is_zero.false));
}
