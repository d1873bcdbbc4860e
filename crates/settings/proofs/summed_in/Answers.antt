-- `summed_in` meets its contract, by cases.
use mathlib.Core.Path.{sym, ap}
use Rattle.settings.specs.Rules.{summed_in}
use Rattle.settings.proofs.summed_in.Goals as goal

pub returns-in-M1 : goal.returns-in-M1
unfolding summed_in
returns-in-M1 c = sym (ap summed_in c.in-M1.is)

pub returns-in-M2 : goal.returns-in-M2
unfolding summed_in
returns-in-M2 c = sym (ap summed_in c.in-M2.is)
