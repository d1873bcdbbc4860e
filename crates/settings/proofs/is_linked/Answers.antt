-- `is_linked` meets its contract, by cases.
use mathlib.Core.Path.{◌≡◌, refl, ◌∙◌}
use denote.Enum.Bare.{sameb}
use Rattle.settings.specs.Rules.{is_linked}
use Rattle.settings.specs.contracts.Edition.{the_type}
use Rattle.settings.specs.declared.Edition.{Edition}
use Rattle.settings.specs.declared.Edition.TheVariants.{M1, M2}
use Rattle.settings.proofs.is_linked.Goals as goal

same : (e : Edition) → sameb the_type e M2 ≡ is_linked e
unfolding is_linked
same M1 = refl
same M2 = refl

pub returns : goal.returns
returns c = c.eq.ensures ∙ same c.args.edition
