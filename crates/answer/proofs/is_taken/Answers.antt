-- `is_taken` meets its contract: only `Taken` has the number 0.
use mathlib.Core.Path.{◌≡◌, refl, ◌∙◌}
use denote.Enum.Bare.{sameb}
use Rattle.answer.specs.Answers.{is_taken, answer_number}
use Rattle.answer.specs.contracts.Answer.{the_type}
use Rattle.answer.specs.declared.Answer.{Answer}
use Rattle.answer.specs.declared.Answer.TheVariants.{Taken, Shut, TooLong, NotJson, Escaped, NotOurs, BadLayout, TooManyEntries, BadDecimal, PriceTwice, NoSnapshot, OldNumber, TooManyLevels, WrongChecksum, NoLevel, NoRoom, Crossed}
use Rattle.answer.proofs.is_taken.Goals as goal

same : (a : Answer) → sameb the_type a Taken ≡ is_taken a
unfolding is_taken answer_number
same Taken = refl
same Shut = refl
same TooLong = refl
same NotJson = refl
same Escaped = refl
same NotOurs = refl
same BadLayout = refl
same TooManyEntries = refl
same BadDecimal = refl
same PriceTwice = refl
same NoSnapshot = refl
same OldNumber = refl
same TooManyLevels = refl
same WrongChecksum = refl
same NoLevel = refl
same NoRoom = refl
same Crossed = refl

pub returns : goal.returns
returns c = c.eq.ensures ∙ same c.args.answer
