-- `number_of` meets its contract: answer by answer.
use mathlib.Core.Path.{◌≡◌, refl}
use denote.Enum.Declared.{tag_of}
use Rattle.answer.specs.Answers.{answer_number}
use Rattle.answer.specs.contracts.Answer.{the_type}
use Rattle.answer.specs.declared.Answer.{Answer}
use Rattle.answer.specs.declared.Answer.TheVariants.{Taken, Shut, TooLong, NotJson, Escaped, NotOurs, BadLayout, TooManyEntries, BadDecimal, PriceTwice, NoSnapshot, OldNumber, TooManyLevels, WrongChecksum, NoLevel, NoRoom, Crossed}
use Rattle.answer.proofs.number_of.Goals as goal

is_number : (a : Answer) → tag_of the_type a ≡ answer_number a
unfolding answer_number
is_number Taken = refl
is_number Shut = refl
is_number TooLong = refl
is_number NotJson = refl
is_number Escaped = refl
is_number NotOurs = refl
is_number BadLayout = refl
is_number TooManyEntries = refl
is_number BadDecimal = refl
is_number PriceTwice = refl
is_number NoSnapshot = refl
is_number OldNumber = refl
is_number TooManyLevels = refl
is_number WrongChecksum = refl
is_number NoLevel = refl
is_number NoRoom = refl
is_number Crossed = refl

pub returns : goal.returns
returns c = is_number c.args.answer
