-- Laws of answers: an answer is that of a taken message, or another. Assumes nothing.
use mathlib.Core.Path.{◌≡◌, refl, sym, ◌∙◌}
use mathlib.Core.Bool.{Bool, true, false, true≢false, false≢true}
use Rattle.answer.specs.Answers.{answer_number, is_taken}
use Rattle.answer.specs.declared.Answer.{Answer}
use Rattle.answer.specs.declared.Answer.TheVariants.{Taken, Shut, TooLong, NotJson, Escaped, NotOurs, BadLayout, TooManyEntries, BadDecimal, PriceTwice, NoSnapshot, OldNumber, TooManyLevels, WrongChecksum, NoLevel, NoRoom, Crossed}

pub taken-answer : (a : Answer) → is_taken a ≡ true → a ≡ Taken
unfolding is_taken answer_number
taken-answer Taken h = refl
taken-answer Shut h = absurd (false≢true h)
taken-answer TooLong h = absurd (false≢true h)
taken-answer NotJson h = absurd (false≢true h)
taken-answer Escaped h = absurd (false≢true h)
taken-answer NotOurs h = absurd (false≢true h)
taken-answer BadLayout h = absurd (false≢true h)
taken-answer TooManyEntries h = absurd (false≢true h)
taken-answer BadDecimal h = absurd (false≢true h)
taken-answer PriceTwice h = absurd (false≢true h)
taken-answer NoSnapshot h = absurd (false≢true h)
taken-answer OldNumber h = absurd (false≢true h)
taken-answer TooManyLevels h = absurd (false≢true h)
taken-answer WrongChecksum h = absurd (false≢true h)
taken-answer NoLevel h = absurd (false≢true h)
taken-answer NoRoom h = absurd (false≢true h)
taken-answer Crossed h = absurd (false≢true h)

pub is-taken : (a : Answer) → a ≡ Taken → is_taken a ≡ true
unfolding is_taken answer_number
is-taken a h = rw (h, is_taken, answer_number)

pub not_taken : (a : Answer) → is_taken a ≡ false → a ≡ Taken → ⊥
not_taken a h e = true≢false (sym (is-taken a e) ∙ h)

pub other-answer : (a : Answer) → (a ≡ Taken → ⊥) → is_taken a ≡ false
other-answer a h = at (is_taken a) refl
  where
    at : (b : Bool) → is_taken a ≡ b → b ≡ false
    at true e = absurd (h (taken-answer a e))
    at false e = refl
