-- `leaves_state` meets its contract: answer by answer.
use mathlib.Core.Path.{◌≡◌, refl, sym, ap}
use mathlib.Core.Bool.{true, false}
use mathlib.Core.Logic.{◌⊎◌, inl, inr}
use Rattle.answer.specs.Answers.{leaves_status, one_of, answer_number}
use Rattle.answer.specs.declared.Answer.{Answer}
use Rattle.answer.specs.declared.Answer.TheVariants.{Taken, Shut, TooLong, NotJson, Escaped, NotOurs, BadLayout, TooManyEntries, BadDecimal, PriceTwice, NoSnapshot, OldNumber, TooManyLevels, WrongChecksum, NoLevel, NoRoom, Crossed}
use Rattle.answer.proofs.leaves_state.Goals as goal

other : (a : Answer) → (a ≡ Shut → ⊥) → (a ≡ NotOurs → ⊥) → (a ≡ NoSnapshot → ⊥) → (a ≡ NoLevel → ⊥) → (a ≡ NoRoom → ⊥) → false ≡ leaves_status a
unfolding leaves_status one_of answer_number
other Taken shut ours snapshot level room = refl
other Shut shut ours snapshot level room = absurd (shut refl)
other TooLong shut ours snapshot level room = refl
other NotJson shut ours snapshot level room = refl
other Escaped shut ours snapshot level room = refl
other NotOurs shut ours snapshot level room = absurd (ours refl)
other BadLayout shut ours snapshot level room = refl
other TooManyEntries shut ours snapshot level room = refl
other BadDecimal shut ours snapshot level room = refl
other PriceTwice shut ours snapshot level room = refl
other NoSnapshot shut ours snapshot level room = absurd (snapshot refl)
other OldNumber shut ours snapshot level room = refl
other TooManyLevels shut ours snapshot level room = refl
other WrongChecksum shut ours snapshot level room = refl
other NoLevel shut ours snapshot level room = absurd (level refl)
other NoRoom shut ours snapshot level room = absurd (room refl)
other Crossed shut ours snapshot level room = refl

stays : (a : Answer) → a ≡ Shut ⊎ (a ≡ NotOurs ⊎ (a ≡ NoSnapshot ⊎ (a ≡ NoLevel ⊎ a ≡ NoRoom))) → true ≡ leaves_status a
unfolding leaves_status one_of answer_number
stays a (inl h) = sym (ap leaves_status h)
stays a (inr (inl h)) = sym (ap leaves_status h)
stays a (inr (inr (inl h))) = sym (ap leaves_status h)
stays a (inr (inr (inr (inl h)))) = sym (ap leaves_status h)
stays a (inr (inr (inr (inr h)))) = sym (ap leaves_status h)

pub returns-in-Shut : goal.returns-in-Shut
returns-in-Shut c = stays c.args.answer c.in-Shut.is

pub returns-in_default : goal.returns-in_default
returns-in_default c =
    let n = c.in_default in
    other c.args.answer n.not-Shut n.not-NotOurs n.not-NoSnapshot n.not-NoLevel n.not-NoRoom
