-- Document 01's table of answers: the numbers, and its last column. Assumes nothing: these are definitions.
use Rattle.std.specs.Prelude.{ℕ, Bool, false, ◌||◌, List, [], ◌∷◌, eqb}
use Rattle.answer.specs.declared.Answer.{Answer}
use Rattle.answer.specs.declared.Answer.TheVariants.{Taken, Shut, TooLong, NotJson, Escaped, NotOurs, BadLayout, TooManyEntries, BadDecimal, PriceTwice, NoSnapshot, OldNumber, TooManyLevels, WrongChecksum, NoLevel, NoRoom, Crossed}

unfoldable pub answer_number : Answer → ℕ
answer_number Taken = 0
answer_number Shut = 1
answer_number TooLong = 2
answer_number NotJson = 3
answer_number Escaped = 4
answer_number NotOurs = 5
answer_number BadLayout = 6
answer_number TooManyEntries = 7
answer_number BadDecimal = 8
answer_number PriceTwice = 9
answer_number NoSnapshot = 10
answer_number OldNumber = 11
answer_number TooManyLevels = 12
answer_number WrongChecksum = 13
answer_number NoLevel = 14
answer_number NoRoom = 15
answer_number Crossed = 16

unfoldable pub one_of : List ℕ → ℕ → Bool
one_of [] n = false
one_of (k ∷ ks) n = eqb n k || one_of ks n

-- The answers to messages, in the order of checks. 4 is given no more (request a).
abbrev pub to_messages : List ℕ
to_messages = 0 ∷ 1 ∷ 2 ∷ 3 ∷ 5 ∷ 6 ∷ 7 ∷ 8 ∷ 9 ∷ 10 ∷ 11 ∷ 12 ∷ 16 ∷ 13 ∷ []

-- "Questions and the writer use 1, 10, 14, 15 in that order."
abbrev pub to_questions : List ℕ
to_questions = 0 ∷ 1 ∷ 10 ∷ 14 ∷ 15 ∷ []

unfoldable pub is_taken : Answer → Bool
is_taken a = eqb (answer_number a) 0

-- The table's last column: the refusals that leave the book unchanged; the others set it waiting.
abbrev pub unchanging : List ℕ
unchanging = 1 ∷ 5 ∷ 10 ∷ 14 ∷ 15 ∷ []

unfoldable pub leaves_status : Answer → Bool
leaves_status a = one_of unchanging (answer_number a)
