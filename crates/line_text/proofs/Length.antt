-- A reply is at most 63 bytes long. Assumes nothing.
use Prim.Native.Nat.{ℕ, ◌≤◌, ◌<◌, ◌^◌}
use mathlib.Core.Bool.{Bool, true, false}
use mathlib.Core.List.{◌++◌}
use native.Mathlib.Nat.{lt_of_lt_of_le}
use native.Mathlib.Omega.{arith}
use lib.Dec.{lit≤, lit<}
use lib.ListN.{length, length-append}
use Rattle.text.specs.Text.{ascii}
use Rattle.decimal.specs.Digits.{written}
use Rattle.decimal.proofs.Digits.{length-written}
use Rattle.answer.specs.Answers.{answer_number}
use Rattle.answer.specs.declared.Answer.{Answer}
use Rattle.answer.specs.declared.Answer.TheVariants.{Taken, Shut, TooLong, NotJson, Escaped, NotOurs, BadLayout, TooManyEntries, BadDecimal, PriceTwice, NoSnapshot, OldNumber, TooManyLevels, WrongChecksum, NoLevel, NoRoom, Crossed}
use Rattle.line_text.specs.Reply.{counts_text, reply_text}

-- a number of 64 bits
digits : {n : ℕ} → n < 2 ^ 64 → length (written n) ≤ 20
digits {n} h = length-written 19 n (lt_of_lt_of_le h (lit≤ tt))

length-counts : (bids asks : ℕ) → bids < 2 ^ 64 → asks < 2 ^ 64 → length (counts_text bids asks) ≤ 43
unfolding counts_text
length-counts bids asks hb ha =
    let l = length-append (ascii " " ++ written bids) ((ascii " " ++ written asks) ++ ascii "\n") in
    let m = length-append (ascii " " ++ written asks) (ascii "\n") in
    let b : length (written bids) ≤ 20 = digits hb in
    let a : length (written asks) ≤ 20 = digits ha in
    omega arith

small : (answer : Answer) → answer_number answer < 2 ^ 64
unfolding answer_number
small Taken = lit< tt
small Shut = lit< tt
small TooLong = lit< tt
small NotJson = lit< tt
small Escaped = lit< tt
small NotOurs = lit< tt
small BadLayout = lit< tt
small TooManyEntries = lit< tt
small BadDecimal = lit< tt
small PriceTwice = lit< tt
small NoSnapshot = lit< tt
small OldNumber = lit< tt
small TooManyLevels = lit< tt
small WrongChecksum = lit< tt
small NoLevel = lit< tt
small NoRoom = lit< tt
small Crossed = lit< tt

pub length-reply : (answer : Answer) (live : Bool) (bids asks : ℕ) → bids < 2 ^ 64 → asks < 2 ^ 64 → length (reply_text answer live bids asks) ≤ 63
unfolding reply_text
length-reply answer true bids asks hb ha =
    let l = length-append (written (answer_number answer)) (counts_text bids asks) in
    let c = length-counts bids asks hb ha in
    let n : length (written (answer_number answer)) ≤ 20 = digits (small answer) in
    omega arith
length-reply answer false bids asks hb ha =
    let l = length-append (written (answer_number answer)) (ascii " - -\n") in
    let n : length (written (answer_number answer)) ≤ 20 = digits (small answer) in
    omega arith
