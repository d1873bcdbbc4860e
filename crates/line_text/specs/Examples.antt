-- Worked examples: document 01's line 1 and its replies; lines 1 that are bad. Assumes nothing.
use Prim.Native.String.{String}
use Rattle.std.specs.Prelude.{◌≡◌, refl, Bool, true, false, List, [], ◌∷◌, ◌++◌}
use Rattle.lines.specs.Lines.{bytes_before}
use Rattle.text.specs.Text.{ascii, is_digit}
use Rattle.decimal.specs.Digits.{leading, value_from, significant_in, significant, written}
use Rattle.decimal.specs.Decimal.{is_whole}
use Rattle.decimal.specs.Whole.{read_whole}
use Rattle.settings.specs.Settings.{good_depth, name_byte, name_bytes, good_name, good}
use Rattle.settings.specs.declared.Dialect.TheVariants.{M}
use Rattle.settings.specs.declared.Edition.TheVariants.{M1, M2}
use Rattle.answer.specs.Answers.{answer_number}
use Rattle.answer.specs.declared.Answer.TheVariants.{Taken, NotOurs, NotJson, NoSnapshot}
use Rattle.line_text.specs.Opening.{by_letter, by_edition, dialect_of, with_depth, depth_and_name, line_one}
use Rattle.line_text.specs.Reply.{counts_text, reply_text}

-- a line 1, and whether its settings are good
Holds : String → Bool → Type 0
Holds line b = good (line_one (ascii line)) ≡ b

bad : List String → Type 0
bad [] = Unit
bad (line ∷ ls) = Holds line false × bad ls

first_line : line_one (ascii "M 100 BTC-VND") ≡ record { dialect = M M1; depth = 100; name = ascii "BTC-VND" }
unfolding line_one by_letter by_edition dialect_of depth_and_name with_depth bytes_before read_whole is_whole is_digit leading value_from
first_line = refl

-- plain M means M1
edition_lines : (line_one (ascii "M1 100 BTC-VND") ≡ line_one (ascii "M 100 BTC-VND")) × (line_one (ascii "M2 100 BTC-VND") ≡ record { dialect = M M2; depth = 100; name = ascii "BTC-VND" })
unfolding line_one by_letter by_edition dialect_of depth_and_name with_depth bytes_before read_whole is_whole is_digit leading value_from
edition_lines = (refl, refl)

good_line : Holds "K 10 XBT/USD" true
unfolding Holds line_one by_letter by_edition dialect_of depth_and_name with_depth bytes_before read_whole is_whole is_digit leading value_from good good_depth good_name name_bytes name_byte
good_line = refl

bad_lines : bad ("K  10 A" ∷ "K\t10 A" ∷ "K 10 A " ∷ "K 10 A\r" ∷ "K 010 A" ∷ "k 10 A" ∷ "M3 100 A" ∷ "K1 10 A" ∷ "M11 100 A" ∷ "K 10" ∷ "K 10 " ∷ "" ∷ [])
unfolding bad Holds line_one by_letter by_edition dialect_of depth_and_name with_depth bytes_before read_whole is_whole is_digit leading value_from good good_depth good_name name_bytes name_byte
bad_lines = (refl, (refl, (refl, (refl, (refl, (refl, (refl, (refl, (refl, (refl, (refl, (refl, tt))))))))))))

replied : reply_text Taken true 1 1 ++ (reply_text NotOurs true 1 1 ++ (reply_text NotJson false 0 0 ++ reply_text NoSnapshot false 0 0)) ≡ ascii "0 1 1\n5 1 1\n3 - -\n10 - -\n"
unfolding reply_text counts_text answer_number written significant significant_in
replied = refl
