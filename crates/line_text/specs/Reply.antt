-- The reply to a message, as document 01 has it under "The line program": the number of the answer, then bids and asks, or `- -` unless the
-- book is live. Assumes nothing: these are definitions.
use Rattle.std.specs.Prelude.{ℕ, Bool, cond, List, ◌++◌}
use Rattle.text.specs.Text.{ascii}
use Rattle.decimal.specs.Digits.{written}
use Rattle.answer.specs.Answers.{answer_number}
use Rattle.answer.specs.declared.Answer.{Answer}

unfoldable pub counts_text : ℕ → ℕ → List ℕ
counts_text bids asks = (ascii " " ++ written bids) ++ ((ascii " " ++ written asks) ++ ascii "\n")

unfoldable pub reply_text : Answer → Bool → ℕ → ℕ → List ℕ
reply_text answer live bids asks = written (answer_number answer) ++ cond live (counts_text bids asks) (ascii " - -\n")
