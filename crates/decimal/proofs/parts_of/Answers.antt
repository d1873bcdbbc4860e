-- `parts_of` meets its contract: the digits are those up to the ninth decimal, and the code has a 1 before the others.
use Rattle.std.proofs.Common.{ℕ, sym, ◌∙◌, ap₂}
use Rattle.decimal.specs.Decimal.{number}
use Rattle.decimal.specs.declared.Parts.{Parts}
use Rattle.decimal.proofs.Words.{near-words, code-words}
use Rattle.decimal.proofs.parts_of.Goals as goal

words : ℕ → ℕ → Parts
words digits code = record { digits = digits; code = code }

pub returns : goal.returns
unfolding number words
returns c =
    let a = c.args.a in
    ap₂ words (sym (near-words a.digits a.code)) (c.tidy.ensures.is ∙ sym (code-words a.digits a.code))
