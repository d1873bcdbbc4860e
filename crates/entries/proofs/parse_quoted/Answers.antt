-- `entries::parse_quoted` meets its contract: the part of the text between the quotes is read as a decimal.
-- Assumes nothing.
use mathlib.Core.Path.{◌∙◌, ap}
use Rattle.decimal.specs.Decimal.{read}
use Rattle.entries.proofs.Found.{inner-part}
use Rattle.entries.proofs.parse_quoted.Goals as goal

pub returns : goal.returns
returns c =
    let a = c.args in
    c.parse.ensures ∙ ap read (inner-part a.s.now a.from a.to)
