-- `huurqan_bad_decimal` meets its contract: what `bad_place` tells, as two words, if there is room for them.
use mathlib.Core.Path.{ap, ◌∙◌}
use native.Mathlib.Omega.{arith}
use Rattle.settings.specs.Settings.{Config}
use Rattle.line_text.specs.Opening.{line_one}
use Rattle.line_text.proofs.Settings.{found-config}
use Rattle.message.specs.Meaning.{bad_decimal}
use Rattle.message.specs.Bad.{part_of}
use Rattle.bad_text.proofs.Placing.{none-placed, both-placed}
use Rattle.bad_text.proofs.huurqan_bad_decimal.Goals as goal

pub returns-then-out-lt2 : goal.returns-then-out-lt2
returns-then-out-lt2 c =
    let a = c.args in
    none-placed (bad_decimal (line_one a.settings.now) a.text.now) a.out.now (omega arith)

pub returns : goal.returns
returns c =
    let a = c.args in
    let first = c.read_settings-first in
    let e = c.bad_place-place.ensures.is ∙ ap (λ (t : Config). part_of (bad_decimal t a.text.now)) (found-config a.settings.now (line_one a.settings.now) first.result first.ensures) in
    both-placed (bad_decimal (line_one a.settings.now) a.text.now) a.out.now c.bad_place-place.result e (omega arith)
