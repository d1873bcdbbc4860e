-- `read` meets its contract: by whether the settings are good.
use Rattle.message.proofs.Reading.{judged-good, judged-shut}
use mathlib.Core.Path.{refl, sym, ◌∙◌}
use Rattle.message.proofs.read.Goals as goal

pub read_open-requires : goal.read_open-requires
read_open-requires c = (sym c.is_good.ensures ∙ c.if-is_good.true, refl)

pub returns-then-is_good : goal.returns-then-is_good
returns-then-is_good c =
    let a = c.args in
    c.read_open.ensures.told ∙ judged-good (record { dialect = a.dialect; depth = a.depth; name = a.name.now }) a.s.now (sym c.is_good.ensures ∙ c.if-is_good.true)

pub returns : goal.returns
returns c =
    let a = c.args in
    judged-shut (record { dialect = a.dialect; depth = a.depth; name = a.name.now }) a.s.now (sym c.is_good.ensures ∙ c.if-is_good.false)
