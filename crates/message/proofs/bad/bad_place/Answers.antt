-- `bad_place` meets its contract: by whether the settings are good.
use Rattle.message.proofs.FirstBad.{place-good, place-shut}
use mathlib.Core.Path.{sym, ◌∙◌}
use Rattle.message.proofs.bad.bad_place.Goals as goal

pub bad_in_frame-requires : goal.bad_in_frame-requires
bad_in_frame-requires c = sym c.is_good.ensures ∙ c.if-is_good.true

pub returns-then-is_good : goal.returns-then-is_good
returns-then-is_good c =
    let a = c.args in
    let e = c.bad_in_frame.ensures in
    record { is = e.is ∙ place-good (record { dialect = a.dialect; depth = a.depth; name = a.name.now }) a.s.now (sym c.is_good.ensures ∙ c.if-is_good.true); within = e.within }

pub returns : goal.returns
returns c =
    let a = c.args in
    place-shut (record { dialect = a.dialect; depth = a.depth; name = a.name.now }) a.s.now (sym c.is_good.ensures ∙ c.if-is_good.false)
