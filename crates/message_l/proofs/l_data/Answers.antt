-- `message_l::l_data` meets its contract: the value is an array of one, or it is passed over.
-- Assumes nothing.
use mathlib.Core.Path.{◌∙◌, ap}
use Rattle.json_tokens.specs.Ends.{end_of}
use Rattle.entries.proofs.Entry.{end-or-zero}
use Rattle.message_l.proofs.OneElement.{data-none}
use Rattle.message_l.proofs.l_data.Goals as goal

pub returns-in-None : goal.returns-in-None
returns-in-None c =
    let a = c.args in
    let one = c.one_element in
    data-none a.name.now a.s.now a.at _ one.ensures.room c.not_one.result c.unwrap_or.result c.not_one.ensures
    (c.unwrap_or.ensures ∙ end-or-zero c.value_end.result ∙ ap end_of c.value_end.ensures) (one.ensures.none c.in-None.is)
