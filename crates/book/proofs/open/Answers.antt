-- `open` meets its contract: the settings that are kept, and nothing else yet.
use Rattle.book.proofs.Asking.{opened-told}
use Rattle.book.proofs.open.Goals as goal

pub returns : goal.returns
returns c =
    let a = c.args in
    opened-told (record { dialect = a.dialect; depth = a.depth; name = a.name.now }) c.choose-settings.result c.choose-settings.ensures c.empty-none.result c.empty-none.ensures c.first_state.result c.first_state.ensures
