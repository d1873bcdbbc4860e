-- `open` meets its contract: the book is opened with the settings that line 1 has.
use mathlib.Core.Path.{subst}
use Rattle.line_text.proofs.Settings.{found-config}
use Rattle.book.specs.Shown.{Opened}
use Rattle.feed.proofs.open.Goals as goal

pub returns : goal.returns
returns c =
    let first = c.read_settings-first in
    subst (λ t. Opened t c.«open».result) (found-config c.args.line.now _ first.result first.ensures) c.«open».ensures
