-- `huurqan_replay` meets its contract: as `replay`, with the settings that the text has.
use Rattle.line_text.specs.Opening.{line_one}
use Rattle.line_text.proofs.Settings.{found-config}
use Rattle.replay.proofs.huurqan_replay.Goals as goal

pub returns : goal.returns
returns c =
    let a = c.args in
    let first = c.read_settings-first in
    rw (← found-config a.settings.now (line_one a.settings.now) first.result first.ensures) c.replay.ensures
