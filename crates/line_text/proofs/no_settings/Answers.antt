-- `no_settings` meets its contract: past the end of a line there is no name.
use Rattle.line_text.proofs.Settings.{found_none}
use Rattle.line_text.proofs.no_settings.Goals as goal

pub returns : goal.returns
returns c = found_none c.args.line.now
