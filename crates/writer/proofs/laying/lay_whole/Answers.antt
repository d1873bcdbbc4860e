-- `lay_whole` meets its contract: the digits fit, so they are laid.
use Rattle.writer.proofs.Owed.{put_end}
use Rattle.writer.proofs.laying.lay_whole.Goals as goal

pub returns : goal.returns
returns c = put_end c.requires c.write_whole.ensures c.args.at c.unwrap_or.ensures
