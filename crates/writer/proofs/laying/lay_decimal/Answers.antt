-- `lay_decimal` meets its contract: the decimal's text fits, so it is laid.
use Rattle.writer.proofs.Owed.{put_end}
use Rattle.writer.proofs.laying.lay_decimal.Goals as goal

pub returns : goal.returns
returns c = put_end c.requires.1 c.write.ensures c.args.at c.unwrap_or.ensures
