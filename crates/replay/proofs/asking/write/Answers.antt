use mathlib.Core.Path.{refl}
use Rattle.replay.proofs.Answering.{as-asked, write-answered}
use Rattle.replay.proofs.asking.write.Goals as goal

pub returns : goal.returns
returns c = as-asked refl c.number_replied.ensures (write-answered c.args.book.now c.args.buffer.now c.requires _ c.write.result c.write.ensures)
