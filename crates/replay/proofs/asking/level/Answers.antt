use mathlib.Core.Path.{refl}
use Rattle.replay.proofs.Answering.{as-asked, level-answered}
use Rattle.replay.proofs.asking.level.Goals as goal

pub returns : goal.returns
returns c = λ buffer. as-asked refl c.level_replied.ensures (level-answered c.args.book.now buffer c.requires c.args.scope c.args.side c.args.i c.level.result c.level.ensures)
