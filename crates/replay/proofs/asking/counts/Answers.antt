use mathlib.Core.Path.{refl}
use Rattle.replay.proofs.Answering.{as-asked, counts-answered}
use Rattle.replay.proofs.asking.counts.Goals as goal

pub returns : goal.returns
returns c = λ buffer. as-asked refl c.counts_replied.ensures (counts-answered c.args.book.now buffer c.requires c.args.scope c.counts.result c.counts.ensures)
