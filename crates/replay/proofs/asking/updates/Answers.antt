use mathlib.Core.Path.{refl}
use Rattle.replay.proofs.Answering.{as-asked, updates-answered}
use Rattle.replay.proofs.asking.updates.Goals as goal

pub returns : goal.returns
returns c = λ buffer. as-asked refl c.number_replied.ensures (updates-answered c.args.book.now buffer c.requires c.args.scope c.updates.result c.updates.ensures)
