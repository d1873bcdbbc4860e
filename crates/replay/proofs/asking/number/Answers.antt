use mathlib.Core.Path.{refl}
use Rattle.replay.proofs.Answering.{as-asked, number-answered}
use Rattle.replay.proofs.asking.number.Goals as goal

pub returns : goal.returns
returns c = λ buffer. as-asked refl c.number_replied.ensures (number-answered c.args.book.now buffer c.requires c.args.scope c.number.result c.number.ensures)
