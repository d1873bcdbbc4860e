use mathlib.Core.Path.{refl}
use Rattle.replay.proofs.Answering.{as-asked, told-answered}
use Rattle.replay.proofs.asking.take.Goals as goal

pub returns : goal.returns
returns c = λ buffer. as-asked refl c.step_replied.ensures (told-answered c.args.book.now buffer c.args.s.now c.take.result c.take.ensures)
