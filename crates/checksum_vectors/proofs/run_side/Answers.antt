-- A side that entries are applied to stays fine.
use Rattle.std.proofs.Common.{take}
use Rattle.edit.specs.Buffer.{entries_in}
use Rattle.checksum_vectors.proofs.Valid.{applied-fine}
use Rattle.checksum_vectors.proofs.run_side.Goals as goal

pub returns : goal.returns
returns g c = applied-fine c.args.text c.args.side c.args.depth (take c.read_entries-n.result (entries_in c.read_entries-n.new.buffer)) c.args.levels c.requires.0 c.read_entries-n.ensures.within c.apply-applied.ensures
