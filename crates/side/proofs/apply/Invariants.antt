use lib.ListN.{take}
use Rattle.edit.specs.Buffer.{entries_in}
use Rattle.side.proofs.Entries.{Turn}
use Rattle.side.proofs.apply.Given as goal

abbrev pub invariant-loop-k : goal.invariant-loop-k
invariant-loop-k l = Turn l.text l.side (take l.entries (entries_in l.buffer)) (take l.initial.count l.initial.levels) l.initial.count l.levels l.count l.moved l.replaced l.k
