use lib.ListN.{length, take}
use Rattle.order_edit.specs.Buffer.{entries_in}
use Rattle.orders.specs.Words.{held}
use Rattle.orders.proofs.Entries.{Turn}
use Rattle.orders.proofs.applying.apply.Given as goal

abbrev pub invariant-loop-k : goal.invariant-loop-k
invariant-loop-k l =
    Turn l.listed l.side (held l.other l.others) (take l.entries (entries_in l.buffer)) (held l.initial.words l.kept) l.kept (length l.initial.words) l.words l.count l.k
