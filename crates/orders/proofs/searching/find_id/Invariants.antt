use mathlib.Core.Path.{◌≡◌}
use mathlib.Core.Bool.{false}
use lib.ListN.{take}
use Rattle.level.specs.Ranked.{All}
use Rattle.order_edit.specs.Ids.{same_id, id_words}
use Rattle.orders.specs.Words.{order_id}
use Rattle.orders.specs.Words.{held}
use Rattle.orders.proofs.searching.find_id.Given as goal

abbrev pub invariant-loop-i : goal.invariant-loop-i
invariant-loop-i l = All (λ x. same_id (order_id x) (id_words l.id) ≡ false) (take l.i (held l.words l.count))
