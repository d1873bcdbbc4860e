use mathlib.Core.Path.{◌≡◌}
use lib.ListN.{drop}
use Rattle.json_values.specs.Names.{meaning, same}
use Rattle.json_values.proofs.plain_end.Given as goal

abbrev pub invariant-loop-k : goal.invariant-loop-k
invariant-loop-k l = same (meaning 0 (drop l.k l.t)) (drop l.k l.name) ≡ same (meaning 0 l.t) l.name
