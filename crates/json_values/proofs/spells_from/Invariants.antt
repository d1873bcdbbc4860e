use mathlib.Core.Path.{◌≡◌}
use lib.ListN.{drop}
use Rattle.json_values.specs.Names.{meaning, same}
use Rattle.json_values.proofs.spells_from.Given as goal

abbrev pub invariant-loop-b : goal.invariant-loop-b
invariant-loop-b l = same (meaning 0 (drop l.i l.t)) (drop l.b-index (drop l.at l.name)) ≡ same (meaning 0 (drop l.at l.t)) (drop l.at l.name)
