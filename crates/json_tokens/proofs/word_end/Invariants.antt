use lib.ListN.{drop}
use mathlib.Core.Path.{◌≡◌}
use Rattle.json_tokens.specs.Tokens.{starts_with, literal}
use Rattle.json_tokens.proofs.word_end.Given as goal

abbrev pub invariant-loop-b : goal.invariant-loop-b
invariant-loop-b l = starts_with (drop l.b-index l.w) (drop l.i l.s) l.i ≡ literal l.w l.s l.at
