-- `json_values::past_escape` meets its contract: past the end nothing is left, as within the escape.
-- Assumes nothing.
use mathlib.Core.Path.{◌∙◌, ap}
use mathlib.Core.Bool.{cond}
use Prim.Native.Nat.{ℕ}
use lib.Dec.{eqb}
use Rattle.json_values.proofs.Names.{past_least}
use Rattle.json_values.proofs.past_escape.Goals as goal

pub returns : goal.returns
returns c =
    let a = c.args in
    let p = past_least a.t.now a.i _ (c.escape_length-n.ensures ∙ ap (λ (x : ℕ). cond (eqb x 117) 5 1) c.byte_at.ensures) c.requires in
    rw c.min.ensures p
