-- `json_values::is_between` meets its contract: nothing stands there, too little, or all up to the last quote or the end of the text.
-- Assumes nothing.
use mathlib.Core.Path.{◌∙◌, ap}
use Prim.Native.Nat.{ℕ, ◌-◌}
use lib.ListN.{drop, take}
use Rattle.json_values.specs.Names.{meaning, same}
use Rattle.json_values.proofs.Names.{between-empty, between-short, between-cut}
use Rattle.json_values.proofs.is_between.Goals as goal

pub returns-then-to-first : goal.returns-then-to-first
returns-then-to-first c = let a = c.args in c.is_empty.ensures ∙ between-empty a.s.now a.first a.to a.name.now c.if-to-first.true

pub returns-then-last-first : goal.returns-then-last-first
returns-then-last-first c = let a = c.args in between-short a.s.now a.first a.to a.name.now c.if-last-first.true

pub returns : goal.returns
returns c =
    let a = c.args in
    c.spells.ensures
    ∙ ap (λ (k : ℕ). same (meaning 0 (take (k - a.first) (drop a.first a.s.now))) a.name.now) c.min.ensures
    ∙ between-cut a.s.now a.first a.to a.name.now
