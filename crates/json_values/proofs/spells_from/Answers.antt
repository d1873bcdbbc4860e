-- `json_values::spells_from` meets its contract: wherever the loop stands, what is left of the bytes is to mean what is left of the name.
-- Assumes nothing.
use mathlib.Core.Path.{sym, ap, ◌∙◌}
use mathlib.Core.List.{List, []}
use Prim.Native.Nat.{ℕ}
use native.Mathlib.Decide.{dec_lt}
use native.Mathlib.Omega.{arith}
use lib.ListN.{length, drop, drop_of_length-le}
use borrow.Author.Tests.{le-leb, lt-leb}
use Rattle.json_values.specs.Names.{same}
use Rattle.json_values.proofs.Names.{meaning-end, name-left, part-all, same_over}
use Rattle.json_values.proofs.spells_from.Goals as goal

pub returns-then-t-i : goal.returns-then-t-i
returns-then-t-i c =
    let t = c.args.t.now in
    let rest = drop c.args.at c.args.name.now in
    let l = c.loop-b in
    let n = ap length (part-all c.args.name.now c.args.at) in
    sym (ap (λ (x : List ℕ). same x (drop l.b-index rest)) (meaning-end t l.i c.if-t-i.true) ∙ ap (same []) (name-left rest l.b-index (omega arith))) ∙ l.invariant

pub returns : goal.returns
returns c =
    let t = c.args.t.now in
    let rest = drop c.args.at c.args.name.now in
    let l = c.loop-b in
    let n = ap length (part-all c.args.name.now c.args.at) in
    elim (dec_lt l.i (length t)) [
      | yes h ↦ lt-leb _ _ h ∙ sym (same_over t rest l.i l.b-index h (omega arith)) ∙ l.invariant
      | no h ↦
          le-leb _ _ (omega arith)
          ∙ sym (ap (λ (x : List ℕ). same x (drop l.b-index rest)) (meaning-end t l.i (omega arith)) ∙ ap (same []) (drop_of_length-le rest (omega arith)))
          ∙ l.invariant
    ]
