-- `entries::rest_end` meets its contract: wherever the loop stands, past an element, the array ends where what is left of it ends.
-- Assumes nothing.
use lib.ListN.{length}
use mathlib.Core.Path.{refl, sym, ◌∙◌}
use native.Mathlib.Omega.{arith}
use Rattle.json_values.specs.Json.{list}
use Rattle.entries.proofs.Entry.{rest-close, rest-further, rest-on, rest-wrong}
use Rattle.entries.proofs.rest_end.Goals as goal

pub loop-next-init : goal.loop-next-init
unfolding list
loop-next-init c n l = record { left = n; enough = l; makes = refl }

pub returns-in_err-end : goal.returns-in_err-end
returns-in_err-end c n l =
    let a = c.args in
    rest-wrong a.depth a.s.now c.loop-next.end _ (c.loop-next.invariant n l) c.in-Some.next (sym c.in-Some.ensures) (sym c.in_err-end.ensures) ∙ sym c.from_residual.ensures

pub loop-next-smaller : goal.loop-next-smaller
loop-next-smaller c =
    let a = c.args in
    let b = rest-further a.depth a.s.now c.loop-next.end _ (c.loop-next.invariant (length a.s.now) (omega arith)) c.in-Some.next (sym c.in-Some.ensures) c.in_ok-end.end (sym c.in_ok-end.ensures) in
    omega arith

pub loop-next-preserved : goal.loop-next-preserved
loop-next-preserved c n l =
    let a = c.args in
    rest-on a.depth a.s.now c.loop-next.end _ (c.loop-next.invariant n l) c.in-Some.next (sym c.in-Some.ensures) c.in_ok-end.end (sym c.in_ok-end.ensures)

pub returns : goal.returns
returns c n l =
    let a = c.args in
    sym (c.array_close_end.ensures ∙ rest-close a.depth a.s.now c.loop-next.end _ (c.loop-next.invariant n l) (sym c.comma_end.ensures ∙ c.in_default.is))
