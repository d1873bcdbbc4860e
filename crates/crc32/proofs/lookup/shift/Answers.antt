-- `crc32::lookup::shift` meets its contract: the invariant is that what is left moves the state to the result, and a step is one table, from its first row on.
-- Assumes nothing.
use Prim.Native.Nat.{◌*◌, ◌-◌}
use mathlib.Core.Path.{◌≡◌, refl, ◌∙◌}
use native.Mathlib.Omega.{arith}
use Rattle.crc32_spec.specs.Crc.{bits}
use Rattle.crc32.proofs.Moves.{in_table, step-moved, all_moved}
use Rattle.crc32.proofs.lookup.shift.Goals as goal
use Rattle.crc32.proofs.lookup.shift.Goals.{After-moved1-state}

pub loop-left-init : goal.loop-left-init
loop-left-init c = refl

-- what is left after a step moves the state to the same result
after-step : (c : After-moved1-state) → bits (8 * (c.loop-left.left - c.min-step.result)) c.moved1-state.result ≡ bits (8 * c.args.n) c.args.s
after-step c =
    step-moved c.min-step.result c.loop-left.left c.loop-left.state _ _ (omega arith) (omega arith) c.moved1-state.ensures
    c.loop-left.invariant

pub returns-then-left-eq0 : goal.returns-then-left-eq0
returns-then-left-eq0 c = all_moved _ _ _ c.if-left-eq0.true (after-step (goal.at.returns-then-left-eq0 c).After-moved1-state)

pub loop-left-preserved : goal.loop-left-preserved
loop-left-preserved c = after-step (goal.at.loop-left-preserved c).After-moved1-state

pub returns : goal.returns
returns c = in_table 0 c.loop-left.left c.loop-left.left c.loop-left.state _ (omega arith) c.moved0.ensures ∙ c.loop-left.invariant
