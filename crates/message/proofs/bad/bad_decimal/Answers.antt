-- `bad_decimal` meets its contract: the part of the message that `bad_place` tells.
use mathlib.Core.Path.{ap, ap₂}
use Prim.Native.Nat.{ℕ, ◌+◌, ◌-◌}
use lib.ListN.{take, drop}
use Rattle.message.specs.declared.Part.{Part}
use Rattle.message.specs.Bad.{part_of}
use Rattle.json_values.specs.Names.{part}
use Rattle.message.proofs.bad.bad_decimal.Goals as goal

pub returns : goal.returns
unfolding part part_of
returns c =
    let a = c.args in
    let e = c.bad_place-place.ensures.is in
    let from = ap (λ (p : Part). p.from) e in
    (ap₂ (λ (x y : ℕ). take (y - x) (drop x a.s.now)) from (ap (λ (p : Part). p.to) e), ap (λ (x : ℕ). (a.s.ref_ptr.0, x + a.s.ref_ptr.1)) from)
