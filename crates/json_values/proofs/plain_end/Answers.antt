-- `json_values::plain_end` meets its contract: wherever the loop stands, what is left of the bytes is to mean what is left of the name.
-- Assumes nothing.
use mathlib.Core.Path.{◌≡◌, ap, sym, ◌∙◌}
use Prim.Native.Nat.{ℕ}
use lib.ListN.{drop, length}
use Rattle.json_values.specs.Names.{meaning, same}
use native.Mathlib.Omega.{arith}
use Rattle.text.specs.Text.{byte_at}
use Rattle.json_values.proofs.Names.{same_stop, same_step, same_over}
use Rattle.json_values.proofs.plain_end.Goals as goal
use Rattle.json_values.proofs.plain_end.Goals.{then-t-k-via-then-t-k, then-t-k-via-else-t-k+then-t-k-2, then-t-k-via-else-t-k+else-t-k-2+then-b-eq-BACKSLASH}

pub returns-then-t-k : goal.returns-then-t-k
unfolding byte_at
returns-then-t-k c =
    let a = c.args in
    let l = c.loop-k in
    record {
      inside = omega arith;
      left = l.invariant;
      stops = λ h n. elim c.then-t-k.branch [
        | then-t-k-via-then-t-k w ↦ let g = w.if-t-k.true in absurd (omega arith)
        | then-t-k-via-else-t-k+then-t-k-2 w ↦ same_stop a.t.now a.name.now l.k h c.loop-k-test.true n w.if-t-k-2.true
        | then-t-k-via-else-t-k+else-t-k-2+then-b-eq-BACKSLASH w ↦ absurd (n (w.if-t-k-2.false ∙ w.if-b-eq-BACKSLASH.true))
      ];
    }

pub loop-k-preserved : goal.loop-k-preserved
unfolding byte_at
loop-k-preserved c =
    let a = c.args in
    let l = c.loop-k in
    let e = c.if-t-k-2.false in
    sym (same_step a.t.now a.name.now l.k c.if-t-k.false c.loop-k-test.true (λ z. c.if-b-eq-BACKSLASH.false (sym e ∙ z)) e) ∙ l.invariant

pub returns : goal.returns
returns c =
    let t = c.args.t.now in
    let name = c.args.name.now in
    let l = c.loop-k in
    let z : length name ≡ l.k = omega arith in
    record {
      inside = omega arith;
      left = ap (λ (k : ℕ). same (meaning 0 (drop k t)) (drop k name)) z ∙ l.invariant;
      stops = λ h n. same_over t name (length name) (length name) h (omega arith);
    }
