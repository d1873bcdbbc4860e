-- `message_m::m_data` meets its contract: what is no object, and one with no members, have no sides.
-- Assumes nothing.
use Rattle.std.specs.Prelude.{Option}
use Prim.Native.Nat.{◌+◌}
use native.Mathlib.Omega.{arith}
use Rattle.text.specs.Text.{byte_at}
use Rattle.json_tokens.proofs.Laws.{in-byte}
use Rattle.json_tokens.proofs.Bounds.{bounds, closing-in}
use mathlib.Core.Path.{◌≡◌, ◌∙◌, sym, ap, subst}
use mathlib.Core.List.{List}
use Rattle.json_values.specs.Json.{members}
use Rattle.json_values.proofs.Fold.{fold-empty}
use Rattle.entries.specs.Rows.{Entry}
use Rattle.entries.specs.Tally.{met as count, Tells, Kept}
use Rattle.message_m.specs.Collected.{with_held}
use Rattle.message_m.specs.declared.Data.{Data}
use Rattle.message_m.proofs.Steps.{end-read}
use Rattle.message_m.proofs.Holding.{over_held, held_all}
use Rattle.message_m.proofs.Whole.{data-none, data-empty}
use Rattle.message_m.proofs.Keeping.{data-passed, data-read}
use Rattle.message_m.proofs.m_data.Goals as goal

pub returns-then-byte_at-ne-OPEN_OBJECT : goal.returns-then-byte_at-ne-OPEN_OBJECT
returns-then-byte_at-ne-OPEN_OBJECT c =
    let b = c in
    let a = b.args in
    let s = a.s.now in
    let other : (byte_at s a.at ≡ 123 → ⊥) = λ h. c.if-byte_at-ne-OPEN_OBJECT.true (c.byte_at.ensures ∙ h) in
    let e = c.no_data.ensures in
    data-passed s a.before a.at a.buffer.now c.no_data.result other b.requires.0 b.requires.1 (e ∙ data-none s a.before a.at other (end-read c.unwrap_or.ensures c.value_end.ensures)) (ap (λ (x : Data). x.tally) e)

pub overflow_add-at : goal.overflow_add-at
overflow_add-at c =
    let a = c.args in
    let s = a.s.now in
    let l = in-byte s a.at 123 (omega arith) (sym c.byte_at.ensures ∙ c.if-byte_at-ne-OPEN_OBJECT.false) in
    omega arith

pub returns-in-Some : goal.returns-in-Some
unfolding members
returns-in-Some c =
    let b = c in
    let a = b.args in
    let s = a.s.now in
    let o = sym c.byte_at.ensures ∙ c.if-byte_at-ne-OPEN_OBJECT.false in
    let close = sym c.in-Some.ensures in
    let e = c.no_data-in-Some.ensures in
    let n = ap (λ (x : Data). x.end) e in
    let t = ap (λ (x : Data). count x.tally) e in
    let few = b.requires.0 in
    let past = bounds c.in-Some.end (closing-in s 125 (a.at + 1) (omega arith)) close in
    data-read s a.before a.at a.buffer.now c.no_data-in-Some.result _ b.requires.1 o
    (e ∙ data-empty s a.before a.at o c.in-Some.end close)
    (omega arith)
    (λ x w k.
    let q : x ≡ held_all 14 s (with_held s) x a.at = fold-empty (over_held 14 s (with_held s)) x (a.at + 1) c.in-Some.end close in
    (subst (λ (y : Option (List Entry)). Tells s y c.no_data-in-Some.result.tally) q (subst (Tells s x) (sym (ap (λ (z : Data). z.tally) e)) w), subst (λ (y : Option (List Entry)). Kept s y a.buffer.now) q k))

pub returns : goal.returns
returns c =
    let a = c.args in
    rw (c.unwrap_or-2.ensures, c.no_data-2.ensures) c.read_sides.ensures
