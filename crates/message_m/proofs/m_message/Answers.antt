-- `message_m::m_message` meets its contract: what is no object has not the outer form, and an object with no members is told as one.
-- Assumes nothing.
use Rattle.std.specs.Prelude.{Some}
use Prim.Native.Nat.{◌+◌}
use native.Mathlib.Omega.{arith}
use Rattle.text.specs.Text.{byte_at}
use Rattle.json_tokens.proofs.Laws.{in-byte}
use mathlib.Core.Path.{◌≡◌, ◌∙◌, ap, sym}
use mathlib.Core.List.{[]}
use Rattle.json_values.specs.Json.{members}
use Rattle.json_values.proofs.Fold.{fold-empty}
use Rattle.entries.proofs.Tallies.{kept-none}
use Rattle.message_m.specs.Collected.{scan_in}
use Rattle.message_m.proofs.Steps.{end-read}
use Rattle.message_m.proofs.Holding.{over_held}
use Rattle.message_m.proofs.Whole.{unmarked-placed, told_none, told-empty}
use Rattle.message_m.proofs.Keeping.{body_step, message-other, message-read}
use Rattle.message_m.proofs.m_message.Goals as goal

pub returns-then-byte_at-ne-OPEN_OBJECT : goal.returns-then-byte_at-ne-OPEN_OBJECT
returns-then-byte_at-ne-OPEN_OBJECT c =
    let a = c.args in
    let s = a.s.now in
    let other : (byte_at s a.at ≡ 123 → ⊥) = λ h. c.if-byte_at-ne-OPEN_OBJECT.true (c.byte_at.ensures ∙ h) in
    message-other a.linked a.name.now s a.at a.buffer.now c.not_framed.result (c.not_framed.ensures ∙ told_none a.linked a.name.now s a.at other (end-read c.unwrap_or.ensures c.value_end.ensures)) other

pub overflow_add-at : goal.overflow_add-at
overflow_add-at c =
    let a = c.args in
    let s = a.s.now in
    let l = in-byte s a.at 123 (omega arith) (sym c.byte_at.ensures ∙ c.if-byte_at-ne-OPEN_OBJECT.false) in
    omega arith

pub scan-requires : goal.scan-requires
scan-requires c = rw c.no_members.ensures (unmarked-placed c.args.s.now)

pub returns-in-Some : goal.returns-in-Some
unfolding members
returns-in-Some c =
    let b = c in
    let a = b.args in
    let s = a.s.now in
    let o = sym c.byte_at.ensures ∙ c.if-byte_at-ne-OPEN_OBJECT.false in
    let end = c.in-Some.end in
    let close = sym c.in-Some.ensures in
    message-read a.linked a.name.now s a.at a.buffer.now c.scan.result
    (c.scan.ensures ∙ ap (scan_in a.linked s end) c.no_members.ensures ∙ told-empty a.linked a.name.now s a.at o end close)
    o
    (rw (sym (fold-empty (over_held 15 s (body_step s)) (Some []) (a.at + 1) end close)) (kept-none s a.buffer.now b.requires))

pub returns : goal.returns
returns c = rw (c.unwrap_or-2.ensures, c.not_framed-2.ensures) c.read_members.ensures
