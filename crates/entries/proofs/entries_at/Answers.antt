-- `entries_at` meets its contract: the text from the array on stands at `at` of the message, and a value that is no array is no array of entries.
use Prim.Native.Nat.{◌+◌, ◌-◌, ◌<◌}
use mathlib.Core.Path.{◌≡◌, sym, ap, ◌∙◌}
use native.Mathlib.Omega.{arith}
use lib.ListN.{length, drop, length-drop}
use Rattle.text.specs.Text.{byte_at}
use Rattle.json_tokens.proofs.Laws.{in-byte}
use Rattle.json_tokens.proofs.Shift.{byte-shift}
use Rattle.entries.proofs.Entry.{end-or-zero}
use Rattle.entries.proofs.Arrays.{met-other}
use Rattle.entries.proofs.Shift.{part-is, met-inside, met-later, met-later-broken}
use Rattle.entries.proofs.entries_at.Goals as goal
use Rattle.entries.proofs.entries_at.Goals.{Else-byte_at-ne-OPEN_ARRAY}

-- the array begins within the text
module _ (c : Else-byte_at-ne-OPEN_ARRAY) where
  inside : c.args.at < length c.args.s.now
  inside = in-byte c.args.s.now c.args.at 91 (omega arith) (sym c.byte_at.ensures ∙ c.if-byte_at-ne-OPEN_ARRAY.false)

pub returns-then-byte_at-ne-OPEN_ARRAY : goal.returns-then-byte_at-ne-OPEN_ARRAY
returns-then-byte_at-ne-OPEN_ARRAY c =
    let a = c.args in
    rw (c.told_not.ensures, c.unwrap_or.ensures, end-or-zero c.value_end.result, c.value_end.ensures)
    (met-other 0 a.s.now a.depth a.form a.side a.before a.at a.buffer.now (λ z. c.if-byte_at-ne-OPEN_ARRAY.true (c.byte_at.ensures ∙ z)) c.requires.2)

pub slice_bounds-entries_in-count : goal.slice_bounds-entries_in-count
slice_bounds-entries_in-count c = let l = inside (goal.at.slice_bounds-entries_in-count c).Else-byte_at-ne-OPEN_ARRAY in omega arith

pub slice_bounds-entries_in-start : goal.slice_bounds-entries_in-start
slice_bounds-entries_in-start c = let l = inside (goal.at.slice_bounds-entries_in-start c).Else-byte_at-ne-OPEN_ARRAY in omega arith

pub entries_in-read-requires : goal.entries_in-read-requires
entries_in-read-requires c =
    let b = c in
    let a = b.args in
    let p = b.requires in
    let l = inside (goal.at.entries_in-read-requires c).Else-byte_at-ne-OPEN_ARRAY in
    let n : length (drop a.at a.s.now) ≡ length a.s.now - a.at = length-drop a.at a.s.now in
    let h : a.at + 0 ≡ a.at = omega arith in (
      p.0,
      p.1,
      rw (part-is a.at a.s.now) (omega arith),
      rw (part-is a.at a.s.now) (sym (byte-shift a.at a.s.now 0) ∙ ap (byte_at a.s.now) h ∙ sym c.byte_at.ensures ∙ c.if-byte_at-ne-OPEN_ARRAY.false),
      p.2,
    )

pub returns-then-read-eq0 : goal.returns-then-read-eq0
returns-then-read-eq0 c =
    let a = c.args in
    rw c.told_not-then-read-eq0.ensures (met-later-broken a.at a.s.now a.depth a.form a.side a.before c.entries_in-read.ensures c.if-read-eq0.true)

pub overflow_add-result : goal.overflow_add-result
overflow_add-result c =
    let a = c.args in
    let e = met-inside a.at a.s.now a.depth a.form a.side a.before c.entries_in-read.ensures c.if-read-eq0.false in
    record { fits = omega arith }

pub returns : goal.returns
returns c =
    let a = c.args in
    met-later a.at a.s.now a.depth a.form a.side a.before c.entries_in-read.ensures c.if-read-eq0.false
