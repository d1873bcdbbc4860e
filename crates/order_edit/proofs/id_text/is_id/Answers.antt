-- `is_id` meets its contract: the length, and then the bytes.
use Rattle.std.proofs.Common.{length, sym, ◌∙◌, arith, eqb-true}
use borrow.Author.Tests.{eqb-false}
use Rattle.order_edit.proofs.Ids.{no_bytes, many-bytes, few_bytes}
use Rattle.order_edit.proofs.id_text.is_id.Goals as goal
use Rattle.order_edit.proofs.id_text.is_id.Goals.{then-is_empty-via-then-is_empty, then-is_empty-via-else-is_empty+then-text-gt-MAX_ID}

pub returns-then-is_empty : goal.returns-then-is_empty
returns-then-is_empty c =
    let text = c.args.text.now in
    elim c.then-is_empty.branch [
      | then-is_empty-via-then-is_empty w ↦ let e = eqb-true (length text) 0 (sym w.if-is_empty.ensures) in sym (no_bytes text (omega arith))
      | then-is_empty-via-else-is_empty+then-text-gt-MAX_ID w ↦ let n = eqb-false (length text) 0 (sym w.if-is_empty.ensures) in sym (many-bytes text (omega arith) w.if-text-gt-MAX_ID.true)
    ]

pub returns : goal.returns
returns c =
    let text = c.args.text.now in
    let n = eqb-false (length text) 0 (sym c.if-is_empty.ensures) in
    c.are_name_bytes.ensures ∙ sym (few_bytes text (omega arith) c.if-text-gt-MAX_ID.false)
