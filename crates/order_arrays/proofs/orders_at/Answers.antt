-- `orders_at` meets its contract: wherever the loop stands, the elements that were passed were met, and what is left of the array is the rest of them.
use Prim.Native.Nat.{suc, ◌-◌, ◌<◌}
use mathlib.Core.Path.{◌≡◌, sym, ap, ◌∙◌}
use native.Mathlib.Omega.{arith}
use lib.ListN.{length}
use Rattle.text.specs.Text.{byte_at}
use Rattle.json_tokens.specs.Ends.{end_of}
use Rattle.json_tokens.proofs.Laws.{in-byte}
use Rattle.entries.proofs.Entry.{end-or-zero}
use Rattle.order_arrays.proofs.Arrays.{going-empty, going_start, going-wrong, going-inside, going-further, going_on, going-last, going-broken, met-other}
use Rattle.order_arrays.proofs.orders_at.Goals as goal
use Rattle.order_arrays.proofs.orders_at.Goals.{Start, Else-byte_at-ne-OPEN_ARRAY}

-- what is given
module _ (c : Start) where
  deep : suc (c.args.depth - 1) ≡ c.args.depth
  deep = let h = c.requires in omega arith

-- an array begins there, within the text
module _ (c : Else-byte_at-ne-OPEN_ARRAY) where
  opens : byte_at c.args.s.now c.args.at ≡ 91
  opens = sym c.byte_at.ensures ∙ c.if-byte_at-ne-OPEN_ARRAY.false

  inside : c.args.at < length c.args.s.now
  inside = in-byte c.args.s.now c.args.at 91 (omega arith) opens

pub returns-then-byte_at-ne-OPEN_ARRAY : goal.returns-then-byte_at-ne-OPEN_ARRAY
returns-then-byte_at-ne-OPEN_ARRAY c =
    let a = c.args in
    let end = c.unwrap_or.ensures ∙ end-or-zero c.value_end.result ∙ ap end_of c.value_end.ensures in
    rw (c.told_not.ensures, end)
    (met-other a.s.now a.depth a.side a.before a.at a.buffer.now (λ z. c.if-byte_at-ne-OPEN_ARRAY.true (c.byte_at.ensures ∙ z)) c.requires.2)

pub overflow_add-at : goal.overflow_add-at
overflow_add-at c = let l = inside (goal.at.overflow_add-at c).Else-byte_at-ne-OPEN_ARRAY in omega arith

pub returns-in-Some : goal.returns-in-Some
returns-in-Some c =
    let a = c.args in
    let p = c.requires in
    let here = (goal.at.returns-in-Some c).Else-byte_at-ne-OPEN_ARRAY in
    going-empty a.s.now a.at (a.depth - 1) a.side a.before a.buffer.now p.2 p.1 a.depth (deep (goal.at.returns-in-Some c).Start) (opens here) c.in-Some.end (sym c.in-Some.ensures)

pub overflow_add-at-2 : goal.overflow_add-at-2
overflow_add-at-2 c = let l = inside (goal.at.overflow_add-at-2 c).Else-byte_at-ne-OPEN_ARRAY in omega arith

pub loop-side-init : goal.loop-side-init
loop-side-init c =
    let a = c.args in
    let p = c.requires in
    going_start a.s.now a.at (a.depth - 1) a.side a.before a.buffer.now p.2 p.1 (sym c.array_close_end.ensures ∙ c.in_default.is) c.skip_blanks-i.result c.skip_blanks-i.ensures

pub returns-then-past-eq0 : goal.returns-then-past-eq0
returns-then-past-eq0 c =
    let a = c.args in
    let here = (goal.at.returns-then-past-eq0 c).Else-byte_at-ne-OPEN_ARRAY in
    rw c.told_not-then-past-eq0.ensures
    (going-wrong a.s.now a.at (a.depth - 1) a.side a.before a.buffer.now c.loop-side.invariant c.order_place-found.ensures.is
    a.depth (deep (goal.at.returns-then-past-eq0 c).Start) (opens here) c.if-past-eq0.true)

pub with_order-more-requires : goal.with_order-more-requires
with_order-more-requires c =
    let a = c.args in
    let g = c.loop-side.invariant in
    let found = c.order_place-found.ensures in
    let p = going-inside a.s.now a.at (a.depth - 1) a.side a.before a.buffer.now g found.is c.if-past-eq0.false in
    let few = g.few in
    (found.laid, omega arith, g.room)

pub returns-in_default-array_close_end : goal.returns-in_default-array_close_end
returns-in_default-array_close_end c =
    let a = c.args in
    let here = (goal.at.returns-in_default-array_close_end c).Else-byte_at-ne-OPEN_ARRAY in
    rw c.told_not-in_default-array_close_end.ensures
    (going-broken a.s.now a.at (a.depth - 1) a.side a.before a.buffer.now c.loop-side.invariant c.order_place-found.ensures.is c.if-past-eq0.false c.with_order-more.ensures
    a.depth (deep (goal.at.returns-in_default-array_close_end c).Start) (opens here) (sym c.comma_end.ensures ∙ c.in_default-comma_end.is)
    (sym c.array_close_end-in_default-comma_end.ensures ∙ c.in_default-array_close_end.is))

pub returns-in_default-comma_end : goal.returns-in_default-comma_end
returns-in_default-comma_end c =
    let a = c.args in
    let here = (goal.at.returns-in_default-comma_end c).Else-byte_at-ne-OPEN_ARRAY in
    let u = c.in-Some-array_close_end in
    going-last a.s.now a.at (a.depth - 1) a.side a.before a.buffer.now c.loop-side.invariant c.order_place-found.ensures.is c.if-past-eq0.false c.with_order-more.ensures
    a.depth (deep (goal.at.returns-in_default-comma_end c).Start) (opens here) (sym c.comma_end.ensures ∙ c.in_default-comma_end.is) u.end (sym u.ensures)

pub loop-side-smaller : goal.loop-side-smaller
loop-side-smaller c =
    let a = c.args in
    let f = going-further a.s.now a.at (a.depth - 1) a.side a.before a.buffer.now c.loop-side.invariant c.order_place-found.ensures.is c.if-past-eq0.false c.with_order-more.ensures c.in-Some-comma_end.next (sym c.in-Some-comma_end.ensures) in
    omega arith

pub loop-side-preserved : goal.loop-side-preserved
loop-side-preserved c =
    let a = c.args in
    going_on a.s.now a.at (a.depth - 1) a.side a.before a.buffer.now c.loop-side.invariant c.order_place-found.ensures.is c.if-past-eq0.false c.with_order-more.ensures c.in-Some-comma_end.next (sym c.in-Some-comma_end.ensures)
