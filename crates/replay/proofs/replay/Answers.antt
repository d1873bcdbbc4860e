-- `replay` meets its contract: the replies to the calls that are left are owed, until none is left.
use Prim.Native.Nat.{◌+◌, ◌^◌, ◌<◌}
use mathlib.Core.Path.{refl, sym, ◌∙◌}
use native.Mathlib.Omega.{arith}
use Rattle.replay.proofs.Laying.{rest-is}
use Rattle.replay.proofs.Replaying.{going-none, stop, call-within, reply-within, call-ready, going_more}
use Rattle.replay.proofs.replay.Goals as goal

pub loop-book-init : goal.loop-book-init
loop-book-init c = going-none c.args.script.now c.args.out.now c.open-book.result c.open-book.ensures.good

pub call_length-requires : goal.call_length-requires
call_length-requires c = (sym c.is_whole.ensures ∙ c.loop-book-test.true)

pub overflow_add-next : goal.overflow_add-next
overflow_add-next c = let h = call-within c.loop-book.invariant (rw (rest-is c.args.script.now c.loop-book.at) at (sym c.is_whole.ensures ∙ c.loop-book-test.true)) (rw (rest-is c.args.script.now c.loop-book.at) at c.call_length.ensures) refl in omega arith

pub reply_length-requires : goal.reply_length-requires
reply_length-requires c = (sym c.is_whole.ensures ∙ c.loop-book-test.true)

pub overflow_add-end : goal.overflow_add-end
overflow_add-end c =
    let h = call-within c.loop-book.invariant (rw (rest-is c.args.script.now c.loop-book.at) at (sym c.is_whole.ensures ∙ c.loop-book-test.true)) (rw (rest-is c.args.script.now c.loop-book.at) at c.call_length.ensures) (rw (rest-is c.args.script.now c.loop-book.at) at c.reply_length.ensures) in
    let k = reply-within c.loop-book.invariant (rw (rest-is c.args.script.now c.loop-book.at) at (sym c.is_whole.ensures ∙ c.loop-book-test.true)) (rw (rest-is c.args.script.now c.loop-book.at) at c.call_length.ensures) (rw (rest-is c.args.script.now c.loop-book.at) at c.reply_length.ensures) in
    let l = c.well_formed.1.1.1.1.0.0 in
    let e = c.loop-book.invariant.same in
    let f : c.loop-book.done + c.reply_length.result < 2 ^ 64 = omega (arith, l, e, k) in
    record { fits = f }

pub slice_bounds-call-count : goal.slice_bounds-call-count
slice_bounds-call-count c =
    let h = call-within c.loop-book.invariant (rw (rest-is c.args.script.now c.loop-book.at) at (sym c.is_whole.ensures ∙ c.loop-book-test.true)) (rw (rest-is c.args.script.now c.loop-book.at) at c.call_length.ensures) (rw (rest-is c.args.script.now c.loop-book.at) at c.reply_length.ensures) in
    let k = reply-within c.loop-book.invariant (rw (rest-is c.args.script.now c.loop-book.at) at (sym c.is_whole.ensures ∙ c.loop-book-test.true)) (rw (rest-is c.args.script.now c.loop-book.at) at c.call_length.ensures) (rw (rest-is c.args.script.now c.loop-book.at) at c.reply_length.ensures) in
    omega arith

pub slice_bounds-call-start : goal.slice_bounds-call-start
slice_bounds-call-start c =
    let h = call-within c.loop-book.invariant (rw (rest-is c.args.script.now c.loop-book.at) at (sym c.is_whole.ensures ∙ c.loop-book-test.true)) (rw (rest-is c.args.script.now c.loop-book.at) at c.call_length.ensures) (rw (rest-is c.args.script.now c.loop-book.at) at c.reply_length.ensures) in
    let k = reply-within c.loop-book.invariant (rw (rest-is c.args.script.now c.loop-book.at) at (sym c.is_whole.ensures ∙ c.loop-book-test.true)) (rw (rest-is c.args.script.now c.loop-book.at) at c.call_length.ensures) (rw (rest-is c.args.script.now c.loop-book.at) at c.reply_length.ensures) in
    omega arith

pub slice_bounds-call-end : goal.slice_bounds-call-end
slice_bounds-call-end c =
    let h = call-within c.loop-book.invariant (rw (rest-is c.args.script.now c.loop-book.at) at (sym c.is_whole.ensures ∙ c.loop-book-test.true)) (rw (rest-is c.args.script.now c.loop-book.at) at c.call_length.ensures) (rw (rest-is c.args.script.now c.loop-book.at) at c.reply_length.ensures) in
    let k = reply-within c.loop-book.invariant (rw (rest-is c.args.script.now c.loop-book.at) at (sym c.is_whole.ensures ∙ c.loop-book-test.true)) (rw (rest-is c.args.script.now c.loop-book.at) at c.call_length.ensures) (rw (rest-is c.args.script.now c.loop-book.at) at c.reply_length.ensures) in
    omega arith

pub slice_bounds-call-count-in-loop-book : goal.slice_bounds-call-count-in-loop-book
slice_bounds-call-count-in-loop-book c =
    let h = call-within c.loop-book.invariant (rw (rest-is c.args.script.now c.loop-book.at) at (sym c.is_whole.ensures ∙ c.loop-book-test.true)) (rw (rest-is c.args.script.now c.loop-book.at) at c.call_length.ensures) (rw (rest-is c.args.script.now c.loop-book.at) at c.reply_length.ensures) in
    let k = reply-within c.loop-book.invariant (rw (rest-is c.args.script.now c.loop-book.at) at (sym c.is_whole.ensures ∙ c.loop-book-test.true)) (rw (rest-is c.args.script.now c.loop-book.at) at c.call_length.ensures) (rw (rest-is c.args.script.now c.loop-book.at) at c.reply_length.ensures) in
    omega arith

pub slice_bounds-call-start-in-loop-book : goal.slice_bounds-call-start-in-loop-book
slice_bounds-call-start-in-loop-book c =
    let h = call-within c.loop-book.invariant (rw (rest-is c.args.script.now c.loop-book.at) at (sym c.is_whole.ensures ∙ c.loop-book-test.true)) (rw (rest-is c.args.script.now c.loop-book.at) at c.call_length.ensures) (rw (rest-is c.args.script.now c.loop-book.at) at c.reply_length.ensures) in
    let k = reply-within c.loop-book.invariant (rw (rest-is c.args.script.now c.loop-book.at) at (sym c.is_whole.ensures ∙ c.loop-book-test.true)) (rw (rest-is c.args.script.now c.loop-book.at) at c.call_length.ensures) (rw (rest-is c.args.script.now c.loop-book.at) at c.reply_length.ensures) in
    omega arith

pub slice_bounds-call-end-in-loop-book : goal.slice_bounds-call-end-in-loop-book
slice_bounds-call-end-in-loop-book c =
    let h = call-within c.loop-book.invariant (rw (rest-is c.args.script.now c.loop-book.at) at (sym c.is_whole.ensures ∙ c.loop-book-test.true)) (rw (rest-is c.args.script.now c.loop-book.at) at c.call_length.ensures) (rw (rest-is c.args.script.now c.loop-book.at) at c.reply_length.ensures) in
    let k = reply-within c.loop-book.invariant (rw (rest-is c.args.script.now c.loop-book.at) at (sym c.is_whole.ensures ∙ c.loop-book-test.true)) (rw (rest-is c.args.script.now c.loop-book.at) at c.call_length.ensures) (rw (rest-is c.args.script.now c.loop-book.at) at c.reply_length.ensures) in
    omega arith

pub call-requires : goal.call-requires
call-requires c = call-ready c.loop-book.invariant (rw (rest-is c.args.script.now c.loop-book.at) at (sym c.is_whole.ensures ∙ c.loop-book-test.true)) (rw (rest-is c.args.script.now c.loop-book.at) at c.call_length.ensures) (rw (rest-is c.args.script.now c.loop-book.at) at c.reply_length.ensures)

pub overflow_add-calls : goal.overflow_add-calls
overflow_add-calls c =
    let h = call-within c.loop-book.invariant (rw (rest-is c.args.script.now c.loop-book.at) at (sym c.is_whole.ensures ∙ c.loop-book-test.true)) (rw (rest-is c.args.script.now c.loop-book.at) at c.call_length.ensures) (rw (rest-is c.args.script.now c.loop-book.at) at c.reply_length.ensures) in
    let k = reply-within c.loop-book.invariant (rw (rest-is c.args.script.now c.loop-book.at) at (sym c.is_whole.ensures ∙ c.loop-book-test.true)) (rw (rest-is c.args.script.now c.loop-book.at) at c.call_length.ensures) (rw (rest-is c.args.script.now c.loop-book.at) at c.reply_length.ensures) in
    omega (arith, c.well_formed.1.1.1.0)

pub loop-book-smaller : goal.loop-book-smaller
loop-book-smaller c =
    let h = call-within c.loop-book.invariant (rw (rest-is c.args.script.now c.loop-book.at) at (sym c.is_whole.ensures ∙ c.loop-book-test.true)) (rw (rest-is c.args.script.now c.loop-book.at) at c.call_length.ensures) (rw (rest-is c.args.script.now c.loop-book.at) at c.reply_length.ensures) in
    let k = reply-within c.loop-book.invariant (rw (rest-is c.args.script.now c.loop-book.at) at (sym c.is_whole.ensures ∙ c.loop-book-test.true)) (rw (rest-is c.args.script.now c.loop-book.at) at c.call_length.ensures) (rw (rest-is c.args.script.now c.loop-book.at) at c.reply_length.ensures) in
    omega arith

pub loop-book-preserved : goal.loop-book-preserved
loop-book-preserved c = going_more c.loop-book.invariant (rw (rest-is c.args.script.now c.loop-book.at) at (sym c.is_whole.ensures ∙ c.loop-book-test.true)) (rw (rest-is c.args.script.now c.loop-book.at) at c.call_length.ensures) (rw (rest-is c.args.script.now c.loop-book.at) at c.reply_length.ensures) c.call.new.book c.call.new.part c.call.auto.part c.call.ensures

pub returns : goal.returns
returns c = stop c.loop-book.invariant _ c.open-book.ensures.same (rw (rest-is c.args.script.now c.loop-book.at) at (sym c.is_whole.ensures ∙ c.loop-book-test.false))
