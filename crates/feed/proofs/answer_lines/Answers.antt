-- `answer_lines` meets its contract: line 1 opens the book, and the lines past it are messages.
use mathlib.Core.Path.{sym}
use lib.Seq.{length-take-le}
use Rattle.feed.proofs.Streaming.{as-opened, none-answered, first-answered}
use Rattle.feed.proofs.answer_lines.Goals as goal

pub returns-then-opened : goal.returns-then-opened
returns-then-opened c = let s = c in as-opened s.args.opened s.args.book c.if-opened.true c.answer_from.ensures

pub returns-then-s-end : goal.returns-then-s-end
returns-then-s-end c =
    let s = c in
    none-answered s.args.s.now s.args.buffer.now s.args.book s.args.opened c.if-opened.false s.requires.0 c.find-end.ensures.2 c.if-s-end.true

pub slice_bounds-open-end : goal.slice_bounds-open-end
slice_bounds-open-end c = sym (length-take-le c.find-end.result c.args.s.now c.find-end.ensures.1)

pub returns : goal.returns
returns c =
    let s = c in
    first-answered s.args.opened s.args.book c.if-opened.false c.find-end.ensures.2 c.if-s-end.false c.before.before.before.before.before.«open».ensures c.answer_from-2.ensures
