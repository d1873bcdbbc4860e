-- `process_lines` meets its contract: at each turn the rest of the text gives what the whole gives.
use Prim.Native.Nat.{ℕ, ◌+◌, ◌-◌, ◌≤◌}
use mathlib.Core.Path.{◌≡◌, sym, ap, subst}
use native.Mathlib.Omega.{arith}
use borrow.Author.Rules.{rules}
use lib.Dec.{eqb}
use mathlib.Core.List.{List}
use lib.ListN.{length, take, drop}
use Rattle.line_text.specs.Reply.{reply_text}
use Rattle.line_text.proofs.Length.{length-reply}
use Rattle.reference.specs.Reference.{receive}
use Rattle.feed.specs.Feed.{reply_to}
use Rattle.feed.proofs.Replying.{reply-is}
use Rattle.book.specs.Shown.{Good, shows, book_of}
use Rattle.book.proofs.Asking.{counts-told}
use Rattle.reference.specs.declared.Scope.TheVariants.{Current}
use Rattle.book.specs.declared.Book.{Book}
use Rattle.book.specs.declared.BookParts.{BookParts}
use Rattle.feed.proofs.Processing.{begun, ended-lines, ended-room, went_on, heard-as}
use Rattle.feed.proofs.process_lines.Goals as goal
use Rattle.feed.proofs.process_lines.Lts as lts
use Rattle.feed.proofs.process_lines.Tie as tie
use Rattle.feed.proofs.process_lines.Reads as reads

-- Places in the code.
abbrev After-number_of-live : Type 0
After-number_of-live = lts.After-number_of tie.the-claims reads.Pre reads.Post goal.the-invariant-loop-buffer goal.the-decreases-loop-buffer

-- a book that was taken apart
abbrev joined : BookParts → Book
joined x = book_of x.bids x.asks x.header

-- ---- the line, and the reply to it
abbrev line : After-number_of-live → List ℕ
line c = take (c.find-end.result - c.loop-buffer.next) (drop c.loop-buffer.next c.args.s.now)

abbrev text : After-number_of-live → List ℕ
text c = reply_text c.take-answered.result.answer (eqb c.number_of-live.result 0) c.counts-counts.result.bids c.counts-counts.result.asks

abbrev book_at : After-number_of-live → Book
book_at c = let l = c.loop-buffer in book_of l.bids l.asks l.header

reply : (c : After-number_of-live) → text c ≡ reply_to (receive (shows (book_at c)) (line c))
reply c =
    let t = c.take-answered in
    reply-is (shows (book_at c)) (line c) t.ensures.received (counts-told t.result.header Current c.counts-counts.result c.counts-counts.ensures t.new.bids t.new.asks t.ensures.received.good) c.number_of-live.ensures

fits : (c : After-number_of-live) → c.loop-buffer.written + length (text c) ≤ length c.loop-buffer.buffer
fits c =
    let l = length-reply c.take-answered.result.answer (eqb c.number_of-live.result 0) c.counts-counts.result.bids c.counts-counts.result.asks (search rules) (search rules) in
    let r = c.loop-buffer.invariant.room in
    let t = c.loop-buffer-test.true in
    omega arith

-- ---- needs
pub loop-buffer-init : goal.loop-buffer-init
loop-buffer-init c =
    let s = c in
    begun s.args.s.now s.args.buffer.now (subst (λ (x : BookParts). Good (joined x)) (sym c.split-parts.ensures) s.requires.0)

pub overflow_sub-buffer : goal.overflow_sub-buffer
overflow_sub-buffer c = c.loop-buffer.invariant.room

pub find-end-requires : goal.find-end-requires
find-end-requires c = c.loop-buffer.invariant.within

pub returns-then-s-end : goal.returns-then-s-end
returns-then-s-end c =
    heard-as (ap (λ (x : BookParts). shows (joined x)) c.split-parts.ensures) c.join.ensures
    (ended-lines c.loop-buffer.invariant c.find-end.ensures.2 c.if-s-end.true)

pub take-answered-requires : goal.take-answered-requires
take-answered-requires c = (c.loop-buffer.invariant.good, c.requires.1)

pub write_reply-written-requires : goal.write_reply-written-requires
write_reply-written-requires c = fits c.before.before

pub overflow_add-next : goal.overflow_add-next
overflow_add-next c = let h = c.if-s-end.false in let g = c.well_formed in omega arith

pub loop-buffer-smaller : goal.loop-buffer-smaller
loop-buffer-smaller c = let w = c.find-end.ensures in omega arith

pub loop-buffer-preserved : goal.loop-buffer-preserved
loop-buffer-preserved c =
    let n = c.before.before.before.before.before in
    let find = c.find-end in
    went_on c.loop-buffer.invariant find.ensures.2 c.if-s-end.false c.loop-buffer-test.true c.take-answered.ensures.received.good c.take-answered.ensures.received.same (reply n) (fits n) c.write_reply-written.ensures

pub returns : goal.returns
returns c =
    heard-as (ap (λ (x : BookParts). shows (joined x)) c.split-parts.ensures) c.join-2.ensures
    (ended-room c.loop-buffer.invariant c.loop-buffer-test.false)
