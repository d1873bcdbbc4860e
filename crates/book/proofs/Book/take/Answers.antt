-- `take` meets its contract: the book's header takes the message, in copies of the words.
use mathlib.Core.Path.{sym, subst}
use mathlib.Core.List.{[]}
use Rattle.reference.specs.Reference.{receive}
use Rattle.book.specs.Shown.{shows, book_of, Good, Received}
use Rattle.book.specs.declared.Book.{Book}
use Rattle.book.specs.declared.Header.{Header}
use Rattle.crc32.proofs.Filled.{empty-table}
use Rattle.book.proofs.Book.take.Goals as goal

pub take-answered-requires : goal.take-answered-requires
take-answered-requires c =
    let s = c in
    (subst (λ (h : Header). Good (book_of s.args.self.bids.words s.args.self.asks.words h)) (sym c.header.ensures) s.requires, empty-table [])

pub returns : goal.returns
returns c =
    let a = c.args in
    let b = a.self in
    let answer = c.take-answered.result.answer in
    subst (λ (x : Book). Received (receive (shows b) a.s.now) (record { book = x; answer = answer; moved = c.take-answered.result.moved })) (sym c.join.ensures)
    (subst (λ (h : Header). Received (receive (shows (book_of b.bids.words b.asks.words h)) a.s.now) (record { book = book_of c.take-answered.new.bids c.take-answered.new.asks c.take-answered.result.header; answer = answer; moved = c.take-answered.result.moved })) c.header.ensures
    c.take-answered.ensures.received)
