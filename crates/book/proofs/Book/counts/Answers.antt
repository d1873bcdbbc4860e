-- `counts` meets its contract: it asks the book's header.
use mathlib.Core.Path.{sym, subst}
use Rattle.book.specs.Shown.{book_of, Good, AnswersCounts}
use Rattle.book.specs.declared.Header.{Header}
use Rattle.book.proofs.Asking.{counts-told}
use Rattle.book.proofs.Book.counts.Goals as goal

pub returns : goal.returns
returns c =
    let a = c.args in
    let b = a.self in
    subst (λ (h : Header). AnswersCounts (book_of b.bids.words b.asks.words h) a.scope (record { book = book_of b.bids.words b.asks.words h; answer = c.counts-counts.result.answer; bids = c.counts-counts.result.bids; asks = c.counts-counts.result.asks })) c.header.ensures
    (counts-told c.header.result a.scope c.counts-counts.result c.counts-counts.ensures b.bids.words b.asks.words (subst (λ (h : Header). Good (book_of b.bids.words b.asks.words h)) (sym c.header.ensures) c.requires))
