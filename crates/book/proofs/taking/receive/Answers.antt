-- `receive` meets its contract: a message that is judged to pass is taken or refused by what it has entries for.
use Rattle.std.specs.Prelude.{Ok}
use Prim.Native.Nat.{ℕ}
use mathlib.Core.Path.{◌≡◌, refl, sym, subst}
use mathlib.Core.List.{List}
use Rattle.layout.specs.declared.Outline.{Outline}
use Rattle.reference.specs.Reference.{After}
use Rattle.book.specs.Shown.{book_of, ReceivedAs, ReceivedIn}
use Rattle.book.specs.Taking.{Judged, Ready, after_in, refused_step}
use Rattle.book.specs.declared.Answered.{Answered}
use Rattle.book.specs.declared.Book.{Book}
use Rattle.book.proofs.Judging.{judged-by}
use Rattle.book.proofs.taking.receive.Goals as goal
use Rattle.book.proofs.taking.receive.Goals.{After-judge}

pub judge-requires : goal.judge-requires
judge-requires c = let s = c in (record { room = s.requires.0.room; short = s.requires.0.short; config = s.requires.0.config }, refl)

module _ (c : After-judge) where
  abbrev book : Book
  book = book_of c.args.bids.now c.args.asks.now c.args.header

  judged : Judged book c.args.s.now c.judge.new.buffer c.judge.result
  judged = judged-by book c.args.s.now c.judge.new.buffer c.requires.0 c.judge.result c.judge.ensures

  -- a message that passes the checks of its text
  module _ (o : Outline) (is : c.judge.result ≡ Ok o) where
    passed : Judged book c.args.s.now c.judge.new.buffer (Ok o)
    passed = subst (Judged book c.args.s.now c.judge.new.buffer) is judged

    ready : Ready book o c.judge.new.buffer
    unfolding Judged
    ready = passed.0

    answered : {bids asks : List ℕ} {r : Answered} → ReceivedAs book (after_in book o c.judge.new.buffer) bids asks r → ReceivedIn book c.args.s.now bids asks r
    unfolding Judged
    answered {bids} {asks} {r} h = subst (λ (a : After). ReceivedAs book a bids asks r) (sym passed.1) h

pub take_side-requires : goal.take_side-requires
take_side-requires c = (ready (goal.at.take_side-requires c).After-judge c.in-Ok.outline c.in-Ok.is, c.requires.1, c.if-outline-eq0.true)

pub take_side-requires-in-Ok-2 : goal.take_side-requires-in-Ok-2
take_side-requires-in-Ok-2 c = (ready (goal.at.take_side-requires-in-Ok-2 c).After-judge c.in-Ok.outline c.in-Ok.is, c.requires.1, c.if-outline-eq0-2.true)

pub take_both-requires : goal.take_both-requires
take_both-requires c = (ready (goal.at.take_both-requires c).After-judge c.in-Ok.outline c.in-Ok.is, c.requires.1)

pub returns-in-Ok : goal.returns-in-Ok
returns-in-Ok c = answered (goal.at.returns-in-Ok c).After-judge c.in-Ok.outline c.in-Ok.is c.take_side.ensures

pub returns-in-Ok-2 : goal.returns-in-Ok-2
returns-in-Ok-2 c = answered (goal.at.returns-in-Ok-2 c).After-judge c.in-Ok.outline c.in-Ok.is c.take_side-in-Ok-2.ensures

pub returns-in-Ok-3 : goal.returns-in-Ok-3
returns-in-Ok-3 c = answered (goal.at.returns-in-Ok-3 c).After-judge c.in-Ok.outline c.in-Ok.is c.take_both.ensures

-- a refusal
pub returns-in-Err : goal.returns-in-Err
unfolding Judged refused_step
returns-in-Err c =
    let j = (goal.at.returns-in-Err c).After-judge in
    let a = c.args in
    let b = book_of a.bids.now a.asks.now a.header in
    subst (λ (r : Answered). ReceivedIn b a.s.now a.bids.now a.asks.now r) (sym c.refuse.ensures)
    (record {
      received = subst (Judged b a.s.now c.judge.new.buffer) c.in-Err.is (judged j);
      settings = refl;
      bids_past = λ y. refl;
      asks_past = λ y. refl;
      bids_back = λ y. refl;
      asks_back = λ y. refl;
    })
