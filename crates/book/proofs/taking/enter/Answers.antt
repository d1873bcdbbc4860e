-- `enter` meets its contract: side by side.
use mathlib.Core.Path.{◌≡◌, ap}
use native.Mathlib.Omega.{arith}
use Rattle.edit.specs.declared.Side.TheVariants.{Bids, Asks}
use Rattle.settings.specs.declared.Rules.{Rules}
use Rattle.settings.specs.declared.SumText.{SumText}
use Rattle.sides.specs.Worked.{side_after}
use Rattle.book.specs.Shown.{book_of, text_of}
use Rattle.book.specs.declared.Book.{Book}
use Rattle.book.proofs.Settling.{asked-as, worked-as}
use Rattle.book.proofs.taking.enter.Goals as goal
use Rattle.book.proofs.taking.enter.Lts as lts
use Rattle.book.proofs.taking.enter.Tie as tie
use Rattle.book.proofs.taking.enter.Reads as reads

-- Places in the code.
abbrev Start : Type 0
Start = lts.Start tie.the-claims reads.Pre reads.Post

abbrev After-rules_of-rules : Type 0
After-rules_of-rules = lts.After-rules_of tie.the-claims reads.Pre reads.Post

abbrev book_at : Start → Book
book_at s = book_of s.args.bids.now s.args.asks.now s.args.header

-- the text of the rules
abbrev text_in : After-rules_of-rules → SumText
text_in r = r.rules_of-rules.result.text

text-is : (r : After-rules_of-rules) → text_in r ≡ text_of (book_at r.before.before.before)
text-is r = ap (λ (x : Rules). x.text) r.rules_of-rules.ensures

pub overflow_add-count : goal.overflow_add-count
overflow_add-count c = let f = c.requires.0.bids_given.few in omega arith

pub apply_entries-bid_side-requires : goal.apply_entries-bid_side-requires
apply_entries-bid_side-requires c =
    let r = c.before.before.before.before in
    let s = r.before.before.before in
    let b = book_at s in
    let o = s.args.outline in
    let y = asked-as b o s.args.buffer.now s.requires.0 (text_in r) (text-is r) Bids b.bids c.count_before-bids_before.result c.count_before-bids_before.ensures o.bids s.requires.0.bids_given s.requires.0.bids_own s.requires.0.good.bids s.requires.0.good.few_bids in
    (y.0, y.1, y.2, y.3, y.4, s.requires.1)

pub apply_entries-ask_side-requires : goal.apply_entries-ask_side-requires
apply_entries-ask_side-requires c =
    let r = c.before.before.before.before.before.before.before in
    let s = r.before.before.before in
    let b = book_at s in
    let o = s.args.outline in
    let y = asked-as b o s.args.buffer.now s.requires.0 (text_in r) (text-is r) Asks b.asks c.count_before-asks_before.result c.count_before-asks_before.ensures o.asks s.requires.0.asks_given s.requires.0.asks_own s.requires.0.good.asks s.requires.0.good.few_asks in
    (y.0, y.1, y.2, y.3, y.4, s.requires.1)

pub returns : goal.returns
returns c =
    let first = c in
    let r = c.before.before.before.before.before.before.before.before in
    let s = r.before.before.before in
    let b = book_at s in
    let o = s.args.outline in
    record {
      bids_worked = worked-as b o s.args.buffer.now s.requires.0 (text_in r) (text-is r) Bids b.bids first.count_before-bids_before.result first.count_before-bids_before.ensures (side_after first.apply_entries-bid_side.new.words first.apply_entries-bid_side.result) first.apply_entries-bid_side.ensures.0;
      asks_worked = worked-as b o s.args.buffer.now s.requires.0 (text_in r) (text-is r) Asks b.asks c.count_before-asks_before.result c.count_before-asks_before.ensures (side_after c.apply_entries-ask_side.new.words c.apply_entries-ask_side.result) c.apply_entries-ask_side.ensures.0;
      bids_stay = first.apply_entries-bid_side.ensures.1;
      asks_stay = c.apply_entries-ask_side.ensures.1;
    }
