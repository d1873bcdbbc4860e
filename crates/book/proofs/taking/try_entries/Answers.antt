-- `try_entries` meets its contract: what the entries make of the sides, and then what the checks give.
use mathlib.Core.Path.{refl, sym, ap, subst, ◌∙◌}
use mathlib.Core.Bool.{true≢false}
use mathlib.Core.List.{List}
use Prim.Native.Nat.{ℕ, ◌+◌}
use native.Mathlib.Omega.{arith}
use Rattle.sides.specs.Worked.{SideAfter, side_after}
use Rattle.answer.specs.Answers.{is_taken}
use Rattle.edit.specs.declared.Side.TheVariants.{Bids, Asks}
use Rattle.layout.specs.declared.Outline.{Outline}
use Rattle.book.specs.Shown.{book_of, ReceivedAs}
use Rattle.book.specs.Taking.{after_in, refused_step, kept_step}
use Rattle.book.specs.declared.Book.{Book}
use Rattle.book.specs.declared.Header.{Header}
use Rattle.book.specs.declared.Answered.{Answered}
use Rattle.book.proofs.Settling.{moved-small, kept-told, left-told}
use Rattle.book.proofs.taking.try_entries.Goals as goal
use Rattle.book.proofs.taking.try_entries.Lts as lts
use Rattle.book.proofs.taking.try_entries.Tie as tie
use Rattle.book.proofs.taking.try_entries.Reads as reads

-- Places in the code.
abbrev Start : Type 0
Start = lts.Start tie.the-claims reads.Pre reads.Post

abbrev After-enter-entered : Type 0
After-enter-entered = lts.After-enter tie.the-claims reads.Pre reads.Post

abbrev book_at : Start → Book
book_at s = book_of s.args.bids.now s.args.asks.now s.args.header

abbrev buffer_at : Start → List ℕ
buffer_at s = s.args.buffer.now

abbrev outline_at : Start → Outline
outline_at s = s.args.outline

-- the sides after the entries
abbrev bids_of : After-enter-entered → SideAfter
bids_of c = side_after c.enter-entered.new.bids c.enter-entered.result.bids

abbrev asks_of : After-enter-entered → SideAfter
asks_of c = side_after c.enter-entered.new.asks c.enter-entered.result.asks

pub enter-entered-requires : goal.enter-entered-requires
enter-entered-requires c = let s = c in (s.requires.0.passed, s.requires.1)

pub overflow_add-result : goal.overflow_add-result
overflow_add-result c =
    let n = c.before.before.before.before.before.before.before.before.before in
    let s = n.before.before.before.before.before in
    let k = s.requires.0.passed in
    let x = moved-small (book_at s) (outline_at s) (buffer_at s) k Bids (book_at s).bids (bids_of n) n.enter-entered.ensures.bids_worked k.bids_given k.good.bids k.good.few_bids in
    let y = moved-small (book_at s) (outline_at s) (buffer_at s) k Asks (book_at s).asks (asks_of n) n.enter-entered.ensures.asks_worked k.asks_given k.good.asks k.good.few_asks in
    omega arith

pub returns-then-is_taken : goal.returns-then-is_taken
unfolding kept_step
returns-then-is_taken c =
    let n = c.before.before.before.before.before.before.before.before.before in
    let s = n.before.before.before.before.before in
    let answer = c.weigh-answer.result in
    let is = sym c.is_taken.ensures ∙ c.if-is_taken.true in
    let bids = n.enter-entered.ensures.bids_worked in
    let asks = n.enter-entered.ensures.asks_worked in
    record {
      taken = λ t.
          subst (λ (h : Header). ReceivedAs (book_at s) (after_in (book_at s) (outline_at s) (buffer_at s)) (bids_of n).levels.words (asks_of n).levels.words (record { header = h; answer = answer; moved = (bids_of n).moved + (asks_of n).moved })) (sym c.renew.ensures)
          (record {
            received = kept-told (book_at s) (outline_at s) (buffer_at s) s.requires.0.passed s.requires.0.updates (bids_of n) (asks_of n) bids asks answer c.weigh-answer.ensures is;
            settings = refl;
            bids_past = λ y. bids.past;
            asks_past = λ y. asks.past;
            bids_back = λ y. absurd (true≢false (sym is ∙ y));
            asks_back = λ y. absurd (true≢false (sym is ∙ y));
          });
      refused = λ t. absurd (true≢false (sym is ∙ t));
      bids_stay = n.enter-entered.ensures.bids_stay;
      asks_stay = n.enter-entered.ensures.asks_stay;
    }

pub returns : goal.returns
unfolding refused_step
returns c =
    let n = c.before.before.before.before.before.before.before in
    let s = n.before.before.before.before.before in
    let answer = c.weigh-answer.result in
    let is = sym c.is_taken.ensures ∙ c.if-is_taken.false in
    record {
      taken = λ t. absurd (true≢false (sym t ∙ ap (λ (r : Answered). is_taken r.answer) c.refuse.ensures ∙ is));
      refused = λ t.
          subst (λ (r : Answered). ReceivedAs (book_at s) (after_in (book_at s) (outline_at s) (buffer_at s)) (book_at s).bids.words (book_at s).asks.words r) (sym c.refuse.ensures)
          (record {
            received = left-told (book_at s) (outline_at s) (buffer_at s) s.requires.0.passed s.requires.0.updates (bids_of n) (asks_of n) n.enter-entered.ensures.bids_worked n.enter-entered.ensures.asks_worked answer c.weigh-answer.ensures is;
            settings = refl;
            bids_past = λ y. refl;
            asks_past = λ y. refl;
            bids_back = λ y. refl;
            asks_back = λ y. refl;
          });
      bids_stay = n.enter-entered.ensures.bids_stay;
      asks_stay = n.enter-entered.ensures.asks_stay;
    }
