-- `is_crossed` meets its contract: by the first levels, where both sides have one.
use mathlib.Core.Path.{sym, ap, ap₂, ◌∙◌, subst}
use Rattle.std.specs.Ordering.{is_ge}
use Rattle.decimal.specs.Limits.{order, Within}
use Rattle.edit.specs.declared.Side.TheVariants.{Bids, Asks}
use Rattle.level.specs.Words.{level_price}
use Rattle.level.specs.Kept.{kept_in}
use Rattle.sides.proofs.Crossing.{no-bid, no-ask, best-within, best-cross}
use Rattle.sides.proofs.is_crossed.Goals as goal
use Rattle.sides.proofs.is_crossed.Goals.{then-bid_count-eq0-via-then-bid_count-eq0, then-bid_count-eq0-via-else-bid_count-eq0+then-ask_count-eq0}

pub returns-then-bid_count-eq0 : goal.returns-then-bid_count-eq0
returns-then-bid_count-eq0 c =
    let a = c.args in
    let bids = kept_in a.bids.now a.bid_count in
    let asks = kept_in a.asks.now a.ask_count in
    elim c.then-bid_count-eq0.branch [
      | then-bid_count-eq0-via-then-bid_count-eq0 w ↦ no-bid bids asks w.if-bid_count-eq0.true
      | then-bid_count-eq0-via-else-bid_count-eq0+then-ask_count-eq0 w ↦ no-ask bids asks w.if-ask_count-eq0.true
    ]

pub compare-requires : goal.compare-requires
compare-requires c =
    let a = c.args in (
      subst Within (sym (c.price_of-bid.ensures ∙ ap level_price c.level_in.ensures)) (best-within Bids (kept_in a.bids.now a.bid_count) c.requires.0 c.if-bid_count-eq0.false),
      subst Within (sym (c.price_of-ask.ensures ∙ ap level_price c.level_in-2.ensures)) (best-within Asks (kept_in a.asks.now a.ask_count) c.requires.1 c.if-ask_count-eq0.false),
    )

pub returns : goal.returns
returns c =
    let a = c.args in
    c.is_not_below.ensures
    ∙ ap is_ge (c.compare.ensures ∙ ap₂ order (c.price_of-bid.ensures ∙ ap level_price c.level_in.ensures) (c.price_of-ask.ensures ∙ ap level_price c.level_in-2.ensures))
    ∙ best-cross (kept_in a.bids.now a.bid_count) (kept_in a.asks.now a.ask_count) c.requires.0 c.requires.1 c.if-bid_count-eq0.false c.if-ask_count-eq0.false
