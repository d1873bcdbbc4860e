-- `judge_checksum` meets its contract: a checksum that is printed is compared.
use mathlib.Core.Path.{sym, ◌∙◌}
use Rattle.level.specs.Kept.{kept_in}
use Rattle.book.proofs.Refusing.{checksum-unprinted, checksum-right, checksum-wrong}
use Rattle.book.proofs.taking.judge_checksum.Goals as goal
use Rattle.book.proofs.taking.judge_checksum.Goals.{else-outline-via-then-outline+else-outline-checksum_of, else-outline-via-else-outline}

pub returns-then-outline-checksum_of : goal.returns-then-outline-checksum_of
returns-then-outline-checksum_of c =
    let a = c.args in
    checksum-wrong a.outline a.dialect (kept_in a.bids.now a.bid_count) (kept_in a.asks.now a.ask_count) c.if-outline.true (λ q. c.if-outline-checksum_of.true (q ∙ sym c.checksum_of.ensures))

pub returns : goal.returns
returns c =
    let a = c.args in
    let bids = kept_in a.bids.now a.bid_count in
    let asks = kept_in a.asks.now a.ask_count in
    elim c.else-outline.branch [
      | else-outline-via-then-outline+else-outline-checksum_of w ↦ checksum-right a.outline a.dialect bids asks w.if-outline.true (w.if-outline-checksum_of.false ∙ w.checksum_of.ensures)
      | else-outline-via-else-outline w ↦ checksum-unprinted a.outline a.dialect bids asks w.if-outline.false
    ]
