-- `m_checksum` meets its contract: the pairs, then what one side has more, are the best levels in turn; a colon leads into the text.
use Prim.Native.Nat.{ℕ}
use mathlib.Core.Path.{ap, ◌∙◌}
use mathlib.Core.Logic.{inl, inr}
use lib.ListN.{take, drop}
use Rattle.crc32_spec.specs.Crc.{finish}
use Rattle.level.specs.Words.{levels_in}
use Rattle.level.specs.Kept.{held}
use Rattle.checksum.specs.Carried.{summed}
use Rattle.checksum.proofs.Pieces.{enough, m-none, m-all}
use Rattle.checksum.proofs.m_checksum.Goals as goal
use Rattle.checksum.proofs.m_checksum.Goals.{else-bid_end-eq0-via-then-bid_end-eq0+else-ask_end-eq0, else-bid_end-eq0-via-else-bid_end-eq0}

pub returns-then-ask_end-eq0 : goal.returns-then-ask_end-eq0
unfolding held
returns-then-ask_end-eq0 c =
    let a = c.args in
    m-none a.most a.bid_count a.ask_count c.min-bid_end.result c.min-ask_end.result (levels_in a.bids.now) (levels_in a.asks.now)
    c.min-bid_end.ensures c.min-ask_end.ensures c.if-bid_end-eq0.true c.if-ask_end-eq0.true

pub returns : goal.returns
unfolding held
returns c =
    let s = c in
    let a = s.args in
    let bids = levels_in a.bids.now in
    let asks = levels_in a.asks.now in
    let b = c.min-bid_end in
    let k = c.min-ask_end in
    let both = c.min-both in
    ap finish
    (c.sum_levels.ensures
    ∙ ap (λ (sum : ℕ). summed sum (drop both.result (take k.result asks)))
    (c.sum_levels-after_bids.ensures ∙ ap (λ (sum : ℕ). summed sum (drop both.result (take b.result bids))) c.sum_pairs-paired.ensures))
    ∙ m-all a.most a.bid_count a.ask_count b.result k.result bids asks b.ensures k.ensures both.result
    (enough a.bid_count a.bids.now s.requires.0.few s.requires.0.room) (enough a.ask_count a.asks.now s.requires.1.few s.requires.1.room) both.ensures
    (elim c.else-bid_end-eq0.branch [ else-bid_end-eq0-via-then-bid_end-eq0+else-ask_end-eq0 w ↦ inr w.if-ask_end-eq0.false | else-bid_end-eq0-via-else-bid_end-eq0 w ↦ inl w.if-bid_end-eq0.false ]) s.requires.2 s.requires.3
