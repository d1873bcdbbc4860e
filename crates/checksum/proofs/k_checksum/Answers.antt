-- `k_checksum` meets its contract: the sums of the best asks, then of the best bids, are those of their joined text.
use Prim.Native.Nat.{ℕ}
use mathlib.Core.Path.{ap, ap₂, ◌∙◌}
use lib.ListN.{take}
use Rattle.crc32_spec.specs.Crc.{start, finish}
use Rattle.level.specs.Words.{levels_in}
use Rattle.level.specs.Kept.{held}
use Rattle.checksum.specs.Carried.{summed}
use Rattle.checksum.proofs.Pieces.{take_min, k-summed}
use Rattle.checksum.proofs.k_checksum.Goals as goal

pub returns : goal.returns
unfolding held
returns c =
    let s = c in
    let a = s.args in
    let bids = levels_in a.bids.now in
    let asks = levels_in a.asks.now in
    let first = c.sum_levels-after_asks.ensures ∙ ap (λ (n : ℕ). summed start (take n asks)) c.min.ensures ∙ ap (summed start) (take_min a.ask_count a.most asks) in
    ap finish
    (c.sum_levels.ensures
    ∙ ap₂ (λ (sum n : ℕ). summed sum (take n bids)) first c.min-2.ensures
    ∙ ap (summed (summed start (take a.most (take a.ask_count asks)))) (take_min a.bid_count a.most bids))
    ∙ k-summed a.most (take a.bid_count bids) (take a.ask_count asks) s.requires.2 s.requires.3
