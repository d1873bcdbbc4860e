-- `sum_pairs` meets its contract: what is left to sum, from a turn on, gives what the whole gives.
use Prim.Native.Nat.{ℕ, ◌+◌, ◌*◌}
use mathlib.Core.Path.{sym, ap, ap₂, ◌∙◌}
use native.Mathlib.Omega.{arith}
use lib.Bits.{bit_xor}
use lib.ListN.{get_or}
use Rattle.crc32_spec.specs.Crc.{bits}
use Rattle.level.specs.Words.{level_sum, level_length, levels_in, no_level}
use Rattle.checksum.proofs.Pieces.{enough, pairs-turn, pairs-done}
use Rattle.checksum.proofs.sum_pairs.Goals as goal

pub loop-i-preserved : goal.loop-i-preserved
loop-i-preserved c =
    let a = c.args in
    let bids = levels_in a.bids.now in
    let asks = levels_in a.asks.now in
    let i = c.loop-i.i in
    let sum = c.loop-i.sum in
    let pair = c.combine_with-pair.result in
    let bid-sum = c.sum_of.ensures ∙ ap level_sum c.level_in-bid.ensures in
    let ask-sum = c.sum_of-in-loop-i.ensures ∙ ap level_sum c.level_in-ask.ensures in
    let bid-length = c.length_of-bid_length.ensures ∙ ap level_length c.level_in-bid.ensures in
    let ask-length = c.length_of-ask_length.ensures ∙ ap level_length c.level_in-ask.ensures in
    pairs-turn bids asks i a.n sum c.combine_with-sum.result pair c.loop-i-test.true
    (enough a.n a.bids.now c.requires.0 c.requires.1)
    (enough a.n a.asks.now c.requires.0 c.requires.2)
    (c.combine_with-pair.ensures
    ∙ ap₂ (λ (n b : ℕ). bit_xor (bits (8 * n) b) c.sum_of-in-loop-i.result) ask-length bid-sum
    ∙ ap (bit_xor (bits (8 * level_length (get_or asks i no_level)) (level_sum (get_or bids i no_level)))) ask-sum)
    (c.combine_with-sum.ensures ∙ ap₂ (λ (b k : ℕ). bit_xor (bits (8 * (b + k)) sum) pair) bid-length ask-length)
    ∙ c.loop-i.invariant

pub returns : goal.returns
returns c =
    let a = c.args in
    sym (pairs-done (levels_in a.bids.now) (levels_in a.asks.now) c.loop-i.i a.n c.loop-i.sum (omega arith)) ∙ c.loop-i.invariant
