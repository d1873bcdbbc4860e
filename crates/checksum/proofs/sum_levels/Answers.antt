-- `sum_levels` meets its contract: what is left to sum, from a turn on, gives what the whole gives.
use Prim.Native.Nat.{ℕ, ◌*◌}
use mathlib.Core.Path.{sym, ap, ap₂, ◌∙◌}
use native.Mathlib.Omega.{arith}
use lib.Bits.{bit_xor}
use Rattle.crc32_spec.specs.Crc.{bits}
use Rattle.level.specs.declared.Level.{Level}
use Rattle.level.specs.Words.{level_sum, level_length, levels_in}
use Rattle.checksum.proofs.Pieces.{enough, summed_turn, summed-done}
use Rattle.checksum.proofs.sum_levels.Goals as goal

pub loop-i-preserved : goal.loop-i-preserved
loop-i-preserved c =
    let level = c.level_in-level in
    summed_turn (levels_in c.args.words.now) c.loop-i.i c.args.to c.loop-i.sum c.combine_with-sum.result c.loop-i-test.true (enough c.args.to c.args.words.now c.requires.1 c.requires.2)
    (c.combine_with-sum.ensures
    ∙ ap₂ (λ (n x : ℕ). bit_xor (bits (8 * n) c.loop-i.sum) x) c.length_of.ensures c.sum_of.ensures
    ∙ ap (λ (x : Level). bit_xor (bits (8 * level_length x) c.loop-i.sum) (level_sum x)) level.ensures)
    ∙ c.loop-i.invariant

pub returns : goal.returns
returns c =
    sym (summed-done (levels_in c.args.words.now) c.loop-i.i c.args.to c.loop-i.sum (omega arith) (enough c.args.to c.args.words.now c.requires.1 c.requires.2)) ∙ c.loop-i.invariant
