-- `crc32_tables::moved0` meets its contract: a turn looks four bits up, and what is looked up and what is left sum up to the same.
-- Written by tools/crc32_tables.py. Assumes nothing.
use mathlib.Core.Path.{◌∙◌}
use Prim.Native.Nat.{◌+◌}
use native.Mathlib.Omega.{arith}
use Rattle.crc32_spec.proofs.Rows.{all_left, looked-up, none_left}
use Rattle.crc32_tables.proofs.moved0.Goals as goal

pub loop-j-init : goal.loop-j-init
loop-j-init c = (omega arith, all_left (0 + c.args.n) c.args.s)

pub loop-j-preserved : goal.loop-j-preserved
loop-j-preserved c = (
  omega arith,
  looked-up 0 c.args.n c.args.s c.loop-j.j c.loop-j.sum _ _ _ (omega arith) (omega arith)
      c.four_bits.ensures c.rows0.ensures c.half-sum.ensures
      ∙ c.loop-j.invariant.1,
)

pub returns : goal.returns
returns c =
    none_left (0 + c.args.n) c.args.s c.loop-j.j c.loop-j.sum _ (omega arith)
    c.ranges.s.fits c.loop-j.invariant.1
