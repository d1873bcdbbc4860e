-- `crc32::text::load_few` meets its contract: the number is that of the bytes passed, and each turn takes the byte before them.
-- Assumes nothing.
use Prim.Native.Nat.{ℕ, ◌+◌, ◌*◌}
use lib.ListN.{drop}
use mathlib.Core.Path.{◌≡◌, ◌∙◌, ap}
use native.Mathlib.Omega.{arith}
use Rattle.text.specs.Words.{word}
use Rattle.crc32.proofs.Texts.{byte-before, few-lt, no-bytes-left}
use Rattle.crc32.proofs.slices.load_few.Goals as goal

pub loop-i-init : goal.loop-i-init
loop-i-init c = (omega arith, no-bytes-left c.args.t.now)

pub overflow_mul-w : goal.overflow_mul-w
overflow_mul-w c = omega (arith, few-lt c.args.t.now c.loop-i.i (λ k. (c.shared_slice_known-1.given k).fits) (omega arith))

pub overflow_add-w : goal.overflow_add-w
overflow_add-w c = omega (arith, few-lt c.args.t.now c.loop-i.i (λ k. (c.shared_slice_known-1.given k).fits) (omega arith))

pub loop-i-preserved : goal.loop-i-preserved
loop-i-preserved c = (
  omega arith,
  ap (λ (x : ℕ). c.loop-i.w * 256 + x) c.from.ensures
      ∙ byte-before c.args.t.now c.loop-i.i c.loop-i.w (omega arith) (omega arith) c.loop-i.invariant.1,
)

pub returns : goal.returns
returns c =
    let e : c.loop-i.i ≡ c.args.at = omega arith in
    c.loop-i.invariant.1 ∙ ap (λ (k : ℕ). word (drop k c.args.t.now)) e
