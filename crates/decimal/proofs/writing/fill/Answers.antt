-- `fill` meets its contract: the last byte laid, and then what stands before it, is the whole laid.
use Rattle.std.proofs.Common.{◌≡◌, ℕ, ◌+◌, ◌-◌, List, length, set, sym, ap, ◌∙◌, arith, length-set}
use Rattle.decimal.specs.Buffer.{overlaid}
use Rattle.decimal.specs.Tail.{remaining}
use Rattle.decimal.proofs.Buffer.{length-snoc, overlaid-last, overlaid-none}
use Rattle.decimal.proofs.writing.fill.Goals as goal

pub loop-byte-preserved : goal.loop-byte-preserved
loop-byte-preserved c =
    let b = c.loop-byte.buffer in
    let i = c.loop-byte.i in
    let rest = remaining c.pop.new.self in
    let last = c.in-Some.ensures in
    let q : length (remaining c.loop-byte.rest) ≡ length rest + 1 = ap length last ∙ length-snoc rest c.in-Some.byte in
    let h = c.loop-byte.invariant.1 in
    let k = c.loop-byte.invariant.2 in
    let m : length (set b (i - 1) c.in-Some.byte) ≡ length b = length-set b (i - 1) c.in-Some.byte in (
      overlaid-last b rest c.in-Some.byte i (omega arith) k
          ∙ ap (λ (l : List ℕ). overlaid b (i - length l) l) (sym last)
          ∙ c.loop-byte.invariant.0,
      omega arith,
      omega arith,
      m ∙ c.loop-byte.invariant.3,
    )

pub returns : goal.returns
returns c =
    sym (ap (λ (l : List ℕ). overlaid c.loop-byte.buffer (c.loop-byte.i - length l) l) c.in_default.ensures.0 ∙ overlaid-none c.loop-byte.buffer (c.loop-byte.i - 0))
    ∙ c.loop-byte.invariant.0
