-- `lay` meets its contract: there is room for the whole text, or nothing is laid.
use Rattle.std.proofs.Common.{◌≡◌, ℕ, ◌+◌, ◌-◌, length, ap, ◌∙◌, arith}
use Rattle.decimal.specs.Buffer.{overlaid}
use Rattle.decimal.specs.Tail.{remaining}
use Rattle.decimal.proofs.Buffer.{laid-full, laid-to}
use Rattle.decimal.proofs.writing.lay.Goals as goal
use Rattle.decimal.proofs.writing.lay.Goals.{then-buffer-at-via-then-buffer-at, then-buffer-at-via-else-buffer-at+then-buffer-at-2}

pub returns-then-buffer-at : goal.returns-then-buffer-at
returns-then-buffer-at c =
    let n = c.tail_length-n.ensures in
    elim c.then-buffer-at.branch [
      | then-buffer-at-via-then-buffer-at w ↦ laid-full c.args.buffer.now c.args.at (remaining c.args.t) (omega arith)
      | then-buffer-at-via-else-buffer-at+then-buffer-at-2 w ↦ laid-full c.args.buffer.now c.args.at (remaining c.args.t) (omega arith)
    ]

pub returns : goal.returns
returns c =
    let n = c.tail_length-n.ensures in
    let q : c.args.at + c.tail_length-n.result - length (remaining c.args.t) ≡ c.args.at = omega arith in
    laid-to c.args.buffer.now c.args.at (remaining c.args.t) (let h = c.if-buffer-at-2.false in let k = c.if-buffer-at.false in omega arith)
    (c.fill.ensures ∙ ap (λ (k : ℕ). overlaid c.args.buffer.now k (remaining c.args.t)) q)
    (omega arith)
