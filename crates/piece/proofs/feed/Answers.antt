-- `feed` meets its contract: a turn takes the last byte of the text to the front of the piece, and the whole stays the same text.
use Rattle.std.proofs.Common.{ℕ, List, length, sym, ap, ◌∙◌, arith}
use Rattle.decimal.specs.Tail.{remaining}
use Rattle.decimal.proofs.Buffer.{length-snoc}
use Rattle.piece.proofs.Sums.{ahead, ahead-byte, front-none}
use Rattle.piece.proofs.feed.Goals as goal

pub feed_byte-fed-requires : goal.feed_byte-fed-requires
feed_byte-fed-requires c =
    let q = ap length c.in-Some.ensures ∙ length-snoc (remaining c.pop.new.self) c.in-Some.byte in
    let i = c.loop-byte.invariant.1 in
    let p = c.requires in
    (omega arith, p.1)

pub loop-byte-preserved : goal.loop-byte-preserved
loop-byte-preserved c =
    let l = c.loop-byte in
    let rest = remaining c.pop.new.self in
    let last = c.in-Some.ensures in
    let q = ap length last ∙ length-snoc rest c.in-Some.byte in
    let i = l.invariant.1 in
    let n = c.feed_byte-fed.ensures.long in (
      ahead-byte rest c.feed_byte-fed.ensures ∙ ap (λ (x : List ℕ). ahead x l.fed) (sym last) ∙ l.invariant.0,
      omega arith,
    )

pub returns : goal.returns
returns c =
    let l = c.loop-byte in
    let e = c.in_default.ensures.0 in
    let n = ap length e in
    let i = l.invariant.1 in
    record {
      sum = sym (ap (λ (x : List ℕ). ahead x l.fed) e ∙ front-none l.fed.length l.fed.sum) ∙ l.invariant.0;
      long = omega arith;
    }
