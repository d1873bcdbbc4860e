-- `entry_length` meets its contract: the lengths of an entry's texts, summed.
use Prim.Native.Nat.{◌+◌, ◌≤◌}
use mathlib.Core.Path.{◌≡◌, ap, ◌∙◌}
use native.Mathlib.Omega.{arith}
use lib.ListN.{length}
use Rattle.decimal.specs.Decimal.{Number, text}
use Rattle.writer.specs.Parts.{entry, max_entry}
use Rattle.writer.proofs.Entries.{closing, stamped-closing, plain-closing, length-entry, entry-short}
use Rattle.writer.proofs.measuring.entry_length.Goals as goal
use Rattle.writer.proofs.measuring.entry_length.Lts as lts
use Rattle.writer.proofs.measuring.entry_length.Tie as tie
use Rattle.writer.proofs.measuring.entry_length.Reads as reads

-- Places in the code.
abbrev After-text_length-size : Type 0
After-text_length-size = lts.After-text_length2 tie.the-claims reads.Pre reads.Post

abbrev Then-stamped : Type 0
Then-stamped = lts.Then1 tie.the-claims reads.Pre reads.Post

abbrev Else-stamped : Type 0
Else-stamped = lts.Else1 tie.the-claims reads.Pre reads.Post

summed : (c : After-text_length-size) →
    let s = c in
    (length (entry s.args.stamped s.args.level) ≡ 5 + c.text_length-price.result + c.text_length-size.result + length (closing s.args.stamped))
    × (length (entry s.args.stamped s.args.level) ≤ max_entry)
summed c =
    let s = c in
    let p = c.text_length-price.ensures ∙ ap (λ (n : Number). length (text n)) c.price_of.ensures in
    let z = c.text_length-size.ensures ∙ ap (λ (n : Number). length (text n)) c.size_of.ensures in
    let e = length-entry s.args.stamped s.args.level in
    (omega arith, entry-short s.args.stamped s.args.level s.requires)

with-stamp : (c : Then-stamped) → length (closing c.args.stamped) ≡ 13
with-stamp c = ap length (stamped-closing c.if-stamped.true)

without-stamp : (c : Else-stamped) → length (closing c.args.stamped) ≡ 2
without-stamp c = ap length (plain-closing c.if-stamped.false)

pub text_length-price-requires : goal.text_length-price-requires
text_length-price-requires c = rw c.price_of.ensures c.requires.price

pub text_length-size-requires : goal.text_length-size-requires
text_length-size-requires c = rw c.size_of.ensures c.requires.size

pub overflow_add-result : goal.overflow_add-result
overflow_add-result c = let n = summed c.before in let k = with-stamp c in omega arith

pub overflow_add-result-then-stamped : goal.overflow_add-result-then-stamped
overflow_add-result-then-stamped c = let n = summed c.before in let k = with-stamp c in omega arith

pub returns-then-stamped : goal.returns-then-stamped
returns-then-stamped c = let n = summed c.before in let k = with-stamp c in (omega arith, omega arith)

pub overflow_add-result-2 : goal.overflow_add-result-2
overflow_add-result-2 c = let n = summed c.before in let k = without-stamp c in omega arith

pub overflow_add-result-3 : goal.overflow_add-result-3
overflow_add-result-3 c = let n = summed c.before in let k = without-stamp c in omega arith

pub returns : goal.returns
returns c = let n = summed c.before in let k = without-stamp c in (omega arith, omega arith)
