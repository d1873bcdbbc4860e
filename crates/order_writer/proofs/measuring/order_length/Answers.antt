-- `order_length` meets its contract: the lengths of an order's texts, summed.
use Prim.Native.Nat.{◌+◌, ◌≤◌}
use mathlib.Core.Path.{◌≡◌, ap, ◌∙◌}
use native.Mathlib.Omega.{arith}
use lib.ListN.{length}
use Rattle.decimal.specs.Decimal.{Number, text}
use Rattle.order_writer.specs.Parts.{entry, max_entry}
use Rattle.order_writer.proofs.Parts.{length-entry, entry-short}
use Rattle.order_writer.proofs.measuring.order_length.Goals as goal
use Rattle.order_writer.proofs.measuring.order_length.Lts as lts
use Rattle.order_writer.proofs.measuring.order_length.Tie as tie
use Rattle.order_writer.proofs.measuring.order_length.Reads as reads

-- Places in the code.
abbrev After-id_length : Type 0
After-id_length = lts.After-id_length tie.the-claims reads.Pre reads.Post

summed : (c : After-id_length) →
    let s = c in
    (length (entry s.args.order) ≡ 47 + c.id_length.result + c.text_length-price.result + c.text_length-size.result)
    × (length (entry s.args.order) ≤ max_entry)
summed c =
    let s = c in
    let i = c.id_length.ensures.0 in
    let p = c.text_length-price.ensures ∙ ap (λ (n : Number). length (text n)) c.price_of.ensures in
    let z = c.text_length-size.ensures ∙ ap (λ (n : Number). length (text n)) c.size_of.ensures in
    let e = length-entry s.args.order in
    (omega arith, entry-short s.args.order s.requires)

pub text_length-price-requires : goal.text_length-price-requires
text_length-price-requires c = rw c.price_of.ensures c.requires.price

pub text_length-size-requires : goal.text_length-size-requires
text_length-size-requires c = rw c.size_of.ensures c.requires.size

pub overflow_add-result-2 : goal.overflow_add-result-2
overflow_add-result-2 c = let n = summed c in omega arith

pub overflow_add-result-3 : goal.overflow_add-result-3
overflow_add-result-3 c = let n = summed c in omega arith

pub returns : goal.returns
returns c = let n = summed c in (omega arith, omega arith)
