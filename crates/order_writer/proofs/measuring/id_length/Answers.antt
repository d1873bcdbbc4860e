-- `id_length` meets its contract: the bytes of its words, summed.
use native.Mathlib.Omega.{arith}
use Rattle.order_writer.proofs.Ids.{length-id}
use Rattle.order_writer.proofs.measuring.id_length.Goals as goal

pub returns : goal.returns
returns c =
    let e = length-id c.args.id in
    let a = c.word_length.ensures in
    let b = c.word_length-2.ensures in
    let d = c.word_length-3.ensures in
    (omega arith, omega arith)
