-- `lay_word` meets its contract: its bytes are those that stand before the first zero.
use Rattle.std.proofs.Common.{List, ℕ, ap, ◌∙◌, subst}
use Rattle.std.proofs.Common.{take}
use Rattle.writer.specs.Parts.{Put}
use Rattle.order_writer.proofs.Ids.{bytes_first}
use Rattle.order_writer.proofs.laying.lay_word.Goals as goal

pub returns : goal.returns
returns c =
    let a = c.args in
    let n = c.word_length.result in
    let e = ap (take n) c.to_le_bytes.ensures ∙ bytes_first a.word n c.word_length.ensures.0 in
    subst (λ (text : List ℕ). Put a.buffer.now a.at text c.lay.new.buffer c.lay.result) e c.lay.ensures
