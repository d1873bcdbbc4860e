-- `id_of` meets its contract, word by word.
use Rattle.order_edit.specs.Ids.{id_of}
use Rattle.order_edit.proofs.id_text.id_of.Goals as goal

pub returns : goal.returns
unfolding id_of
returns c = rw (c.word_from.ensures, c.word_from-2.ensures, c.word_from-3.ensures)
