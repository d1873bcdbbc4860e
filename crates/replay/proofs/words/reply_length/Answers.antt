-- `reply_length` meets its contract: the call is whole.
use native.Mathlib.Omega.{arith}
use Rattle.replay.specs.Format.{reply_length}
use Rattle.replay.proofs.Fields.{whole-fits}
use Rattle.replay.proofs.words.reply_length.Goals as goal

pub word_at-requires : goal.word_at-requires
word_at-requires c = let f = whole-fits c.args.s.now c.args.room c.requires in omega arith

pub overflow_add-result : goal.overflow_add-result
overflow_add-result c = let f = whole-fits c.args.s.now c.args.room c.requires in let e = c.word_at.ensures in omega arith

pub returns : goal.returns
unfolding reply_length
returns c = rw c.word_at.ensures
