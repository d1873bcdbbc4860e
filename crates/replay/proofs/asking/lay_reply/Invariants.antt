-- `lay_reply`: of the words of the reply, those that are not laid yet are owed.
use lib.ListN.{drop}
use Rattle.writer.proofs.Owed.{Whole}
use Rattle.replay.specs.Format.{words_of}
use Rattle.replay.specs.Calls.{words_in}
use Rattle.replay.proofs.asking.lay_reply.Given as goal

abbrev pub invariant-loop-word : goal.invariant-loop-word
invariant-loop-word l = Whole l.fn.part 0 (words_of (words_in l.fn.reply)) l.part l.end (words_of (drop l.word-index l.fn.reply.words))
