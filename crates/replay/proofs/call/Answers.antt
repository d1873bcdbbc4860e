-- `call` meets its contract: the lent buffer stands behind the words, which are laid last.
use Rattle.replay.proofs.Laying.{reply-laid}
use Rattle.replay.proofs.call.Goals as goal

pub returns : goal.returns
returns c = reply-laid c.args.part.now c.requires.2 _ _ _ c.answer-reply.result c.answer-reply.ensures c.lay_reply.ensures
