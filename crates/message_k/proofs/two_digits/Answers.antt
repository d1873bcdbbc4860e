-- `two_digits` meets its contract: a depth of two digits is written with its tens and its ones.
-- Assumes nothing.
use Rattle.message_k.proofs.Channel.{channel-two}
use Rattle.message_k.proofs.two_digits.Goals as goal

pub returns : goal.returns
returns c = channel-two c.args.depth c.requires.0 c.requires.1
