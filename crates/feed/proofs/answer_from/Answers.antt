-- `answer_from` meets its contract: the lines from a position on are those of the rest of the text.
use borrow.Author.Rules.{rules}
use Rattle.feed.proofs.Replying.{whole-rest}
use Rattle.feed.proofs.Processing.{processed-from}
use Rattle.feed.proofs.answer_from.Goals as goal

pub returns : goal.returns
returns c =
    let s = c in
    processed-from c.process_lines-processed.ensures s.args.s.now s.args.from (whole-rest s.args.s.now s.args.from) s.requires.1 (search rules) s.args.book
