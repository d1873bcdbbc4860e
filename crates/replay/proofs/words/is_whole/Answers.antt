-- `is_whole` meets its contract: test by test.
use Rattle.replay.proofs.Fields.{not-header, not-opcode, not-message, not-words, whole_by}
use Rattle.replay.proofs.words.is_whole.Goals as goal

pub returns-then-s-lt-HEADER : goal.returns-then-s-lt-HEADER
returns-then-s-lt-HEADER c = not-header c.args.s.now c.args.room c.if-s-lt-HEADER.true

pub returns-then-word_at-gt-LAST_OPCODE : goal.returns-then-word_at-gt-LAST_OPCODE
returns-then-word_at-gt-LAST_OPCODE c = not-opcode c.args.s.now c.args.room c.if-s-lt-HEADER.false c.word_at.ensures c.if-word_at-gt-LAST_OPCODE.true

pub returns-then-s-word_at : goal.returns-then-s-word_at
returns-then-s-word_at c = not-message c.args.s.now c.args.room c.if-s-lt-HEADER.false c.word_at.ensures c.if-word_at-gt-LAST_OPCODE.false c.word_at-2.ensures c.if-s-word_at.true

pub returns-then-room-lt-REPLY_WORDS : goal.returns-then-room-lt-REPLY_WORDS
returns-then-room-lt-REPLY_WORDS c = not-words c.args.s.now c.args.room c.if-s-lt-HEADER.false c.word_at.ensures c.if-word_at-gt-LAST_OPCODE.false c.word_at-2.ensures c.if-s-word_at.false c.if-room-lt-REPLY_WORDS.true

pub returns : goal.returns
returns c = whole_by c.args.s.now c.args.room c.if-s-lt-HEADER.false c.word_at.ensures c.if-word_at-gt-LAST_OPCODE.false c.word_at-2.ensures c.if-s-word_at.false c.if-room-lt-REPLY_WORDS.false c.word_at-3.ensures
