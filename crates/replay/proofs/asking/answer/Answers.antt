-- `answer` meets its contract: by what the header asks, the answer of the book's own method.
use mathlib.Core.Path.{refl}
use Rattle.replay.proofs.Answering.{as-asked, asks-message, asks-counts, asks-level, asks-number, asks-updates, asks_write}
use Rattle.replay.proofs.Laying.{rest-is}
use Rattle.replay.proofs.asking.answer.Goals as goal

pub returns-then-opcode-eq0 : goal.returns-then-opcode-eq0
returns-then-opcode-eq0 c =
    as-asked (asks-message c.args.call.now c.word_at-opcode.ensures c.if-opcode-eq0.true) refl
    (rw (rest-is c.args.call.now 48) at c.take.ensures c.args.buffer.now)

pub returns-then-opcode-eq1 : goal.returns-then-opcode-eq1
returns-then-opcode-eq1 c =
    as-asked (asks-counts c.args.call.now c.word_at-opcode.ensures c.word_at.ensures c.scope_of-scope.ensures c.if-opcode-eq1.true) refl (c.counts.ensures c.args.buffer.now)

pub returns-then-opcode-eq2 : goal.returns-then-opcode-eq2
returns-then-opcode-eq2 c =
    as-asked (asks-level c.args.call.now c.word_at-opcode.ensures c.word_at.ensures c.scope_of-scope.ensures c.if-opcode-eq2.true c.word_at-then-opcode-eq2.ensures c.side_of-side.ensures c.word_at-i.ensures) refl
    (c.level.ensures c.args.buffer.now)

pub returns-then-opcode-eq3 : goal.returns-then-opcode-eq3
returns-then-opcode-eq3 c =
    as-asked (asks-number c.args.call.now c.word_at-opcode.ensures c.word_at.ensures c.scope_of-scope.ensures c.if-opcode-eq3.true) refl (c.number.ensures c.args.buffer.now)

pub returns-then-opcode-eq4 : goal.returns-then-opcode-eq4
returns-then-opcode-eq4 c =
    as-asked (asks-updates c.args.call.now c.word_at-opcode.ensures c.word_at.ensures c.scope_of-scope.ensures c.if-opcode-eq4.true) refl (c.updates.ensures c.args.buffer.now)

pub returns : goal.returns
returns c =
    as-asked (asks_write c.args.call.now c.word_at-opcode.ensures c.if-opcode-eq0.false c.if-opcode-eq1.false c.if-opcode-eq2.false c.if-opcode-eq3.false c.if-opcode-eq4.false) refl
    c.write.ensures
