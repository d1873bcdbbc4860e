-- `lay_reply` meets its contract: word after word, the rest is owed.
use Prim.Native.Nat.{◌+◌, ◌<◌}
use mathlib.Core.Path.{◌≡◌}
use native.Mathlib.Omega.{arith}
use borrow.Author.Rules.{rules}
use lib.ListN.{length, drop, get_or}
use Rattle.std.proofs.lemmas.List.{drop_more, drop_all}
use Rattle.replay.proofs.Laying.{words-owed, word_room, word-laid, words-laid}
use Rattle.replay.proofs.asking.lay_reply.Goals as goal
use Rattle.replay.proofs.asking.lay_reply.Goals.{Start}

six : (s : Start) → length s.args.reply.words ≡ 6
six s = search rules

pub loop-word-init : goal.loop-word-init
loop-word-init c =
    let s = (goal.at.loop-word-init c).Start in
    word-laid c.args.reply.answer c.args.reply.words (words-owed c.args.part.now c.args.reply (six s) c.requires) c.lay_word-end.ensures

pub lay_word-end-requires-in-loop-word : goal.lay_word-end-requires-in-loop-word
lay_word-end-requires-in-loop-word c =
    let s = (goal.at.lay_word-end-requires-in-loop-word c).Start in
    let ws = c.args.reply.words in
    let i = c.loop-word.word-index in
    let within : i < length ws = omega (arith, six s, c.loop-word-test.true) in
    word_room (get_or ws i 0) (drop (i + 1) ws) (rw (drop_more ws i 0 within) at c.loop-word.invariant)

pub loop-word-preserved : goal.loop-word-preserved
loop-word-preserved c =
    let s = (goal.at.loop-word-preserved c).Start in
    let ws = c.args.reply.words in
    let i = c.loop-word.word-index in
    let within : i < length ws = omega (arith, six s, c.loop-word-test.true) in
    word-laid (get_or ws i 0) (drop (i + 1) ws) (rw (drop_more ws i 0 within) at c.loop-word.invariant) c.lay_word-end-in-loop-word.ensures

pub returns : goal.returns
returns c =
    let s = (goal.at.returns c).Start in
    words-laid (rw (drop_all c.loop-word.word-index c.args.reply.words (omega (arith, six s, c.loop-word-test.false))) at c.loop-word.invariant)
