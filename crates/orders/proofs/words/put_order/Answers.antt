-- `put_order` meets its contract: the six words from 6i on are the order's.
use native.Mathlib.Omega.{arith}
use lib.ListN.{length-set}
use Rattle.order_edit.proofs.Sixes.{stored, length-stored, sixes-set, past-stored}
use Rattle.orders.specs.Words.{six_words, orders_in}
use Rattle.orders.proofs.words.put_order.Goals as goal

pub bounds-words-at-2 : goal.bounds-words-at-2
bounds-words-at-2 c = simp length-set (omega arith)

pub bounds-words-at-3 : goal.bounds-words-at-3
bounds-words-at-3 c = simp length-set (omega arith)

pub bounds-words-at-4 : goal.bounds-words-at-4
bounds-words-at-4 c = simp length-set (omega arith)

pub bounds-words-at-5 : goal.bounds-words-at-5
bounds-words-at-5 c = simp length-set (omega arith)

pub bounds-words-at-6 : goal.bounds-words-at-6
bounds-words-at-6 c = simp length-set (omega arith)

pub shape_of-words : goal.shape_of-words
shape_of-words c = simp length-set

pub returns : goal.returns
unfolding orders_in stored
returns c =
    let s = c in
    let a = s.args in
    let x = a.order in
    rw c.parts_of-level.ensures
    (record {
      room = length-stored a.i a.words.now x.level.price x.level.size x.level.rest x.id.first x.id.second x.id.third;
      orders = sixes-set six_words a.i a.words.now x.level.price x.level.size x.level.rest x.id.first x.id.second x.id.third s.requires;
      past = past-stored a.i a.words.now x.level.price x.level.size x.level.rest x.id.first x.id.second x.id.third;
    })
