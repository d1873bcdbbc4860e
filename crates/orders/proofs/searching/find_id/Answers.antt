-- `find_id` meets its contract: no order passed has the id.
use mathlib.Core.Path.{◌≡◌, sym, ap, ◌∙◌}
use mathlib.Core.Bool.{false}
use native.Mathlib.Omega.{arith}
use lib.Seq.{take_all}
use Rattle.orders.specs.declared.Order.{Order}
use Rattle.level.specs.Ranked.{All}
use Rattle.order_edit.specs.Ids.{same_id, id_words}
use Rattle.order_edit.proofs.Ids.{same_words}
use Rattle.orders.specs.Words.{order_id, no_order, held}
use Rattle.orders.specs.Kept.{FoundId}
use Rattle.level.proofs.All.{all-next}
use Rattle.orders.proofs.Held.{held-length, held_at}
use Rattle.orders.proofs.searching.find_id.Goals as goal

pub loop-i-init : goal.loop-i-init
unfolding All
loop-i-init c = tt

pub returns-then-eq : goal.returns-then-eq
unfolding FoundId
returns-then-eq c =
    let a = c.args in
    let t = c.loop-i in
    let l = held-length a.words.now a.count c.requires in
    record {
      within = omega (arith, l);
      ahead = t.invariant;
      here =
          ap (λ (x : Order). same_id (order_id x) (id_words a.id)) (held_at a.words.now a.count t.i c.loop-i-test.true ∙ sym c.order_at.ensures)
          ∙ sym (same_words c.order_at.result.id a.id) ∙ sym c.eq.ensures ∙ c.if-eq.true;
    }

pub loop-i-preserved : goal.loop-i-preserved
loop-i-preserved c =
    let a = c.args in
    let t = c.loop-i in
    let l = held-length a.words.now a.count c.requires in
    all-next (λ x. same_id (order_id x) (id_words a.id) ≡ false) (held a.words.now a.count) t.i no_order (omega (arith, l, c.loop-i-test.true)) t.invariant
    (ap (λ (x : Order). same_id (order_id x) (id_words a.id)) (held_at a.words.now a.count t.i c.loop-i-test.true ∙ sym c.order_at.ensures)
    ∙ sym (same_words c.order_at.result.id a.id) ∙ sym c.eq.ensures ∙ c.if-eq.false)

pub returns : goal.returns
unfolding FoundId
returns c =
    let a = c.args in
    let t = c.loop-i in
    let l = held-length a.words.now a.count c.requires in
    rw (take_all t.i (held a.words.now a.count) (omega (arith, l, c.loop-i-test.false))) at t.invariant
