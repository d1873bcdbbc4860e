-- `add` meets its contract: the id stands on neither side, and the place is the one behind all that the price does not stand before.
use mathlib.Core.Path.{refl, sym, ap, ◌∙◌}
use mathlib.Core.List.{◌∷◌, ◌++◌}
use native.Mathlib.Omega.{arith}
use lib.ListN.{take, drop}
use Rattle.decimal.specs.Decimal.{value}
use Rattle.level.specs.declared.Level.{Level}
use Rattle.order_edit.specs.Ids.{id_words}
use Rattle.order_edit.specs.Buffer.{order_entry}
use Rattle.orders.specs.Orders.{taken}
use Rattle.orders.specs.Words.{held, order_for}
use Rattle.orders.specs.Kept.{outcome, count_of}
use Rattle.orders.proofs.Held.{held-length}
use Rattle.orders.proofs.Sounds.{entry-price}
use Rattle.orders.proofs.Steps.{found-stands, place-there}
use Rattle.orders.proofs.applying.add.Goals as goal
use Rattle.orders.proofs.applying.add.Goals.{then-is_some-via-then-is_some, then-is_some-via-else-is_some+then-is_some-2}

pub returns-then-is_some : goal.returns-then-is_some
unfolding outcome count_of order_for
returns-then-is_some c =
    let s = c in
    let S = held s.args.words.now s.args.count in
    let O = held s.args.other.now s.args.others in
    let f = c.find_id in
    let own = found-stands S (id_words s.args.entry.id) f.result f.ensures ∙ sym c.is_some.ensures in
    record {
      room = refl;
      outcome =
          elim c.then-is_some.branch [
            | then-is_some-via-then-is_some w ↦ rw (own ∙ w.if-is_some.true)
            | then-is_some-via-else-is_some+then-is_some-2 w ↦
                let g = w.find_id-else-is_some in
                rw (own ∙ w.if-is_some.false, found-stands O (id_words s.args.entry.id) g.result g.ensures ∙ sym w.is_some-else-is_some.ensures ∙ w.if-is_some-2.true)
          ];
      few = omega arith;
    }

pub insert-requires : goal.insert-requires
insert-requires c =
    let s = c in
    (s.requires.1, omega (arith, c.place_for-at.ensures.within, held-length s.args.words.now s.args.count s.requires.0.room))

pub returns : goal.returns
unfolding outcome count_of order_for
returns c =
    let s = c in
    let S = held s.args.words.now s.args.count in
    let O = held s.args.other.now s.args.others in
    let e = order_entry s.args.entry in
    let f = c.find_id in
    let g = c.find_id-else-is_some in
    let p = c.place_for-at in
    let w = c.insert.ensures in
    record {
      room = w.room;
      outcome =
          rw (found-stands S (id_words e.id) f.result f.ensures ∙ sym c.is_some.ensures ∙ c.if-is_some.false, found-stands O (id_words e.id) g.result g.ensures ∙ sym c.is_some-else-is_some.ensures ∙ c.if-is_some-2.false)
          (ap taken
          (w.orders
          ∙ ap (λ (y : Level). take p.result S ++ record { level = y; id = e.id } ∷ drop p.result S) c.level_of-level.ensures
          ∙ place-there s.args.side S (order_for e) (value e.price) p.result (ap value (entry-price e s.requires.3)) p.ensures));
      few = omega arith;
    }
