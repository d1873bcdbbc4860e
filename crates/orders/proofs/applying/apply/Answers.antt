-- `apply` meets its contract: the loop keeps `Turn`, that what is left of the entries gives the same as all of them did at the start.
use Prim.Native.Nat.{◌<◌}
use mathlib.Core.Path.{refl, sym, ap, ◌∙◌, subst}
use native.Mathlib.Omega.{arith}
use lib.ListN.{length, take}
use Rattle.edit.specs.Edit.{is_same}
use Rattle.edit.proofs.Sides.{same-is}
use Rattle.order_edit.specs.Buffer.{OrderEntry, entry_side, entries_in}
use Rattle.orders.specs.Words.{held, EntrySound}
use Rattle.orders.specs.Kept.{outcome, count_of}
use Rattle.orders.proofs.Entries.{entries-length, entry_at, sound-next, turn-skip, turn-room, turn_step, turn-clash, turn_end, none-good}
use Rattle.orders.proofs.applying.apply.Goals as goal
use Rattle.orders.proofs.applying.apply.Goals.{then-eq+in_ok-count, else-eq}

pub loop-k-init : goal.loop-k-init
loop-k-init c = record { room = refl; within = omega arith; few = omega arith; good = c.requires.0; sound = c.requires.1.sound; rest = refl }

pub enter-requires : goal.enter-requires
enter-requires c =
    let a = c.args in
    let p = c.loop-k in
    let es = take a.entries (entries_in a.buffer.now) in
    let l = entries-length a.buffer.now a.entries c.requires.1.wide c.requires.1.few in
    let t = c.loop-k-test.true in
    let h : p.k < length es = omega (arith, l, t) in
    let this = entry_at a.buffer.now a.entries c.requires.1.wide c.requires.1.few p.k t ∙ sym c.entry_in-entry.ensures in
    let d = ap (λ (e : OrderEntry). is_same (entry_side e) a.side) this ∙ sym (same-is c.entry_in-entry.result.side a.side) ∙ sym c.eq.ensures ∙ c.if-eq.true in
    (p.invariant.good, turn-room a.listed a.side (held a.other.now a.others) es (held a.words.now a.kept) a.kept (length a.words.now) c.requires.1.room p.words p.count p.k p.invariant h d, c.requires.1.other_room, subst EntrySound this (sound-next a.listed a.side (held a.other.now a.others) es (held a.words.now a.kept) a.kept (length a.words.now) c.requires.1.room p.words p.count p.k p.invariant h), c.requires.2)

pub returns-in_err-count : goal.returns-in_err-count
unfolding outcome count_of
returns-in_err-count c =
    let a = c.args in
    let p = c.loop-k in
    let es = take a.entries (entries_in a.buffer.now) in
    let l = entries-length a.buffer.now a.entries c.requires.1.wide c.requires.1.few in
    let t = c.loop-k-test.true in
    let h : p.k < length es = omega (arith, l, t) in
    let this = entry_at a.buffer.now a.entries c.requires.1.wide c.requires.1.few p.k t ∙ sym c.entry_in-entry.ensures in
    let d = ap (λ (e : OrderEntry). is_same (entry_side e) a.side) this ∙ sym (same-is c.entry_in-entry.result.side a.side) ∙ sym c.eq.ensures ∙ c.if-eq.true in
    rw c.from_residual.ensures
    (record {
      room = c.enter.ensures.room ∙ p.invariant.room;
      outcome = turn-clash a.listed a.side (held a.other.now a.others) es (held a.words.now a.kept) a.kept (length a.words.now) c.requires.1.room p.words p.count p.k p.invariant h d _ (rw (c.in_err-count.was, sym this) at c.enter.ensures);
      good = none-good a.side _;
    })

pub loop-k-preserved : goal.loop-k-preserved
loop-k-preserved c =
    let a = c.args in
    let p = c.loop-k in
    let es = take a.entries (entries_in a.buffer.now) in
    let l = entries-length a.buffer.now a.entries c.requires.1.wide c.requires.1.few in
    let t = c.loop-k-test.true in
    let h : p.k < length es = omega (arith, l, t) in
    let this = entry_at a.buffer.now a.entries c.requires.1.wide c.requires.1.few p.k t ∙ sym c.entry_in-entry.ensures in
    let own = ap (λ (e : OrderEntry). is_same (entry_side e) a.side) this ∙ sym (same-is c.entry_in-entry.result.side a.side) ∙ sym c.eq.ensures in
    elim c.if-eq.branch [
      | then-eq+in_ok-count w ↦
          rw (w.words-is, w.count-is)
          (turn_step a.listed a.side (held a.other.now a.others) es (held a.words.now a.kept) a.kept (length a.words.now) c.requires.1.room p.words p.count p.k p.invariant h (own ∙ w.if-eq.true) _ _ (rw (w.in_ok-count.was, sym this) at w.enter.ensures))
      | else-eq w ↦
          rw (w.words-is, w.count-is)
          (turn-skip a.listed a.side (held a.other.now a.others) es (held a.words.now a.kept) a.kept (length a.words.now) c.requires.1.room p.words p.count p.k p.invariant h (own ∙ w.if-eq.false))
    ]

pub returns : goal.returns
unfolding outcome count_of
returns c =
    let a = c.args in
    let p = c.loop-k in
    let es = take a.entries (entries_in a.buffer.now) in
    let l = entries-length a.buffer.now a.entries c.requires.1.wide c.requires.1.few in
    record {
      room = p.invariant.room;
      outcome = turn_end a.listed a.side (held a.other.now a.others) es (held a.words.now a.kept) a.kept (length a.words.now) c.requires.1.room p.words p.count p.k p.invariant (omega (arith, l, c.loop-k-test.false));
      good = p.invariant.good;
    }
