-- `apply` meets its contract: the loop over the entries keeps `Turn`, that what is left of the message on the working side gives the same as the
-- whole message on the side that was kept.
use mathlib.Core.Path.{refl, sym, ap, ◌∙◌}
use mathlib.Core.List.{List}
use Prim.Native.Nat.{◌≤◌}
use native.Mathlib.Nat.{min-le_right}
use native.Mathlib.Omega.{arith}
use lib.ListN.{length, take}
use Rattle.edit.specs.Edit.{named}
use Rattle.edit.specs.Buffer.{entries_in, numbers_of}
use Rattle.edit.proofs.Sides.{same-is}
use Rattle.level.specs.declared.Level.{Level}
use Rattle.level.specs.Side.{apply_all}
use Rattle.level.specs.Ranked.{after_message, Sorted, replaced}
use Rattle.level.specs.Moved.{moved}
use Rattle.level.specs.Words.{level_price, edit}
use Rattle.level.specs.Kept.{held}
use Rattle.level.proofs.All.{all_take}
use Rattle.level.proofs.Ranking.{sorted-take}
use Rattle.side.specs.Applying.{changes_for}
use Rattle.side.proofs.Entries.{Sound, given-length, does-named, turn-start, turn-levels, turn-count, turn_moved, turn-met, cut-to}
use Rattle.side.proofs.Turns.{entry-within, other-turn, own-room, own-turn, few-moved}
use Rattle.side.proofs.apply.Goals as goal
use Rattle.side.proofs.apply.Goals.{then-eq+then-replaced, then-eq+else-replaced, else-eq}

pub loop-k-init : goal.loop-k-init
loop-k-init c =
    let a = c.args in
    let o = c.load.ensures in
    turn-start a.text a.side (take a.entries (entries_in a.buffer.now)) (take a.kept c.load.new.levels) a.kept c.requires.0.few c.requires.1.own
    c.load.new.levels c.load.array_long refl (rw o c.requires.0.sorted) (rw o c.requires.0.within)

pub change_for-change-requires : goal.change_for-change-requires
change_for-change-requires c =
    let a = c.args in
    (entry-within a.side a.buffer.now a.entries c.requires.1 c.loop-k.k c.loop-k-test.true (numbers_of c.entry_in-numbers.result) c.entry_in-numbers.ensures, c.requires.3)

pub apply_change-step-requires : goal.apply_change-step-requires
apply_change-step-requires c =
    let a = c.args in
    let p = c.loop-k in
    let t = p.invariant in
    let e = numbers_of c.entry_in-numbers.result in
    let own = sym (same-is c.entry_in-numbers.result.side a.side) ∙ sym c.eq.ensures ∙ c.if-eq.true in
    let w = entry-within a.side a.buffer.now a.entries c.requires.1 p.k c.loop-k-test.true e c.entry_in-numbers.ensures in (
      record { room = t.long; few = t.fits; sorted = t.sorted; within = t.sound },
      own-room a.side a.buffer.now a.entries c.requires.1 p.k c.loop-k-test.true e c.entry_in-numbers.ensures
          a.text (take a.kept c.load.new.levels) a.kept c.requires.0.few p.levels p.count p.moved p.replaced t own,
      w.0,
      sym (ap (named level_price) c.change_for-change.ensures ∙ does-named a.text e w),
    )

pub overflow_add-moved : goal.overflow_add-moved
overflow_add-moved c =
    let a = c.args in
    let p = c.loop-k in
    let own = sym (same-is c.entry_in-numbers.result.side a.side) ∙ sym c.eq.ensures ∙ c.if-eq.true in
    omega (
      arith,
      few-moved a.side a.buffer.now a.entries c.requires.1 p.k c.loop-k-test.true (numbers_of c.entry_in-numbers.result) c.entry_in-numbers.ensures
          a.text (take a.kept c.load.new.levels) a.kept c.requires.0.few p.levels p.count p.moved p.replaced p.invariant own
          (edit c.change_for-change.result) c.apply_change-step.new.levels c.apply_change-step.result c.apply_change-step.ensures,
    )

pub loop-k-preserved : goal.loop-k-preserved
loop-k-preserved c =
    let a = c.args in
    let p = c.loop-k in
    let e = numbers_of c.entry_in-numbers.result in
    let same = sym (same-is c.entry_in-numbers.result.side a.side) ∙ sym c.eq.ensures in
    let s = take a.kept c.load.new.levels in
    elim c.if-eq.branch [
      | then-eq+then-replaced w ↦
          let t = own-turn a.side a.buffer.now a.entries c.requires.1 p.k c.loop-k-test.true e c.entry_in-numbers.ensures
          a.text s a.kept c.requires.0.few p.levels p.count p.moved p.replaced p.invariant (same ∙ w.if-eq.true)
          (edit w.change_for-change.result) w.change_for-change.ensures w.apply_change-step.new.levels w.apply_change-step.result w.apply_change-step.ensures in
          rw (w.levels-is, w.count-is, w.moved-is, w.replaced-is, w.if-replaced.true) (rw w.if-replaced.true at t)
      | then-eq+else-replaced w ↦
          let t = own-turn a.side a.buffer.now a.entries c.requires.1 p.k c.loop-k-test.true e c.entry_in-numbers.ensures
          a.text s a.kept c.requires.0.few p.levels p.count p.moved p.replaced p.invariant (same ∙ w.if-eq.true)
          (edit w.change_for-change.result) w.change_for-change.ensures w.apply_change-step.new.levels w.apply_change-step.result w.apply_change-step.ensures in
          rw (w.levels-is, w.count-is, w.moved-is, w.replaced-is) (rw w.if-replaced.false at t)
      | else-eq w ↦
          rw (w.levels-is, w.count-is, w.moved-is, w.replaced-is)
          (other-turn a.side a.buffer.now a.entries c.requires.1 p.k c.loop-k-test.true e c.entry_in-numbers.ensures
          a.text s a.kept c.requires.0.few p.levels p.count p.moved p.replaced p.invariant (same ∙ w.if-eq.false))
    ]

pub returns : goal.returns
unfolding held
returns c =
    let a = c.args in
    let p = c.loop-k in
    let t = p.invariant in
    let left = c.min-left.result in
    let es = take a.entries (entries_in a.buffer.now) in
    let all = changes_for a.text a.side es in
    let kept = take a.kept c.load.new.levels in
    let o = c.load.ensures in
    let l : p.count ≤ length p.levels = omega (arith, t.long, t.fits) in
    let eq = c.store.ensures.levels ∙ cut-to p.levels p.count a.depth left l c.min-left.ensures in
    let past : length es ≤ p.k = omega (arith, given-length c.requires.1, c.loop-k-test.false) in
    let sorted : Sorted level_price a.side kept = rw o c.requires.0.sorted in
    record {
      good = record {
        few = omega (arith, c.min-left.ensures, min-le_right, c.requires.2);
        room = c.store.ensures.room;
        sorted = rw eq (sorted-take level_price a.side a.depth (take p.count p.levels) t.sorted);
        within = rw eq (all_take Sound a.depth (take p.count p.levels) t.sound);
      };
      levels =
          eq ∙ turn-levels a.text a.side es kept a.kept p.levels p.count p.moved p.k p.replaced t past sorted a.depth
          ∙ ap (after_message level_price a.side a.depth all) o;
      count =
          turn-count a.text a.side es kept a.kept p.levels p.count p.moved p.k p.replaced t past sorted l
          ∙ ap (λ (x : List Level). length (apply_all level_price all x)) o;
      moved = turn_moved a.text a.side es kept a.kept p.levels p.count p.moved p.k p.replaced t past sorted ∙ ap (moved level_price a.side all) o;
      replaced = turn-met a.text a.side es kept a.kept p.levels p.count p.moved p.k p.replaced t past sorted ∙ ap (replaced level_price all) o;
      past = c.store.ensures.past;
    }
