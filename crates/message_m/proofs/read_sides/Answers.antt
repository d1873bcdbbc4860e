-- `message_m::read_sides` meets its contract: wherever the loop stands, the sides that were met with those of the members left are the answer, and the buffer has
-- the entries of those that were read.
-- Assumes nothing.
use Rattle.std.specs.Prelude.{Some}
use Prim.Native.Nat.{ℕ, ◌+◌}
use native.Mathlib.Omega.{arith}
use Rattle.json_tokens.proofs.Laws.{end-at, in-byte}
use Rattle.json_tokens.proofs.Bounds.{bounds, end-broken, blanks-in, closing-in, separator-in, string-in}
use mathlib.Core.Path.{◌≡◌, refl, sym, subst}
use mathlib.Core.List.{List}
use Rattle.json_tokens.specs.Tokens.{separator, string}
use Rattle.json_tokens.specs.Ends.{end_of}
use Rattle.json_values.specs.Json.{Pair, wrong, member, members, value}
use Rattle.json_values.proofs.Bounds.{value_in}
use Rattle.json_values.proofs.Fold.{Stands, pair_at, no_name, no-colon, no_value, member-stands, fold_start, fold-wrong, fold-further, fold_on, fold-last, fold-broken}
use Rattle.layout.proofs.Objects.{value-ends, next-is}
use Rattle.message_m.specs.Collected.{with_held, no_data, data_end, more_data, Added}
use Rattle.message_m.specs.declared.Data.{Data}
use Rattle.message_m.proofs.Holding.{over_held, holding-on, holding-last}
use Rattle.message_m.proofs.Whole.{data_loop, data-ends, data-start}
use Rattle.message_m.proofs.Keeping.{data-broken, data-read}
use Rattle.message_m.proofs.read_sides.Goals as goal
use Rattle.message_m.proofs.read_sides.Goals.{After-more_data-next}

-- a member was read
module _ (c : After-more_data-next) where
  abbrev text : List ℕ
  text = c.args.s.now

  abbrev met : Data
  met = c.loop-name_to.met

  abbrev next : Data
  next = c.more_data-next.result

  abbrev first : ℕ
  first = c.loop-name_to.i

  abbrev past : ℕ
  past = c.in_ok-name_to.name_to

  abbrev from : ℕ
  from = c.in_ok-from.from

  name : string text first ≡ Some past
  name = sym c.in_ok-name_to.ensures

  colon : separator 58 text past ≡ Some from
  colon = sym c.in_ok-from.ensures

  abbrev here : Pair
  here = pair_at first past from next.end

  ends : next.end ≡ end_of (value 14 text from)
  ends = value-ends (more_data text) (λ (d : Data). d.end) (data-ends text) 14 text met first past from next c.more_data-next.ensures.told

  none : next.end ≡ 0 → member (value 14 text) text first ≡ wrong
  none z = no_value 14 text first past name from colon (end-broken next.end (omega arith) (value_in 14 text from) ends z)

  stands : (next.end ≡ 0 → ⊥) → Stands (member (value 14 text) text) text first here next.end
  stands n = member-stands 14 text first past name from colon next.end (end-at (value 14 text from) next.end ends n)

  steps : next ≡ more_data text met here
  steps = next-is (more_data text) (λ (d : Data). d.end) (data-ends text) 14 text met first past from next c.more_data-next.ensures.told

  added : Added text here.value met.tally next.tally (λ x. with_held text x here) c.loop-name_to.buffer c.more_data-next.new.buffer
  added =
      subst (λ (n : ℕ). Added text (record { from = from; to = n }) met.tally next.tally
      (λ x. with_held text x (pair_at first past from n)) c.loop-name_to.buffer c.more_data-next.new.buffer)
      (sym ends) c.more_data-next.ensures.added

pub more_data-next-requires : goal.more_data-next-requires
more_data-next-requires c =
    let s = c.args.s.now in
    let name = c.in_ok-name_to in
    let colon = c.in_ok-from in
    let n = bounds name.name_to (string-in s c.loop-name_to.i) (sym name.ensures) in
    let m = bounds colon.from (separator-in s 58 name.name_to (omega arith)) (sym colon.ensures) in
    let few = c.loop-name_to.invariant.few in
    (omega arith, c.loop-name_to.invariant.room)

pub loop-name_to-smaller : goal.loop-name_to-smaller
loop-name_to-smaller c =
    let l = c.loop-name_to in
    let m = (goal.at.loop-name_to-smaller c).After-more_data-next in
    let f = fold-further (data_loop c.args.s.now c.args.before) l.met l.invariant.told (stands m c.if-to-eq0.false) c.in-Some.past_comma (sym c.in-Some.ensures) in
    omega arith

pub loop-name_to-preserved : goal.loop-name_to-preserved
loop-name_to-preserved c =
    let s = c.args.s.now in
    let l = c.loop-name_to in
    let m = (goal.at.loop-name_to-preserved c).After-more_data-next in
    let some = c.if-to-eq0.false in
    let i = c.in-Some.past_comma in
    let comma = sym c.in-Some.ensures in
    let f = fold-further (data_loop s c.args.before) l.met l.invariant.told (stands m some) i comma in
    let few = (added m).few some in
    record {
      told = fold_on (data_loop s c.args.before) l.met l.invariant.told (stands m some) i comma (steps m);
      few = omega arith;
      room = c.more_data-next.ensures.added.room;
      holding = λ x w k. holding-on 14 s (with_held s) (added m) some (stands m some) (l.invariant.holding x w k) i comma;
    }

pub overflow_add-at : goal.overflow_add-at
overflow_add-at c = let l = in-byte c.args.s.now c.args.at 123 (omega arith) c.requires.1 in omega arith

pub loop-name_to-init : goal.loop-name_to-init
unfolding members
loop-name_to-init c =
    let b = c in
    let a = b.args in
    let s = a.s.now in
    let skip = c.skip_blanks-i in
    let behind = (blanks-in s (a.at + 1)).0 in
    let first = skip.ensures in
    let few = b.requires.0 in
    rw c.no_data-met.ensures
    (record {
      told = data-start s a.before a.at b.requires.1 b.requires.2 skip.result skip.ensures;
      few = omega arith;
      room = b.requires.3;
      holding = λ x w k. record { x = x; left = fold_start (over_held 14 s (with_held s)) x (a.at + 1) b.requires.2 skip.result skip.ensures; tells = w; kept = k };
    })

pub returns-in_err-name_to : goal.returns-in_err-name_to
returns-in_err-name_to c =
    let a = c.args in
    let s = a.s.now in
    let l = c.loop-name_to in
    rw c.from_residual.ensures
    (data-broken s a.before a.at a.buffer.now (no_data 0 a.before) _ l.invariant.room refl
    (fold-wrong (data_loop s a.before) l.met l.invariant.told (no_name 14 s l.i (sym c.in_err-name_to.ensures))))

pub returns-in_err-from : goal.returns-in_err-from
returns-in_err-from c =
    let a = c.args in
    let s = a.s.now in
    let l = c.loop-name_to in
    rw c.from_residual-in_err-from.ensures
    (data-broken s a.before a.at a.buffer.now (no_data 0 a.before) _ l.invariant.room refl
    (fold-wrong (data_loop s a.before) l.met l.invariant.told (no-colon 14 s l.i c.in_ok-name_to.name_to (sym c.in_ok-name_to.ensures) (sym c.in_err-from.ensures))))

pub returns-then-to-eq0 : goal.returns-then-to-eq0
returns-then-to-eq0 c =
    let a = c.args in
    let s = a.s.now in
    let l = c.loop-name_to in
    let m = (goal.at.returns-then-to-eq0 c).After-more_data-next in
    data-broken s a.before a.at a.buffer.now (no_data 0 a.before) _ c.more_data-next.ensures.added.room refl
    (fold-wrong (data_loop s a.before) l.met l.invariant.told (none m c.if-to-eq0.true))

pub returns-in_err-end : goal.returns-in_err-end
returns-in_err-end c =
    let a = c.args in
    let s = a.s.now in
    let l = c.loop-name_to in
    let m = (goal.at.returns-in_err-end c).After-more_data-next in
    rw c.from_residual-in_err-end.ensures
    (data-broken s a.before a.at a.buffer.now (no_data 0 a.before) _ c.more_data-next.ensures.added.room refl
    (fold-broken (data_loop s a.before) l.met l.invariant.told (stands m c.if-to-eq0.false) (sym c.in_default.ensures) (sym c.in_err-end.ensures)))

pub returns-in_default : goal.returns-in_default
returns-in_default c =
    let a = c.args in
    let s = a.s.now in
    let l = c.loop-name_to in
    let m = (goal.at.returns-in_default c).After-more_data-next in
    let some = c.if-to-eq0.false in
    let comma = sym c.in_default.ensures in
    let end = c.in_ok-end.end in
    let close = sym c.in_ok-end.ensures in
    let r : Data = data_end end (next m) in
    let few = (added m).few some in
    let past = bounds end (closing-in s 125 (next m).end (omega arith)) close in
    data-read s a.before a.at a.buffer.now r _ c.more_data-next.ensures.added.room c.requires.1
    (fold-last (data_loop s a.before) l.met l.invariant.told (stands m some) comma end close (steps m))
    (omega arith)
    (λ x w k. holding-last 14 s (with_held s) (added m) some (stands m some) (l.invariant.holding x w k) comma end close)
