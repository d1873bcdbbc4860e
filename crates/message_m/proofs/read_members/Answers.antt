-- `message_m::read_members` meets its contract: wherever the loop stands, the members that were met with those left make the answer, and the buffer has the
-- entries of those that were met.
-- Assumes nothing.
use Rattle.std.specs.Prelude.{Some}
use Prim.Native.Nat.{ℕ, ◌+◌, ◌≤◌}
use native.Mathlib.Omega.{arith}
use Rattle.json_tokens.proofs.Laws.{end-at, in-byte}
use Rattle.json_tokens.proofs.Bounds.{bounds, end-broken, separator-in, string-in}
use mathlib.Core.Path.{◌≡◌, ◌∙◌, refl, sym, subst}
use mathlib.Core.List.{List, []}
use Rattle.json_tokens.specs.Tokens.{separator, string}
use Rattle.json_tokens.specs.Ends.{end_of}
use Rattle.json_values.specs.Json.{Pair, wrong, member, members, value}
use Rattle.json_values.proofs.Bounds.{value_in}
use Rattle.json_values.proofs.Fold.{Stands, pair_at, no_name, no-colon, no_value, member-places, member-stands, fold_start, fold-wrong, fold-further, fold_on, fold-last, fold-broken}
use Rattle.entries.proofs.Tallies.{tells_none, kept-none}
use Rattle.layout.proofs.Objects.{value-ends, next-is}
use Rattle.layout.specs.Scan.{not_framed}
use Rattle.message_m.specs.Collected.{more_members, Added}
use Rattle.message_m.specs.declared.Members.{Members}
use Rattle.message_m.proofs.Holding.{over_held, holding-on, holding-last}
use Rattle.message_m.proofs.Whole.{message_loop, members-end, Marked, marked_more, unmarked-placed, told-start}
use Rattle.message_m.proofs.Keeping.{body_step, message-broken, message-read}
use Rattle.message_m.proofs.read_members.Goals as goal
use Rattle.message_m.proofs.read_members.Goals.{After-more_members-next}

-- a member was read
module _ (c : After-more_members-next) where
  abbrev text : List ℕ
  text = c.args.s.now

  abbrev product : List ℕ
  product = c.args.name.now

  abbrev met : Members
  met = c.loop-name_to.met

  abbrev next : Members
  next = c.more_members-next.result

  abbrev first : ℕ
  first = c.loop-name_to.i

  abbrev past : ℕ
  past = c.in_ok-name_to.name_to

  abbrev from : ℕ
  from = c.in_ok-from.from

  name : string text first ≡ Some past
  name = sym c.in_ok-name_to.ensures

  colon : separator 58 text past ≡ Some from
  colon = sym c.in_ok-from.ensures

  abbrev here : Pair
  here = pair_at first past from next.body.end

  ends : next.body.end ≡ end_of (value 15 text from)
  ends = value-ends (more_members product text) (λ (x : Members). x.body.end) (members-end product text) 15 text met first past from next c.more_members-next.ensures.told

  none : next.body.end ≡ 0 → member (value 15 text) text first ≡ wrong
  none z = no_value 15 text first past name from colon (end-broken next.body.end (omega arith) (value_in 15 text from) ends z)

  stands : (next.body.end ≡ 0 → ⊥) → Stands (member (value 15 text) text) text first here next.body.end
  stands n = member-stands 15 text first past name from colon next.body.end (end-at (value 15 text from) next.body.end ends n)

  steps : next ≡ more_members product text met here
  steps = next-is (more_members product text) (λ (x : Members). x.body.end) (members-end product text) 15 text met first past from next c.more_members-next.ensures.told

  added : Added text here.value met.body.last.tally next.body.last.tally (λ x. body_step text x here) c.loop-name_to.buffer c.more_members-next.new.buffer
  added =
      subst (λ (n : ℕ). Added text (record { from = from; to = n }) met.body.last.tally next.body.last.tally
      (λ x. body_step text x (pair_at first past from n)) c.loop-name_to.buffer c.more_members-next.new.buffer)
      (sym ends) c.more_members-next.ensures.added

  -- the marks of the two numbers are places of the text
  places : (next.body.end ≡ 0 → ⊥) → Marked text next
  places n =
      let b = member-places 15 text first past name from colon next.body.end (end-at (value 15 text from) next.body.end ends n) in
      let l : from ≤ next.body.end = let x = b.2 in omega arith in
      marked_more product text met here.name 15 from next.body.end next c.more_members-next.ensures.told refl l b.3 c.loop-name_to.invariant.marked

pub more_members-next-requires : goal.more_members-next-requires
more_members-next-requires c =
    let s = c.args.s.now in
    let name = c.in_ok-name_to in
    let colon = c.in_ok-from in
    let n = bounds name.name_to (string-in s c.loop-name_to.i) (sym name.ensures) in
    let m = bounds colon.from (separator-in s 58 name.name_to (omega arith)) (sym colon.ensures) in
    let few = c.loop-name_to.invariant.few in
    (omega arith, c.loop-name_to.invariant.holding.kept.room)

pub loop-name_to-smaller : goal.loop-name_to-smaller
loop-name_to-smaller c =
    let a = c.args in
    let l = c.loop-name_to in
    let m = (goal.at.loop-name_to-smaller c).After-more_members-next in
    let f = fold-further (message_loop a.linked a.name.now a.s.now) l.met l.invariant.told (stands m c.if-to-eq0.false) c.in-Some.past_comma (sym c.in-Some.ensures) in
    omega arith

pub loop-name_to-preserved : goal.loop-name_to-preserved
loop-name_to-preserved c =
    let a = c.args in
    let s = a.s.now in
    let l = c.loop-name_to in
    let m = (goal.at.loop-name_to-preserved c).After-more_members-next in
    let some = c.if-to-eq0.false in
    let i = c.in-Some.past_comma in
    let comma = sym c.in-Some.ensures in
    let f = fold-further (message_loop a.linked a.name.now s) l.met l.invariant.told (stands m some) i comma in
    let few = (added m).few some in
    record {
      told = fold_on (message_loop a.linked a.name.now s) l.met l.invariant.told (stands m some) i comma (steps m);
      marked = places m some;
      few = omega arith;
      holding = holding-on 15 s (body_step s) (added m) some (stands m some) l.invariant.holding i comma;
    }

pub overflow_add-at : goal.overflow_add-at
overflow_add-at c = let l = in-byte c.args.s.now c.args.at 123 (omega arith) c.requires.0 in omega arith

pub loop-name_to-init : goal.loop-name_to-init
unfolding members
loop-name_to-init c =
    let b = c in
    let a = b.args in
    let s = a.s.now in
    let skip = c.skip_blanks-i in
    rw c.no_members-met.ensures
    (record {
      told = told-start a.linked a.name.now s a.at b.requires.0 b.requires.1 skip.result skip.ensures;
      marked = unmarked-placed s;
      few = omega arith;
      holding = record {
        x = Some [];
        left = fold_start (over_held 15 s (body_step s)) (Some []) (a.at + 1) b.requires.1 skip.result skip.ensures;
        tells = tells_none s;
        kept = kept-none s a.buffer.now b.requires.2;
      };
    })

pub returns-in_err-name_to : goal.returns-in_err-name_to
returns-in_err-name_to c =
    let a = c.args in
    let s = a.s.now in
    let l = c.loop-name_to in
    rw c.from_residual.ensures
    (message-broken a.linked a.name.now s a.at _ (not_framed 0)
    (fold-wrong (message_loop a.linked a.name.now s) l.met l.invariant.told (no_name 15 s l.i (sym c.in_err-name_to.ensures))) refl)

pub returns-in_err-from : goal.returns-in_err-from
returns-in_err-from c =
    let a = c.args in
    let s = a.s.now in
    let l = c.loop-name_to in
    rw c.from_residual-in_err-from.ensures
    (message-broken a.linked a.name.now s a.at _ (not_framed 0)
    (fold-wrong (message_loop a.linked a.name.now s) l.met l.invariant.told (no-colon 15 s l.i c.in_ok-name_to.name_to (sym c.in_ok-name_to.ensures) (sym c.in_err-from.ensures))) refl)

pub returns-then-to-eq0 : goal.returns-then-to-eq0
returns-then-to-eq0 c =
    let a = c.args in
    let s = a.s.now in
    let l = c.loop-name_to in
    let m = (goal.at.returns-then-to-eq0 c).After-more_members-next in
    message-broken a.linked a.name.now s a.at _ (not_framed 0)
    (fold-wrong (message_loop a.linked a.name.now s) l.met l.invariant.told (none m c.if-to-eq0.true)) refl

pub returns-in_err-end : goal.returns-in_err-end
returns-in_err-end c =
    let a = c.args in
    let s = a.s.now in
    let l = c.loop-name_to in
    let m = (goal.at.returns-in_err-end c).After-more_members-next in
    rw c.from_residual-in_err-end.ensures
    (message-broken a.linked a.name.now s a.at _ (not_framed 0)
    (fold-broken (message_loop a.linked a.name.now s) l.met l.invariant.told (stands m c.if-to-eq0.false) (sym c.in_default.ensures) (sym c.in_err-end.ensures)) refl)

pub scan-requires : goal.scan-requires
scan-requires c = places (goal.at.scan-requires c).After-more_members-next c.if-to-eq0.false

pub returns-in_default : goal.returns-in_default
returns-in_default c =
    let a = c.args in
    let s = a.s.now in
    let l = c.loop-name_to in
    let m = (goal.at.returns-in_default c).After-more_members-next in
    let some = c.if-to-eq0.false in
    let comma = sym c.in_default.ensures in
    let end = c.in_ok-end.end in
    let close = sym c.in_ok-end.ensures in
    message-read a.linked a.name.now s a.at _ c.scan.result
    (c.scan.ensures ∙ fold-last (message_loop a.linked a.name.now s) l.met l.invariant.told (stands m some) comma end close (steps m))
    c.requires.0
    (holding-last 15 s (body_step s) (added m) some (stands m some) l.invariant.holding comma end close).1
