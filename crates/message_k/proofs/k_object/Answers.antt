-- `k_object` meets its contract: wherever the loop stands, what was told with what the members left will add is the answer, and the buffer has the
-- entries of those that were read.
-- Assumes nothing.
use Rattle.std.specs.Prelude.{Option, Some}
use mathlib.Core.Path.{◌≡◌, sym, ap, ◌∙◌, subst}
use mathlib.Core.List.{List}
use Prim.Native.Nat.{ℕ, ◌+◌}
use native.Mathlib.Omega.{arith}
use Rattle.text.specs.Text.{byte_at}
use Rattle.json_tokens.proofs.Laws.{end-at, in-byte}
use Rattle.json_tokens.proofs.Bounds.{bounds, end-broken, blanks-in, closing-in, separator-in, string-in}
use Rattle.json_tokens.specs.Ends.{end_of}
use Rattle.json_values.specs.Json.{Pair, wrong, member, members, value}
use Rattle.json_values.proofs.Bounds.{value_in}
use Rattle.json_values.proofs.Fold.{Stands, pair_at, no_name, no-colon, no_value, member-stands, fold-empty, fold_start, fold-wrong, fold-further, fold_on, fold-last, fold-broken}
use Rattle.entries.specs.Rows.{Entry}
use Rattle.entries.specs.Tally.{met, Tells, Kept}
use Rattle.entries.proofs.Entry.{end-or-zero}
use Rattle.message_k.specs.MembersK.{with_member, no_members}
use Rattle.message_k.specs.declared.Members.{Members}
use Rattle.message_k.proofs.Objects.{no-object, object-fold}
use Rattle.message_k.proofs.Holding.{over_told, over_held, held_all, going-as, holding-on, holding-last, object-none, object-broken, object-read}
use Rattle.message_k.proofs.k_object.Goals as goal
use Rattle.message_k.proofs.k_object.Goals.{Else-byte_at-ne-OPEN_OBJECT, After-k_member-more}

-- the brace stands there
module _ (c : Else-byte_at-ne-OPEN_OBJECT) where
  opens : byte_at c.args.s.now c.args.at ≡ 123
  opens = sym c.byte_at.ensures ∙ c.if-byte_at-ne-OPEN_OBJECT.false

-- the member where the loop stands was read
module _ (c : After-k_member-more) where
  abbrev text : List ℕ
  text = c.args.s.now

  abbrev i : ℕ
  i = c.loop-name_to.i

  abbrev name_to : ℕ
  name_to = c.in-Some-string_end.name_to

  abbrev from : ℕ
  from = c.in-Some-colon_end.from

  abbrev next : Members
  next = c.k_member-more.result

  abbrev here : Pair
  here = pair_at i name_to from next.end

  ends : next.end ≡ end_of (value 14 text from)
  ends = c.k_member-more.ensures.ends

  is-value : (next.end ≡ 0 → ⊥) → value 14 text from ≡ Some next.end
  is-value n = end-at (value 14 text from) next.end ends n

  none : next.end ≡ 0 → member (value 14 text) text i ≡ wrong
  none z =
      no_value 14 text i name_to (sym c.in-Some-string_end.ensures) from (sym c.in-Some-colon_end.ensures)
      (end-broken next.end (omega arith) (value_in 14 text from) ends z)

  stands : (next.end ≡ 0 → ⊥) → Stands (member (value 14 text) text) text i here next.end
  stands n = member-stands 14 text i name_to (sym c.in-Some-string_end.ensures) from (sym c.in-Some-colon_end.ensures) next.end (is-value n)

  steps : (next.end ≡ 0 → ⊥) → next ≡ with_member text c.loop-name_to.members here
  steps n = c.k_member-more.ensures.collected next.end (is-value n)

pub returns-then-byte_at-ne-OPEN_OBJECT : goal.returns-then-byte_at-ne-OPEN_OBJECT
returns-then-byte_at-ne-OPEN_OBJECT c =
    let b = c in
    let a = b.args in
    let s = a.s.now in
    let other : (byte_at s a.at ≡ 123 → ⊥) = λ z. c.if-byte_at-ne-OPEN_OBJECT.true (c.byte_at.ensures ∙ z) in
    let end = c.unwrap_or.ensures ∙ end-or-zero c.value_end.result ∙ ap end_of c.value_end.ensures in
    object-none s a.before a.at a.buffer.now c.no_members.result other b.requires.1 c.unwrap_or.result c.no_members.ensures
    (c.no_members.ensures ∙ ap no_members end ∙ no-object s a.before a.at other)

pub overflow_add-at : goal.overflow_add-at
overflow_add-at c =
    let a = c.args in
    let l = in-byte a.s.now a.at 123 (omega arith) (opens c) in omega arith

pub returns-in-Some : goal.returns-in-Some
unfolding members
returns-in-Some c =
    let b = c in
    let a = b.args in
    let s = a.s.now in
    let end = c.in-Some.end in
    let opened = opens (goal.at.returns-in-Some c).Else-byte_at-ne-OPEN_OBJECT in
    let past = sym c.in-Some.ensures in
    let inside = bounds end (closing-in s 125 (a.at + 1) (omega arith)) past in
    let e = c.closed.ensures in
    let n = ap (λ (x : Members). x.end) e in
    let m = ap (λ (x : Members). met x.tally) e in
    let few = b.requires.0 in
    object-read s a.before a.at a.buffer.now c.closed.result opened _ b.requires.1
    (e ∙ fold-empty (over_told s) a.before (a.at + 1) end past ∙ object-fold s a.before a.at opened)
    (omega arith)
    (λ x w k.
    let q : x ≡ held_all s x a.at = fold-empty (over_held s) x (a.at + 1) end past in
    (subst (λ (y : Option (List Entry)). Tells s y c.closed.result.tally) q (subst (Tells s x) (sym (ap (λ (z : Members). z.tally) e)) w), subst (λ (y : Option (List Entry)). Kept s y a.buffer.now) q k))

pub overflow_add-at-2 : goal.overflow_add-at-2
overflow_add-at-2 c =
    let a = c.args in
    let l = in-byte a.s.now a.at 123 (omega arith) (opens (goal.at.overflow_add-at-2 c).Else-byte_at-ne-OPEN_OBJECT) in omega arith

pub loop-name_to-init : goal.loop-name_to-init
unfolding members
loop-name_to-init c =
    let b = c in
    let a = b.args in
    let s = a.s.now in
    let none = sym c.object_close_end.ensures ∙ c.in_default.is in
    let opened = opens (goal.at.loop-name_to-init c).Else-byte_at-ne-OPEN_OBJECT in
    let behind = (blanks-in s (a.at + 1)).0 in
    let first = c.skip_blanks-i in
    let few = b.requires.0 in
    record {
      told = rw (object-fold s a.before a.at opened) at (fold_start (over_told s) a.before (a.at + 1) none first.result first.ensures);
      few = omega (arith, first.ensures);
      room = b.requires.1;
      holding = λ x w k. record { x = x; left = fold_start (over_held s) x (a.at + 1) none first.result first.ensures; tells = w; kept = k };
    }

pub k_member-more-requires : goal.k_member-more-requires
k_member-more-requires c =
    let s = c.args.s.now in
    let name = c.in-Some-string_end in
    let colon = c.in-Some-colon_end in
    let n = bounds name.name_to (string-in s c.loop-name_to.i) (sym name.ensures) in
    let m = bounds colon.from (separator-in s 58 name.name_to (omega arith)) (sym colon.ensures) in
    let few = c.loop-name_to.invariant.few in
    (omega arith, c.loop-name_to.invariant.room)

-- ---- what is no member

pub returns-in_default-string_end : goal.returns-in_default-string_end
returns-in_default-string_end c =
    let a = c.args in
    let s = a.s.now in
    let l = c.loop-name_to in
    let none = sym c.string_end.ensures ∙ c.in_default-string_end.is in
    object-broken s a.before a.at a.buffer.now c.no_members-in_default-string_end.result (opens (goal.at.returns-in_default-string_end c).Else-byte_at-ne-OPEN_OBJECT) _ l.invariant.room
    c.no_members-in_default-string_end.ensures (fold-wrong (over_told s) l.members l.invariant.told (no_name 14 s l.i none))

pub returns-in_default-colon_end : goal.returns-in_default-colon_end
returns-in_default-colon_end c =
    let a = c.args in
    let s = a.s.now in
    let l = c.loop-name_to in
    let none = sym c.colon_end.ensures ∙ c.in_default-colon_end.is in
    object-broken s a.before a.at a.buffer.now c.no_members-in_default-colon_end.result (opens (goal.at.returns-in_default-colon_end c).Else-byte_at-ne-OPEN_OBJECT) _ l.invariant.room
    c.no_members-in_default-colon_end.ensures (fold-wrong (over_told s) l.members l.invariant.told (no-colon 14 s l.i c.in-Some-string_end.name_to (sym c.in-Some-string_end.ensures) none))

pub returns-then-to-eq0 : goal.returns-then-to-eq0
returns-then-to-eq0 c =
    let a = c.args in
    let s = a.s.now in
    let l = c.loop-name_to in
    let m = (goal.at.returns-then-to-eq0 c).After-k_member-more in
    object-broken s a.before a.at a.buffer.now c.no_members-then-to-eq0.result (opens (goal.at.returns-then-to-eq0 c).Else-byte_at-ne-OPEN_OBJECT) _ c.k_member-more.ensures.added.room
    c.no_members-then-to-eq0.ensures (fold-wrong (over_told s) l.members l.invariant.told (none m c.if-to-eq0.true))

-- ---- a member, and no comma behind it

pub returns-in_default-object_close_end : goal.returns-in_default-object_close_end
returns-in_default-object_close_end c =
    let a = c.args in
    let s = a.s.now in
    let l = c.loop-name_to in
    let m = (goal.at.returns-in_default-object_close_end c).After-k_member-more in
    let comma = sym c.comma_end.ensures ∙ c.in_default-comma_end.is in
    let close = sym c.object_close_end-in_default-comma_end.ensures ∙ c.in_default-object_close_end.is in
    object-broken s a.before a.at a.buffer.now c.no_members-in_default-object_close_end.result (opens (goal.at.returns-in_default-object_close_end c).Else-byte_at-ne-OPEN_OBJECT) _ c.k_member-more.ensures.added.room
    c.no_members-in_default-object_close_end.ensures (fold-broken (over_told s) l.members l.invariant.told (stands m c.if-to-eq0.false) comma close)

pub returns-in_default-comma_end : goal.returns-in_default-comma_end
returns-in_default-comma_end c =
    let a = c.args in
    let s = a.s.now in
    let l = c.loop-name_to in
    let m = (goal.at.returns-in_default-comma_end c).After-k_member-more in
    let some = c.if-to-eq0.false in
    let comma = sym c.comma_end.ensures ∙ c.in_default-comma_end.is in
    let end = c.in-Some-object_close_end.end in
    let close = sym c.in-Some-object_close_end.ensures in
    let e = c.closed-in_default-comma_end.ensures in
    let n = ap (λ (x : Members). x.end) e in
    let t = ap (λ (x : Members). met x.tally) e in
    let few = c.k_member-more.ensures.few some in
    let past = bounds end (closing-in s 125 (next m).end (omega arith)) close in
    object-read s a.before a.at a.buffer.now c.closed-in_default-comma_end.result (opens (goal.at.returns-in_default-comma_end c).Else-byte_at-ne-OPEN_OBJECT) _ c.k_member-more.ensures.added.room
    (e ∙ fold-last (over_told s) l.members l.invariant.told (stands m some) comma end close (steps m some))
    (omega arith)
    (λ x w k.
    let q = holding-last c.k_member-more.ensures (is-value m some) (l.invariant.holding x w k) (stands m some) comma end close in
    (subst (Tells s (held_all s x a.at)) (sym (ap (λ (z : Members). z.tally) e)) q.0, q.1))

-- ---- a comma

pub loop-name_to-smaller : goal.loop-name_to-smaller
loop-name_to-smaller c =
    let s = c.args.s.now in
    let l = c.loop-name_to in
    let m = (goal.at.loop-name_to-smaller c).After-k_member-more in
    let f = fold-further (over_told s) l.members l.invariant.told (stands m c.if-to-eq0.false) c.in-Some-comma_end.next (sym c.in-Some-comma_end.ensures) in
    omega arith

pub loop-name_to-preserved : goal.loop-name_to-preserved
loop-name_to-preserved c =
    let s = c.args.s.now in
    let l = c.loop-name_to in
    let m = (goal.at.loop-name_to-preserved c).After-k_member-more in
    let some = c.if-to-eq0.false in
    let j = c.in-Some-comma_end.next in
    let comma = sym c.in-Some-comma_end.ensures in
    let f = fold-further (over_told s) l.members l.invariant.told (stands m some) j comma in
    let few = c.k_member-more.ensures.few some in
    going-as c.by_fields-members.ensures
    (record {
      told = fold_on (over_told s) l.members l.invariant.told (stands m some) j comma (steps m some);
      few = omega arith;
      room = c.k_member-more.ensures.added.room;
      holding = λ x w k. holding-on c.k_member-more.ensures (is-value m some) (l.invariant.holding x w k) (stands m some) j comma;
    })
