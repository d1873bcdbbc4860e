-- `message_l::l_object` meets its contract: wherever the loop stands, what was met with the members left is the answer, and the buffer has the orders of those that
-- were read.
-- Assumes nothing.
use Rattle.std.specs.Prelude.{Option, Some}
use Prim.Native.Nat.{ℕ, ◌+◌}
use lib.ListN.{length}
use native.Mathlib.Omega.{arith}
use Rattle.text.specs.Text.{byte_at}
use Rattle.json_tokens.proofs.Laws.{in-byte}
use Rattle.json_tokens.proofs.Bounds.{bounds, end-broken, separator-in, string-in}
use mathlib.Core.Path.{◌≡◌, ◌∙◌, sym, ap, subst}
use mathlib.Core.List.{List, []}
use Rattle.json_tokens.specs.Ends.{end_of}
use Rattle.json_tokens.proofs.Laws.{end-at}
use Rattle.json_values.specs.Json.{Pair, wrong, member, members, value}
use Rattle.json_values.proofs.Bounds.{value_in}
use Rattle.json_values.proofs.Fold.{Stands, pair_at, no_name, no-colon, no_value, member-stands, fold-empty, fold_start, fold-wrong, fold-further, fold_on, fold-last, fold-broken}
use Rattle.entries.proofs.Entry.{end-or-zero}
use Rattle.layout.proofs.Objects.{value-ends, next-is}
use Rattle.order_arrays.specs.Tally.{none_yet}
use Rattle.order_arrays.specs.declared.OrderTally.{OrderTally}
use Rattle.message_l.specs.Orders.{SidedOrder}
use Rattle.message_l.specs.Collected.{no_listing, more_listing, listing_at, Holds, Added, ObjectRead}
use Rattle.message_l.specs.declared.Listing.{Listing}
use Rattle.message_l.proofs.Orders.{holds-none}
use Rattle.message_l.proofs.Whole.{listing_loop, listing-ends, listing_none, listing-empty, listing_start, orders_loop, all_orders, holding-on, holding-last, object-other, object-broken, object-read}
use Rattle.message_l.proofs.l_object.Goals as goal
use Rattle.message_l.proofs.l_object.Goals.{Else-byte_at-ne-OPEN_OBJECT, After-more_listing-next}

opens : (c : Else-byte_at-ne-OPEN_OBJECT) → byte_at c.args.s.now c.args.at ≡ 123
opens c = sym c.byte_at.ensures ∙ c.if-byte_at-ne-OPEN_OBJECT.false

-- the member there was read
module _ (c : After-more_listing-next) where
  abbrev text : List ℕ
  text = c.args.s.now

  abbrev step : Listing → Pair → Listing
  step = more_listing c.args.name.now text

  abbrev next : Listing
  next = c.more_listing-next.result

  abbrev i : ℕ
  i = c.loop-name_to.i

  abbrev name-to : ℕ
  name-to = c.in-Some-string_end.name_to

  abbrev from : ℕ
  from = c.in-Some-colon_end.from

  abbrev here : Pair
  here = pair_at i name-to from next.sides.end

  ends : next.sides.end ≡ end_of (value 13 text from)
  ends = value-ends step (λ (l : Listing). l.sides.end) (listing-ends c.args.name.now text) 13 text c.loop-name_to.met i name-to from next c.more_listing-next.ensures.told

  none : next.sides.end ≡ 0 → member (value 13 text) text i ≡ wrong
  none z =
      no_value 13 text i name-to (sym c.in-Some-string_end.ensures) from (sym c.in-Some-colon_end.ensures) (end-broken next.sides.end (omega arith) (value_in 13 text from) ends z)

  stands : (next.sides.end ≡ 0 → ⊥) → Stands (member (value 13 text) text) text i here next.sides.end
  stands n =
      member-stands 13 text i name-to (sym c.in-Some-string_end.ensures) from (sym c.in-Some-colon_end.ensures) next.sides.end (end-at (value 13 text from) next.sides.end ends n)

  steps : next ≡ step c.loop-name_to.met here
  steps = next-is step (λ (l : Listing). l.sides.end) (listing-ends c.args.name.now text) 13 text c.loop-name_to.met i name-to from next c.more_listing-next.ensures.told

  added : Added text here c.loop-name_to.met.sides.tally next.sides.tally c.loop-name_to.buffer c.more_listing-next.new.buffer
  added =
      subst (λ (n : ℕ). Added text (pair_at i name-to from n) c.loop-name_to.met.sides.tally next.sides.tally c.loop-name_to.buffer c.more_listing-next.new.buffer)
      (sym ends) c.more_listing-next.ensures.added

pub returns-then-byte_at-ne-OPEN_OBJECT : goal.returns-then-byte_at-ne-OPEN_OBJECT
returns-then-byte_at-ne-OPEN_OBJECT c =
    let a = c.args in
    let s = a.s.now in
    let other : (byte_at s a.at ≡ 123 → ⊥) = λ h. c.if-byte_at-ne-OPEN_OBJECT.true (c.byte_at.ensures ∙ h) in
    let end = c.unwrap_or.ensures ∙ end-or-zero c.value_end.result ∙ ap end_of c.value_end.ensures in
    object-other a.name.now s a.at _ c.no_listing.result c.requires (c.no_listing.ensures ∙ listing_none a.name.now s a.at other end) other

pub overflow_add-at : goal.overflow_add-at
overflow_add-at c =
    let a = c.args in
    let l = in-byte a.s.now a.at 123 (omega arith) (sym c.byte_at.ensures ∙ c.if-byte_at-ne-OPEN_OBJECT.false) in
    omega arith

pub returns-in-Some : goal.returns-in-Some
unfolding members
returns-in-Some c =
    let a = c.args in
    let s = a.s.now in
    let o = sym c.byte_at.ensures ∙ c.if-byte_at-ne-OPEN_OBJECT.false in
    let e = c.no_listing-in-Some.ensures in
    object-read a.name.now s a.at _ c.no_listing-in-Some.result c.requires (e ∙ listing-empty a.name.now s a.at o c.in-Some.end (sym c.in-Some.ensures)) o
    (rw e (subst (λ (x : Option (List SidedOrder)). Holds s x none_yet a.buffer.now) (fold-empty (orders_loop s) (Some []) (a.at + 1) c.in-Some.end (sym c.in-Some.ensures)) (holds-none s a.buffer.now)))

pub overflow_add-at-2 : goal.overflow_add-at-2
overflow_add-at-2 c =
    let a = c.args in
    let l = in-byte a.s.now a.at 123 (omega arith) (sym c.byte_at.ensures ∙ c.if-byte_at-ne-OPEN_OBJECT.false) in
    omega arith

pub loop-name_to-init : goal.loop-name_to-init
unfolding members
loop-name_to-init c =
    let a = c.args in
    let s = a.s.now in
    let o = sym c.byte_at.ensures ∙ c.if-byte_at-ne-OPEN_OBJECT.false in
    let open_ = sym c.object_close_end.ensures ∙ c.in_default.is in
    let skip = c.skip_blanks-i in
    rw c.no_listing-met.ensures
    (record {
      told = listing_start a.name.now s a.at o open_ skip.result skip.ensures;
      few = omega arith;
      room = c.requires;
      holding = record { x = Some []; left = fold_start (orders_loop s) (Some []) (a.at + 1) open_ skip.result skip.ensures; holds = holds-none s a.buffer.now };
    })

pub more_listing-next-requires : goal.more_listing-next-requires
more_listing-next-requires c =
    let s = c.args.s.now in
    let n = bounds c.in-Some-string_end.name_to (string-in s c.loop-name_to.i) (sym c.in-Some-string_end.ensures) in
    let m = bounds c.in-Some-colon_end.from (separator-in s 58 c.in-Some-string_end.name_to (omega arith)) (sym c.in-Some-colon_end.ensures) in
    let few = c.loop-name_to.invariant.few in
    (omega arith, c.loop-name_to.invariant.room)

-- it is not JSON
broken : (c : Else-byte_at-ne-OPEN_OBJECT) (after : List ℕ) → length after ≡ 1536 → {r : Listing} → r ≡ no_listing 0 → no_listing 0 ≡ listing_at c.args.name.now c.args.s.now c.args.at
    → ObjectRead c.args.name.now c.args.s.now c.args.at after r
broken c after room {r} e told = object-broken c.args.name.now c.args.s.now c.args.at after r room (e ∙ told) (opens c) (ap (λ (l : Listing). l.sides.end) e)

pub returns-in_default-string_end : goal.returns-in_default-string_end
returns-in_default-string_end c =
    let a = c.args in
    let s = a.s.now in
    broken (goal.at.returns-in_default-string_end c).Else-byte_at-ne-OPEN_OBJECT _ c.loop-name_to.invariant.room c.no_listing-in_default-string_end.ensures
    (fold-wrong (listing_loop a.name.now s) c.loop-name_to.met c.loop-name_to.invariant.told (no_name 13 s c.loop-name_to.i (sym c.string_end.ensures ∙ c.in_default-string_end.is)))

pub returns-in_default-colon_end : goal.returns-in_default-colon_end
returns-in_default-colon_end c =
    let a = c.args in
    let s = a.s.now in
    let k = c.in-Some-string_end in
    broken (goal.at.returns-in_default-colon_end c).Else-byte_at-ne-OPEN_OBJECT _ c.loop-name_to.invariant.room c.no_listing-in_default-colon_end.ensures
    (fold-wrong (listing_loop a.name.now s) c.loop-name_to.met c.loop-name_to.invariant.told
    (no-colon 13 s c.loop-name_to.i k.name_to (sym k.ensures) (sym c.colon_end.ensures ∙ c.in_default-colon_end.is)))

pub returns-then-to-eq0 : goal.returns-then-to-eq0
returns-then-to-eq0 c =
    let a = c.args in
    let m = (goal.at.returns-then-to-eq0 c).After-more_listing-next in
    broken (goal.at.returns-then-to-eq0 c).Else-byte_at-ne-OPEN_OBJECT _ c.more_listing-next.ensures.added.room c.no_listing-then-to-eq0.ensures
    (fold-wrong (listing_loop a.name.now a.s.now) c.loop-name_to.met c.loop-name_to.invariant.told (none m c.if-to-eq0.true))

pub returns-in_default-object_close_end : goal.returns-in_default-object_close_end
returns-in_default-object_close_end c =
    let a = c.args in
    let m = (goal.at.returns-in_default-object_close_end c).After-more_listing-next in
    broken (goal.at.returns-in_default-object_close_end c).Else-byte_at-ne-OPEN_OBJECT _ c.more_listing-next.ensures.added.room c.no_listing-in_default-object_close_end.ensures
    (fold-broken (listing_loop a.name.now a.s.now) c.loop-name_to.met c.loop-name_to.invariant.told (stands m c.if-to-eq0.false)
    (sym c.comma_end.ensures ∙ c.in_default-comma_end.is) (sym c.object_close_end-in_default-comma_end.ensures ∙ c.in_default-object_close_end.is))

pub returns-in_default-comma_end : goal.returns-in_default-comma_end
returns-in_default-comma_end c =
    let a = c.args in
    let s = a.s.now in
    let m = (goal.at.returns-in_default-comma_end c).After-more_listing-next in
    let some = c.if-to-eq0.false in
    let comma = sym c.comma_end.ensures ∙ c.in_default-comma_end.is in
    let u = c.in-Some-object_close_end in
    let e = c.listing_end.ensures in
    object-read a.name.now s a.at _ c.listing_end.result c.more_listing-next.ensures.added.room
    (e ∙ fold-last (listing_loop a.name.now s) c.loop-name_to.met c.loop-name_to.invariant.told (stands m some) comma u.end (sym u.ensures) (steps m))
    (opens (goal.at.returns-in_default-comma_end c).Else-byte_at-ne-OPEN_OBJECT)
    (subst (λ (t : OrderTally). Holds s (all_orders s a.at) t c.more_listing-next.new.buffer) (sym (ap (λ (l : Listing). l.sides.tally) e))
    (holding-last s a.at (added m) some (stands m some) c.loop-name_to.invariant.holding comma u.end (sym u.ensures)))

pub loop-name_to-smaller : goal.loop-name_to-smaller
loop-name_to-smaller c =
    let a = c.args in
    let m = (goal.at.loop-name_to-smaller c).After-more_listing-next in
    let f = fold-further (listing_loop a.name.now a.s.now) c.loop-name_to.met c.loop-name_to.invariant.told (stands m c.if-to-eq0.false) c.in-Some-comma_end.j (sym c.in-Some-comma_end.ensures) in
    omega arith

pub loop-name_to-preserved : goal.loop-name_to-preserved
loop-name_to-preserved c =
    let a = c.args in
    let s = a.s.now in
    let m = (goal.at.loop-name_to-preserved c).After-more_listing-next in
    let some = c.if-to-eq0.false in
    let l = c.in-Some-comma_end in
    let f = fold-further (listing_loop a.name.now s) c.loop-name_to.met c.loop-name_to.invariant.told (stands m some) l.j (sym l.ensures) in
    let few = (added m).few some in
    record {
      told = fold_on (listing_loop a.name.now s) c.loop-name_to.met c.loop-name_to.invariant.told (stands m some) l.j (sym l.ensures) (steps m);
      few = omega arith;
      room = c.more_listing-next.ensures.added.room;
      holding = holding-on s a.at (added m) some (stands m some) c.loop-name_to.invariant.holding l.j (sym l.ensures);
    }
