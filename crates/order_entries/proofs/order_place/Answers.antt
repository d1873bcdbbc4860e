-- `order_place` meets its contract: wherever the loop stands, the members that were met with those that are left are the answer.
use Rattle.std.specs.Prelude.{None}
use Prim.Native.Nat.{ℕ, suc, ◌-◌, ◌≤◌}
use mathlib.Core.Path.{◌≡◌, ◌∙◌, sym, ap, subst}
use native.Mathlib.Omega.{arith}
use Rattle.text.specs.Text.{byte_at}
use Rattle.json_tokens.specs.Ends.{end_of}
use Rattle.json_tokens.proofs.Laws.{in-byte}
use Rattle.json_values.specs.Json.{Pair, member, value}
use Rattle.json_values.proofs.Fold.{Left, Stands, pair_at, no_name, no-colon, no_value, member-places, member-stands, fold-wrong, fold-further, fold_on, fold-last, fold-broken}
use Rattle.entries.proofs.Entry.{end-or-zero}
use Rattle.order_entries.specs.Collected.{order_place_of, order_place_at, no_members, more_members, Inside}
use Rattle.order_entries.proofs.Placing.{found_none}
use Rattle.order_entries.proofs.Walking.{order_loop, place_none, place-empty, place-start, none_inside, inside-more}
use Rattle.order_entries.proofs.order_place.Goals as goal
use Rattle.order_entries.proofs.order_place.Goals.{In-Some-value_end}

-- the depth of an order is one more than that of its members
deeper : (depth : ℕ) → 1 ≤ depth → suc (depth - 1) ≡ depth
deeper depth h = omega arith

-- the member there was read
module _ (c : In-Some-value_end) where
  abbrev here : Pair
  here = pair_at c.loop-name_to.i c.in-Some-string_end.name_to c.in-Some-colon_end.from c.in-Some-value_end.to

  stands : Stands (member (value (c.args.depth - 1) c.args.s.now) c.args.s.now) c.args.s.now c.loop-name_to.i here c.in-Some-value_end.to
  stands =
      member-stands (c.args.depth - 1) c.args.s.now c.loop-name_to.i c.in-Some-string_end.name_to (sym c.in-Some-string_end.ensures)
      c.in-Some-colon_end.from (sym c.in-Some-colon_end.ensures) c.in-Some-value_end.to (sym c.in-Some-value_end.ensures)

  placed : Inside c.args.s.now (more_members c.args.s.now c.loop-name_to.met here)
  placed =
      let m = member-places (c.args.depth - 1) c.args.s.now c.loop-name_to.i c.in-Some-string_end.name_to (sym c.in-Some-string_end.ensures)
      c.in-Some-colon_end.from (sym c.in-Some-colon_end.ensures) c.in-Some-value_end.to (sym c.in-Some-value_end.ensures) in
      inside-more c.args.s.now c.loop-name_to.met here c.loop-name_to.invariant.1 (omega arith) m.3

pub returns-then-byte_at-ne-OPEN_OBJECT : goal.returns-then-byte_at-ne-OPEN_OBJECT
returns-then-byte_at-ne-OPEN_OBJECT c =
    let a = c.args in
    let s = a.s.now in
    let e = deeper a.depth c.requires in
    let other : (byte_at s a.at ≡ 123 → ⊥) = λ h. c.if-byte_at-ne-OPEN_OBJECT.true (c.byte_at.ensures ∙ h) in
    let end = c.unwrap_or.ensures ∙ end-or-zero c.value_end.result ∙ ap end_of (c.value_end.ensures ∙ ap (λ (d : ℕ). value d s a.at) (sym e)) in
    found_none s c.unwrap_or.result c.no_order.ensures
    (subst (λ (d : ℕ). order_place_of c.unwrap_or.result None ≡ order_place_at d s a.at) e (place_none s a.at (a.depth - 1) other end))

pub overflow_add-at : goal.overflow_add-at
overflow_add-at c =
    let a = c.args in
    let l = in-byte a.s.now a.at 123 (omega arith) (sym c.byte_at.ensures ∙ c.if-byte_at-ne-OPEN_OBJECT.false) in
    omega arith

pub returns-in-Some : goal.returns-in-Some
returns-in-Some c =
    let a = c.args in
    let s = a.s.now in
    let o = sym c.byte_at.ensures ∙ c.if-byte_at-ne-OPEN_OBJECT.false in
    found_none s c.in-Some.end c.no_order-in-Some.ensures
    (subst (λ (d : ℕ). order_place_of c.in-Some.end None ≡ order_place_at d s a.at) (deeper a.depth c.requires) (place-empty s a.at (a.depth - 1) o c.in-Some.end (sym c.in-Some.ensures)))

pub overflow_add-at-2 : goal.overflow_add-at-2
overflow_add-at-2 c =
    let a = c.args in
    let l = in-byte a.s.now a.at 123 (omega arith) (sym c.byte_at.ensures ∙ c.if-byte_at-ne-OPEN_OBJECT.false) in
    omega arith

pub loop-name_to-init : goal.loop-name_to-init
loop-name_to-init c =
    let a = c.args in
    let s = a.s.now in
    let o = sym c.byte_at.ensures ∙ c.if-byte_at-ne-OPEN_OBJECT.false in
    let skip = c.skip_blanks-i in
    rw c.no_members-met.ensures
    (subst (λ (d : ℕ). Left (order_loop s a.at (a.depth - 1)) no_members skip.result (order_place_at d s a.at)) (deeper a.depth c.requires) (place-start s a.at (a.depth - 1) o (sym c.object_close_end.ensures ∙ c.in_default.is) skip.result skip.ensures), none_inside s)

pub returns-in_default-string_end : goal.returns-in_default-string_end
returns-in_default-string_end c =
    let a = c.args in
    let d = a.depth - 1 in
    found_none a.s.now 0 c.no_order-in_default-string_end.ensures
    (fold-wrong (order_loop a.s.now a.at d) c.loop-name_to.met c.loop-name_to.invariant.0 (no_name d a.s.now c.loop-name_to.i (sym c.string_end.ensures ∙ c.in_default-string_end.is)))

pub returns-in_default-colon_end : goal.returns-in_default-colon_end
returns-in_default-colon_end c =
    let a = c.args in
    let d = a.depth - 1 in
    let k = c.in-Some-string_end in
    found_none a.s.now 0 c.no_order-in_default-colon_end.ensures
    (fold-wrong (order_loop a.s.now a.at d) c.loop-name_to.met c.loop-name_to.invariant.0
    (no-colon d a.s.now c.loop-name_to.i k.name_to (sym k.ensures) (sym c.colon_end.ensures ∙ c.in_default-colon_end.is)))

pub returns-in_default-value_end : goal.returns-in_default-value_end
returns-in_default-value_end c =
    let a = c.args in
    let d = a.depth - 1 in
    let k = c.in-Some-string_end in
    let j = c.in-Some-colon_end in
    found_none a.s.now 0 c.no_order-in_default-value_end.ensures
    (fold-wrong (order_loop a.s.now a.at d) c.loop-name_to.met c.loop-name_to.invariant.0
    (no_value d a.s.now c.loop-name_to.i k.name_to (sym k.ensures) j.from (sym j.ensures) (sym c.value_end-in-loop-name_to.ensures ∙ c.in_default-value_end.is)))

pub returns-in_default-object_close_end : goal.returns-in_default-object_close_end
returns-in_default-object_close_end c =
    let a = c.args in
    let m = (goal.at.returns-in_default-object_close_end c).In-Some-value_end in
    found_none a.s.now 0 c.no_order-in_default-object_close_end.ensures
    (fold-broken (order_loop a.s.now a.at (a.depth - 1)) c.loop-name_to.met c.loop-name_to.invariant.0 (stands m)
    (sym c.comma_end.ensures ∙ c.in_default-comma_end.is) (sym c.object_close_end-in_default-comma_end.ensures ∙ c.in_default-object_close_end.is))

pub place_in-requires : goal.place_in-requires
place_in-requires c = subst (Inside c.args.s.now) (sym c.more_members-next.ensures) (placed (goal.at.place_in-requires c).In-Some-value_end)

pub returns-in_default-comma_end : goal.returns-in_default-comma_end
returns-in_default-comma_end c =
    let a = c.args in
    let m = (goal.at.returns-in_default-comma_end c).In-Some-value_end in
    let u = c.in-Some-object_close_end in
    record {
      is =
          c.place_in.ensures.is
          ∙ fold-last (order_loop a.s.now a.at (a.depth - 1)) c.loop-name_to.met c.loop-name_to.invariant.0 (stands m)
          (sym c.comma_end.ensures ∙ c.in_default-comma_end.is) u.end (sym u.ensures) c.more_members-next.ensures;
      laid = c.place_in.ensures.laid;
    }

pub loop-name_to-smaller : goal.loop-name_to-smaller
loop-name_to-smaller c =
    let a = c.args in
    let m = (goal.at.loop-name_to-smaller c).In-Some-value_end in
    let f = fold-further (order_loop a.s.now a.at (a.depth - 1)) c.loop-name_to.met c.loop-name_to.invariant.0 (stands m) c.in-Some-comma_end.j (sym c.in-Some-comma_end.ensures) in
    omega arith

pub loop-name_to-preserved : goal.loop-name_to-preserved
loop-name_to-preserved c =
    let a = c.args in
    let m = (goal.at.loop-name_to-preserved c).In-Some-value_end in (
      fold_on (order_loop a.s.now a.at (a.depth - 1)) c.loop-name_to.met c.loop-name_to.invariant.0 (stands m) c.in-Some-comma_end.j (sym c.in-Some-comma_end.ensures) c.more_members-next.ensures,
      subst (Inside a.s.now) (sym c.more_members-next.ensures) (placed m),
    )
