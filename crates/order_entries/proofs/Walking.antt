-- The members of an order, one after the other. Assumes nothing.
use Rattle.std.specs.Prelude.{None, Option, Some, ℕ}
use Prim.Native.Nat.{ℕ, suc, ◌+◌, ◌≤◌}
use mathlib.Core.Path.{◌≡◌, refl, sym, ap, ◌∙◌}
use mathlib.Core.Bool.{Bool, true, false}
use mathlib.Core.List.{List}
use native.Mathlib.Omega.{arith}
use lib.ListN.{length}
use Rattle.text.specs.Text.{ascii, byte_at}
use Rattle.json_tokens.specs.Tokens.{blanks, closing}
use Rattle.json_tokens.specs.Ends.{end_of}
use Rattle.json_values.specs.Json.{Span, Pair, value}
use Rattle.json_values.specs.Names.{means}
use Rattle.json_values.specs.Fold.{fold_from}
use Rattle.json_values.proofs.Fold.{Loop, Left, over_members}
use Rattle.entries.specs.Places.{and_then, object_at, values_of}
use Rattle.layout.specs.MemberSpans.{with_member_span, member_span_of, once_at, on_hit}
use Rattle.layout.specs.declared.MemberSpan.{MemberSpan}
use Rattle.layout.proofs.MemberSpans.{on-fold, only-is}
use Rattle.layout.proofs.Objects.{object-broken, made_other, made-empty, made-start}
use Rattle.order_entries.specs.Rows.{row_of, row_in, order_row}
use Rattle.order_entries.specs.Collected.{order_place_of, order_place_at, no_members, more_members, place_in, Placed, Inside}
use Rattle.order_entries.specs.declared.OrderPlace.{OrderPlace}
use Rattle.order_entries.specs.declared.OrderMembers.{OrderMembers}

module _ (s : List ℕ) (at : ℕ) where
  abbrev told : ℕ → Option (List Pair) → OrderPlace
  told e x = order_place_of e (and_then x (row_in s (record { from = at; to = e })))

  module _ (ms : List Pair) where
    abbrev met : OrderMembers
    met = fold_from (more_members s) no_members ms

    id-is : met.id ≡ member_span_of (values_of s (ascii "order_id") ms)
    unfolding more_members
    id-is = on-fold s (ascii "order_id") (more_members s) (λ (x : OrderMembers). x.id) with_member_span (λ st m. refl) no_members ms

    price-is : met.price ≡ member_span_of (values_of s (ascii "limit_price") ms)
    unfolding more_members
    price-is = on-fold s (ascii "limit_price") (more_members s) (λ (x : OrderMembers). x.price) with_member_span (λ st m. refl) no_members ms

    size_is : met.size ≡ member_span_of (values_of s (ascii "order_qty") ms)
    unfolding more_members
    size_is = on-fold s (ascii "order_qty") (more_members s) (λ (x : OrderMembers). x.size) with_member_span (λ st m. refl) no_members ms

    event-is : met.event ≡ member_span_of (values_of s (ascii "event") ms)
    unfolding more_members
    event-is = on-fold s (ascii "event") (more_members s) (λ (x : OrderMembers). x.event) with_member_span (λ st m. refl) no_members ms

    told-folds : (e : ℕ) → told e (Some ms) ≡ place_in s at e met
    unfolding and_then row_in place_in
    told-folds e =
        rw (only-is (values_of s (ascii "order_id") ms) met.id id-is, only-is (values_of s (ascii "limit_price") ms) met.price price-is, only-is (values_of s (ascii "order_qty") ms) met.size size_is, only-is (values_of s (ascii "event") ms) met.event event-is)

  module _ (d : ℕ) where
    told_is : told (end_of (value (suc d) s at)) (object_at (suc d) s (record { from = at; to = end_of (value (suc d) s at) })) ≡ order_place_at (suc d) s at
    unfolding order_place_at order_row end_of and_then
    told_is = sym (go (value (suc d) s at) refl)
      where
        go : (x : Option ℕ) → value (suc d) s at ≡ x
            → elim x [ Some e ↦ order_place_of e (order_row (suc d) s (record { from = at; to = e })) | None ↦ order_place_of 0 None ] ≡ told (end_of x) (object_at (suc d) s (record { from = at; to = end_of x }))
        go (Some e) q = refl
        go None q = ap (told 0) (sym (object-broken d s (record { from = at; to = 0 }) q))

    -- the loop over its members
    abbrev pub order_loop : Loop Pair OrderMembers OrderPlace
    order_loop = over_members d s (more_members s) (place_in s at) (order_place_of 0 None)

    pub place_none : (byte_at s at ≡ 123 → ⊥) → {e : ℕ} → e ≡ end_of (value (suc d) s at) → order_place_of e None ≡ order_place_at (suc d) s at
    unfolding and_then
    place_none n h = ap (λ (e : ℕ). order_place_of e None) h ∙ made_other told d s at n ∙ told_is

    module _ (opens : byte_at s at ≡ 123) where
      empty-place : (e : ℕ) → order_place_of e None ≡ place_in s at e no_members
      unfolding place_in row_of and_then once_at
      empty-place e = refl

      pub place-empty : (e : ℕ) → closing 125 s (at + 1) ≡ Some e → order_place_of e None ≡ order_place_at (suc d) s at
      place-empty e h = empty-place e ∙ made-empty told d s at opens (more_members s) (place_in s at) no_members (λ x ms. told-folds ms x) e h ∙ told_is

      pub place-start : closing 125 s (at + 1) ≡ None → (k : ℕ) → k ≡ blanks s (at + 1) → Left order_loop no_members k (order_place_at (suc d) s at)
      unfolding and_then
      place-start h k b =
          rw told_is at (made-start told d s at opens (more_members s) (place_in s at) no_members (λ x ms. told-folds ms x) h k b)

-- ---- the places of the texts

placed-hit : (s : List ℕ) (hit : Bool) (m : MemberSpan) (a : Span) → Placed s m.from m.to → a.from ≤ a.to → a.to ≤ length s
    → Placed s (on_hit hit with_member_span m a).from (on_hit hit with_member_span m a).to
unfolding on_hit with_member_span
placed-hit s true m a p l h = (l, h)
placed-hit s false m a p l h = p

pub none_inside : (s : List ℕ) → Inside s no_members
none_inside s = record { id = (omega arith, omega arith); price = (omega arith, omega arith); size = (omega arith, omega arith) }

pub inside-more : (s : List ℕ) (met : OrderMembers) (m : Pair) → Inside s met → m.value.from ≤ m.value.to → m.value.to ≤ length s → Inside s (more_members s met m)
unfolding more_members
inside-more s met m p l h =
    record {
      id = placed-hit s (means s m.name (ascii "order_id")) met.id m.value p.id l h;
      price = placed-hit s (means s m.name (ascii "limit_price")) met.price m.value p.price l h;
      size = placed-hit s (means s m.name (ascii "order_qty")) met.size m.value p.size l h;
    }
