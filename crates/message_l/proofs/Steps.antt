-- One member more of the object in `data`, as the code finds it. Assumes nothing.
use Rattle.std.specs.Prelude.{None, Option, Some, ℕ}
use Prim.Native.Nat.{ℕ, suc, ◌+◌, ◌≤◌}
use mathlib.Core.Path.{◌≡◌, refl, sym, ap, ◌∙◌, subst}
use mathlib.Core.Bool.{Bool, true, false, ◌&&◌, ◌||◌, cond}
use mathlib.Core.List.{List, [], ◌∷◌}
use native.Mathlib.Omega.{arith}
use borrow.Author.Tests.{eqb-true}
use lib.Dec.{eqb}
use lib.ListN.{length}
use Rattle.text.specs.Text.{ascii, byte_at}
use Rattle.edit.specs.declared.Side.{Side}
use Rattle.edit.specs.declared.Side.TheVariants.{Bids, Asks}
use Rattle.json_tokens.specs.Ends.{end_of}
use Rattle.json_tokens.proofs.Laws.{end-at}
use Rattle.json_tokens.proofs.Bounds.{bounds}
use Rattle.json_values.specs.Json.{Span, Pair, elements, value}
use Rattle.json_values.specs.Names.{means}
use Rattle.json_values.proofs.Bounds.{value_in}
use Rattle.json_values.proofs.Laws.{value-array}
use Rattle.json_values.proofs.Which.{one-meant}
use Rattle.entries.specs.Places.{and_then, and_also, all, contents, array_at}
use Rattle.entries.proofs.Tallies.{also-none}
use Rattle.layout.specs.MemberSpans.{few_more, with_member_span, on_hit}
use Rattle.layout.specs.declared.MemberSpan.{MemberSpan}
use Rattle.layout.proofs.Objects.{contents-broken}
use Rattle.order_entries.specs.Rows.{order_row}
use Rattle.order_arrays.specs.Tally.{orders_at, tallied, told_not, told_at, met as count, Met}
use Rattle.order_arrays.specs.declared.OrderTally.{OrderTally}
use Rattle.order_arrays.specs.declared.Orders.{Orders}
use Rattle.message_l.specs.Orders.{SidedOrder, sided_orders_at, member_orders}
use Rattle.message_l.specs.Collected.{tally_with, more_sides, more_listing, Holds, Added}
use Rattle.message_l.specs.declared.Sides.{Sides}
use Rattle.message_l.specs.declared.Listing.{Listing}
use Rattle.message_l.proofs.Orders.{holds_more}

-- ---- a side

array-broken : (d : ℕ) (s : List ℕ) (a : Span) → value (suc d) s a.from ≡ None → array_at (suc d) s a ≡ None
unfolding array_at
array-broken d s a h = go (eqb (byte_at s a.from) 91) refl
  where
    go : (b : Bool) → eqb (byte_at s a.from) 91 ≡ b → cond b (contents (elements (value d s) s (a.from + 1))) None ≡ None
    go true q = contents-broken (elements (value d s) s (a.from + 1)) (sym (value-array s a.from d (eqb-true _ _ q)) ∙ h)
    go false q = refl

module _ (s : List ℕ) (at : ℕ) (side : Side) (t : OrderTally) where
  abbrev to_end : Span
  to_end = record { from = at; to = end_of (value 13 s at) }

  told_is : told_at s 13 side t at ≡ record { end = end_of (value 13 s at); tally = tallied s side t (orders_at 13 s to_end) }
  unfolding told_at end_of orders_at and_then tallied
  told_is = go (value 13 s at) refl
    where
      none : value 13 s at ≡ None → tallied s side t (orders_at 13 s (record { from = at; to = 0 })) ≡ tallied s side t None
      none q = ap (λ (x : Option (List Span)). tallied s side t (and_then x (all (order_row 12 s)))) (array-broken 12 s (record { from = at; to = 0 }) q)

      go : (x : Option ℕ) → value 13 s at ≡ x
          → ◌≡◌ {A = Orders} (elim x [ Some e ↦ record { end = e; tally = tallied s side t (orders_at 13 s (record { from = at; to = e })) } | None ↦ told_not 0 ])
          (record { end = end_of x; tally = tallied s side t (orders_at 13 s (record { from = at; to = end_of x })) })
      go (Some e) q = refl
      go None q = sym (ap (λ (u : OrderTally). record { end = 0; tally = u }) (none q))

  module _ (before after : List ℕ) (r : Orders) (h : Met s 13 side t at before after r) where
    pub orders-end : r.end ≡ end_of (value 13 s at)
    orders-end = ap (λ (x : Orders). x.end) (h.told ∙ told_is)

    pub orders-tally : r.tally ≡ tallied s side t (orders_at 13 s to_end)
    orders-tally = ap (λ (x : Orders). x.tally) (h.told ∙ told_is)

    pub orders-added : (name : Span) → sided_orders_at side s to_end ≡ member_orders s (record { name = name; value = to_end })
        → Added s (record { name = name; value = to_end }) t r.tally before after
    orders-added name same =
        let e = orders-end in
        record {
          few = λ n. let k = h.few (λ z. n (sym e ∙ z)) in omega arith;
          room = h.room;
          kept = λ n x w.
              subst (λ (y : Option (List SidedOrder)). Holds s (and_also x y) r.tally after) same
              (holds_more s x t side at before after r w h (end_of (value 13 s at)) (end-at (value 13 s at) (end_of (value 13 s at)) refl n));
        }

-- nothing is added by a value that is passed over
pub passed-added : (s : List ℕ) (at : ℕ) (name : Span) (t : OrderTally) (buffer : List ℕ) → count t ≤ at → length buffer ≡ 1536
    → Some [] ≡ member_orders s (record { name = name; value = record { from = at; to = end_of (value 13 s at) } })
    → Added s (record { name = name; value = record { from = at; to = end_of (value 13 s at) } }) t t buffer buffer
passed-added s at name t buffer few room same =
    record {
      few = λ n. let b = bounds (end_of (value 13 s at)) (value_in 13 s at) (end-at (value 13 s at) (end_of (value 13 s at)) refl n) in omega arith;
      room = room;
      kept = λ n x w. subst (λ (y : Option (List SidedOrder)). Holds s y t buffer) (sym (also-none x) ∙ ap (and_also x) same) w;
    }

-- ---- by the name of the member m, whose value ends at e
module _ (s : List ℕ) (m : Pair) where
  not-asks : means s m.name (ascii "bids") ≡ true → means s m.name (ascii "asks") ≡ false
  not-asks y = let h = one-meant s m.name (ascii "bids" ∷ ascii "asks" ∷ []) refl 0 (omega arith) y in cc

  pub orders-bids : means s m.name (ascii "bids") ≡ true → sided_orders_at Bids s m.value ≡ member_orders s m
  unfolding member_orders
  orders-bids y = sym (rw y)

  pub orders-asks : means s m.name (ascii "bids") ≡ false → means s m.name (ascii "asks") ≡ true → sided_orders_at Asks s m.value ≡ member_orders s m
  unfolding member_orders
  orders-asks n y = sym (rw (n, y))

  pub orders-other : means s m.name (ascii "bids") ≡ false → means s m.name (ascii "asks") ≡ false → Some [] ≡ member_orders s m
  unfolding member_orders
  orders-other n o = sym (rw (n, o))

  module _ (d : Sides) {e : ℕ} (h : e ≡ m.value.to) where
    pub sides-bids : {n : ℕ} {u : OrderTally} → means s m.name (ascii "bids") ≡ true → n ≡ few_more d.bids → u ≡ tallied s Bids d.tally (orders_at 13 s m.value)
        → ◌≡◌ {A = Sides} (record { end = e; bids = n; asks = d.asks; tally = u }) (more_sides s d m)
    unfolding more_sides tally_with on_hit
    sides-bids y g k = let o = not-asks y in sym (rw (y, o, g, k, h))

    pub sides-asks : {n : ℕ} {u : OrderTally} → means s m.name (ascii "bids") ≡ false → means s m.name (ascii "asks") ≡ true → n ≡ few_more d.asks
        → u ≡ tallied s Asks d.tally (orders_at 13 s m.value) → ◌≡◌ {A = Sides} (record { end = e; bids = d.bids; asks = n; tally = u }) (more_sides s d m)
    unfolding more_sides tally_with on_hit
    sides-asks n y g k = sym (rw (n, y, g, k, h))

    pub sides-other : means s m.name (ascii "bids") ≡ false → means s m.name (ascii "asks") ≡ false
        → ◌≡◌ {A = Sides} (record { end = e; bids = d.bids; asks = d.asks; tally = d.tally }) (more_sides s d m)
    unfolding more_sides tally_with on_hit
    sides-other n o = sym (rw (n, o, h))

-- ---- all members: each part but the sides takes the end from these
pub listing-made : (name s : List ℕ) (l : Listing) (n : Span) (at to : ℕ) (d : Sides) → d ≡ more_sides s l.sides (record { name = n; value = record { from = at; to = to } })
    → (y k : MemberSpan) (b : Bool)
    → y ≡ on_hit (means s n (ascii "symbol")) with_member_span l.symbol (record { from = at; to = d.end })
    → k ≡ on_hit (means s n (ascii "checksum")) with_member_span l.checksum (record { from = at; to = d.end })
    → b ≡ (l.named || (means s n (ascii "symbol") && means s (record { from = at; to = d.end }) name))
    → ◌≡◌ {A = Listing} (record { sides = d; symbol = y; checksum = k; named = b }) (more_listing name s l (record { name = n; value = record { from = at; to = to } }))
unfolding more_listing more_sides
listing-made name s l n at to d made y k b hy hk hb = rw (hy, hk, hb, made)

-- ---- whether some `symbol` is the book's name
pub or-stop : {a : Bool} (b : Bool) → a ≡ true → a ≡ (a || b)
or-stop b h = h ∙ sym (rw h)

pub or-next : {a b : Bool} → a ≡ false → b ≡ (a || b)
or-next h = sym (rw h)
