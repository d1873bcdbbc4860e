-- The object in `data`, once its members were met: what is told of it, and what the buffer has. Assumes nothing.
use Rattle.std.specs.Prelude.{None, Option, Some}
use Prim.Native.Nat.{ℕ, ◌+◌, ◌≤◌}
use mathlib.Core.Path.{◌≡◌, refl, sym, ap, ◌∙◌, subst}
use mathlib.Core.List.{List, [], ◌∷◌}
use native.Mathlib.Omega.{arith}
use lib.ListN.{length}
use Rattle.text.specs.Text.{byte_at}
use Rattle.json_tokens.specs.Tokens.{blanks, closing, separator}
use Rattle.json_tokens.specs.Ends.{end_of}
use Rattle.json_values.specs.Json.{Span, Pair, Items, items, no_items, items_end, member, members, value}
use Rattle.json_values.specs.Fold.{fold_from, folded_in}
use Rattle.json_values.proofs.Laws.{value-object}
use Rattle.json_values.proofs.Fold.{Loop, Left, Stands, made, over_members, fold_on, fold-last}
use Rattle.json_tokens.proofs.Bounds.{bounds}
use Rattle.json_values.proofs.Bounds.{value_in}
use Rattle.entries.specs.Places.{and_also, contents, object_at}
use Rattle.entries.proofs.Strings.{no_row, same_row}
use Rattle.entries.proofs.Tallies.{none-also, also-none, also-assoc}
use Rattle.layout.proofs.Objects.{object-yes, object-no, made_other, made-empty, made-start}
use Rattle.order_arrays.specs.Tally.{met as count}
use Rattle.order_arrays.specs.declared.OrderTally.{OrderTally}
use Rattle.message_l.specs.Orders.{SidedOrder, member_orders, orders_in}
use Rattle.message_l.specs.Collected.{no_listing, listing_end, more_sides, more_listing, listing_from, listing_at, Holds, Added, ObjectRead}
use Rattle.message_l.specs.declared.Listing.{Listing}

-- ---- what is told
pub listing-ends : (name s : List ℕ) (l : Listing) (m : Pair) → (more_listing name s l m).sides.end ≡ m.value.to
unfolding more_listing more_sides
listing-ends name s l m = refl

abbrev pub listing_loop : List ℕ → List ℕ → Loop Pair Listing Listing
listing_loop name s = over_members 13 s (more_listing name s) listing_end (no_listing 0)

module _ (name s : List ℕ) (at : ℕ) where
  listing-folds : (e : ℕ) (ms : List Pair) → listing_from name s e (Some ms) ≡ listing_end e (fold_from (more_listing name s) (no_listing 0) ms)
  unfolding listing_from
  listing-folds e ms = refl

  pub listing_none : (byte_at s at ≡ 123 → ⊥) → {e : ℕ} → e ≡ end_of (value 14 s at) → no_listing e ≡ listing_at name s at
  unfolding listing_at listing_from
  listing_none n h = ap no_listing h ∙ made_other (listing_from name s) 13 s at n

  module _ (opens : byte_at s at ≡ 123) where
    pub listing-empty : (e : ℕ) → closing 125 s (at + 1) ≡ Some e → no_listing e ≡ listing_at name s at
    unfolding listing_at
    listing-empty e h = made-empty (listing_from name s) 13 s at opens (more_listing name s) listing_end (no_listing 0) listing-folds e h

    pub listing_start : closing 125 s (at + 1) ≡ None → (k : ℕ) → k ≡ blanks s (at + 1) → Left (listing_loop name s) (no_listing 0) k (listing_at name s at)
    unfolding listing_at listing_from
    listing_start h k b = made-start (listing_from name s) 13 s at opens (more_listing name s) listing_end (no_listing 0) listing-folds h k b

pub listing-end-at : (name s : List ℕ) (at : ℕ) → (listing_at name s at).sides.end ≡ end_of (value 14 s at)
unfolding listing_at listing_from
listing-end-at name s at = go (object_at 14 s (record { from = at; to = end_of (value 14 s at) }))
  where
    go : (x : Option (List Pair)) → (listing_from name s (end_of (value 14 s at)) x).sides.end ≡ end_of (value 14 s at)
    go (Some ms) = refl
    go None = refl

-- ---- what the members hold, one after the other

abbrev pub with_orders : List ℕ → Option (List SidedOrder) → Pair → Option (List SidedOrder)
with_orders s x m = and_also x (member_orders s m)

abbrev pub orders_loop : List ℕ → Loop Pair (Option (List SidedOrder)) (Option (List SidedOrder))
orders_loop s = over_members 13 s (with_orders s) (λ e x. x) None

abbrev pub all_orders : List ℕ → ℕ → Option (List SidedOrder)
all_orders s at = made (orders_loop s) (Some []) (members (value 13 s) s (at + 1))

orders-from : (s : List ℕ) (x : Option (List SidedOrder)) (ms : List Pair) → fold_from (with_orders s) x ms ≡ and_also x (orders_in s ms)
unfolding fold_from orders_in
orders-from s x [] = sym (also-none x)
orders-from s x (m ∷ ms) = orders-from s (with_orders s x m) ms ∙ also-assoc x (member_orders s m) (orders_in s ms)

orders-all : (s : List ℕ) (a : Span) (ms : List Pair) → byte_at s a.from ≡ 123 → object_at 14 s a ≡ Some ms → all_orders s a.from ≡ orders_in s ms
unfolding folded_in contents
orders-all s a ms o g = go (members (value 13 s) s (a.from + 1)) (sym (object-yes 13 s a o) ∙ g)
  where
    go : (y : Items Pair) → contents y ≡ Some ms → folded_in (with_orders s) (λ e x. x) None (Some []) y ≡ orders_in s ms
    go (items l k) q = ap (fold_from (with_orders s) (Some [])) (sym (same_row q)) ∙ orders-from s (Some []) ms ∙ none-also (orders_in s ms)
    go no_items q = no_row q

-- x was read so far, of all orders in the end
pub record Holding (s : List ℕ) (at : ℕ) (t : OrderTally) (i : ℕ) (buffer : List ℕ) : Type 0 where
  pub x : Option (List SidedOrder)
  pub left : Left (orders_loop s) x i (all_orders s at)
  pub holds : Holds s x t buffer

-- the loop over the members
pub record Going (name s : List ℕ) (at : ℕ) (l : Listing) (i : ℕ) (buffer : List ℕ) : Type 0 where
  pub told : Left (listing_loop name s) l i (listing_at name s at)
  pub few : count l.sides.tally ≤ i
  pub room : length buffer ≡ 1536
  pub holding : Holding s at l.sides.tally i buffer

-- the member there was read, and ends at e
module _ (s : List ℕ) (at : ℕ) {t u : OrderTally} {i e : ℕ} {m : Pair} {before after : List ℕ} (h : Added s m t u before after) (n : m.value.to ≡ 0 → ⊥)
    (stands : Stands (member (value 13 s) s) s i m e) (g : Holding s at t i before) where
  -- a comma follows
  pub holding-on : (l : ℕ) → separator 44 s e ≡ Some l → Holding s at u l after
  holding-on l c = record { x = with_orders s g.x m; left = fold_on (orders_loop s) g.x g.left stands l c refl; holds = h.kept n g.x g.holds }

  -- the object ends
  pub holding-last : separator 44 s e ≡ None → (k : ℕ) → closing 125 s e ≡ Some k → Holds s (all_orders s at) u after
  holding-last z k y =
      subst (λ (x : Option (List SidedOrder)). Holds s x u after) (fold-last (orders_loop s) g.x g.left stands z k y refl) (h.kept n g.x g.holds)

-- ---- the answers

module _ (name s : List ℕ) (at : ℕ) (after : List ℕ) (r : Listing) (room : length after ≡ 1536) (told : r ≡ listing_at name s at) where
  abbrev here : Span
  here = record { from = at; to = end_of (value 14 s at) }

  pub object-other : (byte_at s at ≡ 123 → ⊥) → ObjectRead name s at after r
  object-other o = record { told = told; room = room; holds = λ ms g. no_row (sym (object-no 13 s here o) ∙ g) }

  -- it is not JSON
  pub object-broken : byte_at s at ≡ 123 → r.sides.end ≡ 0 → ObjectRead name s at after r
  unfolding items_end contents end_of
  object-broken o z = record { told = told; room = room; holds = λ ms g. not-json ms g }
    where
      none : end_of (value 14 s at) ≡ 0
      none = sym (ap (λ (l : Listing). l.sides.end) told ∙ listing-end-at name s at) ∙ z

      ends : (x : Items Pair) → value 14 s at ≡ items_end x → (ms : List Pair) → contents x ≡ Some ms → {A : Type 0} → A
      ends (items l e) v ms g = let b = bounds e (value_in 14 s at) v in let k : e ≡ 0 = sym (ap end_of v) ∙ none in absurd (omega arith)
      ends no_items v ms g = no_row g

      not-json : (ms : List Pair) → object_at 14 s here ≡ Some ms → Holds s (orders_in s ms) r.sides.tally after
      not-json ms g = ends (members (value 13 s) s (at + 1)) (value-object s at 13 o) ms (sym (object-yes 13 s here o) ∙ g)

  pub object-read : byte_at s at ≡ 123 → Holds s (all_orders s at) r.sides.tally after → ObjectRead name s at after r
  object-read o h =
      record { told = told; room = room; holds = λ ms g. subst (λ (x : Option (List SidedOrder)). Holds s x r.sides.tally after) (orders-all s here ms o g) h }
