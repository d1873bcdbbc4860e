-- What the code's orders show: a message on the orders of the code is the message on the orders shown. Assumes nothing.
use Prim.Native.Nat.{ℕ}
use mathlib.Core.Path.{◌≡◌, refl, sym, ap, ap₂, ◌∙◌}
use mathlib.Core.Bool.{false}
use mathlib.Core.List.{List, [], ◌∷◌, map}
use Rattle.decimal.specs.Decimal.{Number}
use Rattle.edit.specs.Edit.{for_side}
use Rattle.edit.specs.declared.Side.{Side}
use Rattle.edit.specs.declared.Side.TheVariants.{Bids, Asks}
use Rattle.level.specs.Ranked.{All}
use Rattle.order_edit.specs.declared.Event.{Event}
use Rattle.order_edit.specs.declared.Event.TheVariants.{Add, Modify, Delete}
use Rattle.order_edit.specs.Ids.{same_id, id_bytes}
use Rattle.order_edit.specs.Buffer.{OrderEntry, entry_side}
use Rattle.order_edit.proofs.Ids.{same-ids}
use Rattle.orders.specs.declared.Order.{Order}
use Rattle.orders.specs.Orders.{SingleOrder, plain, Entry, adds, entry_of, after_update, after_snapshot, map_entry, map_sides, OfEntry}
use Rattle.orders.specs.Words.{resized_order, coded, shown, Sound, EntrySound, order_for, change_of, changes_for, orders_for, shown_order, shown_change, shown_changes_for, shown_orders_for}
use Rattle.orders.proofs.Mapping.{map-update}
use Rattle.orders.proofs.Listing.{snapshot-adds}
use Rattle.orders.proofs.Sided.{all-sided, all-mapped, map_same, map-map}
use Rattle.orders.proofs.Sounds.{keeps-price, takes-size, sound-resized, entry-price, entry-size, sound-entry}
use Rattle.orders.proofs.Entries.{sound-changes}

-- ---- orders

price-shown : (x : Order) → plain.price (shown x) ≡ coded.price x
unfolding shown
price-shown x = refl

resized-shown : (x y : Order) → Sound x → Sound y → shown (resized_order x y) ≡ plain.resized (shown x) (shown y)
unfolding shown resized_order
resized-shown x y a b = ap₂ (λ (p z : Number). record { id = id_bytes x.id; price = p; size = z }) (keeps-price x y a b) (takes-size x y a b)

ids-shown : (x y : Order) → Sound x → Sound y → same_id (coded.id x) (coded.id y) ≡ same_id (plain.id (shown x)) (plain.id (shown y))
unfolding shown
ids-shown x y a b = same-ids x.id y.id a.packed b.packed

-- a message on the code's orders, as shown
pub map-shown : (depth : ℕ) (bes aes : List (Entry Order)) (bids asks : List Order) → All (OfEntry Sound) bes → All (OfEntry Sound) aes → All Sound bids → All Sound asks
    → map_sides shown (after_update coded depth bes aes bids asks) ≡ after_update plain depth (map (map_entry shown) bes) (map (map_entry shown) aes) (map shown bids) (map shown asks)
map-shown = map-update coded plain shown price-shown Sound resized-shown ids-shown sound-resized

-- ---- entries

order-shown : (e : OrderEntry) → EntrySound e → shown (order_for e) ≡ shown_order e
unfolding shown order_for shown_order
order-shown e a = ap₂ (λ (p z : Number). record { id = id_bytes e.id; price = p; size = z }) (entry-price e a) (entry-size e a)

event-shown : (event : Event) (x : Order) → map_entry shown (entry_of event x) ≡ entry_of event (shown x)
unfolding map_entry entry_of
event-shown Add x = refl
event-shown Modify x = refl
event-shown Delete x = refl

change-shown : (e : OrderEntry) → EntrySound e → map_entry shown (change_of false e) ≡ shown_change e
unfolding change_of shown_change
change-shown e a = event-shown e.event (order_for e) ∙ ap (entry_of e.event) (order-shown e a)

-- those for one side, each seen in one way or the other
seen-side : {A B : Type 0} (f : OrderEntry → A) (g : A → B) (h : OrderEntry → B) → ((e : OrderEntry) → EntrySound e → g (f e) ≡ h e)
    → (side : Side) (es : List OrderEntry) → All EntrySound es → map g (map f (for_side entry_side side es)) ≡ map h (for_side entry_side side es)
seen-side f g h is side es a = map-map f g (for_side entry_side side es) ∙ map_same EntrySound (λ e. g (f e)) h is (for_side entry_side side es) (all-sided EntrySound side es a)

changes-shown : (side : Side) (es : List OrderEntry) → All EntrySound es → map (map_entry shown) (changes_for false side es) ≡ shown_changes_for side es
unfolding changes_for shown_changes_for
changes-shown side es a = seen-side (change_of false) (map_entry shown) shown_change change-shown side es a

orders-shown : (side : Side) (es : List OrderEntry) → All EntrySound es → map shown (orders_for side es) ≡ shown_orders_for side es
unfolding orders_for shown_orders_for
orders-shown side es a = seen-side order_for shown shown_order order-shown side es a

-- ---- a whole message, as shown

module _ (depth : ℕ) (es : List OrderEntry) (a : All EntrySound es) where
  pub shown-update : (bids asks : List Order) → All Sound bids → All Sound asks
      → map_sides shown (after_update coded depth (changes_for false Bids es) (changes_for false Asks es) bids asks)
      ≡ after_update plain depth (shown_changes_for Bids es) (shown_changes_for Asks es) (map shown bids) (map shown asks)
  shown-update bids asks b s =
      map-shown depth (changes_for false Bids es) (changes_for false Asks es) bids asks (sound-changes false Bids es a) (sound-changes false Asks es a) b s
      ∙ ap₂ (λ (x y : List (Entry SingleOrder)). after_update plain depth x y (map shown bids) (map shown asks)) (changes-shown Bids es a) (changes-shown Asks es a)

  sound-adds : (xs : List Order) → All Sound xs → All (OfEntry Sound) (map adds xs)
  unfolding OfEntry
  sound-adds xs p = all-mapped Sound (OfEntry Sound) adds (λ x q. q) xs p

  shown-adds : (xs : List Order) → map (map_entry shown) (map adds xs) ≡ map adds (map shown xs)
  unfolding map_entry
  shown-adds [] = refl
  shown-adds (x ∷ xs) = ap (λ (r : List (Entry SingleOrder)). adds (shown x) ∷ r) (shown-adds xs)

  sound-orders : (side : Side) → All Sound (orders_for side es)
  unfolding orders_for
  sound-orders side = all-mapped EntrySound Sound order_for sound-entry (for_side entry_side side es) (all-sided EntrySound side es a)

  pub shown-snapshot : map_sides shown (after_snapshot coded depth (orders_for Bids es) (orders_for Asks es)) ≡ after_snapshot plain depth (shown_orders_for Bids es) (shown_orders_for Asks es)
  unfolding All
  shown-snapshot =
      ap (map_sides shown) (sym (snapshot-adds coded (orders_for Bids es) (orders_for Asks es) depth))
      ∙ map-shown depth (map adds (orders_for Bids es)) (map adds (orders_for Asks es)) [] [] (sound-adds (orders_for Bids es) (sound-orders Bids)) (sound-adds (orders_for Asks es) (sound-orders Asks)) tt tt
      ∙ ap₂ (λ (x y : List (Entry SingleOrder)). after_update plain depth x y [] []) (shown-adds (orders_for Bids es) ∙ ap (map adds) (orders-shown Bids es a)) (shown-adds (orders_for Asks es) ∙ ap (map adds) (orders-shown Asks es a))
      ∙ snapshot-adds plain (shown_orders_for Bids es) (shown_orders_for Asks es) depth
