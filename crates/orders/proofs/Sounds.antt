-- An order that was made carries its sum, and so does a resized one, which keeps its price. Assumes nothing.
use mathlib.Core.Path.{◌≡◌, sym, ap₂, subst}
use Rattle.decimal.specs.Decimal.{Number}
use Rattle.decimal.specs.Limits.{Within}
use Rattle.settings.specs.declared.SumText.TheVariants.{Stripped}
use Rattle.piece.specs.Piece.{k_piece}
use Rattle.checksum.specs.Carried.{Carries}
use Rattle.checksum.proofs.Pieces.{level-price, level-size, level-carries}
use Rattle.order_edit.specs.declared.Id.{Id}
use Rattle.order_edit.specs.Ids.{Packed}
use Rattle.order_edit.specs.Buffer.{OrderEntry}
use Rattle.orders.specs.declared.Order.{Order}
use Rattle.orders.specs.Words.{level_of_order, order_price, order_size, resized_order, Sound, EntrySound, order_for}

made-sound : (price size : Number) (id : Id) → Within price → Within size → Packed id → Sound (record { level = level_of_order price size; id = id })
made-sound price size id p s k =
    let a = level-price Stripped price size p s in
    let b = level-size Stripped price size p s in
    record { price = subst Within (sym a) p; size = subst Within (sym b) s; carries = sym (ap₂ level_of_order a b); packed = k }

-- such a level carries the sum of a piece of K's text
pub sound-carries : (x : Order) → Sound x → Carries k_piece x.level
sound-carries x a = subst (Carries k_piece) (sym a.carries) (level-carries Stripped (order_price x) (order_size x) a.price a.size)

module _ (x y : Order) (a : Sound x) (b : Sound y) where
  pub keeps-price : order_price (resized_order x y) ≡ order_price x
  unfolding resized_order
  keeps-price = level-price Stripped (order_price x) (order_size y) a.price b.size

  pub takes-size : order_size (resized_order x y) ≡ order_size y
  unfolding resized_order
  takes-size = level-size Stripped (order_price x) (order_size y) a.price b.size

  pub sound-resized : Sound (resized_order x y)
  unfolding resized_order
  sound-resized = made-sound (order_price x) (order_size y) x.id a.price b.size a.packed

module _ (e : OrderEntry) (a : EntrySound e) where
  pub entry-price : order_price (order_for e) ≡ e.price
  unfolding order_for
  entry-price = level-price Stripped e.price e.size a.price a.size

  pub entry-size : order_size (order_for e) ≡ e.size
  unfolding order_for
  entry-size = level-size Stripped e.price e.size a.price a.size

  pub sound-entry : Sound (order_for e)
  unfolding order_for
  sound-entry = made-sound e.price e.size e.id a.price a.size a.packed
