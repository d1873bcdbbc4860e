-- An entry that was packed comes back out of its six words. Assumes nothing.
use Prim.Native.Nat.{ℕ, ◌+◌, ◌*◌, ◌/◌, ◌%◌, ◌^◌, ◌≤◌, ◌<◌}
use mathlib.Core.Path.{◌≡◌, refl, ap, ◌∙◌}
use native.Mathlib.Omega.{arith}
use lib.Dec.{lit<}
use Rattle.decimal.specs.Limits.{Within}
use Rattle.decimal.specs.Words.{digits_near, code_of}
use Rattle.decimal.proofs.Words.{words-number, code-low}
use Rattle.edit.specs.Buffer.{side_number}
use Rattle.edit.proofs.Packing.{low, high, side-out, side-few}
use Rattle.order_edit.specs.declared.Event.{Event}
use Rattle.order_edit.specs.declared.Event.TheVariants.{Add, Modify, Delete}
use Rattle.order_edit.specs.Buffer.{OrderEntry, event_number, event_in, entry_of}

event-out : (event : Event) → event_in (event_number event) ≡ event
unfolding event_in event_number
event-out Add = refl
event-out Modify = refl
event-out Delete = refl

pub event-few : (event : Event) → event_number event ≤ 2
unfolding event_number
event-few Add = omega arith
event-few Modify = omega arith
event-few Delete = omega arith

module _ (e : OrderEntry) (price : Within e.price) (size : Within e.size) where
  abbrev codes : ℕ
  codes = code_of e.price + 2 ^ 16 * code_of e.size

  abbrev marks : ℕ
  marks = side_number e.side + 2 * event_number e.event

  abbrev pub packed : ℕ
  packed = codes + 2 ^ 32 * marks

  few-price : code_of e.price < 2 ^ 16
  few-price = let h = code-low e.price price.few in omega arith

  few-size : code_of e.size < 2 ^ 16
  few-size = let h = code-low e.size size.few in omega arith

  few-codes : codes < 2 ^ 32
  few-codes = let h = code-low e.price price.few in let k = code-low e.size size.few in omega arith

  regrouped : packed ≡ code_of e.price + 2 ^ 16 * (code_of e.size + 2 ^ 16 * marks)
  regrouped = omega arith

  marks-part : packed / 2 ^ 32 ≡ marks
  marks-part = high (2 ^ 32) codes marks (lit< tt) few-codes

  side-low : side_number e.side < 2
  side-low = let h = side-few e.side in omega arith

  side-part : packed / 2 ^ 32 % 2 ≡ side_number e.side
  side-part = ap (λ (n : ℕ). n % 2) marks-part ∙ low 2 (side_number e.side) (event_number e.event) side-low

  event-part : packed / 2 ^ 32 / 2 ≡ event_number e.event
  event-part = ap (λ (n : ℕ). n / 2) marks-part ∙ high 2 (side_number e.side) (event_number e.event) (lit< tt) side-low

  price-part : packed % 2 ^ 16 ≡ code_of e.price
  price-part = ap (λ (n : ℕ). n % 2 ^ 16) regrouped ∙ low (2 ^ 16) (code_of e.price) (code_of e.size + 2 ^ 16 * marks) few-price

  size-part : packed / 2 ^ 16 % 2 ^ 16 ≡ code_of e.size
  size-part =
      ap (λ (n : ℕ). n / 2 ^ 16 % 2 ^ 16) regrouped
      ∙ ap (λ (n : ℕ). n % 2 ^ 16) (high (2 ^ 16) (code_of e.price) (code_of e.size + 2 ^ 16 * marks) (lit< tt) few-price)
      ∙ low (2 ^ 16) (code_of e.size) marks few-size

  pub entry-packed : entry_of (digits_near e.price) (digits_near e.size) packed e.id.first e.id.second e.id.third ≡ e
  unfolding entry_of
  entry-packed =
      rw (side-part, event-part, price-part, size-part, side-out e.side, event-out e.event, words-number e.price price.few, words-number e.size size.few)
