-- `read_order` meets its contract: each text is read once, and counts as the definition has it.
use Rattle.std.specs.Prelude.{None, Option, Some, unwrap_or}
use mathlib.Core.Path.{◌≡◌, ◌∙◌, refl, sym, ap, ap₂, subst}
use mathlib.Core.Bool.{Bool, true}
use Rattle.decimal.specs.Decimal.{number}
use Rattle.decimal.specs.Limits.{Within}
use Rattle.entries.specs.Rows.{is_bad_price, is_bad_size, bad_price, bad_size, number_in, number_at}
use Rattle.entries.proofs.Numbers.{number-within}
use Rattle.order_entries.specs.Collected.{price_span, size_span}
use Rattle.order_edit.specs.declared.Event.{Event}
use Rattle.order_edit.specs.declared.Event.TheVariants.{Add}
use Rattle.order_entries.specs.Saying.{event_or, stays_of, entry_at, bad_quantity, first_bad, bad_at}
use Rattle.order_entries.proofs.saying.read_order.Goals as goal
use Rattle.order_entries.proofs.saying.read_order.Lts as lts
use Rattle.order_entries.proofs.saying.read_order.Tie as tie
use Rattle.order_entries.proofs.saying.read_order.Reads as reads

-- Places in the code.
abbrev After-number_of-2 : Type 0
After-number_of-2 = lts.After-number_of2 tie.the-claims reads.Pre reads.Post

-- an order that names no event is added
event-or-add : (x : Option Event) → unwrap_or x Add ≡ event_or x
unfolding event_or
event-or-add (Some event) = refl
event-or-add None = refl

-- the numbers of the two texts
module _ (c : After-number_of-2) where
  price-number : number c.number_of.result ≡ number_at c.args.s.now (price_span c.args.found)
  unfolding number_at
  price-number = c.number_of.ensures ∙ ap number_in c.parse_text-price.ensures

  size_number : number c.number_of-2.result ≡ number_at c.args.s.now (size_span c.args.found)
  unfolding number_at
  size_number = c.number_of-2.ensures ∙ ap number_in c.parse_text-size.ensures

pub returns : goal.returns
unfolding entry_at bad_at bad_quantity bad_price bad_size
returns c =
    let a = c.args in
    let s = a.s.now in
    let n = c.before.before.before in
    let size = c.parse_text-size.ensures in
    let event = c.unwrap_or-event.ensures ∙ event-or-add a.found.event in
    let price = c.is_bad_price-bad.ensures ∙ ap is_bad_price c.parse_text-price.ensures in
    let stays = c.is_staying.ensures ∙ ap stays_of event in
    record {
      says = λ at. rw (event, c.id_at-id.ensures, price-number n, size_number n);
      broken = λ at. c.first_bad.ensures ∙ ap₂ (λ (p z : Bool). first_bad p a.found.price_from z a.found.size_from) price (c.is_bad_size-loose.ensures ∙ ap₂ is_bad_size stays size);
      strict = λ at. c.first_bad-2.ensures ∙ ap₂ (λ (p z : Bool). first_bad p a.found.price_from z a.found.size_from) price (c.is_bad_size-zero.ensures ∙ ap (is_bad_size true) size);
      price = subst Within (sym (price-number n)) (number-within s (price_span a.found));
      size = subst Within (sym (size_number n)) (number-within s (size_span a.found));
    }
