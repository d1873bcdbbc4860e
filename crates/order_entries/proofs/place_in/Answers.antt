-- `place_in` meets its contract: three strings, of which one is an id, and then the event.
use mathlib.Core.Bool.{Bool, ◌&&◌}
use mathlib.Core.Path.{◌≡◌, ◌∙◌, sym}
use Rattle.order_entries.specs.Collected.{once_string}
use Rattle.order_entries.proofs.Placing.{and-next, and-stop, place-strings, place-id, place-order, found_none}
use Rattle.order_entries.proofs.place_in.Goals as goal
use Rattle.order_entries.proofs.place_in.Goals.{Joined-is_once_string-2, then-is_once_string, else-is_once_string, then-is_once_string-2, else-is_once_string-2, else-strings-via-then-strings+else-is_id_at, else-strings-via-else-strings}

-- what the tests of the three strings answered
module _ (c : Joined-is_once_string-2) where
  abbrev id : Bool
  id = once_string c.args.s.now c.args.met.id

  abbrev price : Bool
  price = once_string c.args.s.now c.args.met.price

  abbrev size : Bool
  size = once_string c.args.s.now c.args.met.size

  two : c.if-is_once_string.value ≡ (id && price)
  two = elim c.if-is_once_string.branch [
    | then-is_once_string w ↦ w.value-is ∙ w.is_once_string-then-is_once_string.ensures ∙ and-next (sym c.is_once_string.ensures ∙ w.if-is_once_string.true)
    | else-is_once_string w ↦ w.value-is ∙ w.if-is_once_string.false ∙ and-stop price (sym c.is_once_string.ensures ∙ w.if-is_once_string.false)
  ]

  strings : c.if-is_once_string-2.strings ≡ ((id && price) && size)
  strings = elim c.if-is_once_string-2.branch [
    | then-is_once_string-2 w ↦ w.strings-is ∙ w.is_once_string-strings.ensures ∙ and-next (sym two ∙ w.if-is_once_string-2.true)
    | else-is_once_string-2 w ↦ w.strings-is ∙ w.if-is_once_string-2.false ∙ and-stop size (sym two ∙ w.if-is_once_string-2.false)
  ]

pub returns-then-is_id_at : goal.returns-then-is_id_at
returns-then-is_id_at c =
    let a = c.args in
    let m = (goal.at.returns-then-is_id_at c).Joined-is_once_string-2 in
    record {
      is = place-order a.s.now a.at a.end a.met (sym (strings m) ∙ c.if-strings.true) (sym c.is_id_at.ensures ∙ c.if-is_id_at.true) c.event_of.result c.event_of.ensures;
      laid = record { id = c.requires.id; price = c.requires.price; size = c.requires.size };
    }

pub returns : goal.returns
returns c =
    let a = c.args in
    let m = (goal.at.returns c).Joined-is_once_string-2 in
    found_none a.s.now a.end c.no_order.ensures
    (elim c.else-strings.branch [
      | else-strings-via-then-strings+else-is_id_at w ↦ place-id a.s.now a.at a.end a.met (sym (strings m) ∙ w.if-strings.true) (sym w.is_id_at.ensures ∙ w.if-is_id_at.false)
      | else-strings-via-else-strings w ↦ place-strings a.s.now a.at a.end a.met (sym (strings m) ∙ w.if-strings.false)
    ])
