-- The order out of the members that were met. Assumes nothing.
use Rattle.std.specs.Prelude.{None, Option, Some}
use Prim.Native.Nat.{ℕ, ◌+◌, ◌-◌, ◌<◌}
use mathlib.Core.Path.{◌≡◌, refl, sym, ap, ◌∙◌}
use mathlib.Core.Bool.{Bool, true, false, ◌&&◌, cond}
use mathlib.Core.List.{List}
use native.Mathlib.Omega.{arith}
use lib.Dec.{eqb}
use lib.ListN.{take, drop}
use Rattle.text.specs.Text.{ascii}
use Rattle.json_values.specs.Json.{Span}
use Rattle.json_values.specs.Names.{inner, means}
use Rattle.entries.specs.Places.{and_then, is_string}
use Rattle.layout.specs.MemberSpans.{once_at}
use Rattle.layout.specs.declared.MemberSpan.{MemberSpan}
use Rattle.layout.proofs.MemberSpans.{place_of, once-yes, once-no}
use Rattle.order_edit.specs.Ids.{is_id}
use Rattle.order_edit.specs.declared.Event.{Event}
use Rattle.order_edit.specs.declared.Event.TheVariants.{Add, Modify, Delete}
use Rattle.order_entries.specs.Rows.{OrderRow, string_at, event_at, row_of}
use Rattle.order_entries.specs.Collected.{order_place_of, once_string, event_of, place_in, Laid, Found}
use Rattle.order_entries.specs.declared.OrderPlace.{OrderPlace}
use Rattle.order_entries.specs.declared.OrderMembers.{OrderMembers}

-- ---- strings

string-once : (s : List ℕ) (m : MemberSpan) → and_then (once_at m) (string_at s) ≡ cond (once_string s m) (Some (place_of m)) None
unfolding and_then once_at string_at once_string
string-once s m = at (eqb m.times 1)
  where
    at : (b : Bool) → and_then (cond b (Some (place_of m)) None) (λ a. cond (is_string s a) (Some a) None) ≡ cond (b && is_string s (place_of m)) (Some (place_of m)) None
    at true = refl
    at false = refl

-- ---- the id between its quotes

pub short-id : (s : List ℕ) (a : Span) → a.to - a.from < 2 → is_id (inner s a) ≡ false
unfolding inner is_id
short-id s a h = let n : a.to - a.from - 2 ≡ 0 = omega arith in ap (λ (k : ℕ). is_id (take k (drop (a.from + 1) s))) n

-- ---- the event

module _ (s : List ℕ) (m : MemberSpan) where
  pub no-event : (m.times ≡ 1 → ⊥) → None ≡ event_of s m
  unfolding event_of and_then
  no-event h = sym (rw (once-no m h))

  module _ (h : m.times ≡ 1) where
    pub event-added : means s (place_of m) (ascii "add") ≡ true → Some Add ≡ event_of s m
    unfolding event_of and_then event_at
    event-added a = sym (rw (once-yes m h, a))

    module _ (n : means s (place_of m) (ascii "add") ≡ false) where
      pub event-modified : means s (place_of m) (ascii "modify") ≡ true → Some Modify ≡ event_of s m
      unfolding event_of and_then event_at
      event-modified a = sym (rw (once-yes m h, n, a))

      module _ (o : means s (place_of m) (ascii "modify") ≡ false) where
        pub event-deleted : means s (place_of m) (ascii "delete") ≡ true → Some Delete ≡ event_of s m
        unfolding event_of and_then event_at
        event-deleted a = sym (rw (once-yes m h, n, o, a))

        pub event-other : means s (place_of m) (ascii "delete") ≡ false → None ≡ event_of s m
        unfolding event_of and_then event_at
        event-other a = sym (rw (once-yes m h, n, o, a))

-- ---- tests one after the other

pub and-next : {a b : Bool} → a ≡ true → b ≡ (a && b)
and-next h = sym (rw h)

pub and-stop : {a : Bool} (b : Bool) → a ≡ false → false ≡ (a && b)
and-stop b h = sym (rw h)

-- ---- the order

module _ (s : List ℕ) (at end : ℕ) (met : OrderMembers) where
  abbrev whole : Span
  whole = record { from = at; to = end }

  abbrev strings : Bool
  strings = (once_string s met.id && once_string s met.price) && once_string s met.size

  abbrev row : OrderRow
  row = record { whole = whole; id = place_of met.id; price = place_of met.price; size = place_of met.size; event = and_then (once_at met.event) (event_at s) }

  row-cond : row_of s whole (once_at met.id) (once_at met.price) (once_at met.size) (once_at met.event) ≡ cond strings (cond (is_id (inner s (place_of met.id))) (Some row) None) None
  unfolding row_of and_then
  row-cond =
      rw (string-once s met.id, string-once s met.price, string-once s met.size)
      (go (once_string s met.id) (once_string s met.price) (once_string s met.size))
    where
      go : (b c d : Bool)
          → and_then (cond b (Some (place_of met.id)) None) (λ i.
          and_then (cond c (Some (place_of met.price)) None) (λ p.
          and_then (cond d (Some (place_of met.size)) None) (λ z.
          cond (is_id (inner s i)) (Some (record { whole = whole; id = i; price = p; size = z; event = and_then (once_at met.event) (event_at s) })) None)))
          ≡ cond ((b && c) && d) (cond (is_id (inner s (place_of met.id))) (Some row) None) None
      go true true true = refl
      go true true false = refl
      go true false d = refl
      go false c d = refl

  pub place-strings : strings ≡ false → order_place_of end None ≡ place_in s at end met
  unfolding place_in
  place-strings h = sym (rw (row-cond, h))

  pub place-id : strings ≡ true → is_id (inner s (place_of met.id)) ≡ false → order_place_of end None ≡ place_in s at end met
  unfolding place_in
  place-id h i = sym (rw (row-cond, h, i))

  pub place-order : strings ≡ true → is_id (inner s (place_of met.id)) ≡ true → (event : Option Event) → event ≡ event_of s met.event
      → ◌≡◌ {A = OrderPlace} (record {
        end = end;
        well_formed = true;
        id_from = met.id.from;
        id_to = met.id.to;
        price_from = met.price.from;
        price_to = met.price.to;
        size_from = met.size.from;
        size_to = met.size.to;
        event = event;
      }) (place_in s at end met)
  unfolding place_in order_place_of event_of
  place-order h i event e = sym (rw (row-cond, h, i, e))

-- ---- where its texts lie

pub none-laid : (s : List ℕ) (end : ℕ) (f : OrderPlace) → f ≡ order_place_of end None → Laid s f
unfolding order_place_of
none-laid s end f e =
    rw e
    (record { id = (omega arith, omega arith); price = (omega arith, omega arith); size = (omega arith, omega arith) })

pub found_none : (s : List ℕ) (end : ℕ) {told f : OrderPlace} → f ≡ order_place_of end None → order_place_of end None ≡ told → Found s told f
found_none s end {f = f} e h = record { is = e ∙ h; laid = none-laid s end f e }
