-- One order more is counted and put into the buffer, or what was met are no orders. Assumes nothing.
use Rattle.std.specs.Prelude.{None, Some, is_some}
use Prim.Native.Nat.{ℕ}
use mathlib.Core.Path.{◌≡◌, refl, sym, ap, ◌∙◌, subst}
use mathlib.Core.Bool.{true, false, true≢false}
use mathlib.Core.List.{List}
use lib.ListN.{length}
use Rattle.edit.specs.declared.Side.{Side}
use Rattle.entries.proofs.Strings.{no_row, same_row}
use Rattle.order_edit.specs.Buffer.{OrderEntry, buffer_words, order_entry, Put}
use Rattle.order_entries.specs.Collected.{order_place_of}
use Rattle.order_entries.specs.Saying.{entry_at, bad_quantity, bad_at, row_from, ReadAs}
use Rattle.order_entries.specs.declared.OrderPlace.{OrderPlace}
use Rattle.order_entries.specs.declared.OrderRead.{OrderRead}
use Rattle.order_arrays.specs.Tally.{not_orders, counted, one_more, tallied_one, met, CountedAt}
use Rattle.order_arrays.specs.declared.OrderTally.{OrderTally}

module _ (s : List ℕ) (side : Side) (t : OrderTally) (f : OrderPlace) (before : List ℕ) where
  -- what is counted of an order that was found
  abbrev counted_at : OrderPlace → OrderTally
  counted_at x = counted t side (is_some x.event) (bad_at false s (row_from 0 x)) (bad_at true s (row_from 0 x))

  pub counted-order : f.well_formed ≡ true → t.well_formed ≡ true → (o : OrderRead) → ReadAs s side f o
      → (r : OrderTally) → r ≡ counted t side (is_some f.event) o.broken_at o.strict_at
      → (after : List ℕ) → Put before (met t) (order_entry o.entry) after → CountedAt s side t f before after r
  unfolding order_place_of tallied_one one_more bad_at bad_quantity entry_at
  counted-order fair formed o read r told after put (Some row) h =
      record {
        told = told ∙ rw (read.broken 0, read.strict 0) refl ∙ ap counted_at h ∙ rw formed refl;
        room = put.room;
        put = λ g x q. subst (λ (e : OrderEntry). Put before (met t) e after) (read.says 0 ∙ ap (λ (y : OrderPlace). entry_at s side (row_from 0 y)) h ∙ ap (entry_at s side) (sym (same_row q))) put;
      }
  counted-order fair formed o read r told after put None h = absurd (true≢false (sym fair ∙ ap (λ (x : OrderPlace). x.well_formed) h))

  pub counted-after : f.well_formed ≡ true → t.well_formed ≡ false → length before ≡ buffer_words → CountedAt s side t f before before t
  unfolding order_place_of tallied_one one_more
  counted-after fair unformed room (Some row) h = record { told = rw unformed refl; room = room; put = λ g. absurd (true≢false (sym g ∙ unformed)) }
  counted-after fair unformed room None h = absurd (true≢false (sym fair ∙ ap (λ (x : OrderPlace). x.well_formed) h))

  pub counted_none : f.well_formed ≡ false → length before ≡ buffer_words → (r : OrderTally) → r ≡ not_orders → CountedAt s side t f before before r
  unfolding order_place_of tallied_one
  counted_none unfair room r told (Some row) h = absurd (true≢false (sym (ap (λ (x : OrderPlace). x.well_formed) h) ∙ unfair))
  counted_none unfair room r told None h = record { told = told; room = room; put = λ g x q. no_row q }
