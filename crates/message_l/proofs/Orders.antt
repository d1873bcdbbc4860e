-- What is told of orders, array by array: the tally and the buffer go on telling what was read. Assumes nothing.
use Rattle.std.specs.Prelude.{None, Option, Some, is_some}
use Prim.Native.Nat.{ℕ, zero, suc, ◌+◌}
use mathlib.Core.Path.{◌≡◌, refl, sym, ap, ◌∙◌, subst}
use mathlib.Core.Bool.{Bool, true, false, cond}
use mathlib.Core.List.{List, [], ◌∷◌, ◌++◌, map}
use native.Mathlib.Omega.{arith}
use lib.ListN.{length, take, length-append}
use Rattle.edit.specs.declared.Side.{Side}
use Rattle.edit.specs.declared.Side.TheVariants.{Bids, Asks}
use Rattle.json_values.specs.Json.{Span, value}
use Rattle.json_values.specs.Fold.{fold_from}
use Rattle.entries.specs.Places.{and_then, and_also}
use Rattle.entries.specs.Tally.{one_bid, one_ask}
use Rattle.entries.proofs.Strings.{no_row, same_row}
use Rattle.entries.proofs.Tallies.{not-read, also-reads, fold-append, map-append}
use Rattle.order_edit.specs.Buffer.{OrderEntry, max_buffered, entries_in}
use Rattle.order_entries.specs.Rows.{OrderRow}
use Rattle.order_entries.specs.Saying.{bad_at}
use Rattle.order_arrays.specs.Tally.{none_yet, counted, one_more, orders_at, tallied, told_at, met, Met}
use Rattle.order_arrays.specs.declared.OrderTally.{OrderTally}
use Rattle.order_arrays.specs.declared.Orders.{Orders}
use Rattle.message_l.specs.Orders.{SidedOrder, sided_order, sided_orders_at, entry_of, one_sided, tally_of}
use Rattle.message_l.specs.Collected.{Holds}

-- ---- what is counted

pub record Grown (t : OrderTally) (n : ℕ) (u : OrderTally) : Type 0 where
  pub formed : u.well_formed ≡ true
  pub count : met u ≡ met t + n

module _ (s : List ℕ) where
  one-grown : (t : OrderTally) (o : SidedOrder) → t.well_formed ≡ true → Grown t 1 (one_sided s t o)
  unfolding one_more counted
  one-grown t o h = subst (Grown t 1) (sym (ap (λ (b : Bool). cond b more t) h)) (record { formed = h; count = go o.side })
    where
      more : OrderTally
      more = counted t o.side (is_some o.row.event) (bad_at false s o.row) (bad_at true s o.row)

      go : (side : Side) → t.bids + one_bid side + (t.asks + one_ask side) ≡ met t + 1
      go Bids = omega arith
      go Asks = omega arith

  all_grown : (t : OrderTally) (os : List SidedOrder) → t.well_formed ≡ true → Grown t (length os) (fold_from (one_sided s) t os)
  unfolding fold_from
  all_grown t [] h = record { formed = h; count = omega arith }
  all_grown t (o ∷ os) h =
      let g = one-grown t o h in
      let r = all_grown (one_sided s t o) os g.formed in
      let n = g.count in
      let m = r.count in
      record { formed = r.formed; count = omega arith }

  pub tally-grown : (os : List SidedOrder) → Grown none_yet (length os) (tally_of s os)
  tally-grown os = all_grown none_yet os refl

  -- those of one side
  fold-sided : (side : Side) (t : OrderTally) (rows : List OrderRow) → fold_from (one_more s side) t rows ≡ fold_from (one_sided s) t (map (sided_order side) rows)
  unfolding fold_from
  fold-sided side t [] = refl
  fold-sided side t (r ∷ rows) = fold-sided side (one_more s side t r) rows

  -- what is no order stays told
  fold-unformed : (side : Side) (t : OrderTally) (rows : List OrderRow) → t.well_formed ≡ false → (fold_from (one_more s side) t rows).well_formed ≡ false
  unfolding fold_from one_more
  fold-unformed side t [] h = h
  fold-unformed side t (r ∷ rows) h =
      ap (λ (u : OrderTally). (fold_from (one_more s side) u rows).well_formed) (one-unformed h) ∙ fold-unformed side t rows h
    where
      one-unformed : t.well_formed ≡ false → one_more s side t r ≡ t
      one-unformed g = rw g refl

  tallied-unformed : (side : Side) (t : OrderTally) (x : Option (List OrderRow)) → t.well_formed ≡ false → (tallied s side t x).well_formed ≡ false
  unfolding tallied
  tallied-unformed side t (Some rows) h = fold-unformed side t rows h
  tallied-unformed side t None h = refl

-- a front that is cut twice
cut_twice : {A : Type 0} (n : ℕ) (a b : List A) → take n (take n a ++ b) ≡ take n (a ++ b)
cut_twice zero a b = refl
cut_twice (suc n) [] b = refl
cut_twice (suc n) (x ∷ a) b = ap (λ t. x ∷ t) (cut_twice n a b)

-- ---- no order yet

pub holds-none : (s buffer : List ℕ) → Holds s (Some []) none_yet buffer
unfolding fold_from
holds-none s buffer = record { all = λ os h. ap (tally_of s) (sym (same_row h)); none = λ h. not-read h; front = λ os h. rw (same_row h) refl }

-- ---- an array of orders more

-- the rows of orders of one side
record Sided (side : Side) (x : Option (List OrderRow)) (os : List SidedOrder) : Type 0 where
  rows : List OrderRow
  read : x ≡ Some rows
  are : os ≡ map (sided_order side) rows

sided : (side : Side) (x : Option (List OrderRow)) (os : List SidedOrder) → and_then x (λ rows. Some (map (sided_order side) rows)) ≡ Some os → Sided side x os
unfolding and_then
sided side (Some rows) os h = record { rows = rows; read = refl; are = same_row h }
sided side None os h = no_row h

module _ (s : List ℕ) (x : Option (List SidedOrder)) (t : OrderTally) (side : Side) (at : ℕ) (before after : List ℕ) (r : Orders) (held : Holds s x t before)
    (now : Met s 13 side t at before after r) (e : ℕ) (v : value 13 s at ≡ Some e) where
  abbrev here : Span
  here = record { from = at; to = e }

  abbrev rows-read : Option (List OrderRow)
  rows-read = orders_at 13 s here

  abbrev y : Option (List SidedOrder)
  y = sided_orders_at side s here

  pub tally-is : r.tally ≡ tallied s side t rows-read
  unfolding told_at
  tally-is = ap (λ (o : Orders). o.tally) (now.told ∙ is)
    where
      is : told_at s 13 side t at ≡ record { end = e; tally = tallied s side t rows-read }
      is = rw (v, told_at)

  every : (os : List SidedOrder) → and_also x y ≡ Some os → r.tally ≡ tally_of s os
  unfolding sided_orders_at tallied
  every os h =
      let b = also-reads x y os h in
      let o = sided side rows-read b.back b.reads-back in
      tally-is
      ∙ ap (tallied s side t) o.read
      ∙ fold-sided s side t o.rows
      ∙ ap (fold_from (one_sided s) t) (sym o.are)
      ∙ ap (λ (u : OrderTally). fold_from (one_sided s) u b.back) (held.all b.front b.reads-front)
      ∙ sym (fold-append (one_sided s) none_yet b.front b.back)
      ∙ ap (tally_of s) (sym b.both)

  none : and_also x y ≡ None → r.tally.well_formed ≡ false
  unfolding and_also and_then sided_orders_at tallied
  none h = ap (λ (u : OrderTally). u.well_formed) tally-is ∙ go x refl rows-read h
    where
      go : (z : Option (List SidedOrder)) → x ≡ z → (w : Option (List OrderRow)) → and_also z (and_then w (λ rows. Some (map (sided_order side) rows))) ≡ None
          → (tallied s side t w).well_formed ≡ false
      go (Some l) q (Some rows) g = not-read g
      go (Some l) q None g = refl
      go None q w g = tallied-unformed s side t w (held.none q)

  front : (os : List SidedOrder) → and_also x y ≡ Some os → take (length os) (entries_in after) ≡ take max_buffered (map (entry_of s) os)
  unfolding sided_orders_at
  front os h =
      let b = also-reads x y os h in
      let o = sided side rows-read b.back b.reads-back in
      let g = tally-grown s b.front in
      let is = held.all b.front b.reads-front in
      let formed : t.well_formed ≡ true = ap (λ (u : OrderTally). u.well_formed) is ∙ g.formed in
      let n : met t ≡ length b.front = ap met is ∙ g.count ∙ plain (length b.front) in
      let m : length b.back ≡ length o.rows = ap length o.are ∙ length-map o.rows in
      let l : length os ≡ met t + length o.rows = let q = ap length b.both ∙ length-append b.front b.back in omega arith in
      let says = map (entry_of s) in
      ap (λ (k : ℕ). take k (entries_in after)) l
      ∙ now.kept formed e v o.rows o.read
      ∙ ap (λ (z : List OrderEntry). take max_buffered (z ++ map (λ (row : OrderRow). entry_of s (sided_order side row)) o.rows)) (ap (λ (k : ℕ). take k (entries_in before)) n ∙ held.front b.front b.reads-front)
      ∙ ap (λ (z : List OrderEntry). take max_buffered (take max_buffered (says b.front) ++ z)) (map-map o.rows ∙ ap says (sym o.are))
      ∙ cut_twice max_buffered (says b.front) (says b.back)
      ∙ ap (take max_buffered) (sym (map-append (entry_of s) b.front b.back) ∙ ap says (sym b.both))
    where
      plain : (k : ℕ) → met none_yet + k ≡ k
      plain k = omega arith

      length-map : (rows : List OrderRow) → length (map (sided_order side) rows) ≡ length rows
      length-map [] = refl
      length-map (row ∷ rows) = ap suc (length-map rows)

      map-map : (rows : List OrderRow) → map (λ (row : OrderRow). entry_of s (sided_order side row)) rows ≡ map (entry_of s) (map (sided_order side) rows)
      map-map [] = refl
      map-map (row ∷ rows) = ap (λ (z : List OrderEntry). entry_of s (sided_order side row) ∷ z) (map-map rows)

  pub holds_more : Holds s (and_also x y) r.tally after
  holds_more = record { all = every; none = none; front = front }
