-- An array of orders, order by order: what was met of the elements that were passed, what is left of them, and the buffer that has what they say. At the
-- end all of them were met. Assumes nothing.
use Rattle.std.specs.Prelude.{None, Option, Some, ℕ, is_some}
use Prim.Native.Nat.{ℕ, zero, suc, ◌+◌, ◌-◌, ◌≤◌, ◌<◌}
use mathlib.Core.Path.{◌≡◌, refl, sym, ap, ◌∙◌, subst}
use mathlib.Core.Bool.{Bool, true, false, cond}
use mathlib.Core.List.{List, [], ◌∷◌, ◌++◌, map}
use native.Mathlib.Omega.{arith}
use borrow.Author.Tests.{eq-eqb, ne_eqb}
use lib.ListN.{length, take, set}
use Rattle.text.specs.Text.{byte_at}
use Rattle.edit.specs.declared.Side.{Side}
use Rattle.edit.specs.declared.Side.TheVariants.{Bids, Asks}
use Rattle.json_tokens.specs.Tokens.{blanks, closing, separator}
use Rattle.json_tokens.specs.Ends.{end_of}
use Rattle.json_tokens.proofs.Laws.{end-at}
use Rattle.json_tokens.proofs.Bounds.{bounds, end-broken, blanks-in, closing-in}
use Rattle.json_values.specs.Json.{Span, items, no_items, items_end, element, elements, value}
use Rattle.json_values.specs.Fold.{fold_from}
use Rattle.json_values.proofs.Bounds.{value_in}
use Rattle.json_values.proofs.Laws.{value-array}
use Rattle.json_values.proofs.Fold.{Left, Stands, no-element, element-stands, fold-empty, fold_start, fold-wrong, fold-further, fold_on, fold-last, fold-broken}
use Rattle.entries.specs.Places.{and_then, all, and_also, contents, array_at}
use Rattle.entries.specs.Tally.{one_bid, one_ask}
use Rattle.entries.proofs.Stops.{broken-at}
use Rattle.entries.proofs.Strings.{no_row, same_row}
use Rattle.entries.proofs.Tallies.{also-reads, all_append, fold-append}
use Rattle.entries.proofs.Arrays.{said-none, said-one, passing, passed-all, one-row}
use Rattle.order_edit.specs.Buffer.{max_buffered, buffer_words, entries_in}
use Rattle.order_edit.specs.Buffer as buffers
use Rattle.order_edit.proofs.Sixes.{sixes-length}
use Rattle.order_entries.specs.Rows.{OrderRow, order_row}
use Rattle.order_entries.specs.Collected.{order_place_of, order_place_at}
use Rattle.order_entries.specs.Saying.{entry_at, bad_at}
use Rattle.order_entries.specs.declared.OrderPlace.{OrderPlace}
use Rattle.order_arrays.specs.Tally.{orders_at, told_not, counted, one_more, tallied, tallied_one, told_at, met, Counted, CountedAt, Met}
use Rattle.order_arrays.specs.declared.OrderTally.{OrderTally}

-- the orders that a buffer holds
buffer-full : (buffer : List ℕ) → length buffer ≡ buffer_words → length (entries_in buffer) ≡ max_buffered
unfolding entries_in
buffer-full buffer h = sixes-length buffers.entry_of 256 buffer h

-- ---- one order more

module _ (s : List ℕ) (side : Side) where
  one-met : (t : OrderTally) (r : OrderRow) → t.well_formed ≡ true → met (one_more s side t r) ≡ suc (met t)
  unfolding one_more counted
  one-met t r h = rw h (go side)
    where
      go : (x : Side) → t.bids + one_bid x + (t.asks + one_ask x) ≡ suc (met t)
      go Bids = omega arith
      go Asks = omega arith

  one-formed : (t : OrderTally) (r : OrderRow) → t.well_formed ≡ true → (one_more s side t r).well_formed ≡ true
  unfolding one_more counted
  one-formed t r h = rw h

  rows-met : (t : OrderTally) (rows : List OrderRow) → t.well_formed ≡ true → met (fold_from (one_more s side) t rows) ≡ met t + length rows
  unfolding fold_from
  rows-met t [] h = omega arith
  rows-met t (r ∷ rows) h = let m = rows-met (one_more s side t r) rows (one-formed t r h) in let n = one-met t r h in omega arith

  rows-formed : (t : OrderTally) (rows : List OrderRow) → t.well_formed ≡ true → (fold_from (one_more s side) t rows).well_formed ≡ true
  unfolding fold_from
  rows-formed t [] h = h
  rows-formed t (r ∷ rows) h = rows-formed (one_more s side t r) rows (one-formed t r h)

  -- one more, at most
  few-one : (t : OrderTally) (y : Option OrderRow) → met (tallied_one s side t y) ≤ suc (met t)
  unfolding tallied_one one_more counted
  few-one t (Some r) = go t.well_formed refl
    where
      go : (b : Bool) → t.well_formed ≡ b → met (cond b (counted t side (is_some r.event) (bad_at false s r) (bad_at true s r)) t) ≤ suc (met t)
      go true h = let n : met (counted t side (is_some r.event) (bad_at false s r) (bad_at true s r)) ≡ suc (met t) = rw h at (one-met t r h) in omega arith
      go false h = omega arith
  few-one t None = omega arith

  tallied-one : (t : OrderTally) (x : Option (List OrderRow)) (y : Option OrderRow)
      → tallied_one s side (tallied s side t x) y ≡ tallied s side t (and_also x (and_then y (λ r. Some (r ∷ []))))
  unfolding tallied tallied_one and_also and_then one_more fold_from
  tallied-one t (Some rows) (Some r) = sym (fold-append (one_more s side) t rows (r ∷ []))
  tallied-one t (Some rows) None = refl
  tallied-one t None (Some r) = refl
  tallied-one t None None = refl

-- ---- what was found at a position

module _ (d : ℕ) (s : List ℕ) (i : ℕ) where
  place_end : (order_place_at d s i).end ≡ end_of (value d s i)
  unfolding order_place_at end_of order_place_of
  place_end = go (value d s i)
    where
      at_value : (e : ℕ) (y : Option OrderRow) → (order_place_of e y).end ≡ e
      at_value e (Some r) = refl
      at_value e None = refl

      go : (x : Option ℕ) → (elim x as (λ y. OrderPlace) [ Some e ↦ order_place_of e (order_row d s (record { from = i; to = e })) | None ↦ order_place_of 0 None ]).end ≡ end_of x
      go (Some e) = at_value e (order_row d s (record { from = i; to = e }))
      go None = refl

  place_is : (e : ℕ) → value d s i ≡ Some e → order_place_at d s i ≡ order_place_of e (order_row d s (record { from = i; to = e }))
  unfolding order_place_at
  place_is e v = rw (v, order_place_at)

-- ---- the value at a position, as an array of orders

module _ (s : List ℕ) (depth : ℕ) (side : Side) (t : OrderTally) (at : ℕ) where
  told_is : (e : ℕ) → value depth s at ≡ Some e → told_at s depth side t at ≡ record { end = e; tally = tallied s side t (orders_at depth s (record { from = at; to = e })) }
  unfolding told_at
  told_is e v = rw (v, told_at)

  told-broken : value depth s at ≡ None → told_at s depth side t at ≡ told_not 0
  unfolding told_at
  told-broken v = rw (v, told_at)

orders-in : (d : ℕ) (s : List ℕ) (a : Span) → orders_at (suc d) s a ≡ and_then (array_at (suc d) s a) (all (order_row d s))
unfolding orders_at
orders-in d s a = let n : suc d - 1 ≡ d = omega arith in ap (λ (k : ℕ). and_then (array_at (suc d) s a) (all (order_row k s))) n

module _ (s : List ℕ) (at : ℕ) (d : ℕ) (side : Side) (t : OrderTally) (before : List ℕ) where
  abbrev order : Span → Option OrderRow
  order = order_row d s

  -- behind those that were met before, the buffer has what these orders say
  pub Has : List OrderRow → List ℕ → Type 0
  Has rows after = take (met t + length rows) (entries_in after) ≡ take max_buffered (take (met t) (entries_in before) ++ map (entry_at s side) rows)

  -- the same of elements, if they are orders
  pub Filled : List Span → List ℕ → Type 0
  Filled l after = t.well_formed ≡ true → (rows : List OrderRow) → all order l ≡ Some rows → Has rows after

  has_one : (rows : List OrderRow) (r : OrderRow) (buffer after : List ℕ) → length before ≡ buffer_words → length buffer ≡ buffer_words
      → entries_in after ≡ set (entries_in buffer) (met t + length rows) (entry_at s side r) → Has rows buffer → Has (rows ++ (r ∷ [])) after
  unfolding Has
  has_one rows r buffer after first room now had =
      said-one max_buffered (entries_in before) (buffer-full before first) (entry_at s side) (met t) rows r (entries_in buffer) (entries_in after) (buffer-full buffer room) now had

  -- the loop stands at i
  pub record Going (i : ℕ) (tally : OrderTally) (buffer : List ℕ) : Type 0 where
    pub passed : List Span
    pub left : Left (passing d s) passed i (elements (value d s) s (at + 1))
    pub told : tally ≡ tallied s side t (all order passed)
    pub filled : Filled passed buffer
    pub few : met tally ≤ i
    pub first : length before ≡ buffer_words
    pub room : length buffer ≡ buffer_words

  filled_none : length before ≡ buffer_words → Filled [] before
  unfolding Filled Has all
  filled_none room formed rows h =
      let e : rows ≡ [] = same_row h in
      rw e (said-none max_buffered (entries_in before) (buffer-full before room) (entry_at s side) (met t))

  -- ---- at the end of the array, or where it is not JSON
  module _ (depth : ℕ) (deep : suc d ≡ depth) (opens : byte_at s at ≡ 91) where
    holds : (e : ℕ) → array_at (suc d) s (record { from = at; to = e }) ≡ contents (elements (value d s) s (at + 1))
    unfolding array_at
    holds e = rw (eq-eqb (byte_at s at) 91 opens)

    met-items : (l : List Span) (e : ℕ) (tally : OrderTally) (after : List ℕ) → items l e ≡ elements (value d s) s (at + 1) → tally ≡ tallied s side t (all order l) → Filled l after
        → met tally ≤ e → length after ≡ buffer_words → Met s depth side t at before after (record { end = e; tally = tally })
    unfolding Filled Has contents and_then items_end
    met-items l e tally after h told filled few room =
        subst (λ (k : ℕ). Met s k side t at before after (record { end = e; tally = tally })) deep
        (record { told = all_told; few = λ n. few; room = room; kept = λ formed k v rows g. filled formed rows (sym (these k) ∙ g) })
      where
        ends : value (suc d) s at ≡ Some e
        ends = value-array s at d opens ∙ ap items_end (sym h)

        these : (k : ℕ) → orders_at (suc d) s (record { from = at; to = k }) ≡ all order l
        these k = orders-in d s (record { from = at; to = k }) ∙ ap (λ (x : Option (List Span)). and_then x (all order)) (holds k ∙ ap contents (sym h))

        all_told : record { end = e; tally = tally } ≡ told_at s (suc d) side t at
        all_told =
            ap (λ (x : OrderTally). record { end = e; tally = x }) (told ∙ ap (tallied s side t) (sym (these e)))
            ∙ sym (told_is s (suc d) side t at e ends)

    met-none : (after : List ℕ) → no_items ≡ elements (value d s) s (at + 1) → length after ≡ buffer_words → Met s depth side t at before after (told_not 0)
    unfolding items_end
    met-none after h room =
        subst (λ (k : ℕ). Met s k side t at before after (told_not 0)) deep
        (record { told = sym (told-broken s (suc d) side t at broken); few = λ n. absurd (n refl); room = room; kept = λ formed e v. broken-at broken v })
      where
        broken : value (suc d) s at ≡ None
        broken = value-array s at d opens ∙ ap items_end (sym h)

  -- ---- the array is empty, or its first order is to begin at k
  module _ (room : length before ≡ buffer_words) (few : met t ≤ at) where
    pub going-empty : (depth : ℕ) → suc d ≡ depth → byte_at s at ≡ 91 → (e : ℕ) → closing 93 s (at + 1) ≡ Some e → Met s depth side t at before before (record { end = e; tally = t })
    unfolding elements fold_from tallied all
    going-empty depth deep opens e h =
        let b = bounds e (closing-in s 93 (at + 1) (omega arith)) h in
        met-items depth deep opens [] e t before (fold-empty (passing d s) [] (at + 1) e h ∙ passed-all d s (elements (value d s) s (at + 1))) refl (filled_none room) (omega arith) room

    pub going_start : closing 93 s (at + 1) ≡ None → (k : ℕ) → k ≡ blanks s (at + 1) → Going k t before
    unfolding elements fold_from tallied all
    going_start h k b =
        let further = (blanks-in s (at + 1)).0 in
        record {
          passed = [];
          left = subst (Left (passing d s) [] k) (passed-all d s (elements (value d s) s (at + 1))) (fold_start (passing d s) [] (at + 1) h k b);
          told = refl;
          filled = filled_none room;
          few = omega arith;
          first = room;
          room = room;
        }

  -- ---- f was found at i
  module _ {i : ℕ} {tally : OrderTally} {buffer : List ℕ} {f : OrderPlace} (g : Going i tally buffer) (is : f ≡ order_place_at d s i) where
    ends : f.end ≡ end_of (value d s i)
    ends = ap (λ (x : OrderPlace). x.end) is ∙ place_end d s i

    -- it is not JSON
    pub going-wrong : (depth : ℕ) → suc d ≡ depth → byte_at s at ≡ 91 → f.end ≡ 0 → Met s depth side t at before buffer (told_not 0)
    going-wrong depth deep opens z =
        met-none depth deep opens buffer (fold-wrong (passing d s) g.passed g.left (no-element d s i (end-broken f.end (omega arith) (value_in d s i) ends z))) g.room

    module _ (n : f.end ≡ 0 → ⊥) where
      abbrev this : Span
      this = record { from = i; to = f.end }

      there : value d s i ≡ Some f.end
      there = end-at (value d s i) f.end ends n

      stands : Stands (element (value d s)) s i this f.end
      stands = element-stands d s i f.end there

      pub going-inside : (i < f.end) × (f.end ≤ length s)
      going-inside = (stands.some, stands.inside)

      this-is : f ≡ order_place_of f.end (order this)
      this-is = is ∙ place_is d s i f.end there

      -- it was met: the tally is now m, and the buffer `after`
      module _ {after : List ℕ} {m : OrderTally} (k : CountedAt s side tally f buffer after m) where
        c : Counted s side tally (order this) buffer after m
        c = k (order this) this-is

        all_told : m ≡ tallied s side t (all order (g.passed ++ (this ∷ [])))
        unfolding all and_then
        all_told =
            c.told ∙ ap (λ (u : OrderTally). tallied_one s side u (order this)) g.told
            ∙ tallied-one s side t (all order g.passed) (order this)
            ∙ ap (tallied s side t) (sym (all_append order g.passed (this ∷ [])))

        few-told : met m ≤ f.end
        few-told =
            let h = ap met c.told in
            let q = few-one s side tally (order this) in
            let p = stands.some in
            let w = g.few in
            omega arith

        all-filled : Filled (g.passed ++ (this ∷ [])) after
        unfolding Filled Has tallied
        all-filled formed rows h =
            let b = also-reads (all order g.passed) (all order (this ∷ [])) rows (sym (all_append order g.passed (this ∷ [])) ∙ h) in
            let o = one-row order this b.back b.reads-back in
            let folded : tally ≡ fold_from (one_more s side) t b.front = g.told ∙ ap (tallied s side t) b.reads-front in
            let now : met tally ≡ met t + length b.front = ap met folded ∙ rows-met s side t b.front formed in
            let fair : tally.well_formed ≡ true = ap (λ (u : OrderTally). u.well_formed) folded ∙ rows-formed s side t b.front formed in
            let put = c.put fair o.0 o.1 in
            subst (λ (l : List OrderRow). Has l after) (sym (b.both ∙ ap (λ (z : List OrderRow). b.front ++ z) o.2))
            (has_one b.front o.0 buffer after g.first g.room
            (put.entries ∙ ap (λ (j : ℕ). set (entries_in buffer) j (entry_at s side o.0)) now)
            (g.filled formed b.front b.reads-front))

        -- ---- past the comma, at l, the next order is to begin
        module _ (l : ℕ) (h : separator 44 s f.end ≡ Some l) where
          pub going-further : (i < f.end) × (f.end ≤ l) × (i < length s)
          going-further = fold-further (passing d s) g.passed g.left stands l h

          pub going_on : Going l m after
          going_on =
              let w = few-told in
              let p = going-further in
              record {
                passed = g.passed ++ (this ∷ []);
                left = fold_on (passing d s) g.passed g.left stands l h refl;
                told = all_told;
                filled = all-filled;
                few = omega arith;
                first = g.first;
                room = c.room;
              }

        -- ---- without a comma the array ends, at u
        module _ (depth : ℕ) (deep : suc d ≡ depth) (opens : byte_at s at ≡ 91) (z : separator 44 s f.end ≡ None) where
          pub going-last : (u : ℕ) → closing 93 s f.end ≡ Some u → Met s depth side t at before after (record { end = u; tally = m })
          going-last u x =
              let w = few-told in
              let b = bounds u (closing-in s 93 f.end (omega arith)) x in
              met-items depth deep opens (g.passed ++ (this ∷ [])) u m after (fold-last (passing d s) g.passed g.left stands z u x refl) all_told all-filled (omega arith) c.room

          pub going-broken : closing 93 s f.end ≡ None → Met s depth side t at before after (told_not 0)
          going-broken x = met-none depth deep opens after (fold-broken (passing d s) g.passed g.left stands z x) c.room

-- ---- a value that is no array
module _ (s : List ℕ) (depth : ℕ) (side : Side) (t : OrderTally) (at : ℕ) (before : List ℕ) (h : byte_at s at ≡ 91 → ⊥) where
  no-orders : (e : ℕ) → orders_at depth s (record { from = at; to = e }) ≡ None
  unfolding orders_at and_then array_at
  no-orders e = go depth
    where
      go : (k : ℕ) → orders_at k s (record { from = at; to = e }) ≡ None
      go zero = refl
      go (suc k) = rw (ne_eqb (byte_at s at) 91 h)

  pub met-other : length before ≡ buffer_words → Met s depth side t at before before (told_not (end_of (value depth s at)))
  unfolding end_of tallied
  met-other room = record { told = go (value depth s at) refl; few = λ n. omega arith; room = room; kept = λ formed e v rows g. no_row (sym (no-orders e) ∙ g) }
    where
      go : (x : Option ℕ) → value depth s at ≡ x → told_not (end_of x) ≡ told_at s depth side t at
      go (Some e) v = ap (λ (y : OrderTally). record { end = e; tally = y }) (sym (ap (tallied s side t) (no-orders e))) ∙ sym (told_is s depth side t at e v)
      go None v = sym (told-broken s depth side t at v)
