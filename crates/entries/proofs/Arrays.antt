-- An array of entries, entry by entry: what was met of the elements that were passed, what is left of them, and the buffer that has their numbers. At the
-- end all of them were met. Assumes nothing.
use Rattle.std.specs.Prelude.{None, Option, Some, ℕ}
use Prim.Native.Nat.{ℕ, zero, suc, ◌+◌, ◌-◌, ◌≤◌, ◌<◌}
use mathlib.Core.Path.{◌≡◌, refl, sym, ap, ap₂, ◌∙◌, subst}
use mathlib.Core.Bool.{Bool, true, false}
use mathlib.Core.List.{List, [], ◌∷◌, ◌++◌, map, append-nil, append_assoc}
use native.Mathlib.Omega.{arith}
use native.Mathlib.Numerals.{add-one}
use borrow.Author.Tests.{eq-eqb, ne_eqb, ltb-true, ltb-false}
use lib.Dec.{ltb}
use lib.ListN.{length, take, set, length-append, length-map, length-take}
use lib.Seq.{take_all, take-append-le, take-suc-set, set_out, append_snoc}
use Rattle.text.specs.Text.{byte_at}
use Rattle.edit.specs.Buffer.{max_buffered, buffer_words, entries_in}
use Rattle.edit.specs.Buffer as buffers
use Rattle.edit.proofs.Threes.{threes-length}
use Rattle.edit.specs.declared.Side.{Side}
use Rattle.json_tokens.specs.Tokens.{blanks, closing, separator}
use Rattle.json_tokens.specs.Ends.{end_of}
use Rattle.json_tokens.proofs.Laws.{end-at}
use Rattle.json_values.proofs.Bounds.{value_in}
use Rattle.json_tokens.proofs.Bounds.{bounds, end-broken, closing-in}
use Rattle.json_values.specs.Json.{Span, Items, items, no_items, items_end, element, elements, value}
use Rattle.json_values.specs.Fold.{fold_from, folded_in}
use Rattle.json_values.proofs.Laws.{value-array}
use Rattle.json_values.proofs.Fold.{Loop, Left, Stands, made, over_elements, no-element, element-stands, fold-empty, fold_start, fold-wrong, fold-further, fold_on, fold-last, fold-broken}
use Rattle.entries.specs.Places.{and_then, all, contents, array_at}
use Rattle.entries.specs.Rows.{Row, Entry, sided, entry_of, entries_at, sided_at, is_bad, number_at, numbers_at}
use Rattle.entries.specs.Found.{entry_place_of, row_from, price_span, size_span, entry_place_at}
use Rattle.entries.specs.Tally.{told_not, closed, with_entry, one_more, or_not, one_span, spans_tally, array_tally, told_at, met, Counted, Met}
use Rattle.entries.specs.declared.Form.{Form}
use Rattle.entries.specs.declared.EntryPlace.{EntryPlace}
use Rattle.entries.specs.declared.Tally.{Tally}
use Rattle.entries.specs.declared.Entries.{Entries}
use Rattle.entries.proofs.Stops.{broken-at}
use Rattle.entries.proofs.Strings.{no_row, same_row, entry_whole}
use Rattle.entries.proofs.Found.{found-end, found-is}
use Rattle.entries.proofs.Tallies.{also-reads, all_append, fold-append, map-append, one-met, entries-met, spans-told, array-spans, told_is, told-broken}

-- ---- a list of one more, of which no more than n are kept

module _ {A : Type 0} (n : ℕ) (w : List A) (full : length w ≡ n) where
  kept-first : (k : ℕ) → take k w ≡ take n (take k w ++ [])
  kept-first k =
      let l = length-take k w in
      sym (ap (take n) (append-nil (take k w)) ∙ take_all n (take k w) (omega arith))

  kept-one : (a : List A) (k : ℕ) (x : A) → (k < n → length a ≡ k) → (n ≤ k → n ≤ length a) → take k w ≡ take n a → take (suc k) (set w k x) ≡ take n (a ++ (x ∷ []))
  kept-one a k x within past h = go (ltb k n) refl
    where
      go : (b : Bool) → ltb k n ≡ b → take (suc k) (set w k x) ≡ take n (a ++ (x ∷ []))
      go true q =
          let p : k < n = ltb-true k n q in
          let l : length (a ++ (x ∷ [])) ≡ suc k = length-append a (x ∷ []) ∙ ap (λ (m : ℕ). m + 1) (within p) ∙ add-one k in
          let m = within p in
          take-suc-set w k x (omega arith)
          ∙ ap (λ (y : List A). y ++ (x ∷ [])) (h ∙ take_all n a (omega arith))
          ∙ sym (take_all n (a ++ (x ∷ [])) (omega arith))
      go false q =
          let p : n ≤ k = ltb-false k n q in
          ap (take (suc k)) (set_out w k x (omega arith))
          ∙ take_all (suc k) w (omega arith)
          ∙ sym (take_all k w (omega arith))
          ∙ h
          ∙ sym (take-append-le n a (x ∷ []) (past p))

-- how long a front and a list are
front_long : {A : Type 0} (n : ℕ) (w r : List A) (k : ℕ) → length w ≡ n → (k + length r < n → length (take k w ++ r) ≡ k + length r) × (n ≤ k + length r → n ≤ length (take k w ++ r))
front_long n w r k h =
    let l = length-append (take k w) r in
    let m = length-take k w in
    (λ p. omega arith, λ p. omega arith)

-- behind the first k of `was`, a list of n has what the rows say, up to its end; and one row more
module _ {R E : Type 0} (n : ℕ) (was : List E) (full : length was ≡ n) (say : R → E) (k : ℕ) where
  pub said-none : take (k + 0) was ≡ take n (take k was ++ [])
  said-none = let z : k + 0 ≡ k = omega arith in rw z (kept-first n was full k)

  pub said-one : (rows : List R) (r : R) (w after : List E) → length w ≡ n → after ≡ set w (k + length rows) (say r)
      → take (k + length rows) w ≡ take n (take k was ++ map say rows)
      → take (k + length (rows ++ (r ∷ []))) after ≡ take n (take k was ++ map say (rows ++ (r ∷ [])))
  said-one rows r w after same-long now had =
      ap₂ take count now
      ∙ kept-one n w same-long (take k was ++ said) (k + length rows) (say r) (λ p. long.0 (rw same p) ∙ ap (λ (m : ℕ). k + m) same) (λ p. long.1 (rw same p)) had
      ∙ ap (take n) (append_assoc (take k was) said (say r ∷ []) ∙ ap (λ (z : List E). take k was ++ z) (sym (map-append say rows (r ∷ []))))
    where
      said : List E
      said = map say rows

      same : length said ≡ length rows
      same = length-map rows say

      long : (k + length said < n → length (take k was ++ said) ≡ k + length said) × (n ≤ k + length said → n ≤ length (take k was ++ said))
      long = front_long n was said k full

      count : k + length (rows ++ (r ∷ [])) ≡ suc (k + length rows)
      count = let m = length-append rows (r ∷ []) in omega arith

-- ---- elements that were passed

abbrev pub passing : ℕ → List ℕ → Loop Span (List Span) (Items Span)
passing d s = over_elements d s (λ l a. l ++ (a ∷ [])) (λ e l. items l e) no_items

passed_on : (st l : List Span) → fold_from (λ (l : List Span) (a : Span). l ++ (a ∷ [])) st l ≡ st ++ l
unfolding fold_from
passed_on st [] = sym (append-nil st)
passed_on st (a ∷ l) = passed_on (st ++ (a ∷ [])) l ∙ append_snoc st a l

pub passed-all : (d : ℕ) (s : List ℕ) (x : Items Span) → made (passing d s) [] x ≡ x
unfolding folded_in
passed-all d s (items l e) = ap (λ (k : List Span). items k e) (passed_on [] l)
passed-all d s no_items = refl

-- the numbers that a buffer holds
buffer-full : (buffer : List ℕ) → length buffer ≡ buffer_words → length (entries_in buffer) ≡ max_buffered
unfolding entries_in
buffer-full buffer h = threes-length buffers.entry_of 200 buffer h

-- one element, which is an entry
pub one-row : {A B : Type 0} (f : A → Option B) (a : A) (l : List B) → all f (a ∷ []) ≡ Some l → (r : B) × (f a ≡ Some r) × (l ≡ r ∷ [])
unfolding all and_then
one-row {A} {B} f a l h = go (f a) refl h
  where
    go : (y : Option B) → f a ≡ y → and_then y (λ b. Some (b ∷ [])) ≡ Some l → (r : B) × (f a ≡ Some r) × (l ≡ r ∷ [])
    go (Some r) q g = (r, q, same_row g)
    go None q g = no_row g

-- one entry more, at most
few-one : (base : ℕ) (s : List ℕ) (side : Side) (t : Tally) (y : Option Row) → met (or_not base s side t y) ≤ suc (met t)
unfolding or_not
few-one base s side t (Some r) = let h = one-met base s t (sided side r) in omega arith
few-one base s side t None = omega arith

module _ (base : ℕ) (s : List ℕ) (d : ℕ) (form : Form) (side : Side) (t : Tally) (before : List ℕ) where
  abbrev entry : Span → Option Row
  entry = entry_of form d s

  abbrev one : Tally → Span → Tally
  one = one_span base s d form side

  -- behind those that were met before, the buffer has the numbers of these entries
  pub Has : List Entry → List ℕ → Type 0
  Has es after = take (met t + length es) (entries_in after) ≡ take max_buffered (take (met t) (entries_in before) ++ map (numbers_at s) es)

  -- the same of elements, if they are entries
  pub Filled : List Span → List ℕ → Type 0
  Filled l after = (rows : List Row) → all entry l ≡ Some rows → Has (map (sided side) rows) after

  has_one : (rows : List Row) (r : Row) (buffer after : List ℕ) → length before ≡ buffer_words → length buffer ≡ buffer_words
      → entries_in after ≡ set (entries_in buffer) (met t + length (map (sided side) rows)) (numbers_at s (sided side r)) → Has (map (sided side) rows) buffer
      → Has (map (sided side) (rows ++ (r ∷ []))) after
  unfolding Has
  has_one rows r buffer after first room now had =
      subst (λ (es : List Entry). Has es after) (sym (map-append (sided side) rows (r ∷ [])))
      (said-one max_buffered (entries_in before) (buffer-full before first) (numbers_at s) (met t) (map (sided side) rows) (sided side r) (entries_in buffer) (entries_in after) (buffer-full buffer room) now had)

  -- the loop stands at i
  pub record Going (i : ℕ) (tally : Tally) (buffer : List ℕ) : Type 0 where
    pub passed : List Span
    pub left : Left (passing d s) passed i (elements (value d s) s 1)
    pub told : tally ≡ fold_from one t passed
    pub filled : Filled passed buffer
    pub few : met tally ≤ base + i
    pub first : length before ≡ buffer_words
    pub room : length buffer ≡ buffer_words

  filled_none : length before ≡ buffer_words → Filled [] before
  unfolding Filled Has all
  filled_none room rows h =
      let e : rows ≡ [] = same_row h in
      rw e (said-none max_buffered (entries_in before) (buffer-full before room) (numbers_at s) (met t))

  -- ---- at the end of the array, or where it is not JSON
  module _ (depth : ℕ) (deep : suc d ≡ depth) (opens : byte_at s 0 ≡ 91) where
    holds : (e : ℕ) → array_at (suc d) s (record { from = 0; to = e }) ≡ contents (elements (value d s) s 1)
    unfolding array_at
    holds e = rw (eq-eqb (byte_at s 0) 91 opens)

    met-items : (l : List Span) (e : ℕ) (tally : Tally) (after : List ℕ) → items l e ≡ elements (value d s) s 1 → tally ≡ fold_from one t l → Filled l after → met tally ≤ base + e
        → length after ≡ buffer_words → Met base s depth form side t 0 before after (record { end = e; tally = tally })
    unfolding Filled Has sided_at entries_at contents and_then spans_tally items_end
    met-items l e tally after h told filled few room =
        subst (λ (k : ℕ). Met base s k form side t 0 before after (record { end = e; tally = tally })) deep
        (record { told = all_told; few = λ n. few; room = room; kept = kept })
      where
        ends : value (suc d) s 0 ≡ Some e
        ends = value-array s 0 d opens ∙ ap items_end (sym h)

        these : (k : ℕ) → array_at (suc d) s (record { from = 0; to = k }) ≡ Some l
        these k = holds k ∙ ap contents (sym h)

        all_told : record { end = e; tally = tally } ≡ told_at base s (suc d) form side t 0
        all_told =
            ap (λ (x : Tally). record { end = e; tally = x }) (told ∙ ap (spans_tally base s d form side t) (sym (these e)) ∙ sym (array-spans base s form side d t (record { from = 0; to = e })))
            ∙ sym (told_is base s form side (suc d) t 0 e ends)

        kept : (k : ℕ) → value (suc d) s 0 ≡ Some k → (es : List Entry) → sided_at side form (suc d) s (record { from = 0; to = k }) ≡ Some es
            → take (met t + length es) (entries_in after) ≡ take max_buffered (take (met t) (entries_in before) ++ map (numbers_at s) es)
        kept k v es g = go (all entry l) refl (rw (these k) at g)
          where
            go : (y : Option (List Row)) → all entry l ≡ y → and_then y (λ rows. Some (map (sided side) rows)) ≡ Some es
                → take (met t + length es) (entries_in after) ≡ take max_buffered (take (met t) (entries_in before) ++ map (numbers_at s) es)
            go (Some rows) q p = rw (same_row p) (filled rows q)
            go None q p = no_row p

    met-none : (after : List ℕ) → no_items ≡ elements (value d s) s 1 → length after ≡ buffer_words → Met base s depth form side t 0 before after (told_not 0)
    unfolding items_end
    met-none after h room =
        subst (λ (k : ℕ). Met base s k form side t 0 before after (told_not 0)) deep
        (record { told = sym (told-broken base s form side (suc d) t 0 broken); few = λ n. absurd (n refl); room = room; kept = λ e v. broken-at broken v })
      where
        broken : value (suc d) s 0 ≡ None
        broken = value-array s 0 d opens ∙ ap items_end (sym h)

  -- ---- the array is empty, or its first entry is to begin at k
  module _ (room : length before ≡ buffer_words) (few : met t ≤ base) where
    pub going-empty : (depth : ℕ) → suc d ≡ depth → byte_at s 0 ≡ 91 → (e : ℕ) → closing 93 s 1 ≡ Some e → Met base s depth form side t 0 before before (record { end = e; tally = t })
    unfolding elements fold_from
    going-empty depth deep opens e h =
        met-items depth deep opens [] e t before (fold-empty (passing d s) [] 1 e h ∙ passed-all d s (elements (value d s) s 1)) refl (filled_none room) (omega arith) room

    pub going_start : closing 93 s 1 ≡ None → (k : ℕ) → k ≡ blanks s 1 → Going k t before
    unfolding elements fold_from
    going_start h k b =
        record {
          passed = [];
          left = subst (Left (passing d s) [] k) (passed-all d s (elements (value d s) s 1)) (fold_start (passing d s) [] 1 h k b);
          told = refl;
          filled = filled_none room;
          few = omega arith;
          first = room;
          room = room;
        }

  -- ---- the entry at i was met: m was told of it, and the buffer is now `after`
  module _ {i : ℕ} {tally : Tally} {buffer after : List ℕ} {m : Entries} (g : Going i tally buffer)
      (c : Counted s side tally (base + i) (entry_place_at form d s i) buffer after m) where
    abbrev found : EntryPlace
    found = entry_place_at form d s i

    ends : m.end ≡ end_of (value d s i)
    ends = c.end ∙ found-end form d s i found refl

    module _ (n : m.end ≡ 0 → ⊥) where
      abbrev this : Span
      this = record { from = i; to = m.end }

      stands : Stands (element (value d s)) s i this m.end
      stands = element-stands d s i m.end (end-at (value d s i) m.end ends n)

      this-is : found ≡ entry_place_of m.end (entry this)
      this-is = found-is form d s i found refl m.end (end-at (value d s i) m.end ends n)

      formed : (r : Row) → entry this ≡ Some r → found ≡ entry_place_of m.end (Some r)
      formed r h = this-is ∙ ap (entry_place_of m.end) h

      one_told : m.tally ≡ one tally this
      unfolding entry_place_of or_not one_more is_bad
      one_told = go (entry this) refl
        where
          go : (y : Option Row) → entry this ≡ y → m.tally ≡ or_not base s side tally y
          go (Some r) h =
              let f = formed r h in
              let w : r.whole ≡ this = entry_whole form d s this r h in
              c.entry (ap (λ (x : EntryPlace). x.well_formed) f)
              ∙ ap₂ (λ (x : EntryPlace) (k : ℕ). with_entry tally side (base + k) (is_bad false s (row_from (base + i) x)) (is_bad true s (row_from (base + i) x))) f (sym (ap (λ (a : Span). a.from) w))
          go None h = c.other (ap (λ (x : EntryPlace). x.well_formed) (this-is ∙ ap (entry_place_of m.end) h))

      all_told : m.tally ≡ fold_from one t (g.passed ++ (this ∷ []))
      unfolding fold_from
      all_told = one_told ∙ ap (λ (u : Tally). one u this) g.told ∙ sym (fold-append one t g.passed (this ∷ []))

      few-told : met m.tally ≤ base + m.end
      few-told =
          let h = ap met one_told in
          let q = few-one base s side tally (entry this) in
          let p = stands.some in
          let f = g.few in
          omega arith

      all-filled : Filled (g.passed ++ (this ∷ [])) after
      unfolding Filled Has numbers_at entry_place_of
      all-filled rows h =
          let b = also-reads (all entry g.passed) (all entry (this ∷ [])) rows (sym (all_append entry g.passed (this ∷ [])) ∙ h) in
          let o = one-row entry this b.back b.reads-back in
          let f = formed o.0 o.1 in
          let met-now : met tally ≡ met t + length (map (sided side) b.front) =
          ap met (g.told ∙ spans-told base s form side d t g.passed b.front b.reads-front) ∙ entries-met base s t (map (sided side) b.front) in
          let put = c.put (ap (λ (y : EntryPlace). y.well_formed) f) in
          subst (λ (l : List Row). Has (map (sided side) l) after) (sym (b.both ∙ ap (λ (z : List Row). b.front ++ z) o.2))
          (has_one b.front o.0 buffer after g.first g.room
          (put.entries ∙ ap₂ (λ (n : ℕ) (y : EntryPlace). set (entries_in buffer) n (record { side = side; price = number_at s (price_span y); size = number_at s (size_span y) })) met-now f)
          (g.filled b.front b.reads-front))

      -- ---- past the comma, at l, the next entry is to begin; without a comma the array ends, if it does
      module _ (l : ℕ) (h : separator 44 s m.end ≡ Some l) where
        pub going-further : (i < m.end) × (m.end ≤ l) × (i < length s)
        going-further = fold-further (passing d s) g.passed g.left stands l h

        pub going_on : Going l m.tally after
        going_on =
            let f = few-told in
            let p = going-further in
            record {
              passed = g.passed ++ (this ∷ []);
              left = fold_on (passing d s) g.passed g.left stands l h refl;
              told = all_told;
              filled = all-filled;
              few = omega arith;
              first = g.first;
              room = c.room;
            }

      module _ (depth : ℕ) (deep : suc d ≡ depth) (opens : byte_at s 0 ≡ 91) (h : separator 44 s m.end ≡ None) where
        pub going-closed : (x : Option ℕ) → x ≡ closing 93 s m.end → Met base s depth form side t 0 before after (closed x m)
        unfolding closed
        going-closed (Some u) x =
            let f = few-told in
            let b = bounds u (closing-in s 93 m.end (omega arith)) (sym x) in
            met-items depth deep opens (g.passed ++ (this ∷ [])) u m.tally after (fold-last (passing d s) g.passed g.left stands h u (sym x) refl) all_told all-filled (omega arith) c.room
        going-closed None x = met-none depth deep opens after (fold-broken (passing d s) g.passed g.left stands h (sym x)) c.room

    -- what stands there is not JSON
    pub going-wrong : (depth : ℕ) → suc d ≡ depth → byte_at s 0 ≡ 91 → m.end ≡ 0 → Met base s depth form side t 0 before after (told_not 0)
    going-wrong depth deep opens z =
        met-none depth deep opens after (fold-wrong (passing d s) g.passed g.left (no-element d s i (end-broken m.end (omega arith) (value_in d s i) ends z))) c.room

-- ---- a value that is no array
module _ (base : ℕ) (s : List ℕ) (depth : ℕ) (form : Form) (side : Side) (t : Tally) (at : ℕ) (before : List ℕ) (h : byte_at s at ≡ 91 → ⊥) where
  no-array : (e : ℕ) → array_at depth s (record { from = at; to = e }) ≡ None
  unfolding array_at
  no-array e = go depth
    where
      go : (k : ℕ) → array_at k s (record { from = at; to = e }) ≡ None
      go zero = refl
      go (suc k) = rw (ne_eqb (byte_at s at) 91 h)

  pub met-other : length before ≡ buffer_words → Met base s depth form side t at before before (told_not (end_of (value depth s at)))
  unfolding end_of array_tally spans_tally sided_at entries_at and_then
  met-other room = record { told = go (value depth s at) refl; few = λ n. omega arith; room = room; kept = λ e v es g. no_row (sym (no-entries depth e (no-array e)) ∙ g) }
    where
      go : (x : Option ℕ) → value depth s at ≡ x → told_not (end_of x) ≡ told_at base s depth form side t at
      go (Some e) v =
          ap (λ (y : Tally). record { end = e; tally = y }) (sym (ap (spans_tally base s (depth - 1) form side t) (no-array e))) ∙ sym (told_is base s form side depth t at e v)
      go None v = sym (told-broken base s form side depth t at v)

      no-entries : (k e : ℕ) → array_at k s (record { from = at; to = e }) ≡ None → sided_at side form k s (record { from = at; to = e }) ≡ None
      no-entries zero e q = refl
      no-entries (suc k) e q = rw q
