-- A text that begins k bytes later, in the middle of another: its entries are the other's, k bytes earlier, and say the same numbers.
-- Assumes nothing.
use Rattle.std.specs.Prelude.{None, Option, Some}
use Prim.Native.Nat.{ℕ, zero, suc, ◌+◌, ◌-◌, ◌≤◌}
use mathlib.Core.Path.{◌≡◌, refl, sym, ap, ap₂, ◌∙◌}
use mathlib.Core.Bool.{Bool, true, false, ◌&&◌, cond}
use mathlib.Core.List.{List, [], ◌∷◌, ◌++◌, map}
use native.Mathlib.Omega.{arith}
use lib.Dec.{eqb}
use lib.ListN.{length, take, drop, length-drop, length-map}
use lib.Seq.{drop-drop, take_all}
use Rattle.text.specs.Text.{byte_at}
use Rattle.decimal.specs.Decimal.{read}
use Rattle.edit.specs.Buffer.{max_buffered, entries_in}
use Rattle.edit.specs.declared.Side.{Side}
use Rattle.json_tokens.specs.Ends.{end_of}
use Rattle.json_tokens.proofs.Laws.{end-at}
use Rattle.json_tokens.proofs.Bounds.{bounds, end-broken}
use Rattle.json_tokens.proofs.Shift.{Shifts, shifts-at, shifts-broken, past_one, byte-shift}
use Rattle.json_values.specs.Json.{Span, Items, elements, value}
use Rattle.json_values.specs.Fold.{fold_from}
use Rattle.json_values.proofs.Bounds.{value_in}
use Rattle.json_values.proofs.Shift.{shifted_span, ItemsShifts, both-items, no-items, value-shifts, elements-shift}
use Rattle.entries.specs.Places.{and_then, all, is_string, contents, array_at}
use Rattle.json_values.specs.Names.{inner}
use Rattle.entries.specs.Rows.{Row, Entry, sided, row_k, row_m, row_of, entry_of, entries_at, sided_at, is_bad_price, is_bad_size, bad_price, bad_size, is_bad, number_in, number_at, numbers_at}
use Rattle.entries.specs.Tally.{told_not, one_more, or_not, one_span, spans_tally, array_tally, told_at, met, Met}
use Rattle.entries.specs.declared.Form.{Form}
use Rattle.entries.specs.declared.Form.TheVariants.{Triple, Pair}
use Rattle.entries.specs.declared.Tally.{Tally}
use Rattle.entries.specs.declared.Entries.{Entries}
use Rattle.entries.proofs.Stops.{broken-at}
use Rattle.entries.proofs.Strings.{no_row, same_row}
use Rattle.entries.proofs.Tallies.{told_is, told-broken, told-end}

-- a row, and an entry, k bytes later
unfoldable pub shifted_row : ℕ → Row → Row
shifted_row k r = record { whole = shifted_span k r.whole; price = shifted_span k r.price; size = shifted_span k r.size }

unfoldable pub shifted_entry : ℕ → Entry → Entry
shifted_entry k e = record { side = e.side; row = shifted_row k e.row }

-- ---- what was read, changed

unfoldable pub changed : {A B : Type 0} → (A → B) → Option A → Option B
changed f (Some a) = Some (f a)
changed f None = None

then-changed : {A B C D : Type 0} (g : A → B) (h : C → D) (f : B → Option D) (f' : A → Option C) → ((a : A) → f (g a) ≡ changed h (f' a))
    → (x : Option A) → and_then (changed g x) f ≡ changed h (and_then x f')
unfolding and_then changed
then-changed g h f f' n (Some a) = n a
then-changed g h f f' n None = refl

cond-changed : {A B : Type 0} (f : A → B) (b : Bool) (x : Option A) → cond b (changed f x) None ≡ changed f (cond b x None)
unfolding changed
cond-changed f true x = refl
cond-changed f false x = refl

-- ---- the numbers of texts
module _ (k : ℕ) (s : List ℕ) (a : Span) where
  pub inner-shift : inner s (shifted_span k a) ≡ inner (drop k s) a
  unfolding inner shifted_span
  inner-shift =
      let n : k + a.to - (k + a.from) - 2 ≡ a.to - a.from - 2 = omega arith in
      ap₂ take n (ap (λ (i : ℕ). drop i s) (past_one k a.from) ∙ sym (drop-drop (a.from + 1) k s))

  pub number-shift : number_at s (shifted_span k a) ≡ number_at (drop k s) a
  unfolding number_at
  number-shift = ap (λ (t : List ℕ). number_in (read t)) inner-shift

  pub price-shift : bad_price s (shifted_span k a) ≡ bad_price (drop k s) a
  unfolding bad_price
  price-shift = ap (λ (t : List ℕ). is_bad_price (read t)) inner-shift

  pub size-shift : (snapshot : Bool) → bad_size snapshot s (shifted_span k a) ≡ bad_size snapshot (drop k s) a
  unfolding bad_size
  size-shift snapshot = ap (λ (t : List ℕ). is_bad_size snapshot (read t)) inner-shift

  string-shift : is_string s (shifted_span k a) ≡ is_string (drop k s) a
  unfolding is_string shifted_span
  string-shift = ap (λ (b : ℕ). eqb b 34) (byte-shift k s a.from)

-- ---- entries
module _ (k : ℕ) (s : List ℕ) where
  contents-shift : {x y : Items Span} → ItemsShifts k (shifted_span k) x y → contents x ≡ changed (map (shifted_span k)) (contents y)
  unfolding contents changed
  contents-shift (both-items p q) = ap Some p
  contents-shift no-items = refl

  -- where an array ends is told by its bytes: neither end is asked
  array-shift : (d i e f : ℕ) → array_at d s (record { from = k + i; to = e }) ≡ changed (map (shifted_span k)) (array_at d (drop k s) (record { from = i; to = f }))
  unfolding array_at changed
  array-shift zero i e f = refl
  array-shift (suc d) i e f =
      ap₂ (λ (b : Bool) (x : Option (List Span)). cond b x None) (ap (λ (b : ℕ). eqb b 91) (byte-shift k s i))
      (ap (λ (n : ℕ). contents (elements (value d s) s n)) (past_one k i) ∙ contents-shift (elements-shift k d s (i + 1)))
      ∙ cond-changed (map (shifted_span k)) (eqb (byte_at (drop k s) i) 91) (contents (elements (value d (drop k s)) (drop k s) (i + 1)))

  row-shift : (a p z : Span) (b : Bool) → cond b (Some (record { whole = shifted_span k a; price = shifted_span k p; size = shifted_span k z })) None
      ≡ changed (shifted_row k) (cond b (Some (record { whole = a; price = p; size = z })) None)
  unfolding changed shifted_row
  row-shift a p z true = refl
  row-shift a p z false = refl

  rows-shifted : (form : Form) (a : Span) (l : List Span) → row_of form s (shifted_span k a) (map (shifted_span k) l) ≡ changed (shifted_row k) (row_of form (drop k s) a l)
  unfolding row_k row_m changed
  rows-shifted Triple a [] = refl
  rows-shifted Triple a (p ∷ []) = refl
  rows-shifted Triple a (p ∷ (z ∷ [])) = refl
  rows-shifted Triple a (p ∷ (z ∷ (t ∷ l))) =
      rw (string-shift k s p, string-shift k s z, string-shift k s t)
      (row-shift a p z (is_string (drop k s) p && (is_string (drop k s) z && is_string (drop k s) t)))
  rows-shifted Pair a [] = refl
  rows-shifted Pair a (p ∷ []) = refl
  rows-shifted Pair a (p ∷ (z ∷ [])) = rw (string-shift k s p, string-shift k s z) (row-shift a p z (is_string (drop k s) p && is_string (drop k s) z))
  rows-shifted Pair a (p ∷ (z ∷ (x ∷ l))) = refl

  module _ (form : Form) where
    entry-shift : (d : ℕ) (a : Span) → entry_of form d s (shifted_span k a) ≡ changed (shifted_row k) (entry_of form d (drop k s) a)
    unfolding entry_of shifted_span
    entry-shift d a =
        ap (λ (x : Option (List Span)). and_then x (row_of form s (shifted_span k a))) (array-shift d a.from (k + a.to) a.to)
        ∙ then-changed (map (shifted_span k)) (shifted_row k) (row_of form s (shifted_span k a)) (row_of form (drop k s) a) (rows-shifted form a) (array_at d (drop k s) a)

    all-shift : (d : ℕ) (l : List Span) → all (entry_of form d s) (map (shifted_span k) l) ≡ changed (map (shifted_row k)) (all (entry_of form d (drop k s)) l)
    unfolding all changed and_then
    all-shift d [] = refl
    all-shift d (a ∷ l) = rw (entry-shift d a, all-shift d l) (go (entry_of form d (drop k s) a) (all (entry_of form d (drop k s)) l))
      where
        go : (x : Option Row) (y : Option (List Row)) → and_then (changed (shifted_row k) x) (λ b. and_then (changed (map (shifted_row k)) y) (λ bs. Some (b ∷ bs)))
            ≡ changed (map (shifted_row k)) (and_then x (λ b. and_then y (λ bs. Some (b ∷ bs))))
        go (Some r) (Some rs) = refl
        go (Some r) None = refl
        go None y = refl

    -- the array of entries at k + i, and at i
    pub entries-shift : (depth i e f : ℕ) → entries_at form depth s (record { from = k + i; to = e }) ≡ changed (map (shifted_row k)) (entries_at form depth (drop k s) (record { from = i; to = f }))
    unfolding entries_at changed
    entries-shift zero i e f = refl
    entries-shift (suc d) i e f =
        ap (λ (x : Option (List Span)). and_then x (all (entry_of form d s))) (array-shift (suc d) i e f)
        ∙ then-changed (map (shifted_span k)) (map (shifted_row k)) (all (entry_of form d s)) (all (entry_of form d (drop k s))) (all-shift d) (array_at (suc d) (drop k s) (record { from = i; to = f }))

    -- for one side
    pub sided-shift : (side : Side) (depth i e f : ℕ) → sided_at side form depth s (record { from = k + i; to = e })
        ≡ changed (map (shifted_entry k)) (sided_at side form depth (drop k s) (record { from = i; to = f }))
    unfolding sided_at shifted_entry changed
    sided-shift side depth i e f =
        ap (λ (x : Option (List Row)). and_then x (λ rows. Some (map (sided side) rows))) (entries-shift depth i e f)
        ∙ then-changed (map (shifted_row k)) (map (shifted_entry k)) (λ rows. Some (map (sided side) rows)) (λ rows. Some (map (sided side) rows)) each
        (entries_at form depth (drop k s) (record { from = i; to = f }))
      where
        mapped : (rows : List Row) → map (sided side) (map (shifted_row k) rows) ≡ map (shifted_entry k) (map (sided side) rows)
        mapped [] = refl
        mapped (r ∷ l) = ap (λ (t : List Entry). sided side (shifted_row k r) ∷ t) (mapped l)

        each : (rows : List Row) → Some (map (sided side) (map (shifted_row k) rows)) ≡ changed (map (shifted_entry k)) (Some (map (sided side) rows))
        each rows = ap Some (mapped rows)

  -- ---- what is told of them: the text from k on stands at k of the message

  module _ (form : Form) (side : Side) where
    bad-shift : (snapshot : Bool) (r : Row) → is_bad snapshot s (shifted_row k r) ≡ is_bad snapshot (drop k s) r
    unfolding is_bad shifted_row
    bad-shift snapshot r = rw (price-shift k s r.price, size-shift k s r.size snapshot)

    one_shift : (t : Tally) (e : Entry) → one_more 0 s t (shifted_entry k e) ≡ one_more k (drop k s) t e
    unfolding one_more shifted_entry shifted_row shifted_span
    one_shift t e =
        let n : 0 + (k + e.row.whole.from) ≡ k + e.row.whole.from = omega arith in
        rw (n, bad-shift false e.row, bad-shift true e.row)

    span-shift : (d : ℕ) (t : Tally) (a : Span) → one_span 0 s d form side t (shifted_span k a) ≡ one_span k (drop k s) d form side t a
    unfolding or_not changed shifted_entry
    span-shift d t a = ap (or_not 0 s side t) (entry-shift form d a) ∙ go (entry_of form d (drop k s) a)
      where
        go : (y : Option Row) → or_not 0 s side t (changed (shifted_row k) y) ≡ or_not k (drop k s) side t y
        go (Some r) = one_shift t (sided side r)
        go None = refl

    spans-shift : (d : ℕ) (t : Tally) (l : List Span) → fold_from (one_span 0 s d form side) t (map (shifted_span k) l) ≡ fold_from (one_span k (drop k s) d form side) t l
    unfolding fold_from
    spans-shift d t [] = refl
    spans-shift d t (a ∷ l) = ap (λ (u : Tally). fold_from (one_span 0 s d form side) u (map (shifted_span k) l)) (span-shift d t a) ∙ spans-shift d (one_span k (drop k s) d form side t a) l

    pub tally-shift : (depth : ℕ) (t : Tally) (i e f : ℕ)
        → array_tally 0 s depth form side t (record { from = k + i; to = e }) ≡ array_tally k (drop k s) depth form side t (record { from = i; to = f })
    unfolding array_tally spans_tally changed
    tally-shift depth t i e f = ap (spans_tally 0 s (depth - 1) form side t) (array-shift depth i e f) ∙ go (array_at depth (drop k s) (record { from = i; to = f }))
      where
        go : (x : Option (List Span)) → spans_tally 0 s (depth - 1) form side t (changed (map (shifted_span k)) x) ≡ spans_tally k (drop k s) (depth - 1) form side t x
        go (Some l) = spans-shift (depth - 1) t l
        go None = refl

  numbers-shift : (es : List Entry) → map (numbers_at s) (map (shifted_entry k) es) ≡ map (numbers_at (drop k s)) es
  unfolding numbers_at shifted_entry shifted_row
  numbers-shift [] = refl
  numbers-shift (e ∷ es) = rw (number-shift k s e.row.price, number-shift k s e.row.size, numbers-shift es)

-- ---- the array of entries at k was met in the text that begins there

-- that text, as the code has it
pub part-is : (k : ℕ) (s : List ℕ) → take (length s - k) (drop k s) ≡ drop k s
part-is k s = let n = length-drop k s in take_all (length s - k) (drop k s) (omega arith)

module _ (k : ℕ) (s : List ℕ) (depth : ℕ) (form : Form) (side : Side) (t : Tally) {before after : List ℕ} {r : Entries}
    (there-met : Met k (take (length s - k) (drop k s)) depth form side t 0 before after r) where
  abbrev later : List ℕ
  later = drop k s

  m : Met k later depth form side t 0 before after r
  m = rw (part-is k s) at there-met

  ends : r.end ≡ end_of (value depth later 0)
  ends = ap (λ (x : Entries). x.end) m.told ∙ told-end k later form side depth t 0

  here : k + 0 ≡ k
  here = omega arith

  moved : Shifts k (value depth s k) (value depth later 0)
  moved = rw here at (value-shifts k depth s 0)

  pub met-later-broken : r.end ≡ 0 → Met 0 s depth form side t k before after (told_not 0)
  met-later-broken z = record { told = sym (told-broken 0 s form side depth t k broken); few = λ n. absurd (n refl); room = m.room; kept = λ e v. broken-at broken v }
    where
      broken : value depth s k ≡ None
      broken = shifts-broken k moved (end-broken r.end (omega arith) (value_in depth later 0) ends z)

  there : (r.end ≡ 0 → ⊥) → value depth later 0 ≡ Some r.end
  there n = end-at (value depth later 0) r.end ends n

  pub met-inside : (r.end ≡ 0 → ⊥) → k + r.end ≤ length s
  met-inside n = (bounds (k + r.end) (value_in depth s k) (shifts-at k r.end moved (there n))).1

  pub met-later : (r.end ≡ 0 → ⊥) → Met 0 s depth form side t k before after (record { end = k + r.end; tally = r.tally })
  unfolding changed
  met-later n = record { told = told; few = λ z. let f = m.few n in omega arith; room = m.room; kept = kept }
    where
      same : array_tally 0 s depth form side t (record { from = k; to = k + r.end }) ≡ array_tally k later depth form side t (record { from = 0; to = r.end })
      same = rw here at (tally-shift k s form side depth t 0 (k + r.end) r.end)

      told : record { end = k + r.end; tally = r.tally } ≡ told_at 0 s depth form side t k
      told =
          ap (λ (x : Tally). record { end = k + r.end; tally = x }) (ap (λ (x : Entries). x.tally) (m.told ∙ told_is k later form side depth t 0 r.end (there n)) ∙ sym same)
          ∙ sym (told_is 0 s form side depth t k (k + r.end) (shifts-at k r.end moved (there n)))

      kept : (e : ℕ) → value depth s k ≡ Some e → (es : List Entry) → sided_at side form depth s (record { from = k; to = e }) ≡ Some es
          → take (met t + length es) (entries_in after) ≡ take max_buffered (take (met t) (entries_in before) ++ map (numbers_at s) es)
      kept e v es h = go (sided_at side form depth later (record { from = 0; to = r.end })) refl (sym (rw here at (sided-shift k s form side depth 0 e r.end)) ∙ h)
        where
          go : (y : Option (List Entry)) → sided_at side form depth later (record { from = 0; to = r.end }) ≡ y → changed (map (shifted_entry k)) y ≡ Some es
              → take (met t + length es) (entries_in after) ≡ take max_buffered (take (met t) (entries_in before) ++ map (numbers_at s) es)
          go (Some l) q p =
              let z = same_row p in
              let c = length-map l (shifted_entry k) in
              rw (z, c, numbers-shift k s l) (m.kept r.end (there n) l q)
          go None q p = no_row p
