-- One entry, by the tokens at its front.
-- Assumes nothing.
use Rattle.std.specs.Prelude.{None, Option, Some, ℕ, unwrap_or}
use mathlib.Core.Path.{◌≡◌, refl, sym, ap, ◌∙◌}
use mathlib.Core.List.{List, [], ◌∷◌}
use mathlib.Core.Bool.{Bool, true, false, true≢false, ◌&&◌}
use Prim.Native.Nat.{ℕ, zero, suc, ◌+◌, ◌≤◌, ◌<◌}
use native.Mathlib.Omega.{arith}
use borrow.Author.Tests.{eq-eqb, ne_eqb}
use Rattle.text.specs.Text.{byte_at}
use Rattle.json_tokens.specs.Tokens.{blanks, closing, separator, string}
use Rattle.json_tokens.specs.Ends.{end_of}
use Rattle.json_tokens.proofs.Bounds.{bounds, separator-in}
use lib.ListN.{length}
use Rattle.json_values.specs.Json.{Span, item, Items, items, no_items, next, prepended, onward, list, items_end, elements, value}
use Rattle.json_values.proofs.Laws.{value-array, before-end, element-is, element-wrong, later-item, later-ends, later-wrong}
use Rattle.json_values.proofs.Bounds.{value_in}
use Rattle.json_values.proofs.Walk.{Walk, walk, walk_ends, walk-wrong, walk_is, walk-item}
use Rattle.entries.specs.Places.{and_then, is_string, contents, array_at}
use Rattle.entries.specs.Rows.{Row, row_k, row_m, row_of, entry_of}
use Rattle.entries.specs.Found.{entry_place_of, price_span, size_span, entry_place_at}
use Rattle.entries.specs.Front.{Two, Front, RestEnd, EntryEnd, EndedAt}
use Rattle.entries.specs.declared.Form.{Form}
use Rattle.entries.specs.declared.Form.TheVariants.{Triple, Pair}
use Rattle.entries.specs.declared.EntryPlace.{EntryPlace}
use Rattle.entries.proofs.Stops.{broken-at, one, string-is, close-no-comma, Stops, stops_first, stops-comma, stops-string, Halts, halt, past-string, past_first}

-- ---- what both forms want of the elements: two strings at the front
pub record Wants (s : List ℕ) (row : List Span → Option Row) : Type 0 where
  pub none : row [] ≡ None
  pub single : (p : Span) → row (p ∷ []) ≡ None
  pub first : (p : Span) (l : List Span) → is_string s p ≡ false → row (p ∷ l) ≡ None
  pub second : (p z : Span) (l : List Span) → is_string s z ≡ false → row (p ∷ (z ∷ l)) ≡ None

second-false : (a b c : Bool) → b ≡ false → (a && (b && c)) ≡ false
second-false true b c h = rw h
second-false false b c h = refl

last-false : (a b : Bool) → b ≡ false → (a && b) ≡ false
last-false true b h = h
last-false false b h = refl

third-false : (a b c : Bool) → c ≡ false → (a && (b && c)) ≡ false
third-false a b c h = last-false a (b && c) (last-false b c h)

wants : (form : Form) (s : List ℕ) (a : Span) → Wants s (row_of form s a)
unfolding row_k row_m
wants Triple s a = record { none = refl; single = λ p. refl; first = first; second = second }
  where
    first : (p : Span) (l : List Span) → is_string s p ≡ false → row_k s a (p ∷ l) ≡ None
    first p [] h = refl
    first p (z ∷ []) h = refl
    first p (z ∷ (t ∷ l)) h = rw h

    second : (p z : Span) (l : List Span) → is_string s z ≡ false → row_k s a (p ∷ (z ∷ l)) ≡ None
    second p z [] h = refl
    second p z (t ∷ l) h = rw (second-false (is_string s p) (is_string s z) (is_string s t) h)
wants Pair s a = record { none = refl; single = λ p. refl; first = first; second = second }
  where
    first : (p : Span) (l : List Span) → is_string s p ≡ false → row_m s a (p ∷ l) ≡ None
    first p [] h = refl
    first p (z ∷ []) h = rw h
    first p (z ∷ (t ∷ l)) h = refl

    second : (p z : Span) (l : List Span) → is_string s z ≡ false → row_m s a (p ∷ (z ∷ l)) ≡ None
    second p z [] h = rw (last-false (is_string s p) (is_string s z) h)
    second p z (t ∷ l) h = refl

-- the row of what an array holds
abbrev row_in : (List Span → Option Row) → Items Span → Option Row
row_in row x = and_then (contents x) row

-- what the entry at a position holds, whose elements have the depth d
abbrev whole : ℕ → List ℕ → ℕ → Items Span
whole d s at = elements (value d s) s (at + 1)

module _ (form : Form) (d : ℕ) (s : List ℕ) (at : ℕ) where
  read-array : (to : ℕ) → byte_at s at ≡ 91 → entry_of form (suc d) s (record { from = at; to = to }) ≡ row_in (row_of form s (record { from = at; to = to })) (whole d s at)
  unfolding entry_of array_at
  read-array to h = rw (eq-eqb (byte_at s at) 91 h)

  read-other : (to : ℕ) → (byte_at s at ≡ 91 → ⊥) → entry_of form (suc d) s (record { from = at; to = to }) ≡ None
  unfolding entry_of array_at and_then
  read-other to h = rw (ne_eqb (byte_at s at) 91 h)

-- what is told of what an array holds
found_in : (Span → List Span → Option Row) → ℕ → Items Span → EntryPlace
found_in row at (items l e) = entry_place_of e (row (record { from = at; to = e }) l)
found_in row at no_items = entry_place_of 0 None

found-array : (form : Form) (d : ℕ) (s : List ℕ) (at : ℕ) → byte_at s at ≡ 91 → entry_place_at form (suc d) s at ≡ found_in (row_of form s) at (whole d s at)
unfolding entry_place_at items_end found_in and_then contents
found-array form d s at h =
    ap (λ (y : Option ℕ). elim y [ Some e ↦ entry_place_of e (entry_of form (suc d) s (record { from = at; to = e })) | None ↦ entry_place_of 0 None ]) (value-array s at d h)
    ∙ go (whole d s at) refl
  where
    go : (x : Items Span) → whole d s at ≡ x
        → elim (items_end x) [ Some e ↦ entry_place_of e (entry_of form (suc d) s (record { from = at; to = e })) | None ↦ entry_place_of 0 None ] ≡ found_in (row_of form s) at x
    go (items l e) q = ap (entry_place_of e) (read-array form d s at e h ∙ ap (row_in (row_of form s (record { from = at; to = e }))) q)
    go no_items q = refl

-- a value that is no entry
pub found_none : (form : Form) (depth : ℕ) (s : List ℕ) (at : ℕ) → ((to : ℕ) → entry_of form depth s (record { from = at; to = to }) ≡ None)
    → entry_place_of (end_of (value depth s at)) None ≡ entry_place_at form depth s at
unfolding entry_place_at end_of
found_none form depth s at h = go (value depth s at)
  where
    go : (x : Option ℕ) → entry_place_of (end_of x) None ≡ elim x [ Some e ↦ entry_place_of e (entry_of form depth s (record { from = at; to = e })) | None ↦ entry_place_of 0 None ]
    go (Some e) = ap (entry_place_of e) (sym (h e))
    go None = refl

-- ---- without two strings at the front, the value is an entry of neither form
abbrev pub Neither : List ℕ → ℕ → Type 0
Neither s at = (form : Form) (depth to : ℕ) → entry_of form depth s (record { from = at; to = to }) ≡ None

module _ (s : List ℕ) (at : ℕ) where
  deep-enough : ((form : Form) (d to : ℕ) → entry_of form (suc d) s (record { from = at; to = to }) ≡ None) → Neither s at
  unfolding entry_of array_at and_then
  deep-enough h form zero to = refl
  deep-enough h form (suc d) to = h form d to

  pub neither-array : (byte_at s at ≡ 91 → ⊥) → Neither s at
  neither-array h = deep-enough (λ form d to. read-other form d s at to h)

  module _ (opens : byte_at s at ≡ 91) where
    both : ((d : ℕ) (row : List Span → Option Row) → Wants s row → row_in row (whole d s at) ≡ None) → Neither s at
    both h = deep-enough (λ form d to. read-array form d s at to opens ∙ h d (row_of form s (record { from = at; to = to })) (wants form s (record { from = at; to = to })))

    pub neither-first : string s (blanks s (at + 1)) ≡ None → Neither s at
    unfolding elements contents and_then
    neither-first h = both (λ d row w. halt d {answer = row_in row} (record { broken = refl; ended = λ e. w.none; other = λ a l e n. w.first a l n })
        (walk (one d s) 93 s (row_in row) (at + 1)) (stops_first d s (at + 1) h))

    module _ (p q : ℕ) (b : p ≡ blanks s (at + 1)) (h : string s p ≡ Some q) where
      after-price : (d : ℕ) (row : List Span → Option Row) → Wants s row → Stops s (next (one d s) 93 s false q) → row_in row (whole d s at) ≡ None
      unfolding contents and_then prepended
      after-price d row w stops =
          let a : Span = record { from = p; to = q } in
          halt d {answer = λ y. row_in row (prepended a y)} (record { broken = refl; ended = λ e. w.single a; other = λ z l e n. w.second a z l n })
          (past_first d s (row_in row) (at + 1) p q b h) stops

      pub neither-comma : separator 44 s q ≡ None → Neither s at
      neither-comma c = both (λ d row w. after-price d row w (stops-comma d s q c))

      pub neither-second : (z : ℕ) → separator 44 s q ≡ Some z → string s z ≡ None → Neither s at
      neither-second z c g = both (λ d row w. after-price d row w (stops-string d s q z c g))

-- ---- past two strings
module _ (d : ℕ) (s : List ℕ) (at : ℕ) (f : EntryPlace) (t : Two s at f) where
  abbrev price : Span
  price = price_span f

  abbrev size : Span
  size = size_span f

  abbrev told : ℕ → EntryPlace
  told e = record { end = e; well_formed = true; price_from = f.price_from; price_to = f.price_to; size_from = f.size_from; size_to = f.size_to }

  past_two : {R : Type 0} (answer : Items Span → R)
      → Walk (one d s) 93 s (λ (y : Items Span). answer (prepended price (prepended size y))) f.end (next (one d s) 93 s false f.end) (answer (whole d s at))
  past_two answer =
      rw t.ends (past-string d s (λ (y : Items Span). answer (prepended price y))
      (past_first d s answer (at + 1) f.price_from f.price_to t.begins t.price) f.size_from f.size_to t.comma t.size)

  price-is : is_string s price ≡ true
  price-is = string-is s f.price_from f.price_to t.price

  size_is : is_string s size ≡ true
  size_is = string-is s f.size_from f.size_to t.size

  -- ---- a pair: the array closes
  pub pair_is : (e : ℕ) → closing 93 s f.end ≡ Some e → told e ≡ entry_place_at Pair (suc d) s at
  unfolding found_in entry_place_of row_m prepended
  pair_is e c =
      rw (price-is, size_is) refl
      ∙ walk_ends (one d s) 93 s _ (past_two (found_in (row_m s) at)) e (later-ends (one d s) 93 s f.end e (close-no-comma s f.end e c) c)
      ∙ sym (found-array Pair d s at t.opens)

  -- any other element, or no bracket at all
  pub pair-none : closing 93 s f.end ≡ None → (to : ℕ) → entry_of Pair (suc d) s (record { from = at; to = to }) ≡ None
  unfolding prepended contents and_then row_m onward
  pair-none c to = read-array Pair d s at to t.opens ∙ go (separator 44 s f.end) refl
    where
      answer : Items Span → Option Row
      answer y = row_in (row_m s (record { from = at; to = to })) (prepended price (prepended size y))

      three : (a : Span) (y : Items Span) → answer (prepended a y) ≡ None
      three a (items l e) = refl
      three a no_items = refl

      none : answer no_items ≡ None
      none = refl

      w : Walk (one d s) 93 s answer f.end (next (one d s) 93 s false f.end) (row_in (row_m s (record { from = at; to = to })) (whole d s at))
      w = past_two (row_in (row_m s (record { from = at; to = to })))

      third : (j : ℕ) → separator 44 s f.end ≡ Some j → (x : Option ℕ) → value d s j ≡ x → row_in (row_m s (record { from = at; to = to })) (whole d s at) ≡ None
      third j q (Some e) v =
          let a : Span = record { from = j; to = e } in
          let u = walk_is (one d s) 93 s answer w (item a e) f.end (omega arith) (later-item (one d s) 93 s f.end j q ∙ element-is (value d s) j e v) in
          sym u.makes ∙ three a (list (one d s) 93 s u.left false e)
      third j q None v = sym (walk-wrong (one d s) 93 s answer w (later-item (one d s) 93 s f.end j q ∙ element-wrong (value d s) j v)) ∙ none

      go : (x : Option ℕ) → separator 44 s f.end ≡ x → row_in (row_m s (record { from = at; to = to })) (whole d s at) ≡ None
      go (Some j) q = third j q (value d s j) refl
      go None q = sym (walk-wrong (one d s) 93 s answer w (later-wrong (one d s) 93 s f.end q c)) ∙ none

  -- ---- a triple: a third string, and the rest of the array
  triple-halts : (a : Span) → Halts s (λ (y : Items Span). row_in (row_k s a) (prepended price (prepended size y)))
  unfolding prepended contents and_then row_k
  triple-halts a = record { broken = refl; ended = λ e. refl; other = λ b l e h. rw (third-false (is_string s price) (is_string s size) (is_string s b) h) }

  pub triple-no-comma : separator 44 s f.end ≡ None → (to : ℕ) → entry_of Triple (suc d) s (record { from = at; to = to }) ≡ None
  triple-no-comma q to = read-array Triple d s at to t.opens ∙ halt d (triple-halts (record { from = at; to = to })) (past_two (row_in (row_k s (record { from = at; to = to })))) (stops-comma d s f.end q)

  pub triple-no-third : (j : ℕ) → separator 44 s f.end ≡ Some j → string s j ≡ None → (to : ℕ) → entry_of Triple (suc d) s (record { from = at; to = to }) ≡ None
  triple-no-third j q h to = read-array Triple d s at to t.opens ∙ halt d (triple-halts (record { from = at; to = to })) (past_two (row_in (row_k s (record { from = at; to = to })))) (stops-string d s f.end j q h)

  module _ (j e : ℕ) (q : separator 44 s f.end ≡ Some j) (h : string s j ≡ Some e) (r : Option ℕ) (rest : RestEnd d s e r) where
    abbrev time : Span
    time = record { from = j; to = e }

    past_three : {R : Type 0} (answer : Items Span → R)
        → Walk (one d s) 93 s (λ (y : Items Span). answer (prepended price (prepended size (prepended time y)))) e (next (one d s) 93 s false e) (answer (whole d s at))
    past_three answer = past-string d s (λ (y : Items Span). answer (prepended price (prepended size y))) (past_two answer) j e q h

    pub triple-is : (n : ℕ) → r ≡ Some n → told n ≡ entry_place_at Triple (suc d) s at
    unfolding list items_end prepended found_in entry_place_of row_k
    triple-is n z =
        let w = past_three (found_in (row_k s) at) in
        go (list (one d s) 93 s (suc w.left) false e) (rest w.left w.enough ∙ z) ∙ w.makes ∙ sym (found-array Triple d s at t.opens)
      where
        go : (x : Items Span) → items_end x ≡ Some n → told n ≡ found_in (row_k s) at (prepended price (prepended size (prepended time x)))
        go (items l k) g = let z : n ≡ k = cc in rw (price-is, size_is, string-is s j e h, z)
        go no_items g = broken-at refl g

    pub triple-none : r ≡ None → (to : ℕ) → entry_of Triple (suc d) s (record { from = at; to = to }) ≡ None
    unfolding list items_end prepended contents and_then
    triple-none z to =
        let w = past_three (row_in (row_k s (record { from = at; to = to }))) in
        read-array Triple d s at to t.opens ∙ sym w.makes ∙ go (list (one d s) 93 s (suc w.left) false e) (rest w.left w.enough ∙ z)
      where
        go : (x : Items Span) → items_end x ≡ None → row_in (row_k s (record { from = at; to = to })) (prepended price (prepended size (prepended time x))) ≡ None
        go (items l k) g = broken-at g refl
        go no_items g = refl

pub none-some : {A B : Type 0} {x : A} → None ≡ Some x → B
none-some h = let z : ◌≡◌ {A = ℕ} 0 1 = cc in absurd (omega arith)

-- ---- an end as one number
pub end-or-zero : (x : Option ℕ) → unwrap_or x 0 ≡ end_of x
unfolding end_of
end-or-zero (Some e) = refl
end-or-zero None = refl

-- ---- what is told of the front
pub front-none : (s : List ℕ) (at : ℕ) (f : EntryPlace) → f ≡ entry_place_of 0 None → Neither s at → Front s at f
unfolding entry_place_of
front-none s at f h n = record { two = λ g. absurd (true≢false (sym g ∙ ap (λ (x : EntryPlace). x.well_formed) h)); neither = λ g. n }

-- ---- the rest of an array: r is the answer for all of it
module _ (d : ℕ) (s : List ℕ) (i : ℕ) (r : Option ℕ) (w : Walk (one d s) 93 s items_end i (next (one d s) 93 s false i) r) where
  -- no comma: what is left is the bracket
  pub rest-close : separator 44 s i ≡ None → closing 93 s i ≡ r
  unfolding items_end
  rest-close q = go (closing 93 s i) refl
    where
      go : (x : Option ℕ) → closing 93 s i ≡ x → x ≡ r
      go (Some k) c = walk_ends (one d s) 93 s items_end w k (later-ends (one d s) 93 s i k q c)
      go None c = walk-wrong (one d s) 93 s items_end w (later-wrong (one d s) 93 s i q c)

  module _ (j : ℕ) (q : separator 44 s i ≡ Some j) where
    pub rest-wrong : value d s j ≡ None → r ≡ None
    unfolding items_end
    rest-wrong v = sym (walk-wrong (one d s) 93 s items_end w (later-item (one d s) 93 s i j q ∙ element-wrong (value d s) j v))

    module _ (e : ℕ) (v : value d s j ≡ Some e) where
      pub rest-further : (i < e) × (e ≤ length s)
      rest-further =
          let b = bounds j (separator-in s 44 i (omega arith)) q in
          let c = bounds e (value_in d s j) v in
          (omega arith, c.1)

      pub rest-on : Walk (one d s) 93 s items_end e (next (one d s) 93 s false e) r
      rest-on =
          let a : Span = record { from = j; to = e } in
          let c = rest-further in
          let u = walk-item (one d s) 93 s items_end w a e (later-item (one d s) 93 s i j q ∙ element-is (value d s) j e v) c.0 c.1 in
          record { left = u.left; enough = u.enough; makes = sym (before-end a _) ∙ u.makes }

-- a pair ends with the bracket past its two strings
pub pair_end : (d : ℕ) (s : List ℕ) (at : ℕ) (r : Option ℕ) → r ≡ closing 93 s at → EntryEnd Pair (suc d) s at r
unfolding entry_place_of
pair_end d s at r h =
    record {
      some = λ e z from f two ends. sym (pair_is d s from f two e (ap (closing 93 s) ends ∙ sym h ∙ z));
      none = λ z from f two ends. pair-none d s from f two (ap (closing 93 s) ends ∙ sym h ∙ z);
    }

-- an entry by its front and its end
pub found-ended : (form : Form) (depth : ℕ) (s : List ℕ) (at : ℕ) (f : EntryPlace) → Two s at f → (e : Option ℕ) → EntryEnd form depth s f.end e
    → (r : EntryPlace) → EndedAt depth s at f e r → r ≡ entry_place_at form depth s at
found-ended form depth s at f two e fits r h = go e refl
  where
    go : (x : Option ℕ) → e ≡ x → r ≡ entry_place_at form depth s at
    go None z = h.none z ∙ found_none form depth s at (fits.none z at f two refl)
    go (Some n) z = h.some n z ∙ sym (fits.some n z at f two refl)
