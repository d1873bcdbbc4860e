-- What is told of the entries of a message, array by array: the tally and the buffer go on telling what was read. Assumes nothing.
use Rattle.std.specs.Prelude.{None, Option, Some, ℕ}
use Prim.Native.Nat.{ℕ, zero, suc, ◌+◌, ◌-◌}
use mathlib.Core.Path.{◌≡◌, refl, sym, ap, ◌∙◌}
use mathlib.Core.Bool.{true, false, cond}
use mathlib.Core.List.{List, [], ◌∷◌, ◌++◌, map, append-nil, append_assoc}
use native.Mathlib.Omega.{arith}
use lib.ListN.{length, take, length-append}
use Rattle.edit.specs.Edit.{Numbers, is_same, for_side}
use Rattle.edit.specs.Buffer.{max_buffered, buffer_words, entries_in}
use Rattle.edit.specs.declared.Side.{Side}
use Rattle.edit.specs.declared.Side.TheVariants.{Bids, Asks}
use Rattle.json_tokens.specs.Ends.{end_of}
use Rattle.json_values.specs.Json.{Span, value}
use Rattle.json_values.specs.Fold.{fold_from}
use Rattle.entries.specs.Places.{and_then, all, and_also, array_at}
use Rattle.entries.specs.Rows.{Row, Entry, sided, entry_of, entries_at, sided_at, numbers_at}
use Rattle.entries.specs.Tally.{none_yet, told_not, one_bid, one_ask, with_entry, one_more, tally_of, Tells, Kept, or_not, one_span, spans_tally, array_tally, told_at, met, Met}
use Rattle.entries.specs.declared.Form.{Form}
use Rattle.entries.specs.declared.Tally.{Tally}
use Rattle.entries.specs.declared.Entries.{Entries}
use Rattle.entries.proofs.Strings.{no_row, same_row}

-- ---- one reading and another

pub not-read : {A B : Type 0} {r : B} → Some r ≡ None → A
not-read h = no_row (sym h)

pub none-also : {A : Type 0} (y : Option (List A)) → and_also (Some []) y ≡ y
unfolding and_also and_then
none-also (Some r) = refl
none-also None = refl

pub also-none : {A : Type 0} (x : Option (List A)) → and_also x (Some []) ≡ x
unfolding and_also and_then
also-none (Some l) = ap Some (append-nil l)
also-none None = refl

pub also-assoc : {A : Type 0} (x y z : Option (List A)) → and_also (and_also x y) z ≡ and_also x (and_also y z)
unfolding and_also and_then
also-assoc (Some a) (Some b) (Some c) = ap Some (append_assoc a b c)
also-assoc (Some a) (Some b) None = refl
also-assoc (Some a) None z = refl
also-assoc None y z = refl

-- what two readings read together
pub record Both {A : Type 0} (x y : Option (List A)) (l : List A) : Type 0 where
  pub front : List A
  pub back : List A
  pub reads-front : x ≡ Some front
  pub reads-back : y ≡ Some back
  pub both : l ≡ front ++ back

pub also-reads : {A : Type 0} (x y : Option (List A)) (l : List A) → and_also x y ≡ Some l → Both x y l
unfolding and_also and_then
also-reads (Some a) (Some b) l h = record { front = a; back = b; reads-front = refl; reads-back = refl; both = same_row h }
also-reads (Some a) None l h = no_row h
also-reads None y l h = no_row h

-- one of two readings is refused
either-refused : {A B : Type 0} (x y : Option (List A)) → (x ≡ None → B) → (y ≡ None → B) → and_also x y ≡ None → B
unfolding and_also and_then
either-refused (Some a) (Some b) f g h = not-read h
either-refused (Some a) None f g h = g refl
either-refused None y f g h = f refl

pub all_append : {A B : Type 0} (f : A → Option B) (l m : List A) → all f (l ++ m) ≡ and_also (all f l) (all f m)
unfolding all and_also and_then
all_append f [] m = sym (none-also (all f m))
all_append {A} {B} f (a ∷ l) m = ap (λ x. and_then (f a) (λ b. and_then x (λ bs. Some (b ∷ bs)))) (all_append f l m) ∙ go (f a) (all f l) (all f m)
  where
    go : (x : Option B) (y z : Option (List B)) → and_then x (λ b. and_then (and_also y z) (λ bs. Some (b ∷ bs))) ≡ and_also (and_then x (λ b. and_then y (λ bs. Some (b ∷ bs)))) z
    go (Some b) (Some l) (Some m) = refl
    go (Some b) (Some l) None = refl
    go (Some b) None z = refl
    go None y z = refl

pub fold-append : {S A : Type 0} (f : S → A → S) (st : S) (l m : List A) → fold_from f st (l ++ m) ≡ fold_from f (fold_from f st l) m
unfolding fold_from
fold-append f st [] m = refl
fold-append f st (a ∷ l) m = fold-append f (f st a) l m

pub map-append : {A B : Type 0} (f : A → B) (l m : List A) → map f (l ++ m) ≡ map f l ++ map f m
map-append f [] m = refl
map-append f (a ∷ l) m = ap (λ t. f a ∷ t) (map-append f l m)

-- ---- what is counted

abbrev pub side_of : Entry → Side
side_of e = e.side

module _ (base : ℕ) (s : List ℕ) where
  pub one-met : (t : Tally) (e : Entry) → met (one_more base s t e) ≡ suc (met t)
  unfolding one_more with_entry
  one-met t e = go e.side
    where
      go : (side : Side) → t.bids + one_bid side + (t.asks + one_ask side) ≡ suc (met t)
      go Bids = omega arith
      go Asks = omega arith

  pub entries-met : (t : Tally) (es : List Entry) → met (fold_from (one_more base s) t es) ≡ met t + length es
  unfolding fold_from
  entries-met t [] = omega arith
  entries-met t (e ∷ es) = let h = entries-met (one_more base s t e) es in let n = one-met t e in omega arith

  -- each for its side
  entries-bids : (t : Tally) (es : List Entry) → (fold_from (one_more base s) t es).bids ≡ t.bids + length (for_side side_of Bids es)
  unfolding fold_from for_side is_same one_more with_entry
  entries-bids t [] = omega arith
  entries-bids t (e ∷ es) = entries-bids (one_more base s t e) es ∙ go e.side
    where
      go : (side : Side) → t.bids + one_bid side + length (for_side side_of Bids es) ≡ t.bids + length (cond (is_same side Bids) (e ∷ for_side side_of Bids es) (for_side side_of Bids es))
      go Bids = omega arith
      go Asks = omega arith

  entries-asks : (t : Tally) (es : List Entry) → (fold_from (one_more base s) t es).asks ≡ t.asks + length (for_side side_of Asks es)
  unfolding fold_from for_side is_same one_more with_entry
  entries-asks t [] = omega arith
  entries-asks t (e ∷ es) = entries-asks (one_more base s t e) es ∙ go e.side
    where
      go : (side : Side) → t.asks + one_ask side + length (for_side side_of Asks es) ≡ t.asks + length (cond (is_same side Asks) (e ∷ for_side side_of Asks es) (for_side side_of Asks es))
      go Bids = omega arith
      go Asks = omega arith

  entries-formed : (t : Tally) (es : List Entry) → (fold_from (one_more base s) t es).well_formed ≡ t.well_formed
  unfolding fold_from one_more with_entry
  entries-formed t [] = refl
  entries-formed t (e ∷ es) = entries-formed (one_more base s t e) es

module _ (s : List ℕ) (es : List Entry) where
  pub tally-met : met (tally_of s es) ≡ length es
  tally-met = let h = entries-met 0 s none_yet es in omega arith

  pub tally-formed : (tally_of s es).well_formed ≡ true
  tally-formed = entries-formed 0 s none_yet es

  pub tally-bids : (tally_of s es).bids ≡ length (for_side side_of Bids es)
  tally-bids = let h = entries-bids 0 s none_yet es in omega arith

  pub tally-asks : (tally_of s es).asks ≡ length (for_side side_of Asks es)
  tally-asks = let h = entries-asks 0 s none_yet es in omega arith

-- ---- an array of entries: the spans of its elements, and the entries that these are

module _ (base : ℕ) (s : List ℕ) (form : Form) (side : Side) where
  module _ (d : ℕ) where
    abbrev more : Tally → Span → Tally
    more = one_span base s d form side

    -- what is no entry stays told
    one-unformed : (t : Tally) (y : Option Row) → t.well_formed ≡ false → (or_not base s side t y).well_formed ≡ false
    unfolding or_not one_more with_entry
    one-unformed t (Some r) h = h
    one-unformed t None h = refl

    pub spans-unformed : (t : Tally) (l : List Span) → t.well_formed ≡ false → (fold_from more t l).well_formed ≡ false
    unfolding fold_from
    spans-unformed t [] h = h
    spans-unformed t (a ∷ l) h = spans-unformed (more t a) l (one-unformed t (entry_of form d s a) h)

    pub spans-told : (t : Tally) (l : List Span) (rows : List Row) → all (entry_of form d s) l ≡ Some rows
        → fold_from more t l ≡ fold_from (one_more base s) t (map (sided side) rows)
    unfolding fold_from all and_then or_not
    spans-told t [] rows h = ap (λ (x : List Row). fold_from (one_more base s) t (map (sided side) x)) (sym (same_row h))
    spans-told t (a ∷ l) rows h = go (entry_of form d s a) (all (entry_of form d s) l) (λ u rs q. spans-told u l rs q) h
      where
        go : (y : Option Row) (z : Option (List Row)) → ((u : Tally) (rs : List Row) → z ≡ Some rs → fold_from more u l ≡ fold_from (one_more base s) u (map (sided side) rs))
            → and_then y (λ b. and_then z (λ bs. Some (b ∷ bs))) ≡ Some rows → fold_from more (or_not base s side t y) l ≡ fold_from (one_more base s) t (map (sided side) rows)
        go (Some r) (Some rs) later g =
            later (one_more base s t (sided side r)) rs refl ∙ ap (λ (x : List Row). fold_from (one_more base s) t (map (sided side) x)) (sym (same_row g))
        go (Some r) None later g = no_row g
        go None z later g = no_row g

    spans-none : (t : Tally) (l : List Span) → all (entry_of form d s) l ≡ None → (fold_from more t l).well_formed ≡ false
    unfolding fold_from all and_then or_not
    spans-none t [] h = not-read h
    spans-none t (a ∷ l) h = go (entry_of form d s a) (all (entry_of form d s) l) (λ u q. spans-none u l q) h
      where
        go : (y : Option Row) (z : Option (List Row)) → ((u : Tally) → z ≡ None → (fold_from more u l).well_formed ≡ false)
            → and_then y (λ b. and_then z (λ bs. Some (b ∷ bs))) ≡ None → (fold_from more (or_not base s side t y) l).well_formed ≡ false
        go (Some r) (Some rs) later g = not-read g
        go (Some r) None later g = later (one_more base s t (sided side r)) refl
        go None z later g = spans-unformed (or_not base s side t None) l refl

  pub array-spans : (d : ℕ) (t : Tally) (a : Span) → array_tally base s (suc d) form side t a ≡ spans_tally base s d form side t (array_at (suc d) s a)
  unfolding array_tally
  array-spans d t a = let n : suc d - 1 ≡ d = omega arith in ap (λ (k : ℕ). spans_tally base s k form side t (array_at (suc d) s a)) n

  -- the entries of an array are those that were met after the ones before
  pub array_told : (depth : ℕ) (t : Tally) (a : Span) (es : List Entry) → sided_at side form depth s a ≡ Some es
      → array_tally base s depth form side t a ≡ fold_from (one_more base s) t es
  unfolding sided_at entries_at and_then array_tally spans_tally array_at
  array_told zero t a es h = no_row h
  array_told (suc d) t a es h = array-spans d t a ∙ go (array_at (suc d) s a) h
    where
      rows_told : (l : List Span) (y : Option (List Row)) → all (entry_of form d s) l ≡ y → and_then y (λ rows. Some (map (sided side) rows)) ≡ Some es
          → fold_from (more d) t l ≡ fold_from (one_more base s) t es
      rows_told l (Some rows) q g = spans-told d t l rows q ∙ ap (fold_from (one_more base s) t) (sym (same_row g))
      rows_told l None q g = no_row g

      go : (x : Option (List Span)) → and_then (and_then x (all (entry_of form d s))) (λ rows. Some (map (sided side) rows)) ≡ Some es
          → spans_tally base s d form side t x ≡ fold_from (one_more base s) t es
      go (Some l) g = rows_told l (all (entry_of form d s) l) refl g
      go None g = no_row g

  pub array-none : (depth : ℕ) (t : Tally) (a : Span) → sided_at side form depth s a ≡ None → (array_tally base s depth form side t a).well_formed ≡ false
  unfolding sided_at entries_at and_then array_tally spans_tally array_at
  array-none zero t a h = refl
  array-none (suc d) t a h = ap (λ (u : Tally). u.well_formed) (array-spans d t a) ∙ go (array_at (suc d) s a) h
    where
      rows_none : (l : List Span) (y : Option (List Row)) → all (entry_of form d s) l ≡ y → and_then y (λ rows. Some (map (sided side) rows)) ≡ None
          → (fold_from (more d) t l).well_formed ≡ false
      rows_none l (Some rows) q g = not-read g
      rows_none l None q g = spans-none d t l q

      go : (x : Option (List Span)) → and_then (and_then x (all (entry_of form d s))) (λ rows. Some (map (sided side) rows)) ≡ None
          → (spans_tally base s d form side t x).well_formed ≡ false
      go (Some l) g = rows_none l (all (entry_of form d s) l) refl g
      go None g = refl

  pub array-unformed : (depth : ℕ) (t : Tally) (a : Span) → t.well_formed ≡ false → (array_tally base s depth form side t a).well_formed ≡ false
  unfolding array_tally spans_tally
  array-unformed depth t a h = go (array_at depth s a)
    where
      go : (x : Option (List Span)) → (spans_tally base s (depth - 1) form side t x).well_formed ≡ false
      go (Some l) = spans-unformed (depth - 1) t l h
      go None = refl

  -- the value at a position, as an array of entries
  module _ (depth : ℕ) (t : Tally) (at : ℕ) where
    pub told_is : (e : ℕ) → value depth s at ≡ Some e
        → told_at base s depth form side t at ≡ record { end = e; tally = array_tally base s depth form side t (record { from = at; to = e }) }
    unfolding told_at
    told_is e v = rw (v, told_at)

    pub told-broken : value depth s at ≡ None → told_at base s depth form side t at ≡ told_not 0
    unfolding told_at
    told-broken v = rw (v, told_at)

    -- the end is the value's, whatever it is
    pub told-end : (told_at base s depth form side t at).end ≡ end_of (value depth s at)
    unfolding end_of
    told-end = go (value depth s at) refl
      where
        go : (x : Option ℕ) → value depth s at ≡ x → (told_at base s depth form side t at).end ≡ end_of x
        go (Some e) v = ap (λ (r : Entries). r.end) (told_is e v)
        go None v = ap (λ (r : Entries). r.end) (told-broken v)

-- ---- the tally and the buffer, array by array

pub tells_none : (s : List ℕ) → Tells s (Some []) none_yet
unfolding fold_from
tells_none s = record { all = λ es h. ap (tally_of s) (sym (same_row h)); none = λ h. not-read h }

pub tells_more : (s : List ℕ) (x : Option (List Entry)) (t : Tally) (side : Side) (form : Form) (depth : ℕ) (a : Span) → Tells s x t
    → Tells s (and_also x (sided_at side form depth s a)) (array_tally 0 s depth form side t a)
tells_more s x t side form depth a told = record { all = every; none = λ h. either-refused x y (λ q. array-unformed 0 s form side depth t a (told.none q)) (array-none 0 s form side depth t a) h }
  where
    y : Option (List Entry)
    y = sided_at side form depth s a

    every : (es : List Entry) → and_also x y ≡ Some es → array_tally 0 s depth form side t a ≡ tally_of s es
    every es h =
        let b = also-reads x y es h in
        array_told 0 s form side depth t a b.back b.reads-back
        ∙ ap (λ (u : Tally). fold_from (one_more 0 s) u b.back) (told.all b.front b.reads-front)
        ∙ sym (fold-append (one_more 0 s) none_yet b.front b.back)
        ∙ ap (tally_of s) (sym b.both)

module _ (s buffer : List ℕ) (room : length buffer ≡ buffer_words) where
  pub kept-none : Kept s (Some []) buffer
  kept-none = record { room = room; front = λ es h. rw (same_row h) refl }

  pub kept-refused : Kept s None buffer
  kept-refused = record { room = room; front = λ es h. no_row h }

-- a front that is cut twice
cut_twice : {A : Type 0} (n : ℕ) (a b : List A) → take n (take n a ++ b) ≡ take n (a ++ b)
cut_twice zero a b = refl
cut_twice (suc n) [] b = refl
cut_twice (suc n) (x ∷ a) b = ap (λ t. x ∷ t) (cut_twice n a b)

pub kept_more : (s : List ℕ) (x : Option (List Entry)) (t : Tally) (side : Side) (form : Form) (depth at : ℕ) (before after : List ℕ) (r : Entries)
    → Tells s x t → Kept s x before → Met 0 s depth form side t at before after r → (e : ℕ) → value depth s at ≡ Some e
    → Kept s (and_also x (sided_at side form depth s (record { from = at; to = e }))) after
kept_more s x t side form depth at before after r told kept now e v = record { room = now.room; front = front }
  where
    y : Option (List Entry)
    y = sided_at side form depth s (record { from = at; to = e })

    front : (es : List Entry) → and_also x y ≡ Some es → take (length es) (entries_in after) ≡ take max_buffered (map (numbers_at s) es)
    front es h =
        let b = also-reads x y es h in
        let numbers = map (numbers_at s) in
        let n : met t ≡ length b.front = ap met (told.all b.front b.reads-front) ∙ tally-met s b.front in
        let l : length es ≡ met t + length b.back = ap length b.both ∙ length-append b.front b.back ∙ ap (λ (k : ℕ). k + length b.back) (sym n) in
        ap (λ (k : ℕ). take k (entries_in after)) l
        ∙ now.kept e v b.back b.reads-back
        ∙ ap (λ (z : List Numbers). take max_buffered (z ++ numbers b.back)) (ap (λ (k : ℕ). take k (entries_in before)) n ∙ kept.front b.front b.reads-front)
        ∙ cut_twice max_buffered (numbers b.front) (numbers b.back)
        ∙ ap (take max_buffered) (sym (map-append (numbers_at s) b.front b.back) ∙ ap numbers (sym b.both))
