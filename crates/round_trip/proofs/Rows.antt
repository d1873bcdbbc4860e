-- The entries that the writer writes for levels say these levels, and none breaks check 8. Assumes nothing.
use Rattle.std.specs.Prelude.{Option, Some}
use Prim.Native.Nat.{ℕ, zero, suc, ◌+◌, ◌/◌, ◌^◌, ◌≤◌}
use mathlib.Core.Path.{◌≡◌, refl, ap, ap₂, ◌∙◌}
use mathlib.Core.Bool.{Bool, true, false, ◌&&◌, cond}
use mathlib.Core.List.{List, [], ◌∷◌, ◌++◌, map, append-nil}
use native.Mathlib.Omega.{arith}
use borrow.Author.Tests.{ne_eqb, le-leb}
use lib.ListN.{length}
use Rattle.text.specs.Text.{ascii}
use Rattle.decimal.specs.Digits.{written}
use Rattle.decimal.specs.Decimal.{Number, read, text, after_point, is_zero}
use Rattle.decimal.proofs.Digits.{Digits, none, one, digit-in, written-digits, fixed-digits}
use Rattle.decimal.proofs.RoundTrip.{read-text}
use Rattle.json_tokens.specs.Ends.{unescaped}
use Rattle.json_values.specs.Json.{Span}
use Rattle.entries.specs.Places.{and_then, all, and_also, array_at}
use Rattle.json_values.specs.Names.{inner}
use Rattle.entries.specs.Rows.{Row, row_k, row_m, entry_of, entries_at, Entry, sided, sided_at, bad_price, bad_size, bad_texts, number_at, numbers_at}
use Rattle.entries.specs.declared.Form.{Form}
use Rattle.entries.specs.declared.Form.TheVariants.{Triple, Pair}
use Rattle.message.specs.Meaning.{SidedEdit, sided_edit}
use Rattle.edit.specs.Edit.{PriceLevel, edit_of, is_same, for_side}
use Rattle.edit.specs.declared.Side.{Side}
use Rattle.writer.specs.Snapshot.{quoted, array, k_entry, m_entry}
use Rattle.round_trip.specs.Claims.{setting, Positive, ValidLevel, Each, each_none, each_more}
use Rattle.round_trip.proofs.Places.{Is}
use Rattle.round_trip.proofs.Tokens.{plain}
use Rattle.round_trip.proofs.Lists.{Matched, both_none, both_more}
use Rattle.round_trip.proofs.Values.{Reads, IsText, string-reads, array-reads}
use Rattle.round_trip.proofs.Readers.{Gives, array-at, is-string, inner-is}

-- ---- a decimal's text is plain
pub digits-plain : {w : List ℕ} → Digits w → plain w ≡ true
unfolding plain unescaped
digits-plain none = refl
digits-plain (one {c} e h) =
    let k : (48 ≤ c) × (c ≤ 57) = digit-in e in
    rw (le-leb 32 c (omega arith), ne_eqb c 34 (λ q. omega arith), ne_eqb c 92 (λ q. omega arith)) (digits-plain h)

pub plain-append : (v w : List ℕ) → plain v ≡ true → plain w ≡ true → plain (v ++ w) ≡ true
unfolding plain
plain-append [] w p q = q
plain-append (c ∷ v) w p q = at (unescaped c) p (λ r. plain-append v w r q)
  where
    at : (b : Bool) → (b && plain v) ≡ true → (plain v ≡ true → plain (v ++ w) ≡ true) → (b && plain (v ++ w)) ≡ true
    at true p f = f p
    at false p f = p

after-plain : (k n : ℕ) → plain (after_point k n) ≡ true
unfolding after_point plain unescaped
after-plain zero n = refl
after-plain (suc k) n = digits-plain (fixed-digits (suc k) n)

pub text-plain : (n : Number) → plain (text n) ≡ true
unfolding text
text-plain n = plain-append (written (n.digits / 10 ^ n.decimals)) (after_point n.decimals n.digits) (digits-plain (written-digits _)) (after-plain n.decimals n.digits)

-- ---- a decimal in quotes
module _ {s : List ℕ} {a : Span} (n : Number) (p : Positive n) (h : Is s a (quoted (text n))) where
  reads-it : read (inner s a) ≡ Some n
  reads-it = ap read (inner-is (text n) h) ∙ read-text n p.within

  number_is : number_at s a ≡ n
  unfolding number_at
  number_is = rw (reads-it, number_at)

  price-fine : bad_price s a ≡ false
  unfolding bad_price
  price-fine = rw (reads-it, bad_price) p.some

  size-fine : bad_size true s a ≡ false
  unfolding bad_size
  size-fine = rw (reads-it, bad_size) p.some

-- ---- an entry is a level
pub record IsLevel (s : List ℕ) (r : Row) (l : PriceLevel) : Type 0 where
  pub price-is : number_at s r.price ≡ l.price
  pub size_is : number_at s r.size ≡ l.size
  pub not-zero : is_zero l.size ≡ false
  pub good-price : bad_price s r.price ≡ false
  pub good-size : bad_size true s r.size ≡ false

level-is : {s : List ℕ} {a p z : Span} (l : PriceLevel) → ValidLevel l → Is s p (quoted (text l.price)) → Is s z (quoted (text l.size))
    → IsLevel s (record { whole = a; price = p; size = z }) l
level-is l f h k = record {
  price-is = number_is l.price f.price h;
  size_is = number_is l.size f.size k;
  not-zero = f.size.some;
  good-price = price-fine l.price f.price h;
  good-size = size-fine l.size f.size k;
}

-- an entry that is read of a part of the text
pub record EntryAt (s : List ℕ) (l : PriceLevel) (x : Option Row) : Type 0 where
  pub row : Row
  pub is_row : x ≡ Some row
  pub row_is : IsLevel s row l

-- what an entry of a dialect is to be
pub record Written (write : PriceLevel → List ℕ) (entry : List ℕ → Span → Option Row) : Type 0 where
  pub entry-reads : (l : PriceLevel) → Reads 13 (write l)
  pub entry_at : (s : List ℕ) (a : Span) (l : PriceLevel) → ValidLevel l → Is s a (write l) → EntryAt s l (entry s a)

-- an entry is an array of strings, of which a dialect's `row` makes the row
module _ (texts : PriceLevel → List (List ℕ)) (row : List ℕ → Span → List Span → Option Row) (strings : (l : PriceLevel) → Each (λ t. Reads 12 (quoted t)) (texts l))
    (row_at : (s : List ℕ) (a : Span) (parts : List Span) (l : PriceLevel) → ValidLevel l → Matched (IsText quoted s) parts (texts l) → EntryAt s l (row s a parts)) where
  array_row : (s : List ℕ) (a : Span) (l : PriceLevel) → ValidLevel l → Is s a (array (map quoted (texts l))) → EntryAt s l (and_then (array_at 13 s a) (row s a))
  unfolding and_then
  array_row s a l f h =
      let g = array-at 12 quoted (texts l) (strings l) s a h in
      let e = row_at s a g.found l f g.matches in
      record { row = e.row; is_row = rw (g.gives, and_then) e.is_row; row_is = e.row_is }

  entry-of : Written (λ l. array (map quoted (texts l))) (λ s a. and_then (array_at 13 s a) (row s a))
  entry-of = record { entry-reads = λ l. array-reads 12 quoted (texts l) (strings l); entry_at = array_row }

-- the strings of an entry: price, size and what the dialect has more
unfoldable entry_texts : List (List ℕ) → PriceLevel → List (List ℕ)
entry_texts more l = text l.price ∷ (text l.size ∷ more)

strings-read : (more : List (List ℕ)) → Each (λ t. Reads 12 (quoted t)) more → (l : PriceLevel) → Each (λ t. Reads 12 (quoted t)) (entry_texts more l)
unfolding entry_texts
strings-read more each l =
    each_more (string-reads 12 (text l.price) (text-plain l.price))
    (each_more (string-reads 12 (text l.size) (text-plain l.size)) each)

-- ---- K's entries
abbrev stamp : List ℕ
stamp = ascii "0.000000"

stamp-reads : Each (λ t. Reads 12 (quoted t)) (stamp ∷ [])
unfolding plain unescaped
stamp-reads = each_more (string-reads 12 stamp refl) each_none

k-row : (s : List ℕ) (a : Span) (parts : List Span) (l : PriceLevel) → ValidLevel l → Matched (IsText quoted s) parts (entry_texts (stamp ∷ []) l) → EntryAt s l (row_k s a parts)
unfolding entry_texts row_k
k-row s a parts l f (both_more {a = p} h (both_more {a = z} k (both_more m both_none))) = record {
  row = record { whole = a; price = p; size = z };
  is_row = rw (is-string (text l.price) h, is-string (text l.size) k, is-string stamp m);
  row_is = level-is l f h k;
}

pub k-entry : Written k_entry (entry_of Triple 13)
unfolding k_entry entry_texts entry_of
k-entry = entry-of (entry_texts (stamp ∷ [])) row_k (strings-read (stamp ∷ []) stamp-reads) k-row

-- ---- M's entries
m-row : (s : List ℕ) (a : Span) (parts : List Span) (l : PriceLevel) → ValidLevel l → Matched (IsText quoted s) parts (entry_texts [] l) → EntryAt s l (row_m s a parts)
unfolding entry_texts row_m
m-row s a parts l f (both_more {a = p} h (both_more {a = z} k both_none)) = record {
  row = record { whole = a; price = p; size = z };
  is_row = rw (is-string (text l.price) h, is-string (text l.size) k);
  row_is = level-is l f h k;
}

pub m-entry : Written m_entry (entry_of Pair 13)
unfolding m_entry entry_texts entry_of
m-entry = entry-of (entry_texts []) row_m (strings-read [] each_none) m-row

-- ---- an array of entries
pub each_of : {A : Type 0} {P : A → Type 0} → ((a : A) → P a) → (l : List A) → Each P l
each_of f [] = each_none
each_of f (a ∷ l) = each_more (f a) (each_of f l)

-- an entry that carries an edit
pub record IsEdit (s : List ℕ) (e : Entry) (d : SidedEdit) : Type 0 where
  pub says-it : sided_edit (numbers_at s e) ≡ d
  pub price-good : bad_price s e.row.price ≡ false
  pub size-good : bad_size true s e.row.size ≡ false

sets_it : {s : List ℕ} (side : Side) {r : Row} {l : PriceLevel} → IsLevel s r l → IsEdit s (sided side r) (setting side l)
unfolding sided_edit numbers_at edit_of
sets_it side i = record { says-it = rw (i.price-is, i.size_is, i.not-zero); price-good = i.good-price; size-good = i.good-size }

set_all : {s : List ℕ} (side : Side) {rows : List Row} {levels : List PriceLevel} → Matched (IsLevel s) rows levels
    → Matched (IsEdit s) (map (sided side) rows) (map (setting side) levels)
set_all side both_none = both_none
set_all side (both_more i m) = both_more (sets_it side i) (set_all side m)

module _ (write : PriceLevel → List ℕ) (form : Form) (e : Written write (entry_of form 13)) where
  pub side-reads : (levels : List PriceLevel) → Reads 14 (array (map write levels))
  side-reads levels = array-reads 13 write levels (each_of e.entry-reads levels)

  all-rows : (s : List ℕ) {parts : List Span} {levels : List PriceLevel} → Each ValidLevel levels → Matched (IsText write s) parts levels
      → Gives (IsLevel s) levels (all (entry_of form 13 s) parts)
  unfolding all and_then
  all-rows s each_none both_none = record { found = []; gives = refl; matches = both_none }
  all-rows s (each_more {a = l} f r) (both_more {a} h m) =
      let x = e.entry_at s a l f h in
      let g = all-rows s r m in
      record { found = x.row ∷ g.found; gives = rw (x.is_row, g.gives); matches = both_more x.row_is g.matches }

  entries-at : (s : List ℕ) (a : Span) (levels : List PriceLevel) → Each ValidLevel levels → Is s a (array (map write levels)) → Gives (IsLevel s) levels (entries_at form 14 s a)
  unfolding entries_at and_then
  entries-at s a levels each h =
      let p = array-at 13 write levels (each_of e.entry-reads levels) s a h in
      let g = all-rows s each p.matches in
      record { found = g.found; gives = rw (p.gives, and_then) g.gives; matches = g.matches }

  pub sided-at : (side : Side) (s : List ℕ) (a : Span) (levels : List PriceLevel) → Each ValidLevel levels → Is s a (array (map write levels))
      → Gives (IsEdit s) (map (setting side) levels) (sided_at side form 14 s a)
  unfolding sided_at and_then
  sided-at side s a levels each h =
      let g = entries-at s a levels each h in
      record { found = map (sided side) g.found; gives = rw (g.gives, and_then); matches = set_all side g.matches }

-- ---- the entries of two readings
matched-append : {A D : Type 0} {is : A → D → Type 0} {l k : List A} {d e : List D} → Matched is l d → Matched is k e → Matched is (l ++ k) (d ++ e)
matched-append both_none n = n
matched-append (both_more h m) n = both_more h (matched-append m n)

pub also : {A D : Type 0} {is : A → D → Type 0} {d e : List D} {x y : Option (List A)} → Gives is d x → Gives is e y → Gives is (d ++ e) (and_also x y)
unfolding and_also and_then
also g h = record { found = g.found ++ h.found; gives = rw (g.gives, and_then, h.gives); matches = matched-append g.matches h.matches }

pub no_more : {A D : Type 0} {is : A → D → Type 0} {d : List D} {x : Option (List A)} → Gives is d x → Gives is d (and_also x (Some []))
unfolding and_also and_then
no_more g = record { found = g.found; gives = rw (g.gives, and_then) (ap Some (append-nil g.found)); matches = g.matches }

-- ---- what entries say
pub edits-are : {s : List ℕ} {es : List Entry} {ds : List SidedEdit} → Matched (IsEdit s) es ds → map sided_edit (map (numbers_at s) es) ≡ ds
edits-are both_none = refl
edits-are (both_more h m) = ap₂ (λ (d : SidedEdit) (ds : List SidedEdit). d ∷ ds) h.says-it (edits-are m)

pub none-bad : {s : List ℕ} {es : List Entry} {ds : List SidedEdit} → Matched (IsEdit s) es ds → bad_texts true s es ≡ []
unfolding bad_texts
none-bad both_none = refl
none-bad (both_more h m) = rw (h.price-good, h.size-good) (none-bad m)

-- ---- how many are for a side
abbrev pub edit_side : SidedEdit → Side
edit_side d = d.side

side-is : {s : List ℕ} {e : Entry} {d : SidedEdit} → IsEdit s e d → e.side ≡ d.side
unfolding sided_edit numbers_at
side-is h = ap edit_side h.says-it

pub count-is : {s : List ℕ} {es : List Entry} {ds : List SidedEdit} (side : Side) → Matched (IsEdit s) es ds
    → length (for_side (λ (e : Entry). e.side) side es) ≡ length (for_side edit_side side ds)
unfolding for_side
count-is side both_none = refl
count-is side (both_more {a = e} {d} {l = es} {k = ds} h m) =
    at (is_same e.side side) (count-is side m)
    ∙ ap (λ (x : Side). length (cond (is_same x side) (d ∷ for_side edit_side side ds) (for_side edit_side side ds))) (side-is h)
  where
    at : (b : Bool) → length (for_side (λ (e : Entry). e.side) side es) ≡ length (for_side edit_side side ds)
        → length (cond b (e ∷ for_side (λ (e : Entry). e.side) side es) (for_side (λ (e : Entry). e.side) side es))
        ≡ length (cond b (d ∷ for_side edit_side side ds) (for_side edit_side side ds))
    at true ih = ap suc ih
    at false ih = ih

-- those of the levels of one side, and of others
pub count-append : (side : Side) (c d : List SidedEdit) → length (for_side edit_side side (c ++ d)) ≡ length (for_side edit_side side c) + length (for_side edit_side side d)
unfolding for_side
count-append side [] d = omega arith
count-append side (x ∷ c) d = at (is_same x.side side) (count-append side c d)
  where
    at : (b : Bool) → length (for_side edit_side side (c ++ d)) ≡ length (for_side edit_side side c) + length (for_side edit_side side d)
        → length (cond b (x ∷ for_side edit_side side (c ++ d)) (for_side edit_side side (c ++ d)))
        ≡ length (cond b (x ∷ for_side edit_side side c) (for_side edit_side side c)) + length (for_side edit_side side d)
    at true ih = omega arith
    at false ih = ih

pub count-own : (side : Side) (levels : List PriceLevel) → is_same side side ≡ true → length (for_side edit_side side (map (setting side) levels)) ≡ length levels
unfolding for_side
count-own side [] h = refl
count-own side (l ∷ levels) h = rw h (ap suc (count-own side levels h))

pub count-other : (side other : Side) (levels : List PriceLevel) → is_same other side ≡ false → length (for_side edit_side side (map (setting other) levels)) ≡ 0
unfolding for_side
count-other side other [] h = refl
count-other side other (l ∷ levels) h = rw h (count-other side other levels h)
