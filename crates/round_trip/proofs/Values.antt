-- Values as the writer writes them: each is read to its end wherever it stands, and the elements of an array and the members of an object are those
-- that were written. Assumes nothing.
use Rattle.std.specs.Prelude.{Some}
use Prim.Native.Nat.{ℕ, suc, ◌+◌, ◌≤◌, ◌<◌}
use mathlib.Core.Path.{◌≡◌, refl, sym, ap, ◌∙◌, subst}
use mathlib.Core.Bool.{true}
use mathlib.Core.List.{List, [], ◌∷◌, ◌++◌, map, append_assoc}
use native.Mathlib.Omega.{arith}
use lib.ListN.{length, get_or, drop, length-append}
use Rattle.text.specs.Text.{is_digit, byte_at}
use Rattle.decimal.specs.Digits.{written}
use Rattle.decimal.proofs.Digits.{Digits, none, one, digit-in}
use Rattle.json_tokens.proofs.Laws.{scalar-number}
use Rattle.json_values.specs.Json.{Span, Pair, Next, item, items, list_of, items_end, element, member, elements, members, value}
use Rattle.json_values.proofs.Laws.{value-array, value-object, value-scalar, value-string, element-is, member_is}
use Rattle.writer.specs.Snapshot.{quoted, comma_joined, array}
use Rattle.round_trip.specs.Claims.{Each, each_none, each_more}
use Rattle.round_trip.proofs.Places.{byte-here, past, past-byte, Starts, starts-append, Stops, array-stops, object-stops, Is}
use Rattle.round_trip.proofs.Tokens.{plain, string-here, separates, number-here, written-numeral, first-digit}
use Rattle.round_trip.proofs.Lists.{Read, Item, list_read}

-- ---- a text that is a value, where arrays and objects nest at most d deep
pub record Reads (d : ℕ) (t : List ℕ) : Type 0 where
  pub starts : Starts t
  pub ends : (s : List ℕ) (i : ℕ) (u : List ℕ) → drop i s ≡ t ++ u → Stops u → value d s i ≡ Some (i + length t)

pub each_map : {A : Type 0} {P Q : A → Type 0} {l : List A} → ((a : A) → P a → Q a) → Each P l → Each Q l
each_map f each_none = each_none
each_map f (each_more {a} p r) = each_more (f a p) (each_map f r)

-- ---- strings
quoted-first : (t u : List ℕ) → get_or (quoted t ++ u) 0 0 ≡ 34
unfolding quoted
quoted-first t u = refl

quoted-starts : (t u : List ℕ) → Starts (quoted t ++ u)
quoted-starts t u = let e = quoted-first t u in omega arith

pub string-reads : (d : ℕ) (t : List ℕ) → plain t ≡ true → Reads d (quoted t)
unfolding quoted
string-reads d t p = record {
  starts = omega arith;
  ends = λ s i u h stop. value-string s i d (byte-here s i _ h) ∙ string-here s i t u p h;
}

-- ---- whole numbers
digits-read : (d c : ℕ) (w : List ℕ) → Digits (c ∷ w) → (c ≡ 48 → w ≡ []) → Reads d (c ∷ w)
digits-read d c w h z =
    let k : (48 ≤ c) × (c ≤ 57) = digit-in (first-digit h) in
    record {
      starts = omega arith;
      ends = λ s i u h' stop.
          let e : byte_at s i ≡ c = byte-here s i _ h' in
          value-scalar s i d (λ q. omega arith) (λ q. omega arith)
          ∙ scalar-number s i (λ q. omega arith) (λ q. omega arith) (λ q. omega arith) (λ q. omega arith)
          ∙ number-here s i c w u h' h z stop;
    }

pub number-reads : (d n : ℕ) → Reads d (written n)
number-reads d n = let w = written-numeral n in subst (Reads d) (sym w.is) (digits-read d w.first w.others w.all_digits w.no-needless)

pub zero-reads : (d : ℕ) → Reads d (48 ∷ [])
unfolding is_digit
zero-reads d = digits-read d 48 [] (one refl none) (λ q. refl)

-- ---- texts between brackets, with commas between them
unfoldable bracketed : ℕ → ℕ → List (List ℕ) → List ℕ
bracketed start close ts = start ∷ (comma_joined ts ++ (close ∷ []))

module _ {A D : Type 0} (one : ℕ → Next A) (start close : ℕ) (s : List ℕ) (write : D → List ℕ) (is : A → D → Type 0)
    (later : 44 < close) (stops : (u : List ℕ) → Stops (close ∷ u)) (ds : List D) (each : Each (Item one close s write is) ds)
    (i : ℕ) (u : List ℕ) (h : drop i s ≡ bracketed start close (map write ds) ++ u) where
  opened : drop i s ≡ start ∷ (comma_joined (map write ds) ++ (close ∷ u))
  unfolding bracketed
  opened = h ∙ ap (λ (l : List ℕ). start ∷ l) (append_assoc (comma_joined (map write ds)) (close ∷ []) u)

  bracketed-read : Read is ds (i + length (bracketed start close (map write ds))) (list_of one close s (i + 1))
  unfolding bracketed
  bracketed-read =
      let r = list_read one close s write is later stops ds (i + 1) u each (past-byte s i start _ opened) in
      let g : length (comma_joined (map write ds) ++ (close ∷ [])) ≡ length (comma_joined (map write ds)) + 1 = length-append (comma_joined (map write ds)) (close ∷ []) in
      let n : i + 1 + (length (comma_joined (map write ds)) + 1) ≡ i + length (bracketed start close (map write ds)) = omega arith in
      record { found = r.found; reads-them = r.reads-them ∙ ap (items r.found) n; matches = r.matches }

-- ---- arrays

-- texts as they are
abbrev pub itself : List ℕ → List ℕ
itself t = t

-- an element is a text
abbrev pub IsText : {D : Type 0} → (D → List ℕ) → List ℕ → Span → D → Type 0
IsText write s a d = Is s a (write d)

module _ {D : Type 0} (d : ℕ) (write : D → List ℕ) where
  element-item : (s : List ℕ) (x : D) → Reads d (write x) → Item (element (value d s)) 93 s write (IsText write s) x
  element-item s x r = record {
    starts = r.starts;
    not-closing = r.starts.not-array;
    finds = λ j u h stop. (record { from = j; to = j + length (write x) }, element-is (value d s) j _ (r.ends s j u h stop), record { rest = u; here = h; ends = refl });
  }

  module _ (ds : List D) (each : Each (λ x. Reads d (write x)) ds) where
    pub elements-read : (s : List ℕ) (i : ℕ) (u : List ℕ) → drop i s ≡ array (map write ds) ++ u
        → Read (IsText write s) ds (i + length (array (map write ds))) (elements (value d s) s (i + 1))
    unfolding array bracketed elements
    elements-read s i u h =
        bracketed-read (element (value d s)) 91 93 s write (IsText write s) (omega arith) array-stops ds (each_map (element-item s) each) i u h

    pub array-reads : Reads (suc d) (array (map write ds))
    unfolding array items_end
    array-reads = record {
      starts = omega arith;
      ends = λ s i u h stop. value-array s i d (byte-here s i _ h) ∙ ap items_end (elements-read s i u h).reads-them;
    }

-- ---- objects
pub record Field : Type 0 where
  pub name : List ℕ
  pub text : List ℕ

unfoldable pub field_text : Field → List ℕ
field_text f = quoted f.name ++ (58 ∷ f.text)

unfoldable pub object : List Field → List ℕ
object fs = 123 ∷ (comma_joined (map field_text fs) ++ (125 ∷ []))

pub record GoodField (d : ℕ) (f : Field) : Type 0 where
  pub plainly : plain f.name ≡ true
  pub value-reads : Reads d f.text

-- a member is a field
pub record IsField (s : List ℕ) (m : Pair) (f : Field) : Type 0 where
  pub name-is : Is s m.name (quoted f.name)
  pub value-is : Is s m.value f.text

module _ (d : ℕ) where
  field-starts : (f : Field) → Starts (field_text f)
  unfolding field_text
  field-starts f = quoted-starts f.name (58 ∷ f.text)

  module _ (s : List ℕ) (f : Field) (g : GoodField d f) (j : ℕ) (u : List ℕ) (h : drop j s ≡ field_text f ++ u) (stop : Stops u) where
    k : ℕ
    k = j + length (quoted f.name)

    the-pair : Pair
    the-pair = record { name = record { from = j; to = k }; value = record { from = k + 1; to = k + 1 + length f.text } }

    from-name : drop j s ≡ quoted f.name ++ (58 ∷ (f.text ++ u))
    unfolding field_text
    from-name = h ∙ append_assoc (quoted f.name) (58 ∷ f.text) u

    from-colon : drop k s ≡ 58 ∷ (f.text ++ u)
    unfolding k
    from-colon = past s j (quoted f.name) _ from-name

    from-value : drop (k + 1) s ≡ f.text ++ u
    from-value = past-byte s k 58 _ from-colon

    value-seen : 32 < get_or (f.text ++ u) 0 0
    value-seen = let e = starts-append g.value-reads.starts u in let l = g.value-reads.starts.seen in omega arith

    field_end : k + 1 + length f.text ≡ j + length (field_text f)
    unfolding k field_text
    field_end = let e : length (quoted f.name ++ (58 ∷ f.text)) ≡ length (quoted f.name) + suc (length f.text) = length-append (quoted f.name) (58 ∷ f.text) in omega arith

    field_found : (m : Pair) × (member (value d s) s j ≡ item m (j + length (field_text f))) × IsField s m f
    unfolding k the-pair
    field_found = (
      the-pair,
      member_is (value d s) s j k (k + 1) (k + 1 + length f.text)
          (string-here s j f.name _ g.plainly from-name)
          (separates 58 s k 58 _ from-colon (omega arith) refl value-seen)
          (g.value-reads.ends s (k + 1) u from-value stop)
          ∙ ap (item the-pair) field_end,
      record { name-is = record { rest = _; here = from-name; ends = refl }; value-is = record { rest = u; here = from-value; ends = refl } },
    )

  member-item : (s : List ℕ) (f : Field) → GoodField d f → Item (member (value d s) s) 125 s field_text (IsField s) f
  member-item s f g = record { starts = field-starts f; not-closing = (field-starts f).not-object; finds = field_found s f g }

  module _ (fs : List Field) (each : Each (GoodField d) fs) where
    pub members-read : (s : List ℕ) (i : ℕ) (u : List ℕ) → drop i s ≡ object fs ++ u → Read (IsField s) fs (i + length (object fs)) (members (value d s) s (i + 1))
    unfolding object bracketed members
    members-read s i u h =
        bracketed-read (member (value d s) s) 123 125 s field_text (IsField s) (omega arith) object-stops fs (each_map (member-item s) each) i u h

    pub object-reads : Reads (suc d) (object fs)
    unfolding object items_end
    object-reads = record {
      starts = omega arith;
      ends = λ s i u h stop. value-object s i d (byte-here s i _ h) ∙ ap items_end (members-read s i u h).reads-them;
    }
