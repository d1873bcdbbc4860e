-- A text that begins k bytes later, in the middle of another: each value of it is the other's, and so are the elements of each array and the members
-- of each object, k bytes earlier. Assumes nothing.
use Rattle.std.specs.Prelude.{None, Option, Some, ℕ}
use Prim.Native.Nat.{ℕ, zero, suc, ◌+◌, ◌≤◌, ◌<◌}
use mathlib.Core.Path.{◌≡◌, refl, ap, ◌∙◌}
use mathlib.Core.Bool.{Bool, true, false}
use mathlib.Core.List.{List, ◌∷◌, map}
use native.Mathlib.Omega.{arith}
use lib.Dec.{eqb}
use lib.ListN.{length, drop, length-drop}
use Rattle.json_tokens.specs.Tokens.{blanks, closing, separator}
use Rattle.json_tokens.proofs.Bounds.{bounds, blanks-in, separator-in}
use Rattle.json_tokens.proofs.Shift.{shifted, Shifts, both, neither, shifts-is, shifts-if, past_one, byte-shift, blanks-shift, closing-shift, separator-shift, string-shift, scalar-shift}
use Rattle.json_values.specs.Json.{Span, Pair, Next, item, ends, wrong, Items, items, no_items, next, prepended, onward, list, list_of, items_end, element, member, elements, members, value}
use Rattle.json_values.proofs.Ends.{Tells, elements-tell, members-tell}

-- a part of the text, and a member, k bytes later
unfoldable pub shifted_span : ℕ → Span → Span
shifted_span k a = record { from = k + a.from; to = k + a.to }

unfoldable pub shifted_pair : ℕ → Pair → Pair
shifted_pair k m = record { name = shifted_span k m.name; value = shifted_span k m.value }

-- what is found, and a list of items, k bytes later; `move` says what becomes of an item
pub data NextShifts {A : Type 0} (k : ℕ) (move : A → A) : Next A → Next A → Type 0 where
  both-item : {a b : A} {e f : ℕ} → a ≡ move b → e ≡ k + f → NextShifts k move (item a e) (item b f)
  both_end : {e f : ℕ} → e ≡ k + f → NextShifts k move (ends e) (ends f)
  both-wrong : NextShifts k move wrong wrong

pub data ItemsShifts {A : Type 0} (k : ℕ) (move : A → A) : Items A → Items A → Type 0 where
  both-items : {l m : List A} {e f : ℕ} → l ≡ map move m → e ≡ k + f → ItemsShifts k move (items l e) (items m f)
  no-items : ItemsShifts k move no_items no_items

pub items-end : {A : Type 0} {k : ℕ} {move : A → A} {x y : Items A} → ItemsShifts k move x y → Shifts k (items_end x) (items_end y)
unfolding items_end
items-end (both-items p q) = both q
items-end no-items = neither

-- ---- lists of items: `other` finds in the later text what `one` finds in the whole, and tells where it ends
module _ {A : Type 0} (k : ℕ) (s : List ℕ) (move : A → A) (one other : ℕ → Next A) (close : ℕ) {end : ℕ → Option ℕ} (t : Tells other (drop k s) end)
    (same : (i : ℕ) → NextShifts k move (one (k + i)) (other i)) where
  abbrev u : List ℕ
  u = drop k s

  other-in : (i : ℕ) (a : A) (e : ℕ) → other i ≡ item a e → (i < e) × (e ≤ length u)
  other-in i a e h = go (end i) refl
    where
      go : (x : Option ℕ) → end i ≡ x → (i < e) × (e ≤ length u)
      go (Some f) q =
          let p = t.is-item i f q in
          let g = p.1 in
          let z : e ≡ f = cc in
          let b = bounds f (t.inside i) q in
          (omega arith, omega arith)
      go None q = let g = t.is-wrong i q in let z : ◌≡◌ {A = ℕ} 0 1 = cc in absurd (omega arith)

  next-in : (first : Bool) (i : ℕ) (a : A) (e : ℕ) → next other close u first i ≡ item a e → (i < e) × (e ≤ length u)
  unfolding next
  next-in true i a e h = go (closing close u i) h
    where
      go : (x : Option ℕ) → ◌≡◌ {A = Next A} (elim x [ Some e ↦ ends e | None ↦ other (blanks u i) ]) (item a e) → (i < e) × (e ≤ length u)
      go (Some f) h = let z : ◌≡◌ {A = ℕ} 0 1 = cc in absurd (omega arith)
      go None h = let b = other-in (blanks u i) a e h in let l = blanks-in u i in (omega arith, b.1)
  next-in false i a e h = go (separator 44 u i) refl h
    where
      none : (y : Option ℕ) → ◌≡◌ {A = Next A} (elim y [ Some e ↦ ends e | None ↦ wrong ]) (item a e) → (i < e) × (e ≤ length u)
      none (Some f) h = let z : ◌≡◌ {A = ℕ} 0 1 = cc in absurd (omega arith)
      none None h = let z : ◌≡◌ {A = ℕ} 0 1 = cc in absurd (omega arith)

      go : (x : Option ℕ) → separator 44 u i ≡ x
          → ◌≡◌ {A = Next A} (elim x [ Some j ↦ other j | None ↦ elim (closing close u i) [ Some e ↦ ends e | None ↦ wrong ] ]) (item a e) → (i < e) × (e ≤ length u)
      go (Some j) q h = let b = other-in j a e h in let l = bounds j (separator-in u 44 i (omega arith)) q in (omega arith, b.1)
      go None q h = none (closing close u i) h

  next-shift : (first : Bool) (i : ℕ) → NextShifts k move (next one close s first (k + i)) (next other close u first i)
  unfolding next
  next-shift true i = go (closing-shift k s close i)
    where
      go : {x y : Option ℕ} → Shifts k x y → NextShifts {A = A} k move (elim x [ Some e ↦ ends e | None ↦ one (blanks s (k + i)) ]) (elim y [ Some e ↦ ends e | None ↦ other (blanks u i) ])
      go (both h) = both_end h
      go neither = rw (blanks-shift k s i) (same (blanks u i))
  next-shift false i = go (separator-shift k s 44 i)
    where
      none : {x y : Option ℕ} → Shifts k x y → NextShifts {A = A} k move (elim x [ Some e ↦ ends e | None ↦ wrong ]) (elim y [ Some e ↦ ends e | None ↦ wrong ])
      none (both h) = both_end h
      none neither = both-wrong

      go : {x y : Option ℕ} → Shifts k x y → NextShifts {A = A} k move
          (elim x [ Some j ↦ one j | None ↦ elim (closing close s (k + i)) [ Some e ↦ ends e | None ↦ wrong ] ])
          (elim y [ Some j ↦ other j | None ↦ elim (closing close u i) [ Some e ↦ ends e | None ↦ wrong ] ])
      go (both {x} {e} h) = rw h (same e)
      go neither = none (closing-shift k s close i)

  before-shift : {a b : A} {x y : Items A} → a ≡ move b → ItemsShifts k move x y → ItemsShifts k move (prepended a x) (prepended b y)
  unfolding prepended
  before-shift {a} {b} h (both-items {l} {m} p q) = both-items (ap (λ (v : A). v ∷ l) h ∙ ap (λ (r : List A). move b ∷ r) p) q
  before-shift h no-items = no-items

  -- a step of each, and then the rest, past an item
  step-shift : (m n : ℕ) (first : Bool) (i : ℕ) → ((f : ℕ) → i < f → f ≤ length u → ItemsShifts k move (list one close s n false (k + f)) (list other close u m false f))
      → ItemsShifts k move (list one close s (suc n) first (k + i)) (list other close u (suc m) first i)
  unfolding list onward
  step-shift m n first i rest = go (next-shift first i) refl
    where
      go : {x y : Next A} → NextShifts k move x y → next other close u first i ≡ y
          → ItemsShifts k move (onward (λ e. list one close s n false e) x) (onward (λ e. list other close u m false e) y)
      go (both-item {a} {b} {e} {f} p q) h = let w = next-in first i b f h in rw q (before-shift p (rest f w.0 w.1))
      go (both_end q) h = both-items refl q
      go both-wrong h = no-items

  -- the steps are enough for each of the two: an item takes a byte at least
  list-shift : (m n : ℕ) (first : Bool) (i : ℕ) → length u ≤ m + i → length s ≤ n + (k + i)
      → ItemsShifts k move (list one close s (suc n) first (k + i)) (list other close u (suc m) first i)
  list-shift zero n first i l r = step-shift zero n first i (λ f p q. absurd (omega arith))
  list-shift (suc m) zero first i l r = let e = length-drop k s in step-shift (suc m) zero first i (λ f p q. absurd (omega arith))
  list-shift (suc m) (suc n) first i l r = step-shift (suc m) (suc n) first i (λ f p q. list-shift m n false f (omega arith) (omega arith))

  list_of-shift : (i : ℕ) → ItemsShifts k move (list_of one close s (k + i)) (list_of other close u i)
  unfolding list_of
  list_of-shift i = list-shift (length u) (length s) true i (omega arith) (omega arith)

-- ---- elements and members, of values that are the same

-- the member at i whose name ends at n, and whose value is from j to e
abbrev pair_at : ℕ → ℕ → ℕ → ℕ → Pair
pair_at i n j e = record { name = record { from = i; to = n }; value = record { from = j; to = e } }

pair-shift : (k i n j e : ℕ) {o p x : ℕ} → o ≡ k + n → p ≡ k + j → x ≡ k + e → pair_at (k + i) o p x ≡ shifted_pair k (pair_at i n j e)
unfolding shifted_pair shifted_span
pair-shift k i n j e f g h = rw (f, g, h)

-- the same, by where its value, its colon and its name end
abbrev at-end : ℕ → ℕ → ℕ → Option ℕ → Next Pair
at-end i n j x = elim x [ Some e ↦ item (pair_at i n j e) e | None ↦ wrong ]

abbrev past-colon : (ℕ → Option ℕ) → ℕ → ℕ → Option ℕ → Next Pair
past-colon v i n x = elim x [ Some j ↦ at-end i n j (v j) | None ↦ wrong ]

abbrev past-name : (ℕ → Option ℕ) → List ℕ → ℕ → Option ℕ → Next Pair
past-name v s i x = elim x [ Some n ↦ past-colon v i n (separator 58 s n) | None ↦ wrong ]

module _ (k : ℕ) (s : List ℕ) (v w : ℕ → Option ℕ) (same : (i : ℕ) → Shifts k (v (k + i)) (w i)) where
  element-shift : (i : ℕ) → NextShifts k (shifted_span k) (element v (k + i)) (element w i)
  unfolding element shifted_span
  element-shift i = go (same i)
    where
      go : {x y : Option ℕ} → Shifts k x y → NextShifts k (shifted_span k) (elim x [ Some e ↦ item (record { from = k + i; to = e }) e | None ↦ wrong ]) (elim y [ Some e ↦ item (record { from = i; to = e }) e | None ↦ wrong ])
      go (both h) = both-item (ap (λ (e : ℕ). record { from = k + i; to = e }) h) h
      go neither = both-wrong

  member-shift : (i : ℕ) → NextShifts k (shifted_pair k) (member v s (k + i)) (member w (drop k s) i)
  unfolding member shifted_pair shifted_span
  member-shift i = at_name (string-shift k s i)
    where
      at_value : {x y : Option ℕ} (o p n j : ℕ) → o ≡ k + n → p ≡ k + j → Shifts k x y → NextShifts k (shifted_pair k) (at-end (k + i) o p x) (at-end i n j y)
      at_value o p n j f g (both {x} {e} h) = both-item (pair-shift k i n j e f g h) h
      at_value o p n j f g neither = both-wrong

      at-colon : {x y : Option ℕ} (o n : ℕ) → o ≡ k + n → Shifts k x y → NextShifts k (shifted_pair k) (past-colon v (k + i) o x) (past-colon w i n y)
      at-colon o n f (both {x} {e} h) = let q : Shifts k (v x) (w e) = rw h (same e) in at_value o x n e f h q
      at-colon o n f neither = both-wrong

      at_name : {x y : Option ℕ} → Shifts k x y → NextShifts k (shifted_pair k) (past-name v s (k + i) x) (past-name w (drop k s) i y)
      at_name (both {x} {e} h) = let q : Shifts k (separator 58 s x) (separator 58 (drop k s) e) = rw h (separator-shift k s 58 e) in at-colon x e h q
      at_name neither = both-wrong

-- ---- values
module _ (k d : ℕ) (s : List ℕ) (same : (i : ℕ) → Shifts k (value d s (k + i)) (value d (drop k s) i)) (i : ℕ) where
  elements_same : ItemsShifts k (shifted_span k) (elements (value d s) s (k + i)) (elements (value d (drop k s)) (drop k s) i)
  unfolding elements
  elements_same =
      list_of-shift k s (shifted_span k) (element (value d s)) (element (value d (drop k s))) 93 (elements-tell d (drop k s))
      (element-shift k s (value d s) (value d (drop k s)) same) i

  members-same : ItemsShifts k (shifted_pair k) (members (value d s) s (k + i)) (members (value d (drop k s)) (drop k s) i)
  unfolding members
  members-same =
      list_of-shift k s (shifted_pair k) (member (value d s) s) (member (value d (drop k s)) (drop k s)) 125 (members-tell d (drop k s))
      (member-shift k s (value d s) (value d (drop k s)) same) i

pub value-shifts : (k d : ℕ) (s : List ℕ) (i : ℕ) → Shifts k (value d s (k + i)) (value d (drop k s) i)
unfolding value
value-shifts k zero s i = scalar-shift k s i
value-shifts k (suc d) s i =
    shifts-if k (ap (λ (b : ℕ). eqb b 91) (byte-shift k s i)) (rw (past_one k i) (items-end (elements_same k d s (value-shifts k d s) (i + 1))))
    (shifts-if k (ap (λ (b : ℕ). eqb b 123) (byte-shift k s i)) (rw (past_one k i) (items-end (members-same k d s (value-shifts k d s) (i + 1)))) (scalar-shift k s i))

module _ (k d : ℕ) (s : List ℕ) (i : ℕ) where
  pub value-shift : value d s (k + i) ≡ shifted k (value d (drop k s) i)
  value-shift = shifts-is (value-shifts k d s i)

  pub elements-shift : ItemsShifts k (shifted_span k) (elements (value d s) s (k + i)) (elements (value d (drop k s)) (drop k s) i)
  elements-shift = elements_same k d s (value-shifts k d s) i

  pub members-shift : ItemsShifts k (shifted_pair k) (members (value d s) s (k + i)) (members (value d (drop k s)) (drop k s) i)
  members-shift = members-same k d s (value-shifts k d s) i
