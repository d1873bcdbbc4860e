-- The laws that `specs/Claims` states.
-- Assumes nothing.
use Rattle.std.specs.Prelude.{None, Option, Some, ℕ}
use mathlib.Core.Path.{◌≡◌, refl, sym, ◌∙◌}
use mathlib.Core.List.{List, [], ◌∷◌}
use mathlib.Core.Bool.{Bool, true, false, true≢false}
use Prim.Native.Nat.{ℕ, zero, suc, ◌≤◌, ◌<◌}
use native.Mathlib.Omega.{arith}
use lib.ListN.{length}
use borrow.Author.Tests.{eqb-true, eq-eqb}
use Rattle.json_tokens.specs.Tokens.{blanks, closing, separator, string, ended}
use Rattle.json_tokens.proofs.Bounds.{bounds, blanks-in, closing-in, separator-in, string-in}
use Rattle.json_values.specs.Json.{Next, item, ends, wrong, Items, items, no_items, next, prepended, onward, list, list_of, element, member, elements, members, value, max_depth, text}
use Rattle.json_values.specs.Claims.{EndsWithin, InOrder, end, then, IsElement, IsMember, ElementsInOrder, MembersInOrder, Reading, OneReading, OneName}
use Rattle.json_values.proofs.Laws.{text-ends, text-broken}
use Rattle.json_values.proofs.Bounds.{value_in}
use Rattle.json_values.proofs.Names.{means-meaning}

pub ends-within : EndsWithin
ends-within d s i e h = let b = bounds e (value_in d s i) h in (omega arith, b.1)

-- ---- items in order
-- what is found from lo on lies there, and is what `is` says
data Found {A : Type 0} (s : List ℕ) (is : A → ℕ → ℕ → Type 0) (lo : ℕ) : Next A → Type 0 where
  found : (a : A) (from e : ℕ) → lo ≤ from → from < e → e ≤ length s → is a from e → Found s is lo (item a e)
  finished : (e : ℕ) → lo < e → e ≤ length s → Found s is lo (ends e)
  nothing : Found s is lo wrong

-- a list from lo on lies there, its items in order
data Laid {A : Type 0} (s : List ℕ) (is : A → ℕ → ℕ → Type 0) (lo : ℕ) : Items A → Type 0 where
  laid : (l : List A) (e : ℕ) → InOrder is e lo l → e ≤ length s → Laid s is lo (items l e)
  broken : Laid s is lo no_items

module _ {A : Type 0} (s : List ℕ) (is : A → ℕ → ℕ → Type 0) where
  sooner : (lo i : ℕ) → lo ≤ i → (x : Next A) → Found s is i x → Found s is lo x
  sooner lo i l (item a e) (found b from f p q m h) = found a from e (omega arith) q m h
  sooner lo i l (ends e) (finished f p m) = finished e (omega arith) m
  sooner lo i l wrong h = nothing

  past : (lo from e : ℕ) (a : A) → lo ≤ from → from < e → is a from e → (x : Items A) → Laid s is e x → Laid s is lo (prepended a x)
  unfolding prepended
  past lo from e a p q h (items l hi) (laid m f o n) = laid (a ∷ l) hi (then lo from e a l p q h o) n
  past lo from e a p q h no_items w = broken

  onward-laid : (lo : ℕ) (rest : ℕ → Items A) → ((e : ℕ) → Laid s is e (rest e)) → (x : Next A) → Found s is lo x → Laid s is lo (onward rest x)
  unfolding onward
  onward-laid lo rest ih (item a e) (found b from f p q m h) = past lo from e a p q h (rest e) (ih e)
  onward-laid lo rest ih (ends e) (finished f p m) = laid [] e (end lo p) m
  onward-laid lo rest ih wrong h = broken

  module _ (one : ℕ → Next A) (close : ℕ) (pos : 0 < close) (one_found : (i : ℕ) → Found s is i (one i)) where
    next-found : (first : Bool) (i : ℕ) → Found s is i (next one close s first i)
    unfolding next
    next-found true i = go (closing close s i) refl
      where
        go : (x : Option ℕ) → closing close s i ≡ x → Found s is i (elim x [ Some e ↦ ends e | None ↦ one (blanks s i) ])
        go (Some e) h = let b = bounds e (closing-in s close i pos) h in finished e (omega arith) b.1
        go None h = sooner i (blanks s i) (blanks-in s i).0 (one (blanks s i)) (one_found (blanks s i))
    next-found false i = go (separator 44 s i) refl
      where
        close-found : (y : Option ℕ) → closing close s i ≡ y → Found s is i (elim y [ Some e ↦ ends e | None ↦ wrong ])
        close-found (Some e) h = let b = bounds e (closing-in s close i pos) h in finished e (omega arith) b.1
        close-found None h = nothing

        go : (x : Option ℕ) → separator 44 s i ≡ x → Found s is i (elim x [ Some j ↦ one j | None ↦ elim (closing close s i) [ Some e ↦ ends e | None ↦ wrong ] ])
        go (Some j) h = let b = bounds j (separator-in s 44 i (omega arith)) h in sooner i j (omega arith) (one j) (one_found j)
        go None h = close-found (closing close s i) refl

    list-laid : (n : ℕ) (first : Bool) (i : ℕ) → Laid s is i (list one close s n first i)
    unfolding list
    list-laid zero first i = broken
    list-laid (suc n) first i = onward-laid i (λ e. list one close s n false e) (λ e. list-laid n false e) (next one close s first i) (next-found first i)

    in_order : (i : ℕ) (l : List A) (e : ℕ) → list_of one close s i ≡ items l e → InOrder is e i l × (e ≤ length s)
    unfolding list_of
    in_order i l e h = go (rw h at (list-laid (suc (length s)) true i))
      where
        go : Laid s is i (items l e) → InOrder is e i l × (e ≤ length s)
        go (laid m f o n) = (o, n)

module _ (d : ℕ) (s : List ℕ) where
  element-found : (i : ℕ) → Found s (IsElement d s) i (element (value d s) i)
  unfolding element
  element-found i = go (value d s i) refl
    where
      go : (x : Option ℕ) → value d s i ≡ x → Found s (IsElement d s) i (elim x [ Some e ↦ item (record { from = i; to = e }) e | None ↦ wrong ])
      go (Some e) h =
          let b = ends-within d s i e h in
          found (record { from = i; to = e }) i e (omega arith) b.0 b.1 (record { begins = refl; finishes = refl; a_value = h })
      go None h = nothing

  member-found : (i : ℕ) → Found s (IsMember d s) i (member (value d s) s i)
  unfolding member
  member-found i = at_name (string s i) refl
    where
      at_value : (k j : ℕ) → string s i ≡ Some k → separator 58 s k ≡ Some j → (x : Option ℕ) → value d s j ≡ x
          → Found s (IsMember d s) i (elim x [ Some e ↦ item (record { name = record { from = i; to = k }; value = record { from = j; to = e } }) e | None ↦ wrong ])
      at_value k j p q (Some e) r =
          let a = bounds k (string-in s i) p in
          let b = bounds j (separator-in s 58 k (omega arith)) q in
          let c = ends-within d s j e r in
          found (record { name = record { from = i; to = k }; value = record { from = j; to = e } }) i e (omega arith) (omega arith) c.1
          (record { begins = refl; finishes = refl; a_string = p; a_colon = q; a_value = r })
      at_value k j p q None r = nothing

      at-colon : (k : ℕ) → string s i ≡ Some k → (x : Option ℕ) → separator 58 s k ≡ x
          → Found s (IsMember d s) i (elim x [ Some j ↦ elim (value d s j) [ Some e ↦ item (record { name = record { from = i; to = k }; value = record { from = j; to = e } }) e | None ↦ wrong ] | None ↦ wrong ])
      at-colon k p (Some j) q = at_value k j p q (value d s j) refl
      at-colon k p None q = nothing

      at_name : (x : Option ℕ) → string s i ≡ x
          → Found s (IsMember d s) i (elim x [
            | Some k ↦ elim (separator 58 s k) [ Some j ↦ elim (value d s j) [ Some e ↦ item (record { name = record { from = i; to = k }; value = record { from = j; to = e } }) e | None ↦ wrong ] | None ↦ wrong ]
            | None ↦ wrong
          ])
      at_name (Some k) p = at-colon k p (separator 58 s k) refl
      at_name None p = nothing

pub elements-in-order : ElementsInOrder
unfolding elements
elements-in-order d s i l e h = in_order s (IsElement d s) (element (value d s)) 93 (omega arith) (element-found d s) i l e h

pub members-in-order : MembersInOrder
unfolding members
members-in-order d s i l e h = in_order s (IsMember d s) (member (value d s) s) 125 (omega arith) (member-found d s) i l e h

-- ---- one reading
pub one-reading : OneReading
unfolding ended
one-reading s = (reads, is-text, same)
  where
    go : (x : Option ℕ) → value max_depth s (blanks s 0) ≡ x → text s ≡ true → (e : ℕ) × Reading s e
    go (Some e) p h = (e, record { a_value = p; then_blanks = eqb-true (blanks s e) (length s) (sym (text-ends s e p) ∙ h) })
    go None p h = absurd (true≢false (sym h ∙ text-broken s p))

    reads : text s ≡ true → (e : ℕ) × Reading s e
    reads h = go (value max_depth s (blanks s 0)) refl h

    is-text : (e : ℕ) → Reading s e → text s ≡ true
    is-text e r = text-ends s e r.a_value ∙ eq-eqb (blanks s e) (length s) r.then_blanks

    same : (e f : ℕ) → Reading s e → Reading s f → e ≡ f
    same e f p q = let a = p.a_value in let b = q.a_value in cc

-- ---- names
pub one_name : OneName
one_name s a m n p q = sym (means-meaning s a m p) ∙ means-meaning s a n q
