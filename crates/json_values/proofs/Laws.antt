-- The definitions of `Json`, one step at a time.
-- Assumes nothing.
use Rattle.std.specs.Prelude.{None, Option, Some, ℕ}
use mathlib.Core.Path.{◌≡◌, refl, ◌∙◌}
use mathlib.Core.List.{List}
use mathlib.Core.Bool.{true, false, and-eq-true_iff}
use Prim.Native.Nat.{ℕ, zero, suc, ◌+◌}
use native.Mathlib.Omega.{arith}
use lib.Dec.{leb}
use borrow.Author.Tests.{ne_eqb, leb-true}
use Rattle.text.specs.Text.{byte_at, is_digit}
use Rattle.json_tokens.specs.Tokens.{and_then, blanks, closing, separator, string, json_number, scalar, ended}
use Rattle.json_tokens.proofs.Laws.{scalar-string, scalar-number}
use Rattle.json_values.specs.Json.{Next, item, ends, wrong, Items, items, no_items, next, prepended, items_end, element, member, elements, members, value, text}
use Rattle.json_values.specs.Ends.{member_end}

-- ---- a value, by its first byte
module _ (s : List ℕ) (i : ℕ) where
  pub value_none : value 0 s i ≡ scalar s i
  unfolding value
  value_none = refl

  pub value-array : (d : ℕ) → byte_at s i ≡ 91 → value (suc d) s i ≡ items_end (elements (value d s) s (i + 1))
  unfolding value
  value-array d h = rw (h, value)

  pub value-object : (d : ℕ) → byte_at s i ≡ 123 → value (suc d) s i ≡ items_end (members (value d s) s (i + 1))
  unfolding value
  value-object d h = rw (h, h, value)

  pub value-scalar : (d : ℕ) → (byte_at s i ≡ 91 → ⊥) → (byte_at s i ≡ 123 → ⊥) → value d s i ≡ scalar s i
  unfolding value
  value-scalar zero n m = refl
  value-scalar (suc d) n m = rw (ne_eqb _ _ n, ne_eqb _ _ m, value)

  -- strings come first in the code
  pub value-string : (d : ℕ) → byte_at s i ≡ 34 → value d s i ≡ string s i
  value-string d h = value-scalar d (λ e. omega arith) (λ e. omega arith) ∙ scalar-string s i h

  pub value-number : (d : ℕ) → is_digit (byte_at s i) ≡ true → value d s i ≡ json_number s i
  unfolding is_digit
  value-number d h =
      let p = (and-eq-true_iff (leb 48 (byte_at s i)) (leb (byte_at s i) 57)).0 h in
      let low = leb-true 48 (byte_at s i) p.0 in
      let high = leb-true (byte_at s i) 57 p.1 in
      value-scalar d (λ e. omega arith) (λ e. omega arith) ∙ scalar-number s i (λ e. omega arith) (λ e. omega arith) (λ e. omega arith) (λ e. omega arith)

-- ---- what is found in a list of items
module _ {A : Type 0} (one : ℕ → Next A) (close : ℕ) (s : List ℕ) (i : ℕ) where
  -- at first
  pub first_ends : (e : ℕ) → closing close s i ≡ Some e → next one close s true i ≡ ends e
  unfolding next
  first_ends e h = rw (h, next)

  pub first-item : closing close s i ≡ None → next one close s true i ≡ one (blanks s i)
  unfolding next
  first-item h = rw (h, next)

  -- past an item
  pub later-item : (j : ℕ) → separator 44 s i ≡ Some j → next one close s false i ≡ one j
  unfolding next
  later-item j h = rw (h, next)

  pub later-ends : (e : ℕ) → separator 44 s i ≡ None → closing close s i ≡ Some e → next one close s false i ≡ ends e
  unfolding next
  later-ends e h q = rw (h, q, next)

  pub later-wrong : separator 44 s i ≡ None → closing close s i ≡ None → next one close s false i ≡ wrong
  unfolding next
  later-wrong h q = rw (h, q, next)

pub before-end : {A : Type 0} (a : A) (x : Items A) → items_end (prepended a x) ≡ items_end x
unfolding items_end prepended
before-end a (items l e) = refl
before-end a no_items = refl

-- ---- an element, by its value
module _ (v : ℕ → Option ℕ) (i : ℕ) where
  pub element-is : (e : ℕ) → v i ≡ Some e → element v i ≡ item (record { from = i; to = e }) e
  unfolding element
  element-is e h = rw (h, element)

  pub element-wrong : v i ≡ None → element v i ≡ wrong
  unfolding element
  element-wrong h = rw (h, element)

-- ---- a member, by its parts
module _ (v : ℕ → Option ℕ) (s : List ℕ) (i : ℕ) where
  pub member_is : (k j e : ℕ) → string s i ≡ Some k → separator 58 s k ≡ Some j → v j ≡ Some e
      → member v s i ≡ item (record { name = record { from = i; to = k }; value = record { from = j; to = e } }) e
  unfolding member
  member_is k j e p q r = rw (p, q, r, member)

  pub member-no-name : string s i ≡ None → member v s i ≡ wrong
  unfolding member
  member-no-name p = rw (p, member)

  pub member-no-colon : (k : ℕ) → string s i ≡ Some k → separator 58 s k ≡ None → member v s i ≡ wrong
  unfolding member
  member-no-colon k p q = rw (p, q, member)

  pub member-no-value : (k j : ℕ) → string s i ≡ Some k → separator 58 s k ≡ Some j → v j ≡ None → member v s i ≡ wrong
  unfolding member
  member-no-value k j p q r = rw (p, q, r, member)

  -- by its parts, where the member is known to be one, or not to be one
  pub by-member : {B : Type 0} (e : ℕ) → member_end v s i ≡ Some e
      → ((k j : ℕ) → string s i ≡ Some k → separator 58 s k ≡ Some j → v j ≡ Some e → B) → B
  unfolding member_end and_then
  by-member {B} e h f = at_name (string s i) refl h
    where
      no : {C : Type 0} → None ≡ Some e → C
      no h = let z : ◌≡◌ {A = ℕ} 0 1 = cc in absurd (omega arith)

      at-colon : (k : ℕ) → string s i ≡ Some k → (y : Option ℕ) → separator 58 s k ≡ y → and_then y v ≡ Some e → B
      at-colon k p (Some j) q h = f k j p q h
      at-colon k p None q h = no h

      at_name : (x : Option ℕ) → string s i ≡ x → and_then x (λ k. and_then (separator 58 s k) v) ≡ Some e → B
      at_name (Some k) p h = at-colon k p (separator 58 s k) refl h
      at_name None p h = no h

  pub no_member : member_end v s i ≡ None → member v s i ≡ wrong
  unfolding member_end and_then
  no_member h = at_name (string s i) refl h
    where
      at-colon : (k : ℕ) → string s i ≡ Some k → (y : Option ℕ) → separator 58 s k ≡ y → and_then y v ≡ None → member v s i ≡ wrong
      at-colon k p (Some j) q h = member-no-value k j p q h
      at-colon k p None q h = member-no-colon k p q

      at_name : (x : Option ℕ) → string s i ≡ x → and_then x (λ k. and_then (separator 58 s k) v) ≡ None → member v s i ≡ wrong
      at_name (Some k) p h = at-colon k p (separator 58 s k) refl h
      at_name None p h = member-no-name p

-- ---- a whole text
module _ (s : List ℕ) where
  pub text-ends : (e : ℕ) → value 16 s (blanks s 0) ≡ Some e → text s ≡ ended s e
  unfolding text
  text-ends e h = rw (h, text)

  pub text-broken : value 16 s (blanks s 0) ≡ None → text s ≡ false
  unfolding text
  text-broken h = rw (h, text)
