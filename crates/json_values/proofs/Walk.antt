-- A loop over the items of an array or an object, for any answer that is made of the items. `answer` is what is still to be made of the items
-- from here on, and r what is made of them all; x is what is found here, at or past `at`. The steps that the definition has left stand in the record,
-- so that a loop, which counts none, needs no law on them.
-- Assumes nothing.
use Rattle.std.specs.Prelude.{None, Some}
use mathlib.Core.Path.{◌≡◌, refl, sym, ap, ◌∙◌}
use mathlib.Core.List.{List, [], ◌∷◌}
use mathlib.Core.Bool.{true, false}
use Prim.Native.Nat.{ℕ, suc, ◌+◌, ◌-◌, ◌≤◌, ◌<◌}
use native.Mathlib.Omega.{arith}
use lib.ListN.{length}
use Rattle.json_tokens.specs.Tokens.{blanks, closing, separator}
use Rattle.json_values.specs.Json.{Next, item, ends, wrong, Items, items, no_items, next, prepended, onward, list, list_of}
use Rattle.json_values.proofs.Laws.{first_ends, first-item, later-item, later-ends, later-wrong}

module _ {A R : Type 0} (one : ℕ → Next A) (close : ℕ) (s : List ℕ) where
  pub record Walk (answer : Items A → R) (at : ℕ) (x : Next A) (r : R) : Type 0 where
    pub left : ℕ
    pub enough : length s ≤ left + at
    pub makes : answer (onward (λ e. list one close s left false e) x) ≡ r

  module _ (answer : Items A → R) where
    -- at the beginning, past the bracket
    pub walk : (i : ℕ) → Walk answer i (next one close s true i) (answer (list_of one close s i))
    unfolding list_of list
    walk i = record { left = length s; enough = omega arith; makes = refl }

    module _ {at : ℕ} {x : Next A} {r : R} (w : Walk answer at x r) where
      pub walk-wrong : x ≡ wrong → answer no_items ≡ r
      unfolding onward
      walk-wrong h = sym (ap answer (rw (h, onward))) ∙ w.makes

      pub walk_ends : (e : ℕ) → x ≡ ends e → answer (items [] e) ≡ r
      unfolding onward
      walk_ends e h = sym (ap answer (rw (h, onward))) ∙ w.makes

      pub walk_is : (y : Next A) (i : ℕ) → at ≤ i → x ≡ y → Walk answer i y r
      walk_is y i l h = let n = w.enough in record { left = w.left; enough = omega arith; makes = rw h at w.makes }

      -- past the item a, which ends at e
      pub walk-item : (a : A) (e : ℕ) → x ≡ item a e → at < e → e ≤ length s → Walk (λ (y : Items A). answer (prepended a y)) e (next one close s false e) r
      unfolding list onward
      walk-item a e h l m =
          let n = w.enough in
          let k : w.left ≡ suc (w.left - 1) = omega arith in
          record {
            left = w.left - 1;
            enough = omega arith;
            makes = ap (λ (y : ℕ). answer (prepended a (list one close s y false e))) (sym k) ∙ sym (ap answer (rw (h, onward))) ∙ w.makes;
          }

-- ---- the same as a loop has it that goes from item to item: it stands where an item is to begin
module _ {A R : Type 0} (one : ℕ → Next A) (close : ℕ) (s : List ℕ) (answer : Items A → R) where
  -- the list is empty, or its first item begins past the blanks
  pub walk-empty : (i e : ℕ) → closing close s i ≡ Some e → answer (items [] e) ≡ answer (list_of one close s i)
  walk-empty i e h = walk_ends one close s answer (walk one close s answer i) e (first_ends one close s i e h)

  pub walk_start : (i : ℕ) → i ≤ blanks s i → closing close s i ≡ None → Walk one close s answer (blanks s i) (one (blanks s i)) (answer (list_of one close s i))
  walk_start i l h = walk_is one close s answer (walk one close s answer i) (one (blanks s i)) (blanks s i) l (first-item one close s i h)

  -- an item a from i to e, and what follows it
  module _ {i : ℕ} {r : R} (w : Walk one close s answer i (one i) r) (a : A) (e : ℕ) (h : one i ≡ item a e) (l : i < e) (m : e ≤ length s) where
    past : Walk one close s (λ (y : Items A). answer (prepended a y)) e (next one close s false e) r
    past = walk-item one close s answer w a e h l m

    -- a comma: the next item begins at j
    pub walk-on : (j : ℕ) → e ≤ j → separator 44 s e ≡ Some j → (rest : Items A → R) → ((x : Items A) → answer (prepended a x) ≡ rest x) → Walk one close s rest j (one j) r
    walk-on j o q rest p =
        let v = walk_is one close s (λ (y : Items A). answer (prepended a y)) past (one j) j o (later-item one close s e j q) in
        record { left = v.left; enough = v.enough; makes = sym (p _) ∙ v.makes }

    pub walk-last : (k : ℕ) → separator 44 s e ≡ None → closing close s e ≡ Some k → answer (items (a ∷ []) k) ≡ r
    unfolding prepended
    walk-last k q c = walk_ends one close s (λ (y : Items A). answer (prepended a y)) past k (later-ends one close s e k q c)

    pub walk-broken : separator 44 s e ≡ None → closing close s e ≡ None → answer no_items ≡ r
    unfolding prepended
    walk-broken q c = walk-wrong one close s (λ (y : Items A). answer (prepended a y)) past (later-wrong one close s e q c)
