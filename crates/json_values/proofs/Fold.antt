-- The law of every loop over the items of an array or an object, whose answer is made of them item by item.
-- The loop stands where an item is to begin. What elements and members have of their own is at the end.
-- Assumes nothing.
use Rattle.std.specs.Prelude.{None, Some}
use mathlib.Core.Path.{◌≡◌, refl, sym, ap, ◌∙◌}
use mathlib.Core.List.{List, [], ◌∷◌}
use Prim.Native.Nat.{ℕ, ◌≤◌, ◌<◌}
use native.Mathlib.Omega.{arith}
use lib.ListN.{length}
use Rattle.json_tokens.specs.Tokens.{blanks, closing, separator, string}
use Rattle.json_tokens.proofs.Bounds.{bounds, blanks-in, separator-in, string-in}
use Rattle.json_values.specs.Json.{Span, Pair, Next, item, wrong, Items, items, no_items, prepended, list_of, element, member, value}
use Rattle.json_values.specs.Fold.{fold_from, folded_in}
use Rattle.json_values.proofs.Laws.{element-is, element-wrong, member_is, member-no-name, member-no-colon, member-no-value}
use Rattle.json_values.proofs.Bounds.{value_in}
use Rattle.json_values.proofs.Walk.{Walk, walk-empty, walk_start, walk-wrong, walk-on, walk-last, walk-broken}

-- A loop: the text, what item begins at a position of it, the bracket that closes the list; what one item more makes, the answer past the last
-- one, and the answer where it is not JSON.
pub record Loop (A S R : Type 0) : Type 0 where
  pub text : List ℕ
  pub one : ℕ → Next A
  pub bracket : ℕ
  pub is_byte : 0 < bracket
  pub step : S → A → S
  pub close : ℕ → S → R
  pub bad : R

-- the item a stands from i to e
pub record Stands {A : Type 0} (one : ℕ → Next A) (s : List ℕ) (i : ℕ) (a : A) (e : ℕ) : Type 0 where
  pub is : one i ≡ item a e
  pub some : i < e
  pub inside : e ≤ length s

module _ {A S R : Type 0} (o : Loop A S R) where
  -- what is made of a list, where st was made before
  abbrev pub made : S → Items A → R
  made st x = folded_in o.step o.close o.bad st x

  made_more : (st : S) (a : A) (x : Items A) → made st (prepended a x) ≡ made (o.step st a) x
  unfolding folded_in prepended fold_from
  made_more st a (items l e) = refl
  made_more st a no_items = refl

  made-last : (st : S) (a : A) (e : ℕ) → made st (items (a ∷ []) e) ≡ o.close e (o.step st a)
  unfolding folded_in fold_from
  made-last st a e = refl

  -- what is left to be made from i on, where st was made before, is r
  abbrev pub Left : S → ℕ → R → Type 0
  Left st i r = Walk o.one o.bracket o.text (made st) i (o.one i) r

  -- past the opening bracket
  module _ (st : S) (i : ℕ) where
    -- the closing one stands there, and e is past it
    pub fold-empty : (e : ℕ) → closing o.bracket o.text i ≡ Some e → o.close e st ≡ made st (list_of o.one o.bracket o.text i)
    unfolding folded_in fold_from
    fold-empty e h = walk-empty o.one o.bracket o.text (made st) i e h

    pub fold_start : closing o.bracket o.text i ≡ None → (k : ℕ) → k ≡ blanks o.text i → Left st k (made st (list_of o.one o.bracket o.text i))
    fold_start h k b = rw b (walk_start o.one o.bracket o.text (made st) i (blanks-in o.text i).0 h)

  module _ (st : S) {i : ℕ} {r : R} (w : Left st i r) where
    pub fold-wrong : o.one i ≡ wrong → o.bad ≡ r
    unfolding folded_in
    fold-wrong h = walk-wrong o.one o.bracket o.text (made st) w h

    -- an item
    module _ {a : A} {e : ℕ} (h : Stands o.one o.text i a e) where
      past-comma : (l : ℕ) → separator 44 o.text e ≡ Some l → e ≤ l
      past-comma l q = let b = bounds l (separator-in o.text 44 e (omega arith)) q in omega arith

      pub fold-further : (l : ℕ) → separator 44 o.text e ≡ Some l → (i < e) × (e ≤ l) × (i < length o.text)
      fold-further l q = let m = h.inside in (h.some, past-comma l q, omega arith)

      -- past the comma behind it the next item is to begin
      pub fold_on : (l : ℕ) → separator 44 o.text e ≡ Some l → {next : S} → next ≡ o.step st a → Left next l r
      fold_on l q {next} g =
          walk-on o.one o.bracket o.text (made st) w a e h.is h.some h.inside l (past-comma l q) q (made next)
          (λ x. made_more st a x ∙ ap (λ t. made t x) (sym g))

      -- no comma: the list ends
      module _ (z : separator 44 o.text e ≡ None) where
        pub fold-last : (u : ℕ) → closing o.bracket o.text e ≡ Some u → {next : S} → next ≡ o.step st a → o.close u next ≡ r
        fold-last u x g =
            ap (o.close u) g ∙ sym (made-last st a u)
            ∙ walk-last o.one o.bracket o.text (made st) w a e h.is h.some h.inside u z x

        pub fold-broken : closing o.bracket o.text e ≡ None → o.bad ≡ r
        unfolding folded_in
        fold-broken x = walk-broken o.one o.bracket o.text (made st) w a e h.is h.some h.inside z x

-- ---- the elements of an array
pub is-bracket : 0 < 93
is-bracket = omega arith

module _ (d : ℕ) (s : List ℕ) where
  abbrev pub over_elements : {S R : Type 0} → (S → Span → S) → (ℕ → S → R) → R → Loop Span S R
  over_elements step close bad =
      record { text = s; one = element (value d s); bracket = 93; is_byte = is-bracket; step = step; close = close; bad = bad }

  module _ (i : ℕ) where
    pub no-element : value d s i ≡ None → element (value d s) i ≡ wrong
    no-element h = element-wrong (value d s) i h

    pub element-stands : (e : ℕ) → value d s i ≡ Some e → Stands (element (value d s)) s i (record { from = i; to = e }) e
    element-stands e h =
        let b = bounds e (value_in d s i) h in
        record { is = element-is (value d s) i e h; some = omega arith; inside = b.1 }

-- ---- the members of an object: a name from i to k, a colon, a value from j to e
pub is-brace : 0 < 125
is-brace = omega arith

abbrev pub pair_at : ℕ → ℕ → ℕ → ℕ → Pair
pair_at i k j e = record { name = record { from = i; to = k }; value = record { from = j; to = e } }

module _ (d : ℕ) (s : List ℕ) where
  abbrev pub over_members : {S R : Type 0} → (S → Pair → S) → (ℕ → S → R) → R → Loop Pair S R
  over_members step close bad =
      record { text = s; one = member (value d s) s; bracket = 125; is_byte = is-brace; step = step; close = close; bad = bad }

  module _ (i : ℕ) where
    pub no_name : string s i ≡ None → member (value d s) s i ≡ wrong
    no_name p = member-no-name (value d s) s i p

    module _ (k : ℕ) (p : string s i ≡ Some k) where
      pub no-colon : separator 58 s k ≡ None → member (value d s) s i ≡ wrong
      no-colon q = member-no-colon (value d s) s i k p q

      module _ (j : ℕ) (q : separator 58 s k ≡ Some j) where
        pub no_value : value d s j ≡ None → member (value d s) s i ≡ wrong
        no_value v = member-no-value (value d s) s i k j p q v

        module _ (e : ℕ) (v : value d s j ≡ Some e) where
          pub member-places : (i < k) × (k ≤ j) × (j < e) × (e ≤ length s)
          member-places =
              let x = bounds k (string-in s i) p in
              let y = bounds j (separator-in s 58 k (omega arith)) q in
              let z = bounds e (value_in d s j) v in
              (omega arith, omega arith, omega arith, z.1)

          pub member-stands : Stands (member (value d s) s) s i (pair_at i k j e) e
          member-stands =
              let m = member-places in
              record { is = member_is (value d s) s i k j e p q v; some = omega arith; inside = m.3 }
