-- Where values, arrays and objects end: past where they begin, and within the text.
-- Assumes nothing.
use Rattle.std.specs.Prelude.{None, Option, Some, ℕ}
use mathlib.Core.Path.{◌≡◌, refl}
use mathlib.Core.List.{List}
use mathlib.Core.Bool.{Bool, true, false}
use Prim.Native.Nat.{ℕ, zero, suc, ◌+◌, ◌≤◌, ◌<◌}
use native.Mathlib.Omega.{arith}
use lib.ListN.{length}
use lib.Dec.{eqb}
use Rattle.text.specs.Text.{byte_at}
use Rattle.json_tokens.specs.Tokens.{and_then, blanks, closing, separator, string}
use Rattle.json_tokens.proofs.Bounds.{within, none, bounds, in-when, in-sub, Within, blanks-in, string-in, closing-in, separator-in, scalar-in}
use Rattle.json_values.specs.Json.{Span, Pair, Next, item, ends, wrong, Items, next, onward, list, list_of, items_end, element, member, elements, members, value}
use Rattle.json_values.specs.Ends.{member_end}
use Rattle.json_values.proofs.Laws.{before-end}

-- the position past what is found
next_end : {A : Type 0} → Next A → Option ℕ
next_end (item a e) = Some e
next_end (ends e) = Some e
next_end wrong = None

module _ (s : List ℕ) where
  -- what begins past i, and is within, is within from i
  later : (i j : ℕ) {x : Option ℕ} → i ≤ j → Within s j x → Within s i x
  later i j l w = in-sub (omega arith) (omega arith) w

  then-in : (i : ℕ) {x : Option ℕ} (f : ℕ → Option ℕ) → Within s i x → ((j : ℕ) → Within s j (f j)) → Within s i (and_then x f)
  unfolding and_then
  then-in i f (within e l h) g = later i e (omega arith) (g e)
  then-in i f none g = none

  module _ {A : Type 0} (one : ℕ → Next A) (close : ℕ) (pos : 0 < close) (one_in : (i : ℕ) → Within s i (next_end (one i))) where
    next-in : (first : Bool) (i : ℕ) → Within s i (next_end (next one close s first i))
    unfolding next next_end
    next-in true i = go (closing close s i) (closing-in s close i pos)
      where
        go : (x : Option ℕ) → Within s i x → Within s i (next_end {A = A} (elim x [ Some e ↦ ends e | None ↦ one (blanks s i) ]))
        go (Some e) w = w
        go None w = later i (blanks s i) (blanks-in s i).0 (one_in (blanks s i))
    next-in false i = go (separator 44 s i) (separator-in s 44 i (omega arith))
      where
        end : (y : Option ℕ) → Within s i y → Within s i (next_end {A = A} (elim y [ Some e ↦ ends e | None ↦ wrong ]))
        end (Some e) w = w
        end None w = none

        go : (x : Option ℕ) → Within s i x → Within s i (next_end {A = A} (elim x [ Some j ↦ one j | None ↦ elim (closing close s i) [ Some e ↦ ends e | None ↦ wrong ] ]))
        go (Some j) w = let b = bounds j w refl in later i j (omega arith) (one_in j)
        go None w = end (closing close s i) (closing-in s close i pos)

    onward-in : (i : ℕ) (rest : ℕ → Items A) → ((j : ℕ) → Within s j (items_end (rest j))) → (x : Next A) → Within s i (next_end x) → Within s i (items_end (onward rest x))
    unfolding onward items_end next_end
    onward-in i rest ih (item a e) w = let b = bounds e w refl in rw (before-end a (rest e)) (later i e (omega arith) (ih e))
    onward-in i rest ih (ends e) w = w
    onward-in i rest ih wrong w = none

    list-in : (n : ℕ) (first : Bool) (i : ℕ) → Within s i (items_end (list one close s n first i))
    unfolding list items_end
    list-in zero first i = none
    list-in (suc n) first i = onward-in i (λ e. list one close s n false e) (λ j. list-in n false j) (next one close s first i) (next-in first i)

    list_of-in : (i : ℕ) → Within s i (items_end (list_of one close s i))
    unfolding list_of
    list_of-in i = list-in (suc (length s)) true i

  -- ---- elements and members, of values that are within
  module _ (v : ℕ → Option ℕ) (v-in : (i : ℕ) → Within s i (v i)) where
    element-in : (i : ℕ) → Within s i (next_end (element v i))
    unfolding element next_end
    element-in i = go (v i) (v-in i)
      where
        go : (x : Option ℕ) → Within s i x → Within s i (next_end {A = Span} (elim x [ Some e ↦ item (record { from = i; to = e }) e | None ↦ wrong ]))
        go (Some e) w = w
        go None w = none

    pub member_end-in : (i : ℕ) → Within s i (member_end v s i)
    unfolding member_end
    member_end-in i = then-in i (λ k. and_then (separator 58 s k) v) (string-in s i) (λ k. then-in k v (separator-in s 58 k (omega arith)) v-in)

    member-end : (i : ℕ) → next_end (member v s i) ≡ member_end v s i
    unfolding member member_end and_then next_end
    member-end i = at_name (string s i)
      where
        at_value : (k j : ℕ) (x : Option ℕ) → next_end {A = Pair} (elim x [ Some e ↦ item (record { name = record { from = i; to = k }; value = record { from = j; to = e } }) e | None ↦ wrong ]) ≡ x
        at_value k j (Some e) = refl
        at_value k j None = refl

        at-colon : (k : ℕ) (x : Option ℕ) → next_end {A = Pair} (elim x [ Some j ↦ elim (v j) [ Some e ↦ item (record { name = record { from = i; to = k }; value = record { from = j; to = e } }) e | None ↦ wrong ] | None ↦ wrong ]) ≡ and_then x v
        at-colon k (Some j) = at_value k j (v j)
        at-colon k None = refl

        at_name : (x : Option ℕ) → next_end {A = Pair} (elim x [ Some k ↦ elim (separator 58 s k) [ Some j ↦ elim (v j) [ Some e ↦ item (record { name = record { from = i; to = k }; value = record { from = j; to = e } }) e | None ↦ wrong ] | None ↦ wrong ] | None ↦ wrong ]) ≡ and_then x (λ k. and_then (separator 58 s k) v)
        at_name (Some k) = at-colon k (separator 58 s k)
        at_name None = refl

    member-in : (i : ℕ) → Within s i (next_end (member v s i))
    member-in i = rw (member-end i) (member_end-in i)

    elements-in : (i : ℕ) → Within s i (items_end (elements v s i))
    unfolding elements
    elements-in i = list_of-in (element v) 93 (omega arith) element-in i

    members-in : (i : ℕ) → Within s i (items_end (members v s i))
    unfolding members
    members-in i = list_of-in (member v s) 125 (omega arith) member-in i

-- ---- values
pub value_in : (d : ℕ) (s : List ℕ) (i : ℕ) → Within s i (value d s i)
unfolding value
value_in zero s i = scalar-in s i
value_in (suc d) s i =
    in-when (eqb (byte_at s i) 91) (λ h. later s i (i + 1) (omega arith) (elements-in s (value d s) (λ j. value_in d s j) (i + 1)))
    (in-when (eqb (byte_at s i) 123) (λ h. later s i (i + 1) (omega arith) (members-in s (value d s) (λ j. value_in d s j) (i + 1))) (scalar-in s i))

pub member_end-value : (d : ℕ) (s : List ℕ) (i : ℕ) → Within s i (member_end (value d s) s i)
member_end-value d s i = member_end-in s (value d s) (value_in d s) i

pub array-in : (d : ℕ) (s : List ℕ) (i : ℕ) → Within s i (items_end (elements (value d s) s i))
array-in d s i = elements-in s (value d s) (value_in d s) i

pub object-in : (d : ℕ) (s : List ℕ) (i : ℕ) → Within s i (items_end (members (value d s) s i))
object-in d s i = members-in s (value d s) (value_in d s) i
