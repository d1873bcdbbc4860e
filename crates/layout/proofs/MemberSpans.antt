-- Marks hold what the values of a name are, as far as it is asked.
-- Assumes nothing.
use Rattle.std.specs.Prelude.{None, Option, Some}
use mathlib.Core.Path.{◌≡◌, refl, sym, ap, ◌∙◌}
use mathlib.Core.List.{List, [], ◌∷◌}
use mathlib.Core.Bool.{Bool, true, false, cond}
use Prim.Native.Nat.{ℕ, zero, suc, ◌+◌, ◌≤◌}
use native.Mathlib.Omega.{arith}
use borrow.Author.Tests.{eq-eqb, ne_eqb, eqb-true, eqb-false}
use lib.Dec.{eqb}
use lib.ListN.{length}
use Rattle.json_values.specs.Json.{Span, Pair}
use Rattle.json_values.specs.Names.{means}
use Rattle.entries.specs.Places.{and_then, values_of, only}
use Rattle.json_values.specs.Fold.{fold_from}
use Rattle.layout.specs.MemberSpans.{few, few_more, no_member_span, with_member_span, member_span_of, once_at, on_hit, on_member}
use Rattle.layout.specs.declared.MemberSpan.{MemberSpan}

-- ---- counting up to two

pub few-more-zero : (n : ℕ) → n ≡ 0 → 1 ≡ few_more n
unfolding few_more
few-more-zero n h = sym (rw (h, few_more))

pub few-more-some : (n : ℕ) → (n ≡ 0 → ⊥) → 2 ≡ few_more n
unfolding few_more
few-more-some zero h = absurd (h refl)
few-more-some (suc n) h = refl

few-suc : (n : ℕ) → few_more (few n) ≡ few (suc n)
unfolding few few_more
few-suc zero = refl
few-suc (suc zero) = refl
few-suc (suc (suc n)) = refl

-- a component that counts, over any fold
module _ {S A : Type 0} (step : S → A → S) (count : S → ℕ) (counts : (st : S) (a : A) → count (step st a) ≡ few_more (count st)) where
  count-from : (st : S) (n : ℕ) → count st ≡ few n → (l : List A) → count (fold_from step st l) ≡ few (n + length l)
  unfolding fold_from
  count-from st n h [] = h ∙ ap few (omega arith)
  count-from st n h (a ∷ l) =
      let k : suc n + length l ≡ n + suc (length l) = omega arith in
      count-from (step st a) (suc n) (counts st a ∙ ap few_more h ∙ few-suc n) l ∙ ap few k

-- the times of a mark are how many there are, up to two
pub mark-times : (l : List Span) → (member_span_of l).times ≡ few (length l)
unfolding with_member_span few
mark-times l =
    let k : 0 + length l ≡ length l = omega arith in
    count-from with_member_span (λ m. m.times) (λ m a. refl) no_member_span 0 refl l ∙ ap few k

-- a number that follows one name
pub count-times : (l : List Span) → fold_from (λ (n : ℕ) (a : Span). few_more n) 0 l ≡ few (length l)
unfolding few
count-times l =
    let k : 0 + length l ≡ length l = omega arith in
    count-from (λ (n : ℕ) (a : Span). few_more n) (λ n. n) (λ n a. refl) 0 0 refl l ∙ ap few k

-- ---- tests on such counts

pub few-none : (n : ℕ) → few n ≡ 0 → n ≡ 0
unfolding few
few-none zero h = refl
few-none (suc zero) h = absurd (omega arith)
few-none (suc (suc n)) h = absurd (omega arith)

pub few-once : (n : ℕ) → few n ≡ 1 → n ≡ 1
unfolding few
few-once zero h = absurd (omega arith)
few-once (suc zero) h = refl
few-once (suc (suc n)) h = absurd (omega arith)

pub few-is : (n : ℕ) → n ≤ 1 → few n ≡ n
unfolding few
few-is zero h = refl
few-is (suc zero) h = refl
few-is (suc (suc n)) h = absurd (omega arith)

pub few-many : (n : ℕ) → 2 ≤ n → few n ≡ 2
unfolding few
few-many zero h = absurd (omega arith)
few-many (suc zero) h = absurd (omega arith)
few-many (suc (suc n)) h = refl

-- ---- the only value of a list

pub only-once : (l : List Span) → (member_span_of l).times ≡ 1 → only l ≡ Some (record { from = (member_span_of l).from; to = (member_span_of l).to })
unfolding only fold_from with_member_span few_more
only-once [] h = absurd (omega arith)
only-once (a ∷ []) h = refl
only-once (a ∷ (b ∷ l)) h =
    let t = mark-times (a ∷ (b ∷ l)) in
    let n = few-once (suc (suc (length l))) (sym t ∙ h) in
    absurd (omega arith)

pub only-other : (l : List Span) → ((member_span_of l).times ≡ 1 → ⊥) → only l ≡ None
unfolding only fold_from with_member_span few_more
only-other [] h = refl
only-other (a ∷ []) h = absurd (h refl)
only-other (a ∷ (b ∷ l)) h = refl

-- ---- a component of a fold over members that follows one name
module _ {S A : Type 0} (s name : List ℕ) (step : S → Pair → S) (get : S → A) (add : A → Span → A) where
  pub values-fold : ((st : S) (m : Pair) → means s m.name name ≡ true → get (step st m) ≡ add (get st) m.value)
      → ((st : S) (m : Pair) → means s m.name name ≡ false → get (step st m) ≡ get st)
      → (st : S) (ms : List Pair) → get (fold_from step st ms) ≡ fold_from add (get st) (values_of s name ms)
  unfolding fold_from values_of
  values-fold hit miss st [] = refl
  values-fold hit miss st (m ∷ ms) = at (means s m.name name) refl (values-fold hit miss (step st m) ms)
    where
      at : (b : Bool) → means s m.name name ≡ b → get (fold_from step (step st m) ms) ≡ fold_from add (get (step st m)) (values_of s name ms)
          → get (fold_from step (step st m) ms) ≡ fold_from add (get st) (cond b (m.value ∷ values_of s name ms) (values_of s name ms))
      at true h k = k ∙ ap (λ x. fold_from add x (values_of s name ms)) (hit st m h)
      at false h k = k ∙ ap (λ x. fold_from add x (values_of s name ms)) (miss st m h)

-- ---- what follows the members of one name
module _ {A : Type 0} (hit : Bool) (add : A → Span → A) (x : A) (a : Span) where
  pub hit-yes : hit ≡ true → on_hit hit add x a ≡ add x a
  unfolding on_hit
  hit-yes h = rw (h, on_hit)

  pub hit-no : hit ≡ false → on_hit hit add x a ≡ x
  unfolding on_hit
  hit-no h = rw (h, on_hit)

-- a component that follows the members of one name
pub on-fold : {S A : Type 0} (s name : List ℕ) (step : S → Pair → S) (get : S → A) (add : A → Span → A)
    → ((st : S) (m : Pair) → get (step st m) ≡ on_member s name add (get st) m)
    → (st : S) (ms : List Pair) → get (fold_from step st ms) ≡ fold_from add (get st) (values_of s name ms)
on-fold s name step get add is =
    values-fold s name step get add
    (λ st m h. is st m ∙ hit-yes (means s m.name name) add (get st) m.value h)
    (λ st m h. is st m ∙ hit-no (means s m.name name) add (get st) m.value h)

-- ---- the value of a name that was met once

abbrev pub place_of : MemberSpan → Span
place_of m = record { from = m.from; to = m.to }

module _ (m : MemberSpan) where
  pub once-yes : m.times ≡ 1 → once_at m ≡ Some (place_of m)
  unfolding once_at
  once-yes h = rw (eq-eqb m.times 1 h)

  pub once-no : (m.times ≡ 1 → ⊥) → once_at m ≡ None
  unfolding once_at
  once-no h = rw (ne_eqb m.times 1 h)

  module _ {A : Type 0} (f : Span → Option A) where
    pub then-yes : m.times ≡ 1 → and_then (once_at m) f ≡ f (place_of m)
    unfolding and_then
    then-yes h = rw (once-yes h)

    pub then-no : (m.times ≡ 1 → ⊥) → and_then (once_at m) f ≡ None
    unfolding and_then
    then-no h = rw (once-no h)

pub only-is : (l : List Span) (m : MemberSpan) → m ≡ member_span_of l → only l ≡ once_at m
only-is l m h = go (eqb (member_span_of l).times 1) refl ∙ ap once_at (sym h)
  where
    go : (b : Bool) → eqb (member_span_of l).times 1 ≡ b → only l ≡ once_at (member_span_of l)
    go true q = let y = eqb-true (member_span_of l).times 1 q in only-once l y ∙ sym (once-yes (member_span_of l) y)
    go false q = let n = eqb-false (member_span_of l).times 1 q in only-other l n ∙ sym (once-no (member_span_of l) n)
