-- The value at a position as an object, and one member more of it.
-- Assumes nothing.
use Rattle.std.specs.Prelude.{None, Option, Some}
use mathlib.Core.Path.{◌≡◌, refl, sym, ap, ◌∙◌}
use mathlib.Core.List.{List}
use mathlib.Core.Bool.{Bool, true, false}
use Prim.Native.Nat.{ℕ, suc, ◌+◌}
use native.Mathlib.Omega.{arith}
use borrow.Author.Tests.{eq-eqb, ne_eqb, eqb-true, eqb-false}
use lib.Dec.{eqb}
use Rattle.text.specs.Text.{byte_at}
use Rattle.json_tokens.specs.Tokens.{blanks, closing}
use Rattle.json_tokens.specs.Ends.{end_of}
use Rattle.json_values.specs.Json.{Span, Pair, Items, items, no_items, items_end, members, value}
use Rattle.json_values.proofs.Laws.{value-object}
use Rattle.entries.specs.Places.{contents, object_at}
use Rattle.json_values.specs.Fold.{fold_from, folded_in}
use Rattle.json_values.proofs.Fold.{over_members, Left, fold-empty, fold_start, pair_at}
use Rattle.layout.specs.MemberSpans.{member_at}

pub contents-broken : {A : Type 0} (x : Items A) → items_end x ≡ None → contents x ≡ None
unfolding contents items_end
contents-broken (items l e) h = let z : ◌≡◌ {A = ℕ} 0 1 = cc in absurd (omega arith)
contents-broken no_items h = refl

module _ (d : ℕ) (s : List ℕ) (a : Span) where
  pub object-yes : byte_at s a.from ≡ 123 → object_at (suc d) s a ≡ contents (members (value d s) s (a.from + 1))
  unfolding object_at
  object-yes h = rw (eq-eqb (byte_at s a.from) 123 h)

  pub object-no : (byte_at s a.from ≡ 123 → ⊥) → object_at (suc d) s a ≡ None
  unfolding object_at
  object-no h = rw (ne_eqb (byte_at s a.from) 123 h)

  pub object-broken : value (suc d) s a.from ≡ None → object_at (suc d) s a ≡ None
  object-broken h = go (eqb (byte_at s a.from) 123) refl
    where
      go : (b : Bool) → eqb (byte_at s a.from) 123 ≡ b → object_at (suc d) s a ≡ None
      go true q =
          let o : byte_at s a.from ≡ 123 = eqb-true _ _ q in
          object-yes o ∙ contents-broken (members (value d s) s (a.from + 1)) (sym (value-object s a.from d o) ∙ h)
      go false q = object-no (eqb-false _ _ q)

-- ---- an answer that is made of where the value ends and of its members
module _ {R : Type 0} (made : ℕ → Option (List Pair) → R) (d : ℕ) (s : List ℕ) (at : ℕ) where
  abbrev pub answer : R
  answer = made (end_of (value (suc d) s at)) (object_at (suc d) s (record { from = at; to = end_of (value (suc d) s at) }))

  pub made_other : (byte_at s at ≡ 123 → ⊥) → made (end_of (value (suc d) s at)) None ≡ answer
  made_other h = ap (made (end_of (value (suc d) s at))) (sym (object-no d s (record { from = at; to = end_of (value (suc d) s at) }) h))

  -- an object, and the answer as a fold over its members
  module _ (opens : byte_at s at ≡ 123) {S : Type 0} (f : S → Pair → S) (close : ℕ → S → R) (st : S)
      (folds : (e : ℕ) (ms : List Pair) → made e (Some ms) ≡ close e (fold_from f st ms)) where
    made-object : folded_in f close (made 0 None) st (members (value d s) s (at + 1)) ≡ answer
    unfolding end_of items_end contents folded_in
    made-object =
        go (members (value d s) s (at + 1))
        ∙ ap (λ (e : ℕ). made e (contents (members (value d s) s (at + 1)))) (sym (ap end_of (value-object s at d opens)))
        ∙ ap (made (end_of (value (suc d) s at))) (sym (object-yes d s (record { from = at; to = end_of (value (suc d) s at) }) opens))
      where
        go : (x : Items Pair) → folded_in f close (made 0 None) st x ≡ made (end_of (items_end x)) (contents x)
        go (items l e) = sym (folds e l)
        go no_items = refl

    -- no member: e is past the closing brace, which follows the opening one
    pub made-empty : (e : ℕ) → closing 125 s (at + 1) ≡ Some e → close e st ≡ answer
    unfolding members
    made-empty e h = fold-empty (over_members d s f close (made 0 None)) st (at + 1) e h ∙ made-object

    pub made-start : closing 125 s (at + 1) ≡ None → (k : ℕ) → k ≡ blanks s (at + 1) → Left (over_members d s f close (made 0 None)) st k answer
    unfolding members
    made-start h k b = rw made-object at (fold_start (over_members d s f close (made 0 None)) st (at + 1) h k b)

-- ---- a member more, by a step that reads the member's value too: `end` is where that ended
module _ {S : Type 0} (step : S → Pair → S) (end : S → ℕ) (ends : (st : S) (m : Pair) → end (step st m) ≡ m.value.to)
    (d : ℕ) (s : List ℕ) (st : S) (i k j : ℕ) (next : S) (g : next ≡ step st (member_at d s i k j)) where
  pub value-ends : end next ≡ end_of (value d s j)
  value-ends = ap end g ∙ ends st (member_at d s i k j)

  pub next-is : next ≡ step st (pair_at i k j (end next))
  next-is = g ∙ ap (λ (t : ℕ). step st (pair_at i k j t)) (sym value-ends)
