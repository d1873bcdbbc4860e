-- One more element, by its place.
-- Assumes nothing.
use Rattle.std.specs.Prelude.{Some}
use mathlib.Core.Path.{◌≡◌, sym, ap, ◌∙◌}
use mathlib.Core.List.{List}
use mathlib.Core.Bool.{Bool, true, false, cond}
use Prim.Native.Nat.{ℕ}
use lib.Dec.{eqb}
use borrow.Author.Tests.{ne_eqb}
use Rattle.json_tokens.specs.Ends.{end_of}
use Rattle.json_tokens.proofs.Laws.{end-at}
use Rattle.json_values.specs.Json.{value}
use Rattle.entries.specs.Places.{object_at}
use Rattle.message_k.specs.MembersK.{no_members, members_of, members_at}
use Rattle.message_k.specs.PartsK.{with_outer, with_part}
use Rattle.message_k.specs.declared.Members.{Members}
use Rattle.message_k.specs.declared.Outer.{Outer}
use Rattle.message_k.specs.declared.Parts.{Parts}
use Rattle.message_k.proofs.Objects.{object-is, object-end}

-- t, with other objects
abbrev put : Parts → Members → Members → Parts
put t one two = record { end = t.end; outer = t.outer; one = one; two = two }

abbrev pub with_outer_of : Parts → Outer → Parts
with_outer_of t u = record { end = t.end; outer = u; one = t.one; two = t.two }

module _ (s : List ℕ) (t : Parts) (at : ℕ) where
  -- the element at `at` ends at `past`, and t' has its object, if it may be one
  pub record Step (t' : Parts) (past : ℕ) : Type 0 where
    pub ends : past ≡ end_of (value 15 s at)
    pub collected : (e : ℕ) → value 15 s at ≡ Some e → (u : Outer) → u ≡ with_outer s t.outer (record { from = at; to = e })
        → with_outer_of t' u ≡ with_part s t (record { from = at; to = e })

  by_count : (e : ℕ) (x y : Bool) → eqb t.outer.count 1 ≡ x → eqb t.outer.count 2 ≡ y → (u : Outer) → u ≡ with_outer s t.outer (record { from = at; to = e })
      → with_outer_of (put t (cond x (members_of s (no_members 0) e (object_at 15 s (record { from = at; to = e }))) t.one)
      (cond y (members_of s t.one e (object_at 15 s (record { from = at; to = e }))) t.two)) u
      ≡ with_part s t (record { from = at; to = e })
  unfolding with_part
  by_count e x y p q u h = sym (rw (p, q, h))

  module _ {t' : Parts} {past : ℕ} where
    module _ (o : Members) where
      pub step-one : t.outer.count ≡ 1 → o ≡ members_at s (no_members 0) at → t' ≡ put t o t.two → past ≡ o.end → Step t' past
      step-one n h p q =
          record {
            ends = q ∙ ap (λ (x : Members). x.end) h ∙ object-end s (no_members 0) at;
            collected = λ e v u g.
                ap (λ x. with_outer_of x u) (p ∙ ap (λ x. put t x t.two) (h ∙ object-is s (no_members 0) at e v))
                ∙ by_count e true false (ap (λ k. eqb k 1) n) (ap (λ k. eqb k 2) n) u g;
          }

      pub step-two : t.outer.count ≡ 2 → o ≡ members_at s t.one at → t' ≡ put t t.one o → past ≡ o.end → Step t' past
      step-two n h p q =
          record {
            ends = q ∙ ap (λ (x : Members). x.end) h ∙ object-end s t.one at;
            collected = λ e v u g.
                ap (λ x. with_outer_of x u) (p ∙ ap (λ x. put t t.one x) (h ∙ object-is s t.one at e v))
                ∙ by_count e false true (ap (λ k. eqb k 1) n) (ap (λ k. eqb k 2) n) u g;
          }

    pub step_other : (t.outer.count ≡ 1 → ⊥) → (t.outer.count ≡ 2 → ⊥) → (k : ℕ) → k ≡ end_of (value 15 s at) → t' ≡ t → past ≡ k → Step t' past
    step_other n m k h p q =
        record {
          ends = q ∙ h;
          collected = λ e v u g.
              ap (λ x. with_outer_of x u) p ∙ by_count e false false (ne_eqb t.outer.count 1 n) (ne_eqb t.outer.count 2 m) u g;
        }

    module _ (w : Step t' past) (n : past ≡ 0 → ⊥) where
      pub step_value : value 15 s at ≡ Some past
      step_value = end-at (value 15 s at) past w.ends n

      pub step_part : (u : Outer) → u ≡ with_outer s t.outer (record { from = at; to = past }) → with_outer_of t' u ≡ with_part s t (record { from = at; to = past })
      step_part u h = w.collected past step_value u h
