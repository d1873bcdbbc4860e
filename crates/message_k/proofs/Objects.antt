-- What is told of a value as an object.
-- Assumes nothing.
use Rattle.std.specs.Prelude.{None, Option, Some, ℕ}
use mathlib.Core.Path.{◌≡◌, refl, sym, ap, ◌∙◌}
use mathlib.Core.List.{List}
use Prim.Native.Nat.{ℕ, ◌+◌}
use borrow.Author.Tests.{eq-eqb, ne_eqb}
use Rattle.text.specs.Text.{byte_at}
use Rattle.json_tokens.specs.Ends.{end_of}
use Rattle.json_values.specs.Json.{Pair, Items, items, no_items, items_end, members, value}
use Rattle.json_values.proofs.Laws.{value-object}
use Rattle.entries.specs.Places.{contents, object_at}
use Rattle.json_values.specs.Fold.{folded_in}
use Rattle.message_k.specs.MembersK.{with_member, no_members, closed_at, members_of, members_at}
use Rattle.message_k.specs.declared.Members.{Members}

module _ (s : List ℕ) (t : Members) (at : ℕ) where
  pub object-is : (e : ℕ) → value 15 s at ≡ Some e → members_at s t at ≡ members_of s t e (object_at 15 s (record { from = at; to = e }))
  unfolding members_at
  object-is e v = rw (v, members_at)

  pub object-end : (members_at s t at).end ≡ end_of (value 15 s at)
  unfolding members_at members_of end_of
  object-end = go (value 15 s at)
    where
      at_value : (e : ℕ) (y : Option (List Pair)) → (members_of s t e y).end ≡ e
      at_value e (Some ms) = refl
      at_value e None = refl

      go : (x : Option ℕ) → (elim x as (λ y. Members) [ Some e ↦ members_of s t e (object_at 15 s (record { from = at; to = e })) | None ↦ no_members 0 ]).end ≡ end_of x
      go (Some e) = at_value e (object_at 15 s (record { from = at; to = e }))
      go None = refl

  pub no-object : (byte_at s at ≡ 123 → ⊥) → no_members (end_of (value 15 s at)) ≡ members_at s t at
  unfolding members_at members_of end_of object_at
  no-object h = go (value 15 s at)
    where
      none : (e : ℕ) → members_of s t e (object_at 15 s (record { from = at; to = e })) ≡ no_members e
      none e = rw (ne_eqb (byte_at s at) 123 h)

      go : (x : Option ℕ) → no_members (end_of x) ≡ elim x [ Some e ↦ members_of s t e (object_at 15 s (record { from = at; to = e })) | None ↦ no_members 0 ]
      go (Some e) = sym (none e)
      go None = refl

  -- an object is folded member by member
  pub object-fold : byte_at s at ≡ 123 → folded_in (with_member s) closed_at (no_members 0) t (members (value 14 s) s (at + 1)) ≡ members_at s t at
  unfolding members_at members_of items_end object_at contents folded_in
  object-fold h =
      sym (ap (λ (y : Option ℕ). elim y [ Some e ↦ members_of s t e (object_at 15 s (record { from = at; to = e })) | None ↦ no_members 0 ]) (value-object s at 14 h)
      ∙ go (members (value 14 s) s (at + 1)) refl)
    where
      held : (e : ℕ) → object_at 15 s (record { from = at; to = e }) ≡ contents (members (value 14 s) s (at + 1))
      held e = rw (eq-eqb (byte_at s at) 123 h)

      go : (x : Items Pair) → members (value 14 s) s (at + 1) ≡ x
          → elim (items_end x) [ Some e ↦ members_of s t e (object_at 15 s (record { from = at; to = e })) | None ↦ no_members 0 ]
          ≡ folded_in (with_member s) closed_at (no_members 0) t x
      go (items l e) q = ap (members_of s t e) (held e ∙ ap contents q)
      go no_items q = refl
