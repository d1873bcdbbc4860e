-- The loop over the members of an object whose entries go into the buffer: x was read so far, of `all` in the end. `step` is what a member adds.
-- Assumes nothing.
use Rattle.std.specs.Prelude.{None, Option, Some}
use Prim.Native.Nat.{ℕ, suc, ◌+◌}
use mathlib.Core.Path.{◌≡◌, refl, sym, ap, ◌∙◌, subst}
use mathlib.Core.Bool.{true, false, true≢false}
use mathlib.Core.List.{List}
use Rattle.text.specs.Text.{byte_at}
use Rattle.json_tokens.specs.Tokens.{separator, closing}
use Rattle.json_values.specs.Json.{Span, Pair, Items, items, no_items, member, members, value}
use Rattle.json_values.specs.Fold.{fold_from, folded_in}
use Rattle.json_values.proofs.Fold.{Loop, Left, Stands, made, over_members, fold_on, fold-last}
use Rattle.entries.specs.Places.{contents, object_at}
use Rattle.entries.specs.Rows.{Entry}
use Rattle.entries.specs.Tally.{Tells, Kept}
use Rattle.entries.specs.declared.Tally.{Tally}
use Rattle.layout.proofs.Objects.{object-yes}
use Rattle.message_m.specs.Collected.{Added}

pub no_reads : {A B : Type 0} {b : B} → ◌≡◌ {A = Option B} None (Some b) → A
no_reads {A} {B} h = absurd (true≢false (sym (ap (λ (y : Option B). elim y [ Some k ↦ true | None ↦ false ]) h)))

pub same_reads : {B : Type 0} {a b : B} → ◌≡◌ {A = Option B} (Some a) (Some b) → a ≡ b
same_reads {B} {a} h = ap (λ (y : Option B). elim y [ Some k ↦ k | None ↦ a ]) h

module _ (d : ℕ) (s : List ℕ) (step : Option (List Entry) → Pair → Option (List Entry)) where
  abbrev pub over_held : Loop Pair (Option (List Entry)) (Option (List Entry))
  over_held = over_members d s step (λ e x. x) None

  abbrev pub held_all : Option (List Entry) → ℕ → Option (List Entry)
  held_all x at = made over_held x (members (value d s) s (at + 1))

  pub held-total : (a : Span) → byte_at s a.from ≡ 123 → (ms : List Pair) → object_at (suc d) s a ≡ Some ms → (x : Option (List Entry)) → held_all x a.from ≡ fold_from step x ms
  unfolding folded_in contents
  held-total a h ms g x = go (members (value d s) s (a.from + 1)) (sym (object-yes d s a h) ∙ g)
    where
      go : (y : Items Pair) → contents y ≡ Some ms → folded_in step (λ e x. x) None x y ≡ fold_from step x ms
      go (items l k) q = ap (fold_from step x) (same_reads q)
      go no_items q = no_reads q

  pub record Holding (u : Tally) (i : ℕ) (buffer : List ℕ) (all : Option (List Entry)) : Type 0 where
    pub x : Option (List Entry)
    pub left : Left over_held x i all
    pub tells : Tells s x u
    pub kept : Kept s x buffer

  -- the member there was read, and ends at e
  module _ {t u : Tally} {i e : ℕ} {m : Pair} {before after : List ℕ} (h : Added s m.value t u (λ x. step x m) before after) (n : m.value.to ≡ 0 → ⊥)
      (stands : Stands (member (value d s) s) s i m e) {all : Option (List Entry)} (g : Holding t i before all) where
    -- a comma follows
    pub holding-on : (l : ℕ) → separator 44 s e ≡ Some l → Holding u l after all
    holding-on l c =
        let q = h.kept n g.x g.tells g.kept in
        record { x = step g.x m; left = fold_on over_held g.x g.left stands l c refl; tells = q.0; kept = q.1 }

    -- the object ends
    pub holding-last : separator 44 s e ≡ None → (k : ℕ) → closing 125 s e ≡ Some k → Tells s all u × Kept s all after
    holding-last z k y =
        let q = h.kept n g.x g.tells g.kept in
        let e : step g.x m ≡ all = fold-last over_held g.x g.left stands z k y refl in
        (subst (λ (x : Option (List Entry)). Tells s x u) e q.0, subst (λ (x : Option (List Entry)). Kept s x after) e q.1)
