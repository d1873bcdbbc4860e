-- The loop over the members of an object: what was told, and the entries that the buffer has. Assumes nothing.
use Rattle.std.specs.Prelude.{None, Option, Some}
use Prim.Native.Nat.{ℕ, ◌+◌, ◌≤◌}
use mathlib.Core.Path.{◌≡◌, refl, sym, ap, ◌∙◌, subst}
use mathlib.Core.Bool.{true, false, true≢false}
use mathlib.Core.List.{List}
use native.Mathlib.Omega.{arith}
use borrow.Author.Tests.{eq-eqb, ne_eqb}
use lib.ListN.{length}
use Rattle.text.specs.Text.{byte_at}
use Rattle.json_tokens.specs.Tokens.{separator, closing}
use Rattle.json_tokens.specs.Ends.{end_of}
use Rattle.json_tokens.proofs.Bounds.{bounds}
use Rattle.json_values.specs.Json.{Pair, Items, items, no_items, member, members, value}
use Rattle.json_values.specs.Fold.{fold_from, folded_in}
use Rattle.json_values.proofs.Bounds.{value_in}
use Rattle.json_values.proofs.Fold.{Loop, Left, Stands, made, over_members, fold_on, fold-last}
use Rattle.entries.specs.Places.{contents, object_at}
use Rattle.entries.specs.Rows.{Entry}
use Rattle.entries.specs.Tally.{met, Tells, Kept}
use Rattle.entries.specs.declared.Tally.{Tally}
use Rattle.message_k.specs.MembersK.{with_held, held_in, with_member, no_members, closed_at, members_at, MemberRead, ObjectRead}
use Rattle.message_k.specs.declared.Members.{Members}
use Rattle.message_k.proofs.Objects.{object-end}

abbrev pub over_told : List ℕ → Loop Pair Members Members
over_told s = over_members 14 s (with_member s) closed_at (no_members 0)

abbrev pub over_held : List ℕ → Loop Pair (Option (List Entry)) (Option (List Entry))
over_held s = over_members 14 s (with_held s) (λ e x. x) None

no_reads : {A B : Type 0} {b : B} → ◌≡◌ {A = Option B} None (Some b) → A
no_reads {A} {B} h = absurd (true≢false (sym (ap (λ (y : Option B). elim y [ Some k ↦ true | None ↦ false ]) h)))

same_reads : {B : Type 0} {a b : B} → ◌≡◌ {A = Option B} (Some a) (Some b) → a ≡ b
same_reads {B} {a} h = ap (λ (y : Option B). elim y [ Some k ↦ k | None ↦ a ]) h

-- what all members of the object at `at` hold, after x
abbrev pub held_all : List ℕ → Option (List Entry) → ℕ → Option (List Entry)
held_all s x at = made (over_held s) x (members (value 14 s) s (at + 1))

module _ (s : List ℕ) (at : ℕ) where
  pub held-total : byte_at s at ≡ 123 → (e : ℕ) (ms : List Pair) → object_at 15 s (record { from = at; to = e }) ≡ Some ms → (x : Option (List Entry)) → held_all s x at ≡ held_in s x ms
  unfolding object_at folded_in contents
  held-total h e ms g x = go (members (value 14 s) s (at + 1)) (rw (eq-eqb (byte_at s at) 123 h) at g)
    where
      go : (y : Items Pair) → contents y ≡ Some ms → folded_in (with_held s) (λ e x. x) None x y ≡ held_in s x ms
      go (items l k) q = ap (fold_from (with_held s) x) (same_reads q)
      go no_items q = no_reads q

  pub no-object-read : (byte_at s at ≡ 123 → ⊥) → (e : ℕ) (ms : List Pair) → {A : Type 0} → object_at 15 s (record { from = at; to = e }) ≡ Some ms → A
  unfolding object_at
  no-object-read h e ms g = no_reads (rw (ne_eqb (byte_at s at) 123 h) at g)

-- r was told of a value that is not JSON
pub not-json : (s : List ℕ) (t : Members) (at : ℕ) → no_members 0 ≡ members_at s t at → (e : ℕ) → {A : Type 0} → value 15 s at ≡ Some e → A
unfolding end_of
not-json s t at h e v =
    let b = bounds e (value_in 15 s at) v in
    let z : 0 ≡ e = ap (λ (x : Members). x.end) h ∙ object-end s t at ∙ ap end_of v in
    absurd (omega arith)

-- x was read so far, of `all` in the end
pub record Holding (s : List ℕ) (u : Tally) (i : ℕ) (buffer : List ℕ) (all : Option (List Entry)) : Type 0 where
  pub x : Option (List Entry)
  pub left : Left (over_held s) x i all
  pub tells : Tells s x u
  pub kept : Kept s x buffer

-- whatever was read before the object, of which t₀ tells and which the buffer had
pub record Going (s : List ℕ) (at : ℕ) (t₀ : Members) (first : List ℕ) (t : Members) (i : ℕ) (buffer : List ℕ) : Type 0 where
  pub told : Left (over_told s) t i (members_at s t₀ at)
  pub few : met t.tally ≤ i
  pub room : length buffer ≡ 600
  pub holding : (x₀ : Option (List Entry)) → Tells s x₀ t₀.tally → Kept s x₀ first → Holding s t.tally i buffer (held_all s x₀ at)

pub going-as : {s : List ℕ} {at : ℕ} {t₀ : Members} {first : List ℕ} {t r : Members} {i : ℕ} {buffer : List ℕ} → r ≡ t → Going s at t₀ first t i buffer → Going s at t₀ first r i buffer
going-as {s} {at} {t₀} {first} {t} {r} {i} {buffer} e g = subst (λ (x : Members). Going s at t₀ first x i buffer) (sym e) g

-- the value of a member of the object was read
module _ {s : List ℕ} {t : Members} {i k j : ℕ} {before after : List ℕ} {r : Members}
    (h : MemberRead s t (record { from = i; to = k }) j before after r) (v : value 14 s j ≡ Some r.end) where
  abbrev here : Pair
  here = record { name = record { from = i; to = k }; value = record { from = j; to = r.end } }

  module _ {all : Option (List Entry)} (g : Holding s t.tally i before all) where
    next : Tells s (with_held s g.x here) r.tally × Kept s (with_held s g.x here) after
    next = h.added.kept r.end v g.x g.tells g.kept

  -- a comma follows
  pub holding-on : {all : Option (List Entry)} → Holding s t.tally i before all → Stands (member (value 14 s) s) s i here r.end
      → (l : ℕ) → separator 44 s r.end ≡ Some l → Holding s r.tally l after all
  holding-on g stands l c =
      let q = next g in
      record { x = with_held s g.x here; left = fold_on (over_held s) g.x g.left stands l c refl; tells = q.0; kept = q.1 }

  -- the object ends
  pub holding-last : {all : Option (List Entry)} → Holding s t.tally i before all → Stands (member (value 14 s) s) s i here r.end
      → separator 44 s r.end ≡ None → (u : ℕ) → closing 125 s r.end ≡ Some u
      → Tells s all r.tally × Kept s all after
  holding-last {all} g stands z u y =
      let q = next g in
      let e : with_held s g.x here ≡ all = fold-last (over_held s) g.x g.left stands z u y refl in
      (subst (λ (x : Option (List Entry)). Tells s x r.tally) e q.0, subst (λ (x : Option (List Entry)). Kept s x after) e q.1)

-- ---- what was read of the value at `at`
module _ (s : List ℕ) (t : Members) (at : ℕ) (before : List ℕ) (r : Members) where
  pub object-none : (byte_at s at ≡ 123 → ⊥) → length before ≡ 600 → (e : ℕ) → r ≡ no_members e → r ≡ members_at s t at → ObjectRead s t at before before r
  object-none h room e q told =
      record {
        told = told;
        few = λ n. let z = ap (λ (x : Members). met x.tally) q in omega arith;
        room = room;
        same = λ g. refl;
        kept = λ k v ms g x w y. no-object-read s at h k ms g;
      }

  module _ (h : byte_at s at ≡ 123) (after : List ℕ) (room : length after ≡ 600) where
    pub object-broken : r ≡ no_members 0 → no_members 0 ≡ members_at s t at → ObjectRead s t at before after r
    object-broken q told =
        record {
          told = q ∙ told;
          few = λ n. let z = ap (λ (x : Members). met x.tally) q in omega arith;
          room = room;
          same = λ g. absurd (g h);
          kept = λ k v ms g x w y. not-json s t at told k v;
        }

    pub object-read : r ≡ members_at s t at → met r.tally ≤ r.end
        → ((x : Option (List Entry)) → Tells s x t.tally → Kept s x before → Tells s (held_all s x at) r.tally × Kept s (held_all s x at) after) → ObjectRead s t at before after r
    object-read told few kept =
        record {
          told = told;
          few = λ n. few;
          room = room;
          same = λ g. absurd (g h);
          kept = λ k v ms g x w y.
              let p = kept x w y in
              let q = held-total s at h k ms g x in
              (subst (λ (z : Option (List Entry)). Tells s z r.tally) q p.0, subst (λ (z : Option (List Entry)). Kept s z after) q p.1);
        }
