-- The loop over the elements of a message: the entries that the buffer has, by the objects among them. Assumes nothing.
use Rattle.std.specs.Prelude.{None, Option, Some}
use Prim.Native.Nat.{ℕ, ◌+◌, ◌≤◌, ◌<◌}
use mathlib.Core.Path.{◌≡◌, sym, ap, ◌∙◌, subst}
use mathlib.Core.Bool.{Bool, true, false, true≢false, cond}
use mathlib.Core.List.{List, [], ◌∷◌, ◌++◌, append-nil, append_assoc}
use native.Mathlib.Omega.{arith}
use borrow.Author.Tests.{lt-leb}
use lib.Dec.{leb}
use lib.ListN.{length}
use Rattle.text.specs.Text.{byte_at}
use Rattle.json_values.specs.Json.{Span, Pair, Items, items, elements, value}
use Rattle.json_values.specs.Fold.{fold_from, folded_in}
use Rattle.json_values.proofs.Fold.{Loop, Left, made, over_elements}
use Rattle.entries.specs.Places.{object_at}
use Rattle.entries.specs.Tally.{met, Tells, Kept}
use Rattle.entries.proofs.Tallies.{tells_none, kept-none}
use Rattle.message_k.specs.MembersK.{held_in, no_members, ObjectRead}
use Rattle.message_k.specs.PartsK.{up_to_six, with_outer, no_parts, with_part, ended_at, parts_in, PartsRead}
use Rattle.message_k.specs.declared.Members.{Members}
use Rattle.message_k.specs.declared.Outer.{Outer}
use Rattle.message_k.specs.declared.Parts.{Parts}
use Rattle.message_k.proofs.OnePart.{with_outer_of}

-- the elements themselves
abbrev pub over_spans : List ℕ → Loop Span (List Span) (Option (List Span))
over_spans s = over_elements 15 s (λ l a. l ++ (a ∷ [])) (λ e l. Some l) None

abbrev One : List ℕ → Span → Members → List ℕ → Type 0
One s o t buffer = (ms : List Pair) → object_at 15 s o ≡ Some ms → Tells s (held_in s (Some []) ms) t.tally × Kept s (held_in s (Some []) ms) buffer

abbrev Two : List ℕ → Span → Span → List ℕ → Type 0
Two s o q buffer = (ms ns : List Pair) → object_at 15 s o ≡ Some ms → object_at 15 s q ≡ Some ns → Kept s (held_in s (held_in s (Some []) ms) ns) buffer

abbrev Alone : List ℕ → Span → Span → List ℕ → Type 0
Alone s o q buffer = (byte_at s q.from ≡ 123 → ⊥) → (ms : List Pair) → object_at 15 s o ≡ Some ms → Kept s (held_in s (Some []) ms) buffer

-- what the buffer has after elements
pub data Bears (s : List ℕ) (t : Parts) (i : ℕ) (buffer : List ℕ) : List Span → Type 0 where
  no-element : t.outer.count ≡ 0 → Bears s t i buffer []
  one-element : (n : Span) → t.outer.count ≡ 1 → Bears s t i buffer (n ∷ [])
  two-elements : (n o : Span) → t.outer.count ≡ 2 → met t.one.tally ≤ i → One s o t.one buffer → Bears s t i buffer (n ∷ (o ∷ []))
  more-elements : (n o q : Span) (l : List Span) → 3 ≤ t.outer.count → Alone s o q buffer → Two s o q buffer → Bears s t i buffer (n ∷ (o ∷ (q ∷ l)))

abbrev with_objects : Parts → Members → Members → Parts
with_objects t one two = record { end = t.end; outer = t.outer; one = one; two = two }

-- the element at `at` was read, as an object if it may be one
pub record Moved (s : List ℕ) (t : Parts) (at : ℕ) (before after : List ℕ) (t' : Parts) (past : ℕ) : Type 0 where
  pub ends : t.outer.count ≡ 1 → t'.one.end ≡ past
  pub room : length after ≡ 600
  pub one : t.outer.count ≡ 1 → ObjectRead s (no_members 0) at before after t'.one
  pub two : t.outer.count ≡ 2 → ObjectRead s t.one at before after t'.two
  pub other : (t.outer.count ≡ 1 → ⊥) → (t.outer.count ≡ 2 → ⊥) → after ≡ before

module _ (s : List ℕ) (t : Parts) (at : ℕ) (before after : List ℕ) (t' : Parts) (past : ℕ) (u : Members) (other : List ℕ) (o : Members) where
  pub moved-one : t.outer.count ≡ 1 → u ≡ no_members 0 → ObjectRead s u at before other o → after ≡ other → t' ≡ with_objects t o t.two → past ≡ o.end → Moved s t at before after t' past
  moved-one n h g b p e =
      let q : t'.one ≡ o = ap (λ (x : Parts). x.one) p in
      record {
        ends = λ z. ap (λ (x : Members). x.end) q ∙ sym e;
        room = rw b g.room;
        one = λ z. rw (q, b) (subst (λ (x : Members). ObjectRead s x at before other o) h g);
        two = λ z. absurd (omega arith);
        other = λ y z. absurd (y n);
      }

  pub moved-two : t.outer.count ≡ 2 → ObjectRead s t.one at before other o → after ≡ other → t' ≡ with_objects t t.one o → Moved s t at before after t' past
  moved-two n g b p =
      let q : t'.two ≡ o = ap (λ (x : Parts). x.two) p in
      record {
        ends = λ z. absurd (omega arith);
        room = rw b g.room;
        one = λ z. absurd (omega arith);
        two = λ z. rw (q, b) g;
        other = λ y z. absurd (z n);
      }

  pub moved_other : (t.outer.count ≡ 1 → ⊥) → (t.outer.count ≡ 2 → ⊥) → length before ≡ 600 → after ≡ before → Moved s t at before after t' past
  moved_other n m r b =
      record {
        ends = λ z. absurd (n z);
        room = rw b r;
        one = λ z. absurd (n z);
        two = λ z. absurd (m z);
        other = λ y z. b;
      }

module _ {s : List ℕ} {t t' : Parts} {at past : ℕ} {before after : List ℕ} (m : Moved s t at before after t' past) (v : value 15 s at ≡ Some past) (some : at < past)
    (u : Outer) (h : u ≡ with_outer s t.outer (record { from = at; to = past })) (j : ℕ) (on : past ≤ j) where
  abbrev a : Span
  a = record { from = at; to = past }

  counts : u.count ≡ up_to_six t.outer.count
  unfolding with_outer
  counts = ap (λ (x : Outer). x.count) h

  up : (n : ℕ) → n < 6 → up_to_six n ≡ n + 1
  unfolding up_to_six
  up n l = rw (lt-leb 6 n l)

  up_more : (n : ℕ) → 3 ≤ n → 3 ≤ up_to_six n
  unfolding up_to_six
  up_more n l = go (leb 6 n)
    where
      go : (b : Bool) → 3 ≤ cond b 6 (n + 1)
      go true = omega arith
      go false = omega arith

  pub bears-next : {done : List Span} → length before ≡ 600 → Bears s t at before done → Bears s (with_outer_of t' u) j after (done ++ (a ∷ []))
  bears-next r (no-element z) = one-element a (counts ∙ ap up_to_six z ∙ up 0 (omega arith))
  bears-next r (one-element n z) =
      let o = m.one z in
      let e = m.ends z in
      let few = o.few (λ y. omega arith) in
      two-elements n a (counts ∙ ap up_to_six z ∙ up 1 (omega arith)) (omega arith)
      (λ ms g. o.kept past v ms g (Some []) (tells_none s) (kept-none s before r))
  bears-next r (two-elements n o z few one) =
      let w = m.two z in
      more-elements n o a [] (let c = counts ∙ ap up_to_six z ∙ up 2 (omega arith) in omega arith)
      (λ b ms g. subst (λ (x : List ℕ). Kept s (held_in s (Some []) ms) x) (sym (w.same b)) (one ms g).1)
      (λ ms ns g k. let p = one ms g in (w.kept past v ns k (held_in s (Some []) ms) p.0 p.1).1)
  bears-next r (more-elements n o q l z alone two) =
      let e = m.other (λ y. omega arith) (λ y. omega arith) in
      more-elements n o q (l ++ (a ∷ [])) (let c = counts in let k = up_more t.outer.count z in omega arith)
      (λ b ms g. subst (λ (x : List ℕ). Kept s (held_in s (Some []) ms) x) (sym e) (alone b ms g))
      (λ ms ns g k. subst (λ (x : List ℕ). Kept s (held_in s (held_in s (Some []) ms) ns) x) (sym e) (two ms ns g k))

-- the first object was told in what lies before i
pub bears-few : {s : List ℕ} {t : Parts} {i : ℕ} {buffer : List ℕ} {done : List Span} → t.outer.count ≡ 2 → Bears s t i buffer done → met t.one.tally ≤ i
bears-few h (no-element z) = absurd (omega arith)
bears-few h (one-element n z) = absurd (omega arith)
bears-few h (two-elements n o z few one) = few
bears-few h (more-elements n o q l z alone two) = absurd (omega arith)

-- ---- the objects of a message of four and of five elements
no-list : {A B : Type 0} {x : A} {l : List A} → ◌≡◌ {A = List A} (x ∷ l) [] → B
no-list {A} h = absurd (true≢false (ap (λ (y : List A). elim y [ [] ↦ false | x ∷ l ↦ true ]) h))

module _ {s : List ℕ} {t : Parts} {i : ℕ} {buffer : List ℕ} where
  pub bears-four : (n o c p : Span) {l : List Span} → l ≡ n ∷ (o ∷ (c ∷ (p ∷ []))) → Bears s t i buffer l → Alone s o c buffer
  bears-four n o c p e (no-element z) = no-list (sym e)
  bears-four n o c p e (one-element m z) = let x : ◌≡◌ {A = ℕ} 1 4 = ap length e in absurd (omega arith)
  bears-four n o c p e (two-elements m k z few one) = let x : ◌≡◌ {A = ℕ} 2 4 = ap length e in absurd (omega arith)
  bears-four n o c p e (more-elements m k q l z alone two) =
      let x : k ≡ o = cc in
      let y : q ≡ c = cc in
      rw (sym x, sym y) alone

  pub bears-five : (n o q c p : Span) {l : List Span} → l ≡ n ∷ (o ∷ (q ∷ (c ∷ (p ∷ [])))) → Bears s t i buffer l → Two s o q buffer
  bears-five n o q c p e (no-element z) = no-list (sym e)
  bears-five n o q c p e (one-element m z) = let x : ◌≡◌ {A = ℕ} 1 5 = ap length e in absurd (omega arith)
  bears-five n o q c p e (two-elements m k z few one) = let x : ◌≡◌ {A = ℕ} 2 5 = ap length e in absurd (omega arith)
  bears-five n o q c p e (more-elements m k w l z alone two) =
      let x : k ≡ o = cc in
      let y : w ≡ q = cc in
      rw (sym x, sym y) two

-- ---- the loop
abbrev pub over_parts : List ℕ → Loop Span Parts Parts
over_parts s = over_elements 15 s (with_part s) ended_at (no_parts 0)

abbrev pub all_spans : List ℕ → Items Span → Option (List Span)
all_spans s x = made (over_spans s) [] x

pub record Running (s : List ℕ) (at : ℕ) (t : Parts) (i : ℕ) (buffer : List ℕ) : Type 0 where
  pub told : Left (over_parts s) t i (made (over_parts s) (no_parts 0) (elements (value 15 s) s at))
  pub room : length buffer ≡ 600
  pub done : List Span
  pub spans : Left (over_spans s) done i (all_spans s (elements (value 15 s) s at))
  pub bears : Bears s t i buffer done

-- ---- what was read in the end
snoc-all : (done l : List Span) → fold_from (λ (k : List Span) (a : Span). k ++ (a ∷ [])) done l ≡ done ++ l
unfolding fold_from
snoc-all done [] = sym (append-nil done)
snoc-all done (a ∷ l) = snoc-all (done ++ (a ∷ [])) l ∙ append_assoc done (a ∷ []) l

no_reads : {A B : Type 0} {b : B} → ◌≡◌ {A = Option B} None (Some b) → A
no_reads {A} {B} h = absurd (true≢false (sym (ap (λ (y : Option B). elim y [ Some k ↦ true | None ↦ false ]) h)))

same_reads : {B : Type 0} {a b : B} → ◌≡◌ {A = Option B} (Some a) (Some b) → a ≡ b
same_reads {B} {a} h = ap (λ (y : Option B). elim y [ Some k ↦ k | None ↦ a ]) h

module _ (s : List ℕ) (x : Items Span) (buffer : List ℕ) (room : length buffer ≡ 600) (r : Parts) (told : r ≡ parts_in s x) where
  spans-are : (l : List Span) (e : ℕ) → x ≡ items l e → all_spans s x ≡ Some l
  unfolding folded_in
  spans-are l e h = ap (all_spans s) h ∙ ap Some (snoc-all [] l)

  pub parts-broken : None ≡ all_spans s x → PartsRead s x buffer r
  parts-broken h =
      record {
        told = told;
        room = room;
        four = λ n o c p e q b ms g. no_reads (h ∙ spans-are (n ∷ (o ∷ (c ∷ (p ∷ [])))) e q);
        five = λ n o k c p e q ms ns g w. no_reads (h ∙ spans-are (n ∷ (o ∷ (k ∷ (c ∷ (p ∷ []))))) e q);
      }

  pub parts-read : (done : List Span) → Some done ≡ all_spans s x → {t : Parts} {i : ℕ} → Bears s t i buffer done → PartsRead s x buffer r
  parts-read done h bears =
      record {
        told = told;
        room = room;
        four = λ n o c p e q. bears-four n o c p (same_reads (h ∙ spans-are (n ∷ (o ∷ (c ∷ (p ∷ [])))) e q)) bears;
        five = λ n o k c p e q. bears-five n o k c p (same_reads (h ∙ spans-are (n ∷ (o ∷ (k ∷ (c ∷ (p ∷ []))))) e q)) bears;
      }
