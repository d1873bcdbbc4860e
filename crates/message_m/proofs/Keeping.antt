-- What the buffer has once `data`, and once the message, was read. Assumes nothing.
use Rattle.std.specs.Prelude.{None, Option, Some}
use Prim.Native.Nat.{ℕ, ◌+◌, ◌≤◌}
use mathlib.Core.Path.{◌≡◌, refl, sym, ap, ◌∙◌, subst}
use mathlib.Core.Bool.{Bool, true, false, cond}
use mathlib.Core.List.{List, [], ◌∷◌}
use native.Mathlib.Omega.{arith}
use lib.ListN.{length}
use Rattle.text.specs.Text.{ascii, byte_at}
use Rattle.json_tokens.specs.Ends.{end_of}
use Rattle.json_tokens.proofs.Bounds.{bounds}
use Rattle.json_values.specs.Json.{Span, Pair, Items, items, no_items, items_end, members, value}
use Rattle.json_values.specs.Names.{means}
use Rattle.json_values.specs.Fold.{fold_from}
use Rattle.json_values.proofs.Laws.{value-object}
use Rattle.json_values.proofs.Bounds.{value_in}
use Rattle.json_values.proofs.Fold.{Left}
use Rattle.entries.specs.Places.{and_then, contents, object_at, values_of, only, whole_at}
use Rattle.entries.specs.Rows.{Entry}
use Rattle.entries.specs.Tally.{met as count, Tells, Kept}
use Rattle.entries.specs.declared.Form.TheVariants as forms
use Rattle.entries.specs.declared.Tally.{Tally}
use Rattle.entries.proofs.Tallies.{none-also}
use Rattle.layout.specs.Layout.{is_snapshot, printed, Layout, Envelope, entries_in}
use Rattle.layout.specs.Scan.{not_framed, scan_of, scan_at, Scanned}
use Rattle.layout.specs.declared.Scan.{Scan}
use Rattle.layout.proofs.Laws.{laid-entries}
use Rattle.layout.proofs.MemberSpans.{values-fold}
use Rattle.layout.proofs.Objects.{object-yes, object-no}
use Rattle.message_m.specs.LayoutM.{layout_m, linked_to, layout_in, envelope_m}
use Rattle.message_m.specs.Collected.{with_held, held_of, Added, DataRead, body_held}
use Rattle.message_m.specs.declared.Data.{Data}
use Rattle.message_m.specs.declared.Members.{Members}
use Rattle.message_m.proofs.Steps.{added-as, added_none, data-end}
use Rattle.message_m.proofs.Holding.{no_reads, same_reads, held_all, held-total, Holding}
use Rattle.message_m.proofs.Whole.{data_loop, data_at, held-are, message_loop, Marked}

-- ---- `data`

abbrev pub to_end : ℕ → List ℕ → ℕ → Span
to_end d s at = record { from = at; to = end_of (value d s at) }

-- whatever was read before it, of which t tells and which the buffer had
pub record DataGoing (s : List ℕ) (at : ℕ) (t : Tally) (first : List ℕ) (d : Data) (i : ℕ) (buffer : List ℕ) : Type 0 where
  pub told : Left (data_loop s t) d i (data_at s t at)
  pub few : count d.tally ≤ i
  pub room : length buffer ≡ 600
  pub holding : (x₀ : Option (List Entry)) → Tells s x₀ t → Kept s x₀ first → Holding 14 s (with_held s) d.tally i buffer (held_all 14 s (with_held s) x₀ at)

-- an object that is JSON has members
object-reads : (s : List ℕ) (at : ℕ) → byte_at s at ≡ 123 → (end_of (value 15 s at) ≡ 0 → ⊥) → {A : Type 0} → object_at 15 s (to_end 15 s at) ≡ None → A
unfolding contents items_end end_of
object-reads s at o n h = go (members (value 14 s) s (at + 1)) (value-object s at 14 o) (sym (object-yes 14 s (to_end 15 s at) o) ∙ h)
  where
    go : {A : Type 0} → (x : Items Pair) → value 15 s at ≡ items_end x → contents x ≡ None → A
    go (items l e) v g = no_reads (sym g)
    go no_items v g = absurd (n (ap end_of v))

module _ (s : List ℕ) (t : Tally) (at : ℕ) (before : List ℕ) (r : Data) where
  pub data-passed : (byte_at s at ≡ 123 → ⊥) → count t ≤ at → length before ≡ 600 → r ≡ data_at s t at → r.tally ≡ t → DataRead s t (to_end 15 s at) before before r
  unfolding held_of
  data-passed o few room told same =
      let none : object_at 15 s (to_end 15 s at) ≡ None = object-no 14 s (to_end 15 s at) o in
      record {
        told = told;
        added = subst (λ (u : Tally). Added s (to_end 15 s at) t u (λ x. held_of s x (object_at 15 s (to_end 15 s at))) before before) (sym same)
            (added-as (added_none s 15 at t before few room) (λ x. sym (ap (held_of s x) none)));
      }

  module _ (after : List ℕ) (room : length after ≡ 600) where
    pub data-broken : r.end ≡ 0 → r ≡ data_at s t at → DataRead s t (to_end 15 s at) before after r
    data-broken z told =
        let e : end_of (value 15 s at) ≡ 0 = sym (ap (λ (x : Data). x.end) told ∙ data-end s t (to_end 15 s at)) ∙ z in
        record { told = told; added = record { few = λ n. absurd (n e); room = room; kept = λ n. absurd (n e) } }

    pub data-read : byte_at s at ≡ 123 → r ≡ data_at s t at → count r.tally ≤ r.end
        → ((x : Option (List Entry)) → Tells s x t → Kept s x before → Tells s (held_all 14 s (with_held s) x at) r.tally × Kept s (held_all 14 s (with_held s) x at) after)
        → DataRead s t (to_end 15 s at) before after r
    unfolding held_of
    data-read o told few kept =
        record {
          told = told;
          added = record {
            few = λ n. let e = ap (λ (x : Data). x.end) told ∙ data-end s t (to_end 15 s at) in omega arith;
            room = room;
            kept = λ n x w k. go (object_at 15 s (to_end 15 s at)) refl n x (kept x w k);
          };
        }
      where
        go : (y : Option (List Pair)) → object_at 15 s (to_end 15 s at) ≡ y → (end_of (value 15 s at) ≡ 0 → ⊥) → (x : Option (List Entry))
            → Tells s (held_all 14 s (with_held s) x at) r.tally × Kept s (held_all 14 s (with_held s) x at) after → Tells s (held_of s x y) r.tally × Kept s (held_of s x y) after
        go (Some ms) q n x p =
            let e = held-total 14 s (with_held s) (to_end 15 s at) o ms q x in
            (subst (λ (z : Option (List Entry)). Tells s z r.tally) e p.0, subst (λ (z : Option (List Entry)). Kept s z after) e p.1)
        go None q n x p = object-reads s at o n q

-- ---- the message

abbrev pub body_step : List ℕ → Option (List Entry) → Pair → Option (List Entry)
body_step s x m = body_held s (means s m.name (ascii "data")) x m.value

pub record MessageGoing (linked : Bool) (name s : List ℕ) (at : ℕ) (m : Members) (i : ℕ) (buffer : List ℕ) : Type 0 where
  pub told : Left (message_loop linked name s) m i (scan_at (envelope_m linked name) s at)
  pub marked : Marked s m
  pub few : count m.body.last.tally ≤ i
  pub holding : Holding 15 s (body_step s) m.body.last.tally i buffer (held_all 15 s (body_step s) (Some []) at)

-- what the members hold is what `data` holds
body-values : (s : List ℕ) (x : Option (List Entry)) (ms : List Pair)
    → fold_from (body_step s) x ms ≡ fold_from (λ (y : Option (List Entry)) (a : Span). held_of s y (object_at 15 s a)) x (values_of s (ascii "data") ms)
unfolding body_held
body-values s x ms =
    values-fold s (ascii "data") (body_step s) (λ y. y) (λ (y : Option (List Entry)) (a : Span). held_of s y (object_at 15 s a))
    (λ y m h. rw h) (λ y m h. rw h) x ms

then-reads : {A B : Type 0} (x : Option A) (f : A → Option B) (b : B) → and_then x f ≡ Some b → (a : A) × (x ≡ Some a) × (f a ≡ Some b)
unfolding and_then
then-reads (Some a) f b h = (a, refl, h)
then-reads None f b h = no_reads h

one-data : (s : List ℕ) (l : List Span) (d : Span) (ds : List Pair) → only l ≡ Some d → object_at 15 s d ≡ Some ds
    → fold_from (λ (y : Option (List Entry)) (a : Span). held_of s y (object_at 15 s a)) (Some []) l ≡ fold_from (with_held s) (Some []) ds
unfolding only fold_from held_of
one-data s [] d ds h g = no_reads h
one-data s (a ∷ []) d ds h g = ap (held_of s (Some [])) (ap (object_at 15 s) (same_reads h) ∙ g)
one-data s (a ∷ (b ∷ l)) d ds h g = no_reads h

pub layout-held : (s : List ℕ) (ms : List Pair) (l : Layout) → layout_m s ms ≡ Some l → fold_from (body_step s) (Some []) ms ≡ Some l.entries
unfolding layout_m
layout-held s ms l h =
    let c = then-reads _ _ l h in
    let p = then-reads _ _ l c.2 in
    let t = then-reads _ _ l p.2 in
    let k = then-reads _ _ l t.2 in
    let d = then-reads (only (values_of s (ascii "data") ms)) _ l k.2 in
    let o = then-reads (object_at 15 s d.0) _ l d.2 in
    let b = then-reads _ _ l o.2 in
    let a = then-reads _ _ l b.2 in
    let u = then-reads _ _ l a.2 in
    let v = then-reads _ _ l u.2 in
    let g = then-reads _ _ l v.2 in
    let n = then-reads _ _ l g.2 in
    body-values s (Some []) ms
    ∙ one-data s (values_of s (ascii "data") ms) d.0 o.0 d.1 o.1
    ∙ held-are s (Some []) o.0
    ∙ none-also (entries_in forms.Pair 14 s (ascii "bids") (ascii "asks") o.0)
    ∙ laid-entries k.0 (printed v.0) n.0 (entries_in forms.Pair 14 s (ascii "bids") (ascii "asks") o.0) l n.2

-- the sequence number before an update's own changes no entry
pub linked-held : (linked : Bool) (s : List ℕ) (ms : List Pair) (l : Layout) → layout_in linked s ms ≡ Some l → fold_from (body_step s) (Some []) ms ≡ Some l.entries
unfolding layout_in linked_to
linked-held false s ms l h = layout-held s ms l h
linked-held true s ms l h =
    let p = then-reads (layout_m s ms) _ l h in
    layout-held s ms p.0 p.1 ∙ ap Some (at p.0 (is_snapshot p.0.kind) p.2)
  where
    at : (k : Layout) (b : Bool)
        → cond b (Some k) (and_then (and_then (only (values_of s (ascii "prev_gsn") ms)) (whole_at s)) (λ n. Some (record { kind = k.kind; entries = k.entries; checksum = k.checksum; number = k.number; previous = n }))) ≡ Some l
        → k.entries ≡ l.entries
    at k true g = ap (λ (x : Layout). x.entries) (same_reads g)
    at k false g = let q = then-reads (and_then (only (values_of s (ascii "prev_gsn") ms)) (whole_at s)) _ l g in ap (λ (x : Layout). x.entries) (same_reads q.2)

module _ (linked : Bool) (name s : List ℕ) (at : ℕ) (buffer : List ℕ) (r : Scan) (told : r ≡ scan_at (envelope_m linked name) s at) where
  pub message-other : (byte_at s at ≡ 123 → ⊥) → Scanned (envelope_m linked name) s at buffer r
  unfolding envelope_m and_then
  message-other o = record { told = told; kept = λ e v h g u l y. no_reads (rw (object-no 15 s (record { from = at; to = e }) o) at g) }

  pub message-broken : r ≡ not_framed 0 → Scanned (envelope_m linked name) s at buffer r
  unfolding scan_at scan_of
  message-broken z = record { told = told; kept = λ e v h g u l y. not-json e v h g }
    where
      not-json : {A : Type 0} → (e : ℕ) → value 16 s at ≡ Some e → (h : Envelope) → envelope_m linked name s (record { from = at; to = e }) ≡ Some h → A
      not-json e v h g =
          let b = bounds e (value_in 16 s at) v in
          let q : scan_at (envelope_m linked name) s at ≡ scan_of s e (Some h) = rw (v, scan_at, g) in
          let k : 0 ≡ e = ap (λ (x : Scan). x.end) (sym z ∙ told ∙ q) in
          absurd (omega arith)

  pub message-read : byte_at s at ≡ 123 → Kept s (held_all 15 s (body_step s) (Some []) at) buffer → Scanned (envelope_m linked name) s at buffer r
  unfolding envelope_m
  message-read o kept = record { told = told; kept = λ e v h g u l y. go e h g l y }
    where
      go : (e : ℕ) (h : Envelope) → envelope_m linked name s (record { from = at; to = e }) ≡ Some h → (l : Layout) → h.layout ≡ Some l → Kept s (Some l.entries) buffer
      go e h g l y =
          let p = then-reads (object_at 16 s (record { from = at; to = e })) _ h g in
          let k = ap (λ (x : Envelope). x.layout) (same_reads p.2) ∙ y in
          subst (λ (x : Option (List Entry)). Kept s x buffer) (held-total 15 s (body_step s) (record { from = at; to = e }) o p.0 p.1 (Some []) ∙ linked-held linked s p.0 l k) kept
