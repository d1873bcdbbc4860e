-- What is told of the elements is what the message is.
-- Assumes nothing.
use Rattle.std.specs.Prelude.{None, Option, Some, is_some, ℕ}
use mathlib.Core.Path.{◌≡◌, refl, sym, ap, ◌∙◌, subst}
use mathlib.Core.List.{List, [], ◌∷◌, ◌++◌, append-nil}
use mathlib.Core.Bool.{true, false, true≢false, cond}
use Prim.Native.Nat.{ℕ, ◌+◌}
use native.Mathlib.Omega.{arith}
use lib.Dec.{eqb}
use borrow.Author.Tests.{eq-eqb, ne_eqb}
use Rattle.text.specs.Text.{ascii}
use Rattle.decimal.specs.Digits.{written}
use Rattle.text.specs.Text.{byte_at}
use Rattle.json_tokens.specs.Ends.{end_of}
use Rattle.json_values.specs.Json.{Span, Pair, Items, items, no_items, items_end, elements, value}
use Rattle.json_values.proofs.Laws.{value-array}
use Rattle.entries.specs.Places.{and_then, all, contents, array_at, object_at, whole_at}
use Rattle.json_values.specs.Names.{means}
use Rattle.json_values.proofs.Names.{means-no-quote}
use Rattle.entries.specs.Rows.{Entry}
use Rattle.entries.specs.Tally.{Kept}
use Rattle.entries.proofs.Tallies.{fold-append}
use Rattle.layout.specs.Layout.{Layout, Envelope}
use Rattle.layout.specs.Scan.{outline_of, not_framed, scan_of, scan_at}
use Rattle.json_values.specs.Fold.{fold_from, folded_in}
use Rattle.layout.specs.declared.Scan.{Scan}
use Rattle.message_k.specs.LayoutK.{together, Frame, frame_of, ours_k, objects_layout, layout_k, envelope_k}
use Rattle.message_k.specs.MembersK.{with_held, held_in, with_member, no_members, closed_at, members_of}
use Rattle.message_k.specs.PartsK.{up_to_six, PartsRead, no_parts, with_outer, with_part, ended_at, parts_in, ours_by, framed_as, one_object, two_objects}
use Rattle.message_k.specs.declared.Parts.{Parts}
use Rattle.message_k.proofs.Tells.{Tells, tells_none, tells-on}
use Rattle.message_k.proofs.Outlines.{one-is, one-no-object, one-no-whole, two_is, two-not}
use Rattle.message_k.proofs.Layouts.{both_true, layout-held, objects-laid, tells-alone, one-snapshot, one-update, tells_both, two-snapshot, two-update}

-- ---- check 6, with one object and with two
module _ (s : List ℕ) where
  told_of : (e : ℕ) (ms : List Pair) → Tells s (closed_at e (fold_from (with_member s) (no_members 0) ms)) ms
  told_of e ms = tells-on s (no_members 0) [] ms e (tells_none s 0)

  one-laid : (w : Option ℕ) (e : ℕ) (x : Option (List Pair))
      → one_object (is_some w) (members_of s (no_members 0) e x) ≡ outline_of s (and_then w (λ n. and_then (and_then x (λ b. Some (b ∷ []))) (objects_layout s)))
  unfolding and_then members_of outline_of
  one-laid None e x = sym (one-no-whole false (members_of s (no_members 0) e x) refl)
  one-laid (Some n) e None = sym (one-no-object true (no_members e) refl refl)
  one-laid (Some n) e (Some ms) =
      let t = closed_at e (fold_from (with_member s) (no_members 0) ms) in
      let h = told_of e ms in
      sym (one-is true t refl refl)
      ∙ objects-laid s (ms ∷ []) t (tells-alone s ms t h) _ _ (one-snapshot s ms t h) (one-update s ms t h)

  two-laid : (w : Option ℕ) (e k : ℕ) (x y : Option (List Pair))
      → two_objects (is_some w) (members_of s (no_members 0) e x) (members_of s (members_of s (no_members 0) e x) k y)
      ≡ outline_of s (and_then w (λ n. and_then (and_then x (λ b. and_then (and_then y (λ c. Some (c ∷ []))) (λ bs. Some (b ∷ bs)))) (objects_layout s)))
  unfolding and_then members_of outline_of
  two-laid None e k x y = sym (two-not false (members_of s (no_members 0) e x) (members_of s (members_of s (no_members 0) e x) k y) refl)
  two-laid (Some n) e k None y = sym (two-not true (no_members e) (members_of s (no_members e) k y) refl)
  two-laid (Some n) e k (Some ms) None = sym (two-not true (closed_at e (fold_from (with_member s) (no_members 0) ms)) (no_members k) refl)
  two-laid (Some n) e k (Some ms) (Some ns) =
      let t = closed_at e (fold_from (with_member s) (no_members 0) ms) in
      let u = closed_at k (fold_from (with_member s) t ns) in
      let h = told_of e ms in
      let g = tells-on s t ms ns k h in
      sym (two_is true t u refl)
      ∙ objects-laid s (ms ∷ (ns ∷ [])) u (tells_both s ms ns t u h g) _ _ (two-snapshot s ms ns t u h g) (two-update s ms ns t u h g)

-- ---- the elements
module _ (depth : ℕ) (name s : List ℕ) where
  -- what the code makes of them
  pub told_by : Parts → Scan
  told_by p =
      cond (eqb p.outer.count 4) (framed_as depth name s p.end p.outer (one_object p.outer.whole p.one))
      (cond (eqb p.outer.count 5) (framed_as depth name s p.end p.outer (two_objects p.outer.whole p.one p.two))
      (not_framed p.end))

  module _ (p : Parts) where
    pub told-four : p.outer.count ≡ 4 → framed_as depth name s p.end p.outer (one_object p.outer.whole p.one) ≡ told_by p
    unfolding told_by
    told-four h = sym (rw (eq-eqb p.outer.count 4 h, told_by))

    pub told-five : p.outer.count ≡ 5 → framed_as depth name s p.end p.outer (two_objects p.outer.whole p.one p.two) ≡ told_by p
    unfolding told_by
    told-five h = let n : (p.outer.count ≡ 4 → ⊥) = λ z. omega arith in sym (rw (ne_eqb p.outer.count 4 n, eq-eqb p.outer.count 5 h, told_by))

    pub told-other : (p.outer.count ≡ 4 → ⊥) → (p.outer.count ≡ 5 → ⊥) → not_framed p.end ≡ told_by p
    unfolding told_by
    told-other n m = sym (rw (ne_eqb p.outer.count 4 n, ne_eqb p.outer.count 5 m, told_by))

  -- six stay six
  six : (p : Parts) → p.outer.count ≡ 6 → (l : List Span) → (fold_from (with_part s) p l).outer.count ≡ 6
  unfolding fold_from with_part with_outer up_to_six
  six p h [] = h
  six p h (a ∷ l) = six (with_part s p a) (ap up_to_six h) l

  six-told : (p : Parts) → p.outer.count ≡ 6 → (l : List Span) (e : ℕ) → told_by (ended_at e (fold_from (with_part s) p l)) ≡ not_framed e
  six-told p h l e = let n = six p h l in sym (told-other (ended_at e (fold_from (with_part s) p l)) (λ z. omega arith) (λ z. omega arith))

  abbrev hear : Frame → Option Envelope
  hear f = Some (record { ours = ours_k depth name s f; layout = layout_k s f })

  told-list : (l : List Span) (e : ℕ) → told_by (ended_at e (fold_from (with_part s) (no_parts 0) l)) ≡ scan_of s e (and_then (frame_of l) hear)
  unfolding told_by fold_from with_part with_outer up_to_six frame_of and_then scan_of ours_k ours_by layout_k all
  told-list [] e = refl
  told-list (n ∷ []) e = refl
  told-list (n ∷ (o ∷ [])) e = refl
  told-list (n ∷ (o ∷ (c ∷ []))) e = refl
  told-list (n ∷ (o ∷ (c ∷ (p ∷ [])))) e = rw (one-laid s (whole_at s n) o.to (object_at 15 s o))
  told-list (n ∷ (o ∷ (q ∷ (c ∷ (p ∷ []))))) e = rw (two-laid s (whole_at s n) o.to q.to (object_at 15 s o) (object_at 15 s q))
  told-list (n ∷ (o ∷ (q ∷ (c ∷ (p ∷ (x ∷ l)))))) e =
      six-told (with_part s (with_part s (with_part s (with_part s (with_part s (with_part s (no_parts 0) n) o) q) c) p) x) refl l e

  module _ (at : ℕ) where
    pub told_none : (byte_at s at ≡ 91 → ⊥) → not_framed (end_of (value 16 s at)) ≡ scan_at (envelope_k depth name) s at
    unfolding scan_at scan_of end_of envelope_k array_at and_then
    told_none h = go (value 16 s at)
      where
        none : (e : ℕ) → scan_of s e (envelope_k depth name s (record { from = at; to = e })) ≡ not_framed e
        none e = rw (ne_eqb (byte_at s at) 91 h)

        go : (x : Option ℕ) → not_framed (end_of x) ≡ elim x [ Some e ↦ scan_of s e (envelope_k depth name s (record { from = at; to = e })) | None ↦ scan_of s 0 None ]
        go (Some e) = sym (none e)
        go None = refl

    pub told_array : byte_at s at ≡ 91 → told_by (parts_in s (elements (value 15 s) s (at + 1))) ≡ scan_at (envelope_k depth name) s at
    unfolding scan_at scan_of items_end envelope_k array_at contents and_then parts_in folded_in told_by
    told_array h =
        sym (ap (λ (y : Option ℕ). elim y [ Some e ↦ scan_of s e (envelope_k depth name s (record { from = at; to = e })) | None ↦ scan_of s 0 None ]) (value-array s at 15 h)
        ∙ go (elements (value 15 s) s (at + 1)) refl)
      where
        held : (e : ℕ) → envelope_k depth name s (record { from = at; to = e }) ≡ and_then (and_then (contents (elements (value 15 s) s (at + 1))) frame_of) hear
        held e = rw (eq-eqb (byte_at s at) 91 h)

        go : (x : Items Span) → elements (value 15 s) s (at + 1) ≡ x
            → elim (items_end x) [ Some e ↦ scan_of s e (envelope_k depth name s (record { from = at; to = e })) | None ↦ scan_of s 0 None ] ≡ told_by (parts_in s x)
        go (items l e) q = ap (scan_of s e) (held e ∙ ap (λ y. and_then (and_then (contents y) frame_of) hear) q) ∙ sym (told-list l e)
        go no_items q = refl

-- ---- the entries that the buffer has
no_reads : {A B : Type 0} {b : B} → ◌≡◌ {A = Option B} None (Some b) → A
no_reads {A} {B} h = absurd (true≢false (sym (ap (λ (y : Option B). elim y [ Some k ↦ true | None ↦ false ]) h)))

same_reads : {B : Type 0} {a b : B} → ◌≡◌ {A = Option B} (Some a) (Some b) → a ≡ b
same_reads {B} {a} h = ap (λ (y : Option B). elim y [ Some k ↦ k | None ↦ a ]) h

-- a string that means a name is no object
no-object : (s : List ℕ) (a : Span) (name : List ℕ) → means s a name ≡ true → byte_at s a.from ≡ 123 → ⊥
no-object s a name h b = true≢false (sym h ∙ means-no-quote s a.from a.to name (λ z. let k : ◌≡◌ {A = ℕ} 123 34 = sym b ∙ z in omega arith))

module _ (s : List ℕ) (buffer : List ℕ) (l : Layout) where
  keeps-one : (ms : List Pair) → objects_layout s (ms ∷ []) ≡ Some l → Kept s (held_in s (Some []) ms) buffer → Kept s (Some l.entries) buffer
  unfolding together
  keeps-one ms h k = subst (λ (x : Option (List Entry)). Kept s x buffer) (ap (held_in s (Some [])) (sym (append-nil ms)) ∙ layout-held s (ms ∷ []) l h) k

  keeps-two : (ms ns : List Pair) → objects_layout s (ms ∷ (ns ∷ [])) ≡ Some l → Kept s (held_in s (held_in s (Some []) ms) ns) buffer → Kept s (Some l.entries) buffer
  unfolding together
  keeps-two ms ns h k =
      subst (λ (x : Option (List Entry)). Kept s x buffer)
      (sym (fold-append (with_held s) (Some []) ms ns) ∙ ap (λ (x : List Pair). held_in s (Some []) (ms ++ x)) (sym (append-nil ns)) ∙ layout-held s (ms ∷ (ns ∷ [])) l h) k

  layout-one : (w : Option ℕ) (o : Span) → and_then w (λ n. and_then (all (object_at 15 s) (o ∷ [])) (objects_layout s)) ≡ Some l
      → ((ms : List Pair) → object_at 15 s o ≡ Some ms → Kept s (held_in s (Some []) ms) buffer) → Kept s (Some l.entries) buffer
  unfolding and_then all
  layout-one None o h k = no_reads h
  layout-one (Some n) o h k = go (object_at 15 s o) refl h
    where
      go : (x : Option (List Pair)) → object_at 15 s o ≡ x → and_then (and_then x (λ b. Some (b ∷ []))) (objects_layout s) ≡ Some l → Kept s (Some l.entries) buffer
      go (Some ms) p g = keeps-one ms g (k ms p)
      go None p g = no_reads g

  layout-two : (w : Option ℕ) (o q : Span) → and_then w (λ n. and_then (all (object_at 15 s) (o ∷ (q ∷ []))) (objects_layout s)) ≡ Some l
      → ((ms ns : List Pair) → object_at 15 s o ≡ Some ms → object_at 15 s q ≡ Some ns → Kept s (held_in s (held_in s (Some []) ms) ns) buffer) → Kept s (Some l.entries) buffer
  unfolding and_then all
  layout-two None o q h k = no_reads h
  layout-two (Some n) o q h k = go (object_at 15 s o) refl (object_at 15 s q) refl h
    where
      go : (x : Option (List Pair)) → object_at 15 s o ≡ x → (y : Option (List Pair)) → object_at 15 s q ≡ y
          → and_then (and_then x (λ b. and_then (and_then y (λ c. Some (c ∷ []))) (λ bs. Some (b ∷ bs)))) (objects_layout s) ≡ Some l → Kept s (Some l.entries) buffer
      go (Some ms) p (Some ns) r g = keeps-two ms ns g (k ms ns p r)
      go (Some ms) p None r g = no_reads g
      go None p y r g = no_reads g

module _ (depth : ℕ) (name s : List ℕ) (at : ℕ) (buffer : List ℕ) where
  abbrev Keeps : Type 0
  Keeps = (e : ℕ) → value 16 s at ≡ Some e → (h : Envelope) → envelope_k depth name s (record { from = at; to = e }) ≡ Some h → h.ours ≡ true
      → (l : Layout) → h.layout ≡ Some l → Kept s (Some l.entries) buffer

  pub keeps-other : (byte_at s at ≡ 91 → ⊥) → Keeps
  unfolding envelope_k array_at and_then
  keeps-other b e v h g = no_reads (rw (ne_eqb (byte_at s at) 91 b) at g)

  abbrev frame : Span → List Span → Span → Span → Frame
  frame n objects c p = record { first = n; objects = objects; channel = c; pair = p }

  abbrev heard : Frame → Envelope
  heard f = record { ours = ours_k depth name s f; layout = layout_k s f }

  is-channel : (f : Frame) → ours_k depth name s f ≡ true → byte_at s f.channel.from ≡ 123 → ⊥
  unfolding ours_k
  is-channel f h = no-object s f.channel (ascii "book-" ++ written depth) (both_true _ _ h).0

  of-list : (l : List Span) (k : ℕ) (r : Parts) → PartsRead s (items l k) buffer r → (h : Envelope) → and_then (frame_of l) (hear depth name s) ≡ Some h → h.ours ≡ true
      → (y : Layout) → h.layout ≡ Some y → Kept s (Some y.entries) buffer
  unfolding frame_of and_then layout_k
  of-list [] k r p h g o y z = no_reads g
  of-list (n ∷ []) k r p h g o y z = no_reads g
  of-list (n ∷ (a ∷ [])) k r p h g o y z = no_reads g
  of-list (n ∷ (a ∷ (c ∷ []))) k r p h g o y z = no_reads g
  of-list (n ∷ (a ∷ (c ∷ (q ∷ [])))) k r p h g o y z =
      let e : heard (frame n (a ∷ []) c q) ≡ h = same_reads g in
      let u : ours_k depth name s (frame n (a ∷ []) c q) ≡ true = ap (λ (x : Envelope). x.ours) e ∙ o in
      layout-one s buffer y (whole_at s n) a (ap (λ (x : Envelope). x.layout) e ∙ z)
      (λ ms m. p.four n a c q k refl (is-channel (frame n (a ∷ []) c q) u) ms m)
  of-list (n ∷ (a ∷ (b ∷ (c ∷ (q ∷ []))))) k r p h g o y z =
      let e : heard (frame n (a ∷ (b ∷ [])) c q) ≡ h = same_reads g in
      layout-two s buffer y (whole_at s n) a b (ap (λ (x : Envelope). x.layout) e ∙ z) (λ ms ns. p.five n a b c q k refl ms ns)
  of-list (n ∷ (a ∷ (b ∷ (c ∷ (q ∷ (x ∷ l)))))) k r p h g o y z = no_reads g

  pub keeps-array : byte_at s at ≡ 91 → (r : Parts) → PartsRead s (elements (value 15 s) s (at + 1)) buffer r → Keeps
  unfolding envelope_k array_at and_then contents
  keeps-array b r p e v h g o y z = go (elements (value 15 s) s (at + 1)) p (rw (eq-eqb (byte_at s at) 91 b) at g)
    where
      go : (x : Items Span) → PartsRead s x buffer r → and_then (and_then (contents x) frame_of) (hear depth name s) ≡ Some h → Kept s (Some y.entries) buffer
      go (items l k) w q = of-list l k r w h q o y z
      go no_items w q = no_reads q
