-- The entries of a message that passes the checks of its text stand in it; its numbers keep their bounds.
-- Assumes nothing.
use Rattle.std.specs.Prelude.{None, Option, Some, Err, Ok}
use mathlib.Core.Path.{◌≡◌, refl, sym, ap, ◌∙◌, subst}
use mathlib.Core.List.{List, [], ◌∷◌}
use mathlib.Core.Bool.{Bool, true, false, true≢false, ◌&&◌, not, cond}
use Prim.Native.Nat.{ℕ, ◌+◌, ◌≤◌, ◌<◌, ◌^◌}
use borrow.Author.Tests.{eqb-true, leb-true}
use native.Mathlib.Omega.{arith}
use Rattle.text.specs.Text.{ascii}
use Rattle.decimal.specs.Digits.{leading, value_of}
use Rattle.decimal.specs.Decimal.{is_whole}
use Rattle.decimal.specs.Whole.{read_whole, at_most, read_checksum}
use Rattle.decimal.proofs.Digits.{Digits, leading-digits, value-below, tens-mono}
use Rattle.decimal.proofs.Scan.{leading-whole}
use Rattle.json_values.specs.Names.{part, means, inner}
use Rattle.edit.specs.declared.Side.TheVariants.{Bids, Asks}
use Rattle.json_values.specs.Json.{Span, Pair, text}
use Rattle.json_values.specs.Claims.{InOrder, IsElement}
use Rattle.settings.specs.Settings.{Config}
use Rattle.settings.specs.Rules.{is_linked, rules_of}
use Rattle.settings.specs.declared.Dialect.{Dialect}
use Rattle.settings.specs.declared.Dialect.TheVariants.{K, M, Unknown}
use Rattle.entries.specs.Places.{is_string, and_then, all, array_at, object_at, values_of, only, whole_at, checksum_at, quoted_checksum_at, top}
use Rattle.entries.specs.Rows.{Entry, sided_at}
use Rattle.entries.proofs.Claims.{AllHere, here-none, here-also, sided-here}
use Rattle.entries.specs.declared.Form.{Form}
use Rattle.entries.specs.declared.Form.TheVariants as forms
use Rattle.layout.specs.Layout.{is_snapshot as is_snapshot_m, Printed, printed, unprinted, Layout, Envelope, member_entries, entries_in, laid}
use Rattle.layout.specs.declared.Kind.{Kind}
use Rattle.layout.specs.declared.Kind.TheVariants.{Snapshot, Update}
use Rattle.message_k.specs.LayoutK.{Frame, frame_of, is_snapshot, is_update, together, entries_k, objects_layout, layout_k, envelope_k}
use Rattle.message_m.specs.LayoutM.{kind_at, layout_m, linked_to, layout_in, envelope_m}
use lib.Dec.{leb, ltb, eqb, lit<}
use lib.ListN.{length, get_or}
use Rattle.message.specs.Bad.{form_of}
use Rattle.message.proofs.Members.{Follow, Collected, object-follows, objects-follow, array-objects}
use Rattle.message.specs.Meaning.{too_many, counted, laid_out, addressed, envelope_in, framed}
use Rattle.answer.specs.declared.Answer.{Answer}
use Rattle.answer.specs.declared.Answer.TheVariants.{TooLong, NotJson, NotOurs, BadLayout, TooManyEntries}

-- The entries stand in the text, the sequence number has at most 19 digits, and a checksum is within its bound.
pub record LieIn (form : Form) (s : List ℕ) (l : Layout) : Type 0 where
  pub entries : AllHere form 13 s l.entries
  -- .. one after another
  pub collected : Collected form s l.entries
  pub small : l.number < 10 ^ 19
  pub low : (n : ℕ) → l.checksum ≡ printed n → n ≤ 4294967295

-- ---- what was read of what was read
no-reading : {A B : Type 0} {b : B} → None ≡ Some b → A
no-reading h = let z : ◌≡◌ {A = ℕ} 0 1 = cc in absurd (omega arith)

reads_same : {A : Type 0} {a b : A} → Some a ≡ Some b → a ≡ b
reads_same h = cc

then-reads : {A B : Type 0} (x : Option A) (f : A → Option B) (b : B) → and_then x f ≡ Some b → (a : A) × (f a ≡ Some b) × (x ≡ Some a)
unfolding and_then
then-reads (Some a) f b h = (a, h, refl)
then-reads None f b h = no-reading h

-- ---- a whole number has at most 19 digits

and_first : (a b : Bool) → (a && b) ≡ true → a ≡ true
and_first true b h = refl
and_first false b h = h

and_second : (a b : Bool) → (a && b) ≡ true → b ≡ true
and_second true b h = h
and_second false b h = absurd (true≢false (sym h))

below : {a b c : ℕ} → a < b → b ≤ c → a < c
below p q = omega arith

whole-small : (s : List ℕ) (n : ℕ) → read_whole s ≡ Some n → n < 10 ^ 19
unfolding read_whole is_whole
whole-small s n h = at (is_whole 19 s && eqb (length (leading s)) (length s)) refl h
  where
    at : (b : Bool) → (is_whole 19 s && eqb (length (leading s)) (length s)) ≡ b → elim b [ true ↦ Some (value_of s) | false ↦ None ] ≡ Some n → n < 10 ^ 19
    at false q g = no-reading g
    at true q g =
        let w = and_first (is_whole 19 s) (eqb (length (leading s)) (length s)) q in
        let e : length (leading s) ≡ length s = eqb-true (length (leading s)) (length s) (and_second (is_whole 19 s) (eqb (length (leading s)) (length s)) q) in
        let k : length s ≤ 19 = leb-true (length s) 19 (and_first (leb (length s) 19) (not (ltb 1 (length s) && eqb (get_or s 0 0) 48)) (and_second (leb 1 (length s)) (leb (length s) 19 && not (ltb 1 (length s) && eqb (get_or s 0 0) 48)) w)) in
        let v : value_of s < 10 ^ length s = value-below (subst Digits (leading-whole s e) (leading-digits s)) in
        let m : 10 ^ length s ≤ 10 ^ 19 = tens-mono (length s) 19 k in
        subst (λ (x : ℕ). x < 10 ^ 19) (reads_same g) (below v m)

-- ---- a checksum is within its bound

no-print : {A : Type 0} {k : ℕ} → unprinted ≡ printed k → A
no-print h = let z : ◌≡◌ {A = ℕ} 0 1 = cc in absurd (omega arith)

printed-same : {i k : ℕ} → printed i ≡ printed k → i ≡ k
printed-same h = cc

checksum-low : (s : List ℕ) (n : ℕ) → read_checksum s ≡ Some n → n ≤ 4294967295
unfolding read_checksum at_most
checksum-low s n h = go (read_whole s) h
  where
    at : (k : ℕ) (b : Bool) → leb k 4294967295 ≡ b → elim b [ true ↦ Some k | false ↦ None ] ≡ Some n → n ≤ 4294967295
    at k true q g = subst (λ (x : ℕ). x ≤ 4294967295) (reads_same g) (leb-true k 4294967295 q)
    at k false q g = no-reading g

    go : (x : Option ℕ) → at_most 4294967295 x ≡ Some n → n ≤ 4294967295
    go (Some k) g = at k (leb k 4294967295) refl g
    go None g = no-reading g

quoted-low : (s : List ℕ) (a : Span) (n : ℕ) → quoted_checksum_at s a ≡ Some n → n ≤ 4294967295
unfolding quoted_checksum_at
quoted-low s a n h = go (is_string s a) h
  where
    go : (b : Bool) → cond b (read_checksum (inner s a)) None ≡ Some n → n ≤ 4294967295
    go true g = checksum-low (inner s a) n g
    go false g = no-reading g

-- ---- the entries of members, and a layout of them
module _ (form : Form) (s : List ℕ) where
  member-here : (bids asks : List ℕ) (m : Pair) (es : List Entry) → member_entries form 14 s bids asks m ≡ Some es → AllHere form 13 s es
  unfolding member_entries
  member-here bids asks m es h = at (means s m.name bids) (means s m.name asks) h
    where
      at : (b a : Bool) → cond b (sided_at Bids form 14 s m.value) (cond a (sided_at Asks form 14 s m.value) (Some [])) ≡ Some es → AllHere form 13 s es
      at true a g = sided-here Bids form 13 s m.value es g
      at false true g = sided-here Asks form 13 s m.value es g
      at false false g = here-none es g

  members-here : (bids asks : List ℕ) (ms : List Pair) (es : List Entry) → entries_in form 14 s bids asks ms ≡ Some es → AllHere form 13 s es
  unfolding entries_in
  members-here bids asks [] es h = here-none es h
  members-here bids asks (m ∷ ms) es h =
      here-also (member_entries form 14 s bids asks m) (entries_in form 14 s bids asks ms) (member-here bids asks m) (members-here bids asks ms) es h

  collected-here : (es : List Entry) → Collected form s es → AllHere form 13 s es
  collected-here es c = members-here c.bids c.asks c.members es c.collects

  laid-lies : (kind : Kind) (p : Printed) (n : ℕ) (x : Option (List Entry)) → ((es : List Entry) → x ≡ Some es → Collected form s es)
      → n < 10 ^ 19 → ((k : ℕ) → p ≡ printed k → k ≤ 4294967295) → (l : Layout) → laid kind p n x ≡ Some l → LieIn form s l
  unfolding laid and_then
  laid-lies kind p n (Some es) f small low l h =
      let e : l ≡ record { kind = kind; entries = es; checksum = p; number = n; previous = 0 } = sym (reads_same h) in
      rw e (record { entries = collected-here es (f es refl); collected = f es refl; small = small; low = low })
  laid-lies kind p n None f small low l h = no-reading h

-- ---- K
module _ (s : List ℕ) where
  k-objects-lie : (o : List (List Pair)) (hi lo : ℕ) → Follow s hi lo (together o) → (l : Layout) → objects_layout s o ≡ Some l → LieIn forms.Triple s l
  unfolding objects_layout entries_k
  k-objects-lie o hi lo f l h = at (is_snapshot s o) (is_update s o) h
    where
      here : (bids asks : List ℕ) (es : List Entry) → entries_k s bids asks o ≡ Some es → Collected forms.Triple s es
      here bids asks es g = record { bids = bids; asks = asks; members = together o; lo = lo; hi = hi; in_order = f; collects = g }

      at : (x y : Bool)
          → cond x (laid Snapshot unprinted 0 (entries_k s (ascii "bs") (ascii "as") o))
          (cond y
          (and_then (only (values_of s (ascii "c") (together o))) (λ c.
          and_then (quoted_checksum_at s c) (λ sum. laid Update (printed sum) 0 (entries_k s (ascii "b") (ascii "a") o))))
          None)
          ≡ Some l → LieIn forms.Triple s l
      at true y g = laid-lies forms.Triple s Snapshot unprinted 0 _ (here (ascii "bs") (ascii "as")) (lit< tt) (λ k e. no-print e) l g
      at false true g =
          let c = then-reads (only (values_of s (ascii "c") (together o))) _ l g in
          let d = then-reads (quoted_checksum_at s c.0) _ l c.1 in
          laid-lies forms.Triple s Update (printed d.0) 0 _ (here (ascii "b") (ascii "a")) (lit< tt) (λ k e. subst (λ (x : ℕ). x ≤ 4294967295) (printed-same e) (quoted-low s c.0 d.0 d.2)) l d.1
      at false false g = no-reading g

  k-lies : (f : Frame) (hi lo : ℕ) → InOrder (IsElement 15 s) hi lo f.objects → (l : Layout) → layout_k s f ≡ Some l → LieIn forms.Triple s l
  unfolding layout_k
  k-lies f hi lo e l h =
      let n = then-reads (whole_at s f.first) _ l h in
      let o = then-reads (all (object_at 15 s) f.objects) _ l n.1 in
      k-objects-lie o.0 hi lo (objects-follow s hi lo f.objects o.0 e o.2) l o.1

  -- ---- M
  m-lies : (ms : List Pair) (l : Layout) → layout_m s ms ≡ Some l → LieIn forms.Pair s l
  unfolding layout_m whole_at checksum_at
  m-lies ms l h =
      let a = then-reads (only (values_of s (ascii "channel") ms)) _ l h in
      let b = then-reads (only (values_of s (ascii "product") ms)) _ l a.1 in
      let c = then-reads (only (values_of s (ascii "type") ms)) _ l b.1 in
      let t = then-reads (kind_at s c.0) _ l c.1 in
      let d = then-reads (only (values_of s (ascii "data") ms)) _ l t.1 in
      let o = then-reads (object_at 15 s d.0) _ l d.1 in
      let u = then-reads (only (values_of s (ascii "bids") o.0)) _ l o.1 in
      let v = then-reads (only (values_of s (ascii "asks") o.0)) _ l u.1 in
      let k = then-reads (only (values_of s (ascii "checksum") ms)) _ l v.1 in
      let n = then-reads (checksum_at s k.0) _ l k.1 in
      let g = then-reads (only (values_of s (ascii "gsn") ms)) _ l n.1 in
      let w = then-reads (whole_at s g.0) _ l g.1 in
      let e = object-follows s d.0 o.0 o.2 in
      laid-lies forms.Pair s t.0 (printed n.0) w.0 _ (λ es g. record { bids = ascii "bids"; asks = ascii "asks"; members = o.0; lo = d.0.from + 1; hi = e.0; in_order = e.1; collects = g }) (whole-small (part s g.0) w.0 w.2) (λ i e. subst (λ (x : ℕ). x ≤ 4294967295) (printed-same e) (checksum-low (part s k.0) n.0 n.2)) l w.1

  -- .. also where an update names the sequence number before its own
  linked-lies : (linked : Bool) (ms : List Pair) (l : Layout) → layout_in linked s ms ≡ Some l → LieIn forms.Pair s l
  unfolding layout_in linked_to
  linked-lies false ms l h = m-lies ms l h
  linked-lies true ms l h = let p = then-reads (layout_m s ms) _ l h in at p.0 (is_snapshot_m p.0.kind) (m-lies ms p.0 p.2) p.1
    where
      at : (k : Layout) (b : Bool) → LieIn forms.Pair s k
          → cond b (Some k) (and_then (and_then (only (values_of s (ascii "prev_gsn") ms)) (whole_at s)) (λ n. Some (record { kind = k.kind; entries = k.entries; checksum = k.checksum; number = k.number; previous = n }))) ≡ Some l
          → LieIn forms.Pair s l
      at k true w g = rw (sym (reads_same g)) w
      at k false w g =
          let q = then-reads (and_then (only (values_of s (ascii "prev_gsn") ms)) (whole_at s)) _ l g in
          rw (sym (reads_same q.1)) (record { entries = w.entries; collected = w.collected; small = w.small; low = w.low })

-- ---- the whole: a message that passes checks 2 to 7, and one that passes 8 too
no-pass : {A : Type 0} (a : Answer) (l : Layout) → Err a ≡ Ok l → A
no-pass a l h = let z : ◌≡◌ {A = ℕ} 0 1 = cc in absurd (omega arith)

module _ (form : Form) (s : List ℕ) where
  counted-lies : (most : ℕ) (r : Option Layout) → ((x : Layout) → r ≡ Some x → LieIn form s x) → (l : Layout) → laid_out most r ≡ Ok l → LieIn form s l
  unfolding laid_out counted
  counted-lies most (Some x) f l h = at (too_many most x) h
    where
      at : (b : Bool) → cond b (Err TooManyEntries) (Ok x) ≡ Ok l → LieIn form s l
      at true g = no-pass TooManyEntries l g
      at false g = let e : l ≡ x = cc in rw e (f x refl)
  counted-lies most None f l h = no-pass BadLayout l h

  addressed-lies : (most : ℕ) (r : Option Envelope) → ((x : Envelope) → r ≡ Some x → (y : Layout) → x.layout ≡ Some y → LieIn form s y)
      → (l : Layout) → addressed most r ≡ Ok l → LieIn form s l
  unfolding addressed
  addressed-lies most (Some x) f l h = at x.ours h
    where
      at : (b : Bool) → cond b (laid_out most x.layout) (Err NotOurs) ≡ Ok l → LieIn form s l
      at true g = counted-lies most x.layout (f x refl) l g
      at false g = no-pass NotOurs l g
  addressed-lies most None f l h = no-pass NotOurs l h

heard-lies : (d : Dialect) (t : Config) (s : List ℕ) (a : Span) (x : Envelope) → envelope_in d t s a ≡ Some x → (y : Layout) → x.layout ≡ Some y → LieIn (form_of d) s y
unfolding envelope_in form_of envelope_k envelope_m
heard-lies K t s a x h y g =
    let f = then-reads (and_then (array_at 16 s a) frame_of) _ x h in
    let e = reads_same f.1 in
    let o = array-objects s a f.0 f.2 in
    k-lies s f.0 o.0 o.1 o.2 y (ap (λ (z : Envelope). z.layout) e ∙ g)
heard-lies (M v) t s a x h y g =
    let f = then-reads (object_at 16 s a) _ x h in
    let e = reads_same f.1 in
    linked-lies s (is_linked v) f.0 y (ap (λ (z : Envelope). z.layout) e ∙ g)
heard-lies Unknown t s a x h y g = no-reading h

pub framed-lies : (t : Config) (s : List ℕ) (l : Layout) → framed t s ≡ Ok l → LieIn (form_of t.dialect) s l
unfolding framed
framed-lies t s l h = at (ltb (rules_of t.dialect).longest (length s)) (text s) h
  where
    at : (a b : Bool) → cond a (Err TooLong) (cond b (addressed (rules_of t.dialect).entries (envelope_in t.dialect t s (top s))) (Err NotJson)) ≡ Ok l → LieIn (form_of t.dialect) s l
    at true b g = no-pass TooLong l g
    at false true g = addressed-lies (form_of t.dialect) s (rules_of t.dialect).entries (envelope_in t.dialect t s (top s)) (heard-lies t.dialect t s (top s)) l g
    at false false g = no-pass NotJson l g
