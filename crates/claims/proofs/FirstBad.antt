-- The first bad text. Entries lie one after another, so the texts that break check 8 begin in the order of the entries. Assumes nothing.
use Rattle.std.specs.Prelude.{None, Option, Some}
use Prim.Native.Nat.{ℕ, zero, suc, ◌+◌, ◌≤◌, ◌<◌}
use mathlib.Core.Path.{◌≡◌, refl, sym, ap, ◌∙◌, subst}
use mathlib.Core.Bool.{Bool, true, false, ◌&&◌, cond}
use mathlib.Core.List.{List, [], ◌∷◌, ◌++◌, map, append_assoc}
use lib.Dec.{eqb}
use native.Mathlib.Omega.{arith}
use Rattle.text.specs.Text.{byte_at}
use Rattle.edit.specs.declared.Side.{Side}
use Rattle.edit.specs.declared.Side.TheVariants.{Bids, Asks}
use Rattle.json_tokens.specs.Tokens.{scalar}
use Rattle.json_values.specs.Json.{Span, Pair, Items, items, no_items, elements, members, value, items_end}
use Rattle.json_values.specs.Names.{means}
use Rattle.json_values.specs.Claims.{InOrder, end, then, IsElement}
use Rattle.json_values.proofs.Claims.{elements-in-order, ends-within}
use Rattle.entries.specs.Places.{and_then, all, contents, is_string, array_at}
use Rattle.entries.specs.Rows.{Row, Entry, sided, row_k, row_m, row_of, entry_of, entries_at, sided_at, bad_price, bad_size, bad_texts, first_of}
use Rattle.entries.specs.declared.Form.{Form}
use Rattle.entries.specs.declared.Form.TheVariants as forms
use Rattle.entries.proofs.Strings.{no_row, same_row}
use Rattle.entries.proofs.Tallies.{also-reads}
use Rattle.layout.specs.Layout.{is_snapshot, member_entries, entries_in}
use Rattle.message.specs.Meaning.{bad, first_bad, first_bad_of, bad_decimal}
use Rattle.message.proofs.Members.{Follow, no_more, follows}
use Rattle.message.proofs.Where.{framed-lies}
use Rattle.claims.specs.FirstBad.{Has, here, later, FirstBad}

-- ---- spans that begin in order, from lo on and none past hi
data Ordered (hi : ℕ) : ℕ → List Span → Type 0 where
  none : (lo : ℕ) → lo ≤ hi → Ordered hi lo []
  more : (lo : ℕ) (a : Span) (l : List Span) → lo ≤ a.from → Ordered hi a.from l → Ordered hi lo (a ∷ l)

sooner : (hi lo at : ℕ) (l : List Span) → at ≤ lo → Ordered hi lo l → Ordered hi at l
sooner hi lo at l h (none i g) = none at (omega arith)
sooner hi lo at l h (more i a m g o) = more at a m (omega arith) o

join : (hi mid lo : ℕ) (l m : List Span) → Ordered mid lo l → Ordered hi mid m → Ordered hi lo (l ++ m)
join hi mid lo l m (none i g) p = sooner hi mid lo m g p
join hi mid lo l m (more i a k g o) p = more lo a (k ++ m) g (join hi mid a.from k m o p)

-- the first of them is one of them, and begins at or before each
each : (hi lo : ℕ) (l : List Span) → Ordered hi lo l → (a : Span) → Has a l → lo ≤ a.from
each hi _ _ (none lo _) a x = elim x [ ]
each hi lo l (more i b m g o) a (here k) = g
each hi lo l (more i b m g o) a (later c k h) = let z = each hi b.from m o a h in omega arith

first-of : (hi lo : ℕ) (l : List Span) → Ordered hi lo l → (a : Span) → Has a l → Has (first_of l) l × ((first_of l).from ≤ a.from)
unfolding first_of
first-of hi lo _ (none _ _) a h = elim h [ ]
first-of hi lo l (more i b m g o) a h = (here m, each hi b.from (b ∷ m) (more b.from b m (omega arith) o) a h)

-- ---- where a row lies
record RowIn (lo hi : ℕ) (r : Row) : Type 0 where
  first : lo ≤ r.price.from
  second : r.price.from ≤ r.size.from
  last : r.size.from ≤ hi

then-reads : {A B : Type 0} (x : Option A) (f : A → Option B) (b : B) → and_then x f ≡ Some b → (a : A) × (f a ≡ Some b) × (x ≡ Some a)
unfolding and_then
then-reads (Some a) f b h = (a, h, refl)
then-reads None f b h = no_row h

if-two : (t : Bool) (s : List ℕ) (w p z : Span) (k : List Span) (r : Row) → cond t (Some (record { whole = w; price = p; size = z })) None ≡ Some r
    → (others : List Span) × (p ∷ (z ∷ k) ≡ r.price ∷ (r.size ∷ others))
if-two true s w p z k r h = (k, rw (same_row h))
if-two false s w p z k r h = no_row h

first_two : (form : Form) (s : List ℕ) (w : Span) (l : List Span) (r : Row) → row_of form s w l ≡ Some r → (others : List Span) × (l ≡ r.price ∷ (r.size ∷ others))
unfolding row_k row_m
first_two forms.Triple s w [] r h = no_row h
first_two forms.Triple s w (p ∷ []) r h = no_row h
first_two forms.Triple s w (p ∷ (z ∷ [])) r h = no_row h
first_two forms.Triple s w (p ∷ (z ∷ (t ∷ k))) r h = if-two (is_string s p && (is_string s z && is_string s t)) s w p z (t ∷ k) r h
first_two forms.Pair s w [] r h = no_row h
first_two forms.Pair s w (p ∷ []) r h = no_row h
first_two forms.Pair s w (p ∷ (z ∷ [])) r h = if-two (is_string s p && is_string s z) s w p z [] r h
first_two forms.Pair s w (p ∷ (z ∷ (t ∷ k))) r h = no_row h

module _ (form : Form) (d : ℕ) (s : List ℕ) where
  ends-past : (hi lo : ℕ) (l : List Span) → InOrder (IsElement d s) hi lo l → lo < hi
  ends-past hi lo l (end i h) = h
  ends-past hi lo l (then i from to a k g h e o) = let z = ends-past hi to k o in omega arith

  two_in : (hi lo : ℕ) (p z : Span) (k : List Span) → InOrder (IsElement d s) hi lo (p ∷ (z ∷ k)) → (lo ≤ p.from) × (p.from ≤ z.from) × (z.from ≤ hi)
  two_in hi lo p z k (then i f t p1 l1 a b c (then i2 f2 t2 z1 k1 a2 b2 c2 o)) =
      let e = ends-past hi t2 k1 o in
      let u = c.begins in
      let v = c2.begins in
      (omega arith, omega arith, omega arith)

  row_in : (w : Span) (i : ℕ) (x : Items Span) → elements (value d s) s i ≡ x → (e : ℕ) → items_end x ≡ Some e → (r : Row) → and_then (contents x) (row_of form s w) ≡ Some r → RowIn i e r
  unfolding contents and_then items_end
  row_in w i (items l f) q e h r g =
      let k = first_two form s w l r g in
      let o : InOrder (IsElement d s) f i (r.price ∷ (r.size ∷ k.0)) = rw k.1 at (elements-in-order d s i l f q).0 in
      let t = two_in f i r.price r.size k.0 o in
      let z : f ≡ e = cc in
      record { first = t.0; second = t.1; last = subst (λ (n : ℕ). r.size.from ≤ n) z t.2 }
  row_in w i no_items q e h r g = no_row g

entry_in : (form : Form) (d : ℕ) (s : List ℕ) (a : Span) (r : Row) → value d s a.from ≡ Some a.to → entry_of form d s a ≡ Some r → RowIn a.from a.to r
unfolding entry_of array_at and_then value
entry_in form zero s a r v h = no_row h
entry_in form (suc d) s a r v h = go (eqb (byte_at s a.from) 91) v h
  where
    go : (b : Bool)
        → elim b [ true ↦ items_end (elements (value d s) s (a.from + 1)) | false ↦ elim (eqb (byte_at s a.from) 123) [ true ↦ items_end (members (value d s) s (a.from + 1)) | false ↦ scalar s a.from ] ] ≡ Some a.to
        → and_then (cond b (contents (elements (value d s) s (a.from + 1))) None) (row_of form s a) ≡ Some r → RowIn a.from a.to r
    go true u g =
        let t = row_in form d s a (a.from + 1) (elements (value d s) s (a.from + 1)) refl a.to u r g in
        let z = t.first in
        record { first = omega arith; second = t.second; last = t.last }
    go false u g = no_row g

-- ---- the texts of entries, in a snapshot or not

module _ (form : Form) (s : List ℕ) (snapshot : Bool) where
  abbrev texts : List Entry → List Span
  texts = bad_texts snapshot s

  texts-append : (l m : List Entry) → texts (l ++ m) ≡ texts l ++ texts m
  unfolding bad_texts
  texts-append [] m = refl
  texts-append (e ∷ l) m =
      let p = cond (bad_price s e.row.price) (e.row.price ∷ []) [] in
      let z = cond (bad_size snapshot s e.row.size) (e.row.size ∷ []) [] in
      ap (λ (x : List Span). p ++ (z ++ x)) (texts-append l m) ∙ ap (λ (x : List Span). p ++ x) (sym (append_assoc z (texts l) (texts m))) ∙ sym (append_assoc p (z ++ texts l) (texts m))

  entry-ordered : (p z : Bool) (hi mid lo : ℕ) (a b : Span) (l : List Span) → lo ≤ a.from → a.from ≤ b.from → b.from ≤ mid → Ordered hi mid l
      → Ordered hi lo (cond p (a ∷ []) [] ++ (cond z (b ∷ []) [] ++ l))
  entry-ordered true true hi mid lo a b l f g h o = more lo a (b ∷ l) f (more a.from b l g (sooner hi mid b.from l h o))
  entry-ordered true false hi mid lo a b l f g h o = more lo a l f (sooner hi mid a.from l (omega arith) o)
  entry-ordered false true hi mid lo a b l f g h o = more lo b l (omega arith) (sooner hi mid b.from l h o)
  entry-ordered false false hi mid lo a b l f g h o = sooner hi mid lo l (omega arith) o

  rows-ordered : (side : Side) (d hi lo : ℕ) (l : List Span) (rows : List Row) → InOrder (IsElement d s) hi lo l → all (entry_of form d s) l ≡ Some rows
      → Ordered hi lo (texts (map (sided side) rows))
  unfolding all bad_texts
  rows-ordered side d hi lo l rows (end i h) k = subst (λ (x : List Row). Ordered hi lo (texts (map (sided side) x))) (sym (same_row k)) (none lo (omega arith))
  rows-ordered side d hi lo l rows (then i from to a m g h e o) k =
      let x = then-reads (entry_of form d s a) (λ b. and_then (all (entry_of form d s) m) (λ bs. Some (b ∷ bs))) rows k in
      let y = then-reads (all (entry_of form d s) m) (λ bs. Some (x.0 ∷ bs)) rows x.1 in
      let t = rows-ordered side d hi to m y.0 o y.2 in
      let r = entry_in form d s a x.0 e.a_value x.2 in
      let u = r.first in
      let v = r.last in
      let p = e.begins in
      let q = e.finishes in
      subst (λ (x : List Row). Ordered hi lo (texts (map (sided side) x))) (sym (same_row y.1))
      (entry-ordered (bad_price s x.0.price) (bad_size snapshot s x.0.size) hi to lo x.0.price x.0.size (texts (map (sided side) y.0)) (omega arith) r.second (omega arith) t)

  -- those of an array, which is a value
  array-ordered : (side : Side) (d : ℕ) (a : Span) (es : List Entry) → value (suc d) s a.from ≡ Some a.to → sided_at side form (suc d) s a ≡ Some es → Ordered a.to a.from (texts es)
  unfolding sided_at entries_at array_at value contents items_end
  array-ordered side d a es v h =
      let x = then-reads (entries_at form (suc d) s a) (λ rows. Some (map (sided side) rows)) es h in
      let y = then-reads (array_at (suc d) s a) (all (entry_of form d s)) x.0 x.2 in
      subst (λ (z : List Entry). Ordered a.to a.from (texts z)) (sym (same_row x.1))
      (at (eqb (byte_at s a.from) 91) (elements (value d s) s (a.from + 1)) refl v y.0 x.0 y.2 y.1)
    where
      at : (b : Bool) (z : Items Span) → elements (value d s) s (a.from + 1) ≡ z
          → elim b [ true ↦ items_end z | false ↦ elim (eqb (byte_at s a.from) 123) [ true ↦ items_end (members (value d s) s (a.from + 1)) | false ↦ scalar s a.from ] ] ≡ Some a.to
          → (l : List Span) (rows : List Row) → cond b (contents z) None ≡ Some l → all (entry_of form d s) l ≡ Some rows → Ordered a.to a.from (texts (map (sided side) rows))
      at true (items m e) q u l rows g k =
          let n : e ≡ a.to = cc in
          let o : InOrder (IsElement d s) e (a.from + 1) l = subst (InOrder (IsElement d s) e (a.from + 1)) (sym (same_row g)) (elements-in-order d s (a.from + 1) m e q).0 in
          subst (λ (i : ℕ). Ordered i a.from (texts (map (sided side) rows))) n
          (sooner e (a.from + 1) a.from (texts (map (sided side) rows)) (omega arith) (rows-ordered side d e (a.from + 1) l rows o k))
      at true no_items q u l rows g k = no_row g
      at false z q u l rows g k = no_row g

  -- those of a member, and of members that follow one another
  member-ordered : (bids asks : List ℕ) (m : Pair) (es : List Entry) → value 14 s m.value.from ≡ Some m.value.to → member_entries form 14 s bids asks m ≡ Some es
      → Ordered m.value.to m.value.from (texts es)
  unfolding member_entries bad_texts
  member-ordered bids asks m es v h = at (means s m.name bids) (means s m.name asks) h
    where
      at : (b a : Bool) → cond b (sided_at Bids form 14 s m.value) (cond a (sided_at Asks form 14 s m.value) (Some [])) ≡ Some es → Ordered m.value.to m.value.from (texts es)
      at true a g = array-ordered Bids 13 m.value es v g
      at false true g = array-ordered Asks 13 m.value es v g
      at false false g =
          let w = (ends-within 14 s m.value.from m.value.to v).0 in
          subst (λ (x : List Entry). Ordered m.value.to m.value.from (texts x)) (sym (same_row g)) (none m.value.from (omega arith))

  members-ordered : (bids asks : List ℕ) (hi lo : ℕ) (ms : List Pair) (es : List Entry) → Follow s hi lo ms → entries_in form 14 s bids asks ms ≡ Some es → Ordered hi lo (texts es)
  unfolding entries_in bad_texts
  members-ordered bids asks hi lo ms es (no_more i g) h = subst (λ (x : List Entry). Ordered hi lo (texts x)) (sym (same_row h)) (none lo g)
  members-ordered bids asks hi lo ms es (follows i m l g v f) h =
      let b = also-reads (member_entries form 14 s bids asks m) (entries_in form 14 s bids asks l) es h in
      let x = member-ordered bids asks m b.front v b.reads-front in
      let y = members-ordered bids asks hi m.value.to l b.back f b.reads-back in
      subst (Ordered hi lo) (sym (ap texts b.both ∙ texts-append b.front b.back))
      (join hi m.value.to lo (texts b.front) (texts b.back) (sooner m.value.to m.value.from lo (texts b.front) g x) y)

pub first-bad : FirstBad
unfolding bad bad_decimal first_bad_of first_bad
first-bad t s l a g f h =
    let c = (framed-lies t s l f).collected in
    let snapshot : Bool = is_snapshot l.kind in
    let texts : List Span = bad_texts snapshot s l.entries in
    let e : bad_decimal t s ≡ first_of texts = rw (g, f) in
    subst (λ (b : Span). Has b texts × (b.from ≤ a.from)) (sym e)
    (first-of c.hi c.lo texts (members-ordered _ s snapshot c.bids c.asks c.hi c.lo c.members l.entries c.in_order c.collects) a h)
