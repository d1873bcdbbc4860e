-- The members that a message's entries are collected from stand one after another in its text. Assumes nothing.
use Rattle.std.specs.Prelude.{None, Option, Some}
use Prim.Native.Nat.{ℕ, ◌+◌, ◌≤◌, ◌<◌}
use mathlib.Core.Path.{◌≡◌, refl, sym, subst}
use mathlib.Core.Bool.{Bool, true, false, cond}
use mathlib.Core.List.{List, [], ◌∷◌, ◌++◌}
use native.Mathlib.Omega.{arith}
use lib.Dec.{eqb}
use borrow.Author.Tests.{eqb-true}
use Rattle.text.specs.Text.{byte_at}
use Rattle.json_tokens.specs.Tokens.{scalar}
use Rattle.json_tokens.proofs.Bounds.{bounds, string-in, separator-in}
use Rattle.json_values.specs.Json.{Span, Pair, Items, items, no_items, items_end, elements, members, value}
use Rattle.json_values.specs.Claims.{InOrder, end, then, IsElement, IsMember}
use Rattle.json_values.proofs.Claims.{elements-in-order, members-in-order}
use Rattle.entries.specs.Places.{and_then, all, contents, array_at, object_at}
use Rattle.entries.specs.Rows.{Entry}
use Rattle.entries.specs.declared.Form.{Form}
use Rattle.layout.specs.Layout.{entries_in}
use Rattle.message_k.specs.LayoutK.{Frame, frame_of, together}
use Rattle.message.proofs.Entering.{no-reading}

-- ---- members whose values stand one after another between two positions

pub data Follow (s : List ℕ) (hi : ℕ) : ℕ → List Pair → Type 0 where
  no_more : (lo : ℕ) → lo ≤ hi → Follow s hi lo []
  follows : (lo : ℕ) (m : Pair) (ms : List Pair) → lo ≤ m.value.from → value 14 s m.value.from ≡ Some m.value.to → Follow s hi m.value.to ms → Follow s hi lo (m ∷ ms)

-- Entries, and the members of those names that they are collected from.
pub record Collected (form : Form) (s : List ℕ) (es : List Entry) : Type 0 where
  pub bids : List ℕ
  pub asks : List ℕ
  pub members : List Pair
  pub lo : ℕ
  pub hi : ℕ
  pub in_order : Follow s hi lo members
  pub collects : entries_in form 14 s bids asks members ≡ Some es

module _ (s : List ℕ) where
  sooner : (hi lo at : ℕ) (ms : List Pair) → at ≤ lo → Follow s hi lo ms → Follow s hi at ms
  sooner hi lo at ms h (no_more i g) = no_more at (omega arith)
  sooner hi lo at ms h (follows i m l g v f) = follows at m l (omega arith) v f

  join : (hi mid lo : ℕ) (l ms : List Pair) → Follow s mid lo l → Follow s hi mid ms → Follow s hi lo (l ++ ms)
  join hi mid lo l ms (no_more i g) f = sooner hi mid lo ms g f
  join hi mid lo l ms (follows i m k g v e) f = follows lo m (k ++ ms) g v (join hi mid m.value.to k ms e f)

  -- ---- those of an object

  members-follow : (hi lo : ℕ) (ms : List Pair) → InOrder (IsMember 14 s) hi lo ms → Follow s hi lo ms
  members-follow hi lo ms (end i h) = no_more lo (omega arith)
  members-follow hi lo ms (then i from to m l g h e o) =
      let a = bounds m.name.to (string-in s m.name.from) e.a_string in
      let b = bounds m.value.from (separator-in s 58 m.name.to (omega arith)) e.a_colon in
      let c = e.begins in
      follows lo m l (omega arith) e.a_value (subst (λ (n : ℕ). Follow s hi n l) (sym e.finishes) (members-follow hi to l o))

  pub object-follows : (a : Span) (ms : List Pair) → object_at 15 s a ≡ Some ms → (e : ℕ) × Follow s e (a.from + 1) ms
  unfolding object_at contents
  object-follows a ms h = go (eqb (byte_at s a.from) 123) (members (value 14 s) s (a.from + 1)) refl h
    where
      go : (b : Bool) (x : Items Pair) → members (value 14 s) s (a.from + 1) ≡ x → cond b (contents x) None ≡ Some ms → (e : ℕ) × Follow s e (a.from + 1) ms
      go true (items l e) q g =
          let m : l ≡ ms = cc in
          (e, members-follow e (a.from + 1) ms (subst (InOrder (IsMember 14 s) e (a.from + 1)) m (members-in-order 14 s (a.from + 1) l e q).0))
      go true no_items q g = no-reading g
      go false x q g = no-reading g

  -- .. of an object that ends where its value does
  value-follows : (a : Span) (ms : List Pair) → value 15 s a.from ≡ Some a.to → object_at 15 s a ≡ Some ms → Follow s a.to (a.from + 1) ms
  unfolding object_at contents value items_end
  value-follows a ms v h = go (eqb (byte_at s a.from) 91) refl (eqb (byte_at s a.from) 123) refl (members (value 14 s) s (a.from + 1)) refl v h
    where
      apart : (n : ℕ) → eqb n 91 ≡ true → eqb n 123 ≡ true → ⊥
      apart n p q = let x = eqb-true n 91 p in let y = eqb-true n 123 q in absurd (omega arith)

      go : (b : Bool) → eqb (byte_at s a.from) 91 ≡ b → (c : Bool) → eqb (byte_at s a.from) 123 ≡ c → (x : Items Pair) → members (value 14 s) s (a.from + 1) ≡ x
          → elim b [ true ↦ items_end (elements (value 14 s) s (a.from + 1)) | false ↦ elim c [ true ↦ items_end x | false ↦ scalar s a.from ] ] ≡ Some a.to
          → cond c (contents x) None ≡ Some ms → Follow s a.to (a.from + 1) ms
      go true p true r x q u g = absurd (apart (byte_at s a.from) p r)
      go false p true r (items l e) q u g =
          let m : l ≡ ms = cc in
          let n : e ≡ a.to = cc in
          subst (λ (k : ℕ). Follow s k (a.from + 1) ms) n (members-follow e (a.from + 1) ms (subst (InOrder (IsMember 14 s) e (a.from + 1)) m (members-in-order 14 s (a.from + 1) l e q).0))
      go false p true r no_items q u g = no-reading g
      go true p false r x q u g = no-reading g
      go false p false r x q u g = no-reading g

  -- ---- those of objects in order

  then-reads : {A B : Type 0} (x : Option A) (f : A → Option B) (b : B) → and_then x f ≡ Some b → (a : A) × (f a ≡ Some b) × (x ≡ Some a)
  unfolding and_then
  then-reads (Some a) f b h = (a, h, refl)
  then-reads None f b h = no-reading h

  pub objects-follow : (hi lo : ℕ) (l : List Span) (os : List (List Pair)) → InOrder (IsElement 15 s) hi lo l → all (object_at 15 s) l ≡ Some os → Follow s hi lo (together os)
  unfolding all together
  objects-follow hi lo l os (end i h) k = let e : [] ≡ os = cc in subst (λ (x : List (List Pair)). Follow s hi lo (together x)) e (no_more lo (omega arith))
  objects-follow hi lo l os (then i from to a m g h e o) k =
      let x = then-reads (object_at 15 s a) (λ b. and_then (all (object_at 15 s) m) (λ bs. Some (b ∷ bs))) os k in
      let y = then-reads (all (object_at 15 s) m) (λ bs. Some (x.0 ∷ bs)) os x.1 in
      let t = objects-follow hi to m y.0 o y.2 in
      let b = e.begins in
      let f = value-follows a x.0 e.a_value x.2 in
      let z : x.0 ∷ y.0 ≡ os = cc in
      subst (λ (x : List (List Pair)). Follow s hi lo (together x)) z
      (join hi to lo x.0 (together y.0) (sooner to (a.from + 1) lo x.0 (omega arith) (subst (λ (n : ℕ). Follow s n (a.from + 1) x.0) e.finishes f)) t)

  -- ---- the objects of a K message

  ends-past : (hi lo : ℕ) (l : List Span) → InOrder (IsElement 15 s) hi lo l → lo < hi
  ends-past hi lo l (end i h) = h
  ends-past hi lo l (then i from to a k g h e o) = let z = ends-past hi to k o in omega arith

  abbrev Elements : ℕ → ℕ → List Span → Type 0
  Elements = InOrder (IsElement 15 s)

  frame-objects : (hi lo : ℕ) (l : List Span) (f : Frame) → Elements hi lo l → frame_of l ≡ Some f → (at : ℕ) × Elements hi at f.objects
  unfolding frame_of
  frame-objects hi lo [] f o h = no-reading h
  frame-objects hi lo (n ∷ []) f o h = no-reading h
  frame-objects hi lo (n ∷ (a ∷ [])) f o h = no-reading h
  frame-objects hi lo (n ∷ (a ∷ (c ∷ []))) f o h = no-reading h
  frame-objects hi lo (n ∷ (a ∷ (c ∷ (p ∷ [])))) f (then i f1 t1 n1 l1 g1 h1 e1 (then i2 f2 t2 a2 l2 g2 h2 e2 o)) h =
      let z : record { first = n; objects = a ∷ []; channel = c; pair = p } ≡ f = cc in
      (t1, subst (λ (x : Frame). Elements hi t1 x.objects) z (then t1 f2 t2 a [] g2 h2 e2 (end t2 (ends-past hi t2 (c ∷ (p ∷ [])) o))))
  frame-objects hi lo (n ∷ (a ∷ (b ∷ (c ∷ (p ∷ []))))) f (then i f1 t1 n1 l1 g1 h1 e1 (then i2 f2 t2 a2 l2 g2 h2 e2 (then i3 f3 t3 b3 l3 g3 h3 e3 o))) h =
      let z : record { first = n; objects = a ∷ (b ∷ []); channel = c; pair = p } ≡ f = cc in
      (t1, subst (λ (x : Frame). Elements hi t1 x.objects) z (then t1 f2 t2 a (b ∷ []) g2 h2 e2 (then t2 f3 t3 b [] g3 h3 e3 (end t3 (ends-past hi t3 (c ∷ (p ∷ [])) o)))))
  frame-objects hi lo (n ∷ (a ∷ (b ∷ (c ∷ (p ∷ (x ∷ l)))))) f o h = no-reading h

  pub array-objects : (a : Span) (f : Frame) → and_then (array_at 16 s a) frame_of ≡ Some f → (hi : ℕ) × (lo : ℕ) × Elements hi lo f.objects
  unfolding array_at contents and_then
  array-objects a f h = go (eqb (byte_at s a.from) 91) (elements (value 15 s) s (a.from + 1)) refl h
    where
      go : (b : Bool) (x : Items Span) → elements (value 15 s) s (a.from + 1) ≡ x → and_then (cond b (contents x) None) frame_of ≡ Some f → (hi : ℕ) × (lo : ℕ) × Elements hi lo f.objects
      go true (items l e) q g = let r = frame-objects e (a.from + 1) l f (elements-in-order 15 s (a.from + 1) l e q).0 g in (e, r.0, r.1)
      go true no_items q g = no-reading g
      go false x q g = no-reading g
