-- One member more, as the code finds it.
-- Assumes nothing.
use Rattle.std.specs.Prelude.{None, Option, Some, ℕ, unwrap_or}
use mathlib.Core.Path.{◌≡◌, refl, sym, ap, ◌∙◌, subst}
use mathlib.Core.List.{List, [], ◌∷◌}
use mathlib.Core.Bool.{Bool, true, false, ◌&&◌, ◌||◌, cond}
use Prim.Native.Nat.{ℕ, suc, ◌+◌, ◌≤◌}
use native.Mathlib.Omega.{arith}
use borrow.Author.Tests.{eqb-true}
use denote.Enum.Declared.{tag_of}
use Rattle.std.proofs.Math.Bool.{or-false}
use lib.Dec.{eqb}
use lib.ListN.{length}
use Rattle.text.specs.Text.{ascii, byte_at}
use Rattle.edit.specs.declared.Side.{Side}
use Rattle.edit.specs.declared.Side.TheVariants.{Bids, Asks}
use Rattle.json_tokens.specs.Ends.{end_of}
use Rattle.json_tokens.proofs.Laws.{end-at}
use Rattle.json_tokens.proofs.Bounds.{bounds}
use Rattle.json_values.specs.Json.{Span, Pair, elements, value}
use Rattle.json_values.specs.Names.{means}
use Rattle.json_values.proofs.Bounds.{value_in}
use Rattle.json_values.proofs.Laws.{value-array}
use Rattle.json_values.specs.Which.{which}
use Rattle.json_values.proofs.Which.{numbered, meant, one-meant, which-meant}
use Rattle.entries.specs.Places.{and_also, contents, array_at, object_at}
use Rattle.entries.specs.Rows.{Entry, sided_at}
use Rattle.entries.specs.Tally.{met as count, told_not, told_at, spans_tally, array_tally, Tells, Kept, Met}
use Rattle.entries.specs.declared.Form.TheVariants as forms
use Rattle.entries.specs.declared.Entries.{Entries}
use Rattle.entries.specs.declared.Tally.{Tally}
use Rattle.entries.proofs.Entry.{end-or-zero}
use Rattle.entries.proofs.Tallies.{tells_more, kept_more}
use Rattle.layout.specs.MemberSpans.{few_more, with_member_span, on_hit}
use Rattle.layout.specs.declared.MemberSpan.{MemberSpan}
use Rattle.layout.proofs.MemberSpans.{hit-no, hit-yes}
use Rattle.layout.proofs.Objects.{contents-broken}
use Rattle.message_m.specs.Collected.{with_held, tally_with, more_data, data_from, data_of, Added, key_of, is_key, held_of, body_held, more_body, more_members, Placed}
use Rattle.message_m.specs.declared.Data.{Data}
use Rattle.message_m.specs.declared.Body.{Body}
use Rattle.message_m.specs.declared.Members.{Members}
use Rattle.message_m.specs.declared.Key.{Key}
use Rattle.message_m.specs.declared.Key.TheVariants as keys
use Rattle.message_m.specs.contracts.Key.{the_type}

-- ---- an end as a number
pub end-read : {e : ℕ} {r x : Option ℕ} → e ≡ unwrap_or r 0 → r ≡ x → e ≡ end_of x
end-read {e} {r} p q = p ∙ end-or-zero r ∙ ap end_of q

-- ---- which of our names it is
-- our names, in the order of the variants of `Key`
abbrev our_names : List (List ℕ)
our_names = ascii "channel" ∷ ascii "product" ∷ ascii "type" ∷ ascii "data" ∷ ascii "checksum" ∷ ascii "gsn" ∷ ascii "prev_gsn" ∷ []

-- a variant's place in that order, from 1 on, and 0 for `Other`
tag-is : (s : List ℕ) (a : Span) → tag_of the_type (key_of s a) ≡ which s a 1 our_names
unfolding key_of
tag-is s a =
    go (means s a (ascii "channel")) (means s a (ascii "product")) (means s a (ascii "type")) (means s a (ascii "data")) (means s a (ascii "checksum")) (means s a (ascii "gsn"))
    (means s a (ascii "prev_gsn"))
  where
    go : (c p t d k g f : Bool)
        → tag_of the_type (cond c keys.Channel (cond p keys.Product (cond t keys.Type (cond d keys.Data (cond k keys.Checksum (cond g keys.Number (cond f keys.Previous keys.Other)))))))
        ≡ cond c 1 (cond p 2 (cond t 3 (cond d 4 (cond k 5 (cond g 6 (cond f 7 0))))))
    go true p t d k g f = refl
    go false true t d k g f = refl
    go false false true d k g f = refl
    go false false false true k g f = refl
    go false false false false true g f = refl
    go false false false false false true f = refl
    go false false false false false false true = refl
    go false false false false false false false = refl

-- the tests by variant are the tests by name
pub record Keyed (s : List ℕ) (a : Span) (k : Key) : Type 0 where
  pub channel : is_key k keys.Channel ≡ means s a (ascii "channel")
  pub product : is_key k keys.Product ≡ means s a (ascii "product")
  pub kind : is_key k keys.Type ≡ means s a (ascii "type")
  pub body : is_key k keys.Data ≡ means s a (ascii "data")
  pub checksum : is_key k keys.Checksum ≡ means s a (ascii "checksum")
  pub gsn : is_key k keys.Number ≡ means s a (ascii "gsn")
  pub previous : is_key k keys.Previous ≡ means s a (ascii "prev_gsn")

pub keyed : (s : List ℕ) (a : Span) → Keyed s a (key_of s a)
keyed s a =
    let h : numbered (tag_of the_type (key_of s a)) 1 our_names ≡ meant s a our_names =
    ap (λ (n : ℕ). numbered n 1 our_names) (tag-is s a) ∙ which-meant s a our_names refl 1 (omega arith) in
    record { channel = cc; product = cc; kind = cc; body = cc; checksum = cc; gsn = cc; previous = cc }

pub data-key : (s : List ℕ) (a : Span) (k : Key) → k ≡ key_of s a → is_key k keys.Data ≡ means s a (ascii "data")
data-key s a k h = ap (λ (n : Key). is_key n keys.Data) h ∙ (keyed s a).body

-- ---- a side of `data`

array-broken : (d : ℕ) (s : List ℕ) (a : Span) → value (suc d) s a.from ≡ None → array_at (suc d) s a ≡ None
unfolding array_at
array-broken d s a h = go (eqb (byte_at s a.from) 91) refl
  where
    go : (b : Bool) → eqb (byte_at s a.from) 91 ≡ b → cond b (contents (elements (value d s) s (a.from + 1))) None ≡ None
    go true q = contents-broken (elements (value d s) s (a.from + 1)) (sym (value-array s a.from d (eqb-true _ _ q)) ∙ h)
    go false q = refl

-- what is told of the entries at a position, as the code has it
module _ (s : List ℕ) (at : ℕ) (side : Side) (t : Tally) where
  abbrev to_end : Span
  to_end = record { from = at; to = end_of (value 14 s at) }

  told_is : told_at 0 s 14 forms.Pair side t at ≡ record { end = end_of (value 14 s at); tally = array_tally 0 s 14 forms.Pair side t to_end }
  unfolding told_at end_of array_tally spans_tally
  told_is = go (value 14 s at) refl
    where
      none : value 14 s at ≡ None → array_at 14 s (record { from = at; to = 0 }) ≡ None
      none q = array-broken 13 s (record { from = at; to = 0 }) q

      go : (x : Option ℕ) → value 14 s at ≡ x
          → ◌≡◌ {A = Entries} (elim x [ Some e ↦ record { end = e; tally = array_tally 0 s 14 forms.Pair side t (record { from = at; to = e }) } | None ↦ told_not 0 ])
          (record { end = end_of x; tally = array_tally 0 s 14 forms.Pair side t (record { from = at; to = end_of x }) })
      go (Some e) q = refl
      go None q = sym (rw (none q))

  module _ (before after : List ℕ) (r : Entries) (h : Met 0 s 14 forms.Pair side t at before after r) where
    pub entries-end : r.end ≡ end_of (value 14 s at)
    entries-end = ap (λ (x : Entries). x.end) (h.told ∙ told_is)

    pub entries-tally : r.tally ≡ array_tally 0 s 14 forms.Pair side t to_end
    entries-tally = ap (λ (x : Entries). x.tally) (h.told ∙ told_is)

    pub entries-added : Added s to_end t r.tally (λ x. and_also x (sided_at side forms.Pair 14 s to_end)) before after
    entries-added =
        let e = entries-end in
        record {
          few = λ n. let k = h.few (λ z. n (sym e ∙ z)) in omega arith;
          room = h.room;
          kept = λ n x w k.
              let v = end-at (value 14 s at) (end_of (value 14 s at)) refl n in (
                subst (Tells s (and_also x (sided_at side forms.Pair 14 s to_end))) (sym entries-tally) (tells_more s x t side forms.Pair 14 to_end w),
                kept_more s x t side forms.Pair 14 at before after r w k h (end_of (value 14 s at)) v,
              );
        }

-- the same where another thing is added, which is the same
pub added-as : {s : List ℕ} {a : Span} {t u : Tally} {f g : Option (List Entry) → Option (List Entry)} {before after : List ℕ} → Added s a t u f before after
    → ((x : Option (List Entry)) → f x ≡ g x) → Added s a t u g before after
added-as {s} {a} {t} {u} {f} {g} {before} {after} h same =
    record {
      few = h.few;
      room = h.room;
      kept = λ n x w k.
          let p = h.kept n x w k in
          (subst (λ (y : Option (List Entry)). Tells s y u) (same x) p.0, subst (λ (y : Option (List Entry)). Kept s y after) (same x) p.1);
    }

-- what a member of the message adds, by its name where the code goes by the variant
pub member-added : {s : List ℕ} (n : Span) {a : Span} {k : Key} {t u : Tally} {before after : List ℕ} → k ≡ key_of s n → Added s a t u (λ x. body_held s (is_key k keys.Data) x a) before after
    → Added s a t u (λ x. body_held s (means s n (ascii "data")) x a) before after
member-added {s} n {a} {k} h g = added-as g (λ x. ap (λ (hit : Bool). body_held s hit x a) (data-key s n k h))

-- .. and where the same is told
pub added-told : {s : List ℕ} {a : Span} {t u v : Tally} {f : Option (List Entry) → Option (List Entry)} {before after : List ℕ} → v ≡ u → Added s a t u f before after → Added s a t v f before after
added-told {s} {a} {t} {u} {v} {f} {before} {after} e h = subst (λ (x : Tally). Added s a t x f before after) (sym e) h

-- nothing is added by a value that is passed over
pub added_none : (s : List ℕ) (d : ℕ) (at : ℕ) (t : Tally) (buffer : List ℕ) → count t ≤ at → length buffer ≡ 600
    → Added s (record { from = at; to = end_of (value d s at) }) t t (λ x. x) buffer buffer
added_none s d at t buffer few room =
    record {
      few = λ n. let b = bounds (end_of (value d s at)) (value_in d s at) (end-at (value d s at) (end_of (value d s at)) refl n) in omega arith;
      room = room;
      kept = λ n x w k. (w, k);
    }

-- the member m, whose value ends at e
module _ (s : List ℕ) (d : Data) (m : Pair) {e : ℕ} (h : e ≡ m.value.to) where
  not-asks : means s m.name (ascii "bids") ≡ true → means s m.name (ascii "asks") ≡ false
  not-asks y = let h = one-meant s m.name (ascii "bids" ∷ ascii "asks" ∷ []) refl 0 (omega arith) y in cc

  pub data-bids : {n : ℕ} {u : Tally} → means s m.name (ascii "bids") ≡ true → n ≡ few_more d.bids → u ≡ array_tally 0 s 14 forms.Pair Bids d.tally m.value
      → ◌≡◌ {A = Data} (record { end = e; bids = n; asks = d.asks; tally = u }) (more_data s d m)
  unfolding more_data tally_with on_hit
  data-bids y g k = let o = not-asks y in sym (rw (y, o, g, k, h))

  pub data-asks : {n : ℕ} {u : Tally} → means s m.name (ascii "bids") ≡ false → means s m.name (ascii "asks") ≡ true → n ≡ few_more d.asks
      → u ≡ array_tally 0 s 14 forms.Pair Asks d.tally m.value → ◌≡◌ {A = Data} (record { end = e; bids = d.bids; asks = n; tally = u }) (more_data s d m)
  unfolding more_data tally_with on_hit
  data-asks n y g k = sym (rw (n, y, g, k, h))

  pub data-other : means s m.name (ascii "bids") ≡ false → means s m.name (ascii "asks") ≡ false → ◌≡◌ {A = Data} (record { end = e; bids = d.bids; asks = d.asks; tally = d.tally }) (more_data s d m)
  unfolding more_data tally_with on_hit
  data-other n o = sym (rw (n, o, h))

module _ (s : List ℕ) (x : Option (List Entry)) (m : Pair) where
  pub held-bids : means s m.name (ascii "bids") ≡ true → and_also x (sided_at Bids forms.Pair 14 s m.value) ≡ with_held s x m
  unfolding with_held
  held-bids y = sym (rw y)

  pub held_asks : means s m.name (ascii "bids") ≡ false → means s m.name (ascii "asks") ≡ true → and_also x (sided_at Asks forms.Pair 14 s m.value) ≡ with_held s x m
  unfolding with_held
  held_asks n y = sym (rw (n, y))

  pub held-other : means s m.name (ascii "bids") ≡ false → means s m.name (ascii "asks") ≡ false → x ≡ with_held s x m
  unfolding with_held
  held-other n o = sym (rw (n, o))

-- ---- `data`

pub data-end : (s : List ℕ) (t : Tally) (a : Span) → (data_of s t a).end ≡ a.to
unfolding data_of data_from
data-end s t a = go (object_at 15 s a)
  where
    go : (x : Option (List Pair)) → (data_from s a.to t x).end ≡ a.to
    go (Some ms) = refl
    go None = refl

body-made : {e f : ℕ} {k m : MemberSpan} {c d : Data} → e ≡ f → k ≡ m → c ≡ d → ◌≡◌ {A = Body} (record { end = e; mark = k; last = c }) (record { end = f; mark = m; last = d })
body-made p q r = rw (p, q, r)

module _ (s : List ℕ) (b : Body) (a : Span) (hit : Bool) where
  pub body-data : hit ≡ true → (d : Data) → d ≡ data_of s b.last.tally a → (m : MemberSpan) → m ≡ with_member_span b.mark (record { from = a.from; to = d.end })
      → ◌≡◌ {A = Body} (record { end = d.end; mark = m; last = d }) (more_body s hit b a)
  unfolding more_body
  body-data y d h m g =
      let e : d.end ≡ a.to = ap (λ (x : Data). x.end) h ∙ data-end s b.last.tally a in
      body-made e (g ∙ ap (λ (t : ℕ). with_member_span b.mark (record { from = a.from; to = t })) e ∙ sym (hit-yes hit with_member_span b.mark a y))
      (h ∙ sym (hit-yes hit (λ d v. data_of s d.tally v) b.last a y))

  pub body-other : hit ≡ false → {e : ℕ} → e ≡ a.to → ◌≡◌ {A = Body} (record { end = e; mark = b.mark; last = b.last }) (more_body s hit b a)
  unfolding more_body
  body-other y h =
      body-made h (sym (hit-no hit with_member_span b.mark a y)) (sym (hit-no hit (λ d v. data_of s d.tally v) b.last a y))

-- what a member adds
pub body-held : (s : List ℕ) (hit : Bool) (x : Option (List Entry)) (a : Span) → hit ≡ true → held_of s x (object_at 15 s a) ≡ body_held s hit x a
unfolding body_held
body-held s hit x a h = sym (rw h)

pub body-passed : (s : List ℕ) (hit : Bool) (x : Option (List Entry)) (a : Span) → hit ≡ false → x ≡ body_held s hit x a
unfolding body_held
body-passed s hit x a h = sym (rw h)

-- ---- all members, part by part; each part but `data` takes the end from the body
module _ (name s : List ℕ) (met : Members) (n : Span) (at to : ℕ) (key : Key) (b : Body) (is : key ≡ key_of s n)
    (made : b ≡ more_body s (is_key key keys.Data) met.body (record { from = at; to = to })) where
  abbrev v : Span
  v = record { from = at; to = b.end }

  abbrev hits : Key → MemberSpan → MemberSpan
  hits i k = on_hit (is_key key i) with_member_span k v

  pub members-made : (o p : Bool) (c q k u g f : MemberSpan)
      → o ≡ (met.is_book || (is_key key keys.Channel && means s v (ascii "book")))
      → p ≡ (met.is_product || (is_key key keys.Product && means s v name))
      → c ≡ hits keys.Channel met.channel → q ≡ hits keys.Product met.product → k ≡ hits keys.Type met.kind → u ≡ hits keys.Checksum met.checksum → g ≡ hits keys.Number met.gsn → f ≡ hits keys.Previous met.previous
      → ◌≡◌ {A = Members} (record { body = b; is_book = o; is_product = p; channel = c; product = q; kind = k; checksum = u; gsn = g; previous = f })
      (more_members name s met (record { name = n; value = record { from = at; to = to } }))
  unfolding more_members more_body
  members-made o p c q k u g f ho hp hc hq hk hu hg hf =
      let d : Keyed s n key = rw is (keyed s n) in
      rw (ho, hp, hc, hq, hk, hu, hg, hf, made, d.channel, d.product, d.kind, d.body, d.checksum, d.gsn, d.previous)

  -- a member that has none of our names leaves all but the body as it was
  pub members-passed : is_key key keys.Other ≡ true
      → ◌≡◌ {A = Members} (record { body = b; is_book = met.is_book; is_product = met.is_product; channel = met.channel; product = met.product; kind = met.kind; checksum = met.checksum; gsn = met.gsn; previous = met.previous })
      (more_members name s met (record { name = n; value = record { from = at; to = to } }))
  unfolding more_members more_body on_hit
  members-passed other =
      let d : Keyed s n key = rw is (keyed s n) in
      sym (rw (made, sym d.body, sym d.channel, sym d.product, sym d.kind, sym d.checksum, sym d.gsn, sym d.previous, eqb-true (tag_of the_type key) 0 other, or-false met.is_book, or-false met.is_product))

-- the places of marks
pub placed-more : (s : List ℕ) (hit : Bool) (k : MemberSpan) (a : Span) → Placed s k → a.from ≤ a.to → a.to ≤ length s → Placed s (on_hit hit with_member_span k a)
unfolding on_hit with_member_span
placed-more s true k a p l h = (l, h)
placed-more s false k a p l h = p
