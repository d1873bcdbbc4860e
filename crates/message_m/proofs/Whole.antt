-- What was met in the end is what the definition of the dialect asks for.
-- Assumes nothing.
use Rattle.std.specs.Prelude.{None, Option, Some, ℕ}
use mathlib.Core.Path.{◌≡◌, refl, sym, ap, ap₂, ◌∙◌, subst}
use mathlib.Core.List.{List, [], ◌∷◌}
use mathlib.Core.Bool.{Bool, true, false, ◌&&◌, ◌||◌, cond, or_assoc, or-false}
use Prim.Native.Nat.{ℕ, ◌+◌, ◌≤◌}
use native.Mathlib.Omega.{arith}
use lib.Dec.{eqb}
use lib.ListN.{length}
use Rattle.text.specs.Text.{ascii, byte_at}
use Rattle.edit.specs.declared.Side.TheVariants.{Bids, Asks}
use Rattle.json_tokens.specs.Tokens.{blanks, closing}
use Rattle.json_tokens.specs.Ends.{end_of}
use Rattle.json_values.specs.Json.{Span, Pair, value}
use Rattle.json_values.specs.Names.{means}
use Rattle.json_values.specs.Fold.{fold_from}
use Rattle.json_values.proofs.Fold.{Loop, Left, over_members}
use Rattle.entries.specs.Places.{and_then, and_also, object_at, values_of, only, whole_at, checksum_at}
use Rattle.entries.specs.Rows.{Entry, sided_at}
use Rattle.entries.specs.Tally.{none_yet, array_tally, Tells}
use Rattle.entries.specs.declared.Form.TheVariants as forms
use Rattle.entries.specs.declared.Tally.{Tally}
use Rattle.entries.proofs.Tallies.{none-also, also-none, also-assoc, tells_none, tells_more}
use Rattle.layout.specs.Layout.{is_snapshot, printed, Layout, Envelope, member_entries, entries_in, laid}
use Rattle.layout.specs.MemberSpans.{few, few_more, with_member_span, member_span_of, once_at}
use Rattle.layout.specs.Scan.{no_outline, not_framed, following, outline_of, outline_from, is_printed, sum_of, scan_of, scan_at}
use Rattle.layout.specs.declared.Outline.{Outline}
use Rattle.layout.specs.declared.Scan.{Scan}
use Rattle.layout.proofs.Laws.{outline-of, outline-reads, outline-kind}
use Rattle.layout.proofs.MemberSpans.{count-times, only-is, on-fold}
use Rattle.layout.specs.declared.Kind.{Kind}
use Rattle.layout.proofs.Objects.{object-broken, made_other, made-empty, made-start}
use Rattle.message_m.specs.LayoutM.{some_means, ours_m, kind_at, layout_m, linked_to, layout_in, envelope_m}
use Rattle.message_m.specs.Collected.{with_held, tally_with, no_data, data_end, more_data, data_from, data_of, more_body, no_members, more_members, outline_where, numbers_in, sides_in, body_in, outline_in, linked_outline, scan_in, Placed}
use Rattle.message_m.specs.declared.Data.{Data}
use Rattle.message_m.specs.declared.Members.{Members}
use Rattle.message_m.proofs.Steps.{placed-more}

-- ---- the sides of `data`
pub data-folds : (s : List ℕ) (t : Tally) (e : ℕ) (ms : List Pair) → data_from s e t (Some ms) ≡ data_end e (fold_from (more_data s) (no_data 0 t) ms)
unfolding data_from
data-folds s t e ms = refl

pub data-ends : (s : List ℕ) (d : Data) (m : Pair) → (more_data s d m).end ≡ m.value.to
unfolding more_data
data-ends s d m = refl

-- the loop over them
abbrev pub data_loop : List ℕ → Tally → Loop Pair Data Data
data_loop s t = over_members 14 s (more_data s) data_end (no_data 0 t)

-- the value at a position, as that of a member `data`
abbrev pub data_at : List ℕ → Tally → ℕ → Data
data_at s t at = data_of s t (record { from = at; to = end_of (value 15 s at) })

module _ (s : List ℕ) (t : Tally) (at : ℕ) where
  abbrev made : ℕ → Option (List Pair) → Data
  made e x = data_from s e t x

  pub data-none : (byte_at s at ≡ 123 → ⊥) → {e : ℕ} → e ≡ end_of (value 15 s at) → no_data e t ≡ data_at s t at
  unfolding data_of data_from
  data-none n h = ap (λ (e : ℕ). no_data e t) h ∙ made_other made 14 s at n

  module _ (opens : byte_at s at ≡ 123) where
    pub data-empty : (e : ℕ) → closing 125 s (at + 1) ≡ Some e → no_data e t ≡ data_at s t at
    unfolding data_of
    data-empty e h = made-empty made 14 s at opens (more_data s) data_end (no_data 0 t) (data-folds s t) e h

    pub data-start : closing 125 s (at + 1) ≡ None → (k : ℕ) → k ≡ blanks s (at + 1) → Left (data_loop s t) (no_data 0 t) k (data_at s t at)
    unfolding data_of data_from
    data-start h k b = made-start made 14 s at opens (more_data s) data_end (no_data 0 t) (data-folds s t) h k b

-- what their members hold is told
held_tells : (s : List ℕ) (x : Option (List Entry)) (t : Tally) (m : Pair) → Tells s x t → Tells s (with_held s x m) (tally_with s t m)
unfolding with_held tally_with
held_tells s x t m h = go (means s m.name (ascii "bids")) (means s m.name (ascii "asks"))
  where
    go : (b a : Bool) → Tells s
        (cond b (and_also x (sided_at Bids forms.Pair 14 s m.value)) (cond a (and_also x (sided_at Asks forms.Pair 14 s m.value)) x))
        (cond b (array_tally 0 s 14 forms.Pair Bids t m.value) (cond a (array_tally 0 s 14 forms.Pair Asks t m.value) t))
    go true a = tells_more s x t Bids forms.Pair 14 m.value h
    go false true = tells_more s x t Asks forms.Pair 14 m.value h
    go false false = h

held_all : (s : List ℕ) (x : Option (List Entry)) (d : Data) (ms : List Pair) → Tells s x d.tally → Tells s (fold_from (with_held s) x ms) (fold_from (more_data s) d ms).tally
unfolding fold_from more_data
held_all s x d [] h = h
held_all s x d (m ∷ ms) h = held_all s (with_held s x m) (more_data s d m) ms (held_tells s x d.tally m h)

-- .. and is what the definition has
one-held : (s : List ℕ) (x : Option (List Entry)) (m : Pair) → with_held s x m ≡ and_also x (member_entries forms.Pair 14 s (ascii "bids") (ascii "asks") m)
unfolding with_held member_entries
one-held s x m = go (means s m.name (ascii "bids")) (means s m.name (ascii "asks"))
  where
    go : (b a : Bool) → cond b (and_also x (sided_at Bids forms.Pair 14 s m.value)) (cond a (and_also x (sided_at Asks forms.Pair 14 s m.value)) x)
        ≡ and_also x (cond b (sided_at Bids forms.Pair 14 s m.value) (cond a (sided_at Asks forms.Pair 14 s m.value) (Some [])))
    go true a = refl
    go false true = refl
    go false false = sym (also-none x)

pub held-are : (s : List ℕ) (x : Option (List Entry)) (ms : List Pair) → fold_from (with_held s) x ms ≡ and_also x (entries_in forms.Pair 14 s (ascii "bids") (ascii "asks") ms)
unfolding fold_from entries_in
held-are s x [] = sym (also-none x)
held-are s x (m ∷ ms) =
    held-are s (with_held s x m) ms
    ∙ ap (λ (y : Option (List Entry)). and_also y (entries_in forms.Pair 14 s (ascii "bids") (ascii "asks") ms)) (one-held s x m)
    ∙ also-assoc x (member_entries forms.Pair 14 s (ascii "bids") (ascii "asks") m) (entries_in forms.Pair 14 s (ascii "bids") (ascii "asks") ms)

-- ---- check 5: what some member has

-- one value more of a name, by whether it is one
means-more : (s text : List ℕ) (a : Span) (hit : Bool) (l : List Span) → some_means s text (cond hit (a ∷ l) l) ≡ ((hit && means s a text) || some_means s text l)
unfolding some_means
means-more s text a true l = refl
means-more s text a false l = refl

-- a flag of the fold: `one` of each member, `some` of those left
flag-from : {S : Type 0} (step : S → Pair → S) (get : S → Bool) (one : Pair → Bool) (some : List Pair → Bool)
    → ((st : S) (m : Pair) → get (step st m) ≡ (get st || one m)) → some [] ≡ false → ((m : Pair) (ms : List Pair) → (one m || some ms) ≡ some (m ∷ ms))
    → (st : S) (ms : List Pair) → get (fold_from step st ms) ≡ (get st || some ms)
unfolding fold_from
flag-from step get one some is none with_member_span st [] = sym (ap (λ (b : Bool). get st || b) none ∙ or-false (get st))
flag-from step get one some is none with_member_span st (m ∷ ms) =
    flag-from step get one some is none with_member_span (step st m) ms
    ∙ ap (λ (b : Bool). b || some ms) (is st m)
    ∙ or_assoc (get st) (one m) (some ms)
    ∙ ap (λ (b : Bool). get st || b) (with_member_span m ms)

-- ---- the layout

-- what is read twice, one after the other, is read at once
then-assoc : {A B C : Type 0} (x : Option A) (f : A → Option B) (g : B → Option C) → and_then x (λ a. and_then (f a) g) ≡ and_then (and_then x f) g
unfolding and_then
then-assoc (Some a) f g = refl
then-assoc None f g = refl

then-out : (s : List ℕ) {A : Type 0} (f : A → Option Layout) (g : A → Outline) (x y : Option A) → x ≡ y
    → ((a : A) → x ≡ Some a → outline_of s (f a) ≡ g a) → outline_of s (and_then x f) ≡ outline_where y g
unfolding and_then outline_where outline_of
then-out s {A} f g x y h k = go x refl ∙ ap (λ (z : Option A). outline_where z g) h
  where
    go : (z : Option A) → x ≡ z → outline_of s (and_then z f) ≡ outline_where z g
    go (Some a) q = k a q
    go None q = refl

is_only : Option Span → Bool
is_only (Some a) = true
is_only None = false

module _ (s : List ℕ) where
  -- the value of the only member `data` is the last one's
  last-only : (l : List Span) (d : Data) (a : Span) → only l ≡ Some a → fold_from (λ (d : Data) (a : Span). data_of s d.tally a) d l ≡ data_of s d.tally a
  unfolding only fold_from
  last-only [] d a h = let z : ◌≡◌ {A = ℕ} 0 1 = cc in absurd (omega arith)
  last-only (b ∷ []) d a h = let e : b ≡ a = cc in ap (data_of s d.tally) e
  last-only (b ∷ (c ∷ l)) d a h = let z : ◌≡◌ {A = ℕ} 0 1 = cc in absurd (omega arith)

  -- met once
  times-once : (l : List Span) → eqb (fold_from (λ (n : ℕ) (a : Span). few_more n) 0 l) 1 ≡ is_only (only l)
  unfolding only fold_from few_more is_only few
  times-once [] = refl
  times-once (a ∷ []) = refl
  times-once (a ∷ (b ∷ l)) = ap (λ (n : ℕ). eqb n 1) (count-times (a ∷ (b ∷ l)))

-- the outline of a layout that names the sequence number before its own
named-before : (s : List ℕ) (l : Layout) (x : Option ℕ)
    → outline_of s (and_then x (λ n. Some (record { kind = l.kind; entries = l.entries; checksum = l.checksum; number = l.number; previous = n })))
    ≡ outline_where x (λ n. following n (outline_of s (Some l)))
unfolding and_then outline_of outline_where
named-before s l (Some n) = refl
named-before s l None = refl

-- the members that were met, of which ms are all
module _ (name s : List ℕ) (ms : List Pair) where
  abbrev met : Members
  met = fold_from (more_members name s) no_members ms

  abbrev values : List ℕ → List Span
  values n = values_of s n ms

  channel-is : met.channel ≡ member_span_of (values (ascii "channel"))
  unfolding more_members
  channel-is = on-fold s (ascii "channel") (more_members name s) (λ (x : Members). x.channel) with_member_span (λ st m. refl) no_members ms

  product_is : met.product ≡ member_span_of (values (ascii "product"))
  unfolding more_members
  product_is = on-fold s (ascii "product") (more_members name s) (λ (x : Members). x.product) with_member_span (λ st m. refl) no_members ms

  kind-is : met.kind ≡ member_span_of (values (ascii "type"))
  unfolding more_members
  kind-is = on-fold s (ascii "type") (more_members name s) (λ (x : Members). x.kind) with_member_span (λ st m. refl) no_members ms

  checksum-is : met.checksum ≡ member_span_of (values (ascii "checksum"))
  unfolding more_members
  checksum-is = on-fold s (ascii "checksum") (more_members name s) (λ (x : Members). x.checksum) with_member_span (λ st m. refl) no_members ms

  gsn-is : met.gsn ≡ member_span_of (values (ascii "gsn"))
  unfolding more_members
  gsn-is = on-fold s (ascii "gsn") (more_members name s) (λ (x : Members). x.gsn) with_member_span (λ st m. refl) no_members ms

  previous-is : met.previous ≡ member_span_of (values (ascii "prev_gsn"))
  unfolding more_members
  previous-is = on-fold s (ascii "prev_gsn") (more_members name s) (λ (x : Members). x.previous) with_member_span (λ st m. refl) no_members ms

  data-mark : met.body.mark ≡ member_span_of (values (ascii "data"))
  unfolding more_members more_body
  data-mark = on-fold s (ascii "data") (more_members name s) (λ (x : Members). x.body.mark) with_member_span (λ st m. refl) no_members ms

  data-last : met.body.last ≡ fold_from (λ (d : Data) (a : Span). data_of s d.tally a) (no_data 0 none_yet) (values (ascii "data"))
  unfolding more_members more_body
  data-last = on-fold s (ascii "data") (more_members name s) (λ (x : Members). x.body.last) (λ (d : Data) (a : Span). data_of s d.tally a) (λ st m. refl) no_members ms

  -- ---- from the checksum on, where ds are the members of `data`
  module _ (kind : Kind) (ds : List Pair) where
    abbrev held : Option (List Entry)
    held = entries_in forms.Pair 14 s (ascii "bids") (ascii "asks") ds

    abbrev told : Data
    told = fold_from (more_data s) (no_data 0 none_yet) ds

    held-told : Tells s held told.tally
    held-told =
        subst (λ (x : Option (List Entry)). Tells s x told.tally) (held-are s (Some []) ds ∙ none-also held)
        (held_all s (Some []) (no_data 0 none_yet) ds (tells_none s))

    abbrev all_read : ℕ → ℕ → Option Layout
    all_read sum number = laid kind (printed sum) number held

    abbrev sum-read : ℕ → Option Layout
    sum-read sum = and_then (only (values (ascii "gsn"))) (λ g. and_then (whole_at s g) (all_read sum))

    abbrev numbers-read : Option Layout
    numbers-read = and_then (only (values (ascii "checksum"))) (λ k. and_then (checksum_at s k) sum-read)

    abbrev sides-read : Option Layout
    sides-read = and_then (only (values_of s (ascii "bids") ds)) (λ b. and_then (only (values_of s (ascii "asks") ds)) (λ a. numbers-read))

    abbrev outline : ℕ → ℕ → Outline
    outline sum number = outline_from kind told.tally true sum number

    all-out : (sum number : ℕ) → outline_of s (all_read sum number) ≡ outline sum number
    unfolding is_printed sum_of
    all-out sum number = sym (outline-of s kind (printed sum) number held told.tally held-told)

    sum-out : (sum : ℕ) → outline_of s (sum-read sum) ≡ outline_where (and_then (once_at met.gsn) (whole_at s)) (outline sum)
    sum-out sum =
        ap (outline_of s) (then-assoc (only (values (ascii "gsn"))) (whole_at s) (all_read sum))
        ∙ then-out s (all_read sum) (outline sum) (and_then (only (values (ascii "gsn"))) (whole_at s)) (and_then (once_at met.gsn) (whole_at s))
        (ap (λ (x : Option Span). and_then x (whole_at s)) (only-is (values (ascii "gsn")) met.gsn gsn-is)) (λ n q. all-out sum n)

    numbers-out : outline_of s numbers-read ≡ numbers_in s kind told.tally met.checksum met.gsn
    unfolding numbers_in
    numbers-out =
        ap (outline_of s) (then-assoc (only (values (ascii "checksum"))) (checksum_at s) sum-read)
        ∙ then-out s sum-read (λ sum. outline_where (and_then (once_at met.gsn) (whole_at s)) (outline sum))
        (and_then (only (values (ascii "checksum"))) (checksum_at s)) (and_then (once_at met.checksum) (checksum_at s))
        (ap (λ (x : Option Span). and_then x (checksum_at s)) (only-is (values (ascii "checksum")) met.checksum checksum-is)) (λ n q. sum-out n)

    times-bids : told.bids ≡ fold_from (λ (n : ℕ) (a : Span). few_more n) 0 (values_of s (ascii "bids") ds)
    unfolding more_data
    times-bids = on-fold s (ascii "bids") (more_data s) (λ (d : Data). d.bids) (λ (n : ℕ) (a : Span). few_more n) (λ st m. refl) (no_data 0 none_yet) ds

    times-asks : told.asks ≡ fold_from (λ (n : ℕ) (a : Span). few_more n) 0 (values_of s (ascii "asks") ds)
    unfolding more_data
    times-asks = on-fold s (ascii "asks") (more_data s) (λ (d : Data). d.asks) (λ (n : ℕ) (a : Span). few_more n) (λ st m. refl) (no_data 0 none_yet) ds

    sides-out : outline_of s sides-read ≡ sides_in s kind told met.checksum met.gsn
    unfolding sides_in and_then outline_of is_only
    sides-out =
        go (only (values_of s (ascii "bids") ds)) (only (values_of s (ascii "asks") ds))
        ∙ ap₂ (λ (b a : Bool). cond b (cond a (numbers_in s kind told.tally met.checksum met.gsn) no_outline) no_outline)
        (sym (ap (λ (n : ℕ). eqb n 1) times-bids ∙ times-once s (values_of s (ascii "bids") ds)))
        (sym (ap (λ (n : ℕ). eqb n 1) times-asks ∙ times-once s (values_of s (ascii "asks") ds)))
      where
        go : (x y : Option Span) → outline_of s (and_then x (λ b. and_then y (λ a. numbers-read)))
            ≡ cond (is_only x) (cond (is_only y) (numbers_in s kind told.tally met.checksum met.gsn) no_outline) no_outline
        go (Some b) (Some a) = numbers-out
        go (Some b) None = refl
        go None y = refl

  -- ---- from `data` on
  module _ (kind : Kind) where
    abbrev sides : Data → Outline
    sides d = sides_in s kind d met.checksum met.gsn

    abbrev data-read : Span → Option Layout
    data-read d = and_then (object_at 15 s d) (sides-read kind)

    ended : (e : ℕ) (d : Data) → sides (data_end e d) ≡ sides d
    unfolding sides_in
    ended e d = refl

    data-out : (d : Span) → only (values (ascii "data")) ≡ Some d → outline_of s (data-read d) ≡ sides met.body.last
    unfolding data_of and_then outline_of data_from sides_in
    data-out d q = go (object_at 15 s d) refl
      where
        go : (x : Option (List Pair)) → object_at 15 s d ≡ x → outline_of s (and_then x (sides-read kind)) ≡ sides met.body.last
        go x h = at x ∙ ap sides (sym (data-last ∙ last-only s (values (ascii "data")) (no_data 0 none_yet) d q ∙ ap (data_from s d.to none_yet) h))
          where
            at : (y : Option (List Pair)) → outline_of s (and_then y (sides-read kind)) ≡ sides (data_from s d.to none_yet y)
            at (Some ds) = sides-out kind ds
            at None = refl

    body-out : outline_of s (and_then (only (values (ascii "data"))) data-read) ≡ body_in s kind met
    unfolding body_in
    body-out =
        then-out s data-read (λ d. sides met.body.last) (only (values (ascii "data"))) (once_at met.body.mark)
        (only-is (values (ascii "data")) met.body.mark data-mark) data-out

  -- ---- whole
  abbrev type-read : Kind → Option Layout
  type-read kind = and_then (only (values (ascii "data"))) (data-read kind)

  abbrev product-read : Span → Option Layout
  product-read p = and_then (only (values (ascii "type"))) (λ t. and_then (kind_at s t) type-read)

  abbrev channel-read : Span → Option Layout
  channel-read c = and_then (only (values (ascii "product"))) product-read

  product-out : (p : Span) → outline_of s (product-read p) ≡ outline_where (and_then (once_at met.kind) (kind_at s)) (λ kind. body_in s kind met)
  product-out p =
      ap (outline_of s) (then-assoc (only (values (ascii "type"))) (kind_at s) type-read)
      ∙ then-out s type-read (λ kind. body_in s kind met) (and_then (only (values (ascii "type"))) (kind_at s)) (and_then (once_at met.kind) (kind_at s))
      (ap (λ (x : Option Span). and_then x (kind_at s)) (only-is (values (ascii "type")) met.kind kind-is)) (λ b q. body-out b)

  abbrev of-product : Span → Outline
  of-product p = outline_where (and_then (once_at met.kind) (kind_at s)) (λ kind. body_in s kind met)

  abbrev of-channel : Span → Outline
  of-channel c = outline_where (once_at met.product) of-product

  channel-out : (c : Span) → outline_of s (channel-read c) ≡ of-channel c
  channel-out c =
      then-out s product-read of-product (only (values (ascii "product"))) (once_at met.product)
      (only-is (values (ascii "product")) met.product product_is)
      (λ p q. product-out p)

  layout-out : outline_of s (layout_m s ms) ≡ outline_in s met
  unfolding layout_m outline_in
  layout-out =
      then-out s channel-read of-channel (only (values (ascii "channel"))) (once_at met.channel)
      (only-is (values (ascii "channel")) met.channel channel-is)
      (λ c q. channel-out c)

  -- where updates are linked, one names the sequence number before its own
  before-is : and_then (only (values (ascii "prev_gsn"))) (whole_at s) ≡ and_then (once_at met.previous) (whole_at s)
  before-is = ap (λ (x : Option Span). and_then x (whole_at s)) (only-is (values (ascii "prev_gsn")) met.previous previous-is)

  linked-reads : (l : Layout) → outline_of s (linked_to s (values (ascii "prev_gsn")) l) ≡ linked_outline true s met.previous (outline_of s (Some l))
  unfolding linked_to linked_outline
  linked-reads l =
      at (is_snapshot l.kind)
      ∙ sym (ap₂ (λ (f b : Bool). cond f (cond b named-all (outline_where (and_then (once_at met.previous) (whole_at s)) (λ n. following n named-all))) named-all)
      (outline-reads s l) (ap is_snapshot (outline-kind s l)))
    where
      named-all : Outline
      named-all = outline_of s (Some l)

      at : (b : Bool) → outline_of s (cond b (Some l) (and_then (and_then (only (values (ascii "prev_gsn"))) (whole_at s)) (λ n. Some (record { kind = l.kind; entries = l.entries; checksum = l.checksum; number = l.number; previous = n }))))
          ≡ cond b named-all (outline_where (and_then (once_at met.previous) (whole_at s)) (λ n. following n named-all))
      at true = refl
      at false = named-before s l (and_then (only (values (ascii "prev_gsn"))) (whole_at s)) ∙ ap (λ (x : Option ℕ). outline_where x (λ n. following n named-all)) before-is

  linked-all : (x : Option Layout) → outline_of s (and_then x (linked_to s (values (ascii "prev_gsn")))) ≡ linked_outline true s met.previous (outline_of s x)
  unfolding and_then outline_of linked_outline
  linked-all (Some l) = linked-reads l
  linked-all None = refl

  linked-out : (linked : Bool) → outline_of s (layout_in linked s ms) ≡ linked_outline linked s met.previous (outline_in s met)
  unfolding layout_in linked_outline
  linked-out false = layout-out
  linked-out true = linked-all (layout_m s ms) ∙ ap (linked_outline true s met.previous) layout-out

  -- ---- check 5
  some_is : (get : Members → Bool) (n text : List ℕ)
      → ((st : Members) (m : Pair) → get (more_members name s st m) ≡ (get st || (means s m.name n && means s m.value text)))
      → get met ≡ (get no_members || some_means s text (values n))
  unfolding some_means values_of
  some_is get n text is =
      flag-from (more_members name s) get (λ m. means s m.name n && means s m.value text) (λ l. some_means s text (values_of s n l)) is refl
      (λ m l. sym (means-more s text m.value (means s m.name n) (values_of s n l))) no_members ms

  ours-out : ours_m name s ms ≡ (met.is_book && met.is_product)
  unfolding ours_m more_members
  ours-out =
      ap₂ ◌&&◌ (sym (some_is (λ (x : Members). x.is_book) (ascii "channel") (ascii "book") (λ st m. refl)))
      (sym (some_is (λ (x : Members). x.is_product) (ascii "product") name (λ st m. refl)))

-- ---- the message
module _ (linked : Bool) (name s : List ℕ) where
  abbrev heard_of : List Pair → Option Envelope
  heard_of ms = Some (record { ours = ours_m name s ms; layout = layout_in linked s ms })

  abbrev pub told_from : ℕ → Option (List Pair) → Scan
  told_from e x = scan_of s e (and_then x heard_of)

  pub told-folds : (e : ℕ) (ms : List Pair) → told_from e (Some ms) ≡ scan_in linked s e (fold_from (more_members name s) no_members ms)
  unfolding and_then scan_of scan_in
  told-folds e ms = rw (ours-out name s ms, linked-out name s ms linked)

  pub told_is : (at : ℕ) → told_from (end_of (value 16 s at)) (object_at 16 s (record { from = at; to = end_of (value 16 s at) })) ≡ scan_at (envelope_m linked name) s at
  unfolding scan_at envelope_m end_of and_then
  told_is at = sym (go (value 16 s at) refl)
    where
      go : (x : Option ℕ) → value 16 s at ≡ x
          → elim x [ Some e ↦ scan_of s e (envelope_m linked name s (record { from = at; to = e })) | None ↦ scan_of s 0 None ] ≡ told_from (end_of x) (object_at 16 s (record { from = at; to = end_of x }))
      go (Some e) q = refl
      go None q = ap (told_from 0) (sym (object-broken 15 s (record { from = at; to = 0 }) q))

pub members-end : (name s : List ℕ) (met : Members) (m : Pair) → (more_members name s met m).body.end ≡ m.value.to
unfolding more_members more_body
members-end name s met m = refl

-- the loop over its members
abbrev pub message_loop : Bool → List ℕ → List ℕ → Loop Pair Members Scan
message_loop linked name s = over_members 15 s (more_members name s) (scan_in linked s) (not_framed 0)

module _ (linked : Bool) (name s : List ℕ) (at : ℕ) where
  pub told_none : (byte_at s at ≡ 123 → ⊥) → {e : ℕ} → e ≡ end_of (value 16 s at) → not_framed e ≡ scan_at (envelope_m linked name) s at
  unfolding scan_of and_then
  told_none n h = ap not_framed h ∙ made_other (told_from linked name s) 15 s at n ∙ told_is linked name s at

  module _ (opens : byte_at s at ≡ 123) where
    pub told-empty : (e : ℕ) → closing 125 s (at + 1) ≡ Some e → scan_in linked s e no_members ≡ scan_at (envelope_m linked name) s at
    told-empty e h = made-empty (told_from linked name s) 15 s at opens (more_members name s) (scan_in linked s) no_members (told-folds linked name s) e h ∙ told_is linked name s at

    pub told-start : closing 125 s (at + 1) ≡ None → (k : ℕ) → k ≡ blanks s (at + 1) → Left (message_loop linked name s) no_members k (scan_at (envelope_m linked name) s at)
    unfolding scan_of and_then
    told-start h k b =
        rw (told_is linked name s at) at (made-start (told_from linked name s) 15 s at opens (more_members name s) (scan_in linked s) no_members (told-folds linked name s) h k b)

-- the places of the three numbers' marks
abbrev pub Marked : List ℕ → Members → Type 0
Marked s met = Placed s met.checksum × Placed s met.gsn × Placed s met.previous

pub marked_more : (name s : List ℕ) (met : Members) (n : Span) (d j e : ℕ) (next : Members) → next ≡ more_members name s met (record { name = n; value = record { from = j; to = end_of (value d s j) } })
    → next.body.end ≡ e → j ≤ e → e ≤ length s → Marked s met → Marked s next
unfolding more_members more_body
marked_more name s met n d j e next h q l t p =
    let v : Pair = record { name = n; value = record { from = j; to = end_of (value d s j) } } in
    let y : end_of (value d s j) ≡ e = sym (ap (λ (x : Members). x.body.end) h) ∙ q in
    let l' : j ≤ end_of (value d s j) = omega arith in
    let t' : end_of (value d s j) ≤ length s = omega arith in
    rw h (placed-more s (means s n (ascii "checksum")) met.checksum v.value p.0 l' t', placed-more s (means s n (ascii "gsn")) met.gsn v.value p.1 l' t', placed-more s (means s n (ascii "prev_gsn")) met.previous v.value p.2 l' t')

pub unmarked-placed : (s : List ℕ) → Marked s no_members
unmarked-placed s = ((omega arith, omega arith), (omega arith, omega arith), (omega arith, omega arith))
