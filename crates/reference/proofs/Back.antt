-- The round trip: what every side that is reached has, and what a new book makes of a snapshot of it.
-- Assumes nothing.
use Rattle.answer.specs.declared.Answer.{Answer}
use Rattle.std.specs.Prelude.{None, Option, Some, Err, Ok, Result}
use mathlib.Core.Path.{◌≡◌, refl, sym, ap, ap₂, ◌∙◌, subst}
use mathlib.Core.List.{List, [], ◌∷◌, ◌++◌, map, append_assoc, append-nil}
use mathlib.Core.Bool.{Bool, true, false, true≢false, cond}
use Prim.Native.Nat.{ℕ, ◌≤◌, ◌<◌, ◌^◌}
use native.Mathlib.Omega.{arith}
use borrow.Author.Tests.{ltb-true}
use lib.Dec.{lit<}
use lib.ListN.{length, take, length-take}
use lib.Seq.{take_all}
use Rattle.decimal.specs.Decimal.{Number, read, is_zero, value}
use Rattle.decimal.specs.Limits.{Within}
use Rattle.decimal.proofs.RoundTrip.{read-within}
use Rattle.json_values.specs.Json.{Span}
use Rattle.settings.specs.Settings.{Config, good, kept}
use Rattle.settings.specs.Rules.{summed_in, rules_of}
use Rattle.settings.specs.declared.Dialect.{Dialect}
use Rattle.settings.specs.declared.Dialect.TheVariants.{K, M, Unknown}
use Rattle.settings.specs.declared.Edition.{Edition}
use Rattle.settings.specs.declared.Edition.TheVariants.{M1, M2}
use Rattle.json_values.specs.Names.{inner}
use Rattle.entries.specs.Rows.{Entry, is_bad_price, number_in, number_at, numbers_at, bad_price, bad_size, bad_texts}
use Rattle.edit.specs.Edit.{PriceLevel, shown_price, Edit, sets, removes, Numbers, edit_of, is_same, for_side}
use Rattle.level.specs.Side.{nearer, place, apply, apply_all, ranked, names_twice}
use Rattle.level.specs.Ranked.{All, IfSet, Sorted}
use Rattle.edit.specs.Edit.{named}
use Rattle.edit.specs.declared.Side.{Side}
use Rattle.edit.specs.declared.Side.TheVariants.{Bids, Asks}
use Rattle.level.proofs.All.{all_take}
use Rattle.level.proofs.Ranking.{all-apply_all, all-ranked, apply_ranked, commute, without-none, place-middle, ranked-sorted, sorted-take, sorted-distinct, distinct-apply_all, distinct-once}
use Rattle.entries.proofs.Numbers.{number-within}
use Rattle.crc32_spec.specs.Crc.{crc, run}
use Rattle.writer.specs.Snapshot.{k_snapshot, m_snapshot}
use Rattle.checksum.specs.Text.{interleaved, colon_joined, m_checksum_text}
use Rattle.layout.specs.declared.Kind.TheVariants.{Snapshot}
use Rattle.layout.specs.Layout.{is_snapshot, Printed, printed, unprinted, Layout}
use Rattle.message.specs.Meaning.{SidedEdit, sided_edit, Message, message_of, bad, checked, decoded_of, decode}
use Rattle.message.proofs.Where.{framed-lies}
use Rattle.message.proofs.Entering.{Readable, is-k, is_m, good-readable, also-framed}
use Rattle.round_trip.specs.Claims.{setting, Positive, ValidLevel, Each, each_none, each_more, Valid}
use Rattle.round_trip.proofs.Claims.{k-round-trip, m-round-trip}
use Rattle.reference.specs.Reference.{Status, shut, waiting, live, is_shut, is_live, Reference, opened, rules, edits_for, after_edits, sides_after, prices_of, checksum_text, checksum_of, taken, After, text_in, snapshot_text, Ask, does, Call, final, with_status}
use Rattle.reference.specs.Claims.{restarts, Agrees, carries_none, the_same, Acceptable, ReadsBack, RoundTrip}
use Rattle.reference.proofs.Snapshot.{of-update}
use Rattle.reference.proofs.Outcome.{ready-open, acceptable-taken}
use Rattle.reference.proofs.Carried.{said-carries}
use Rattle.reference.proofs.Runs.{Steps, stays, moves, steps, Reached, reached, reached-step, reached-opened}
use Rattle.settings.proofs.Depth.{good-depth, good-rules}

-- ---- a sorted side, set level by level on an empty one and ranked, is the side

abbrev key : PriceLevel → ℕ
key x = value (shown_price x)

before-differs : (side : Side) (a b : ℕ) → nearer side a b ≡ true → a ≡ b → ⊥
before-differs Bids a b h e = let l : b < a = ltb-true b a h in omega arith
before-differs Asks a b h e = let l : a < b = ltb-true a b h in omega arith

module _ (side : Side) where
  -- what stands before x in a sorted side
  at-end : (P : PriceLevel → Type 0) (p : List PriceLevel) (x : PriceLevel) (q : List PriceLevel) → All P (p ++ (x ∷ q)) → P x
  unfolding All
  at-end P [] x q h = h.0
  at-end P (y ∷ p) x q h = at-end P p x q h.1

  sorted_before : (p : List PriceLevel) (x : PriceLevel) (q : List PriceLevel) → Sorted shown_price side (p ++ (x ∷ q)) → All (λ y. nearer side (key y) (key x) ≡ true) p
  unfolding All Sorted
  sorted_before [] x q h = tt
  sorted_before (y ∷ p) x q h = (at-end (λ z. nearer side (key y) (key z) ≡ true) p x q h.0, sorted_before p x q h.1)

  all-differ : (x : PriceLevel) (p : List PriceLevel) → All (λ y. nearer side (key y) (key x) ≡ true) p → All (λ y. key y ≡ key x → ⊥) p
  unfolding All
  all-differ x [] h = tt
  all-differ x (y ∷ p) h = (before-differs side (key y) (key x) h.0, all-differ x p h.1)

  placed-last : (p : List PriceLevel) (x : PriceLevel) (q : List PriceLevel) → Sorted shown_price side (p ++ (x ∷ q)) → apply_ranked shown_price side (sets x) p ≡ p ++ (x ∷ [])
  unfolding apply_ranked All
  placed-last p x q h =
      let b = sorted_before p x q h in
      ap (place shown_price side x) (without-none shown_price (key x) p (all-differ x p b) ∙ sym (append-nil p)) ∙ place-middle shown_price side x p [] b tt

  sets-back : (q p s : List PriceLevel) → Sorted shown_price side (p ++ q) → ranked shown_price side s ≡ p → ranked shown_price side (apply_all shown_price (map sets q) s) ≡ p ++ q
  unfolding apply_all
  sets-back [] p s h e = e ∙ sym (append-nil p)
  sets-back (x ∷ q) p s h e =
      let w = commute shown_price side (sets x) s ∙ ap (apply_ranked shown_price side (sets x)) e ∙ placed-last p x q h in
      let a = append_assoc p (x ∷ []) q in
      sets-back q (p ++ (x ∷ [])) (apply shown_price (sets x) s) (subst (Sorted shown_price side) (sym a) h) w ∙ a

  pub side-back : (q : List PriceLevel) → Sorted shown_price side q → ranked shown_price side (apply_all shown_price (map sets q) []) ≡ q
  unfolding ranked
  side-back q h = sets-back q [] [] h refl

-- the prices of a snapshot of it
prices-back : (q : List PriceLevel) → prices_of (map sets q) ≡ map shown_price q
unfolding named
prices-back [] = refl
prices-back (x ∷ q) = ap (λ (l : List Number). x.price ∷ l) (prices-back q)

each-fine : (q : List PriceLevel) → All ValidLevel q → Each ValidLevel q
unfolding All
each-fine [] h = each_none
each-fine (x ∷ q) h = each_more h.0 (each-fine q h.1)

-- ---- the edits of a message that passes check 8

append-none : {A : Type 0} (x y : List A) → x ++ y ≡ [] → (x ≡ []) × (y ≡ [])
append-none [] y h = (refl, h)
append-none (a ∷ x) y h = let z : ◌≡◌ {A = ℕ} 0 1 = cc in absurd (omega arith)

not_listed : (b : Bool) (a : Span) → cond b (a ∷ []) [] ≡ [] → b ≡ false
not_listed true a h = let z : ◌≡◌ {A = ℕ} 0 1 = cc in absurd (omega arith)
not_listed false a h = refl

price-positive : (s : List ℕ) (a : Span) → bad_price s a ≡ false → Positive (number_at s a)
unfolding bad_price number_at
price-positive s a h = go (read (inner s a)) refl h
  where
    go : (x : Option Number) → read (inner s a) ≡ x → is_bad_price x ≡ false → Positive (number_in x)
    go (Some n) q g = record { within = read-within (inner s a) n q; some = g }
    go None q g = absurd (true≢false g)

-- a level that it sets can be held
abbrev Fine : SidedEdit → Type 0
Fine d = IfSet ValidLevel d.edit

edit-fine : (e : Numbers) → Positive e.price → Within e.size → Fine (sided_edit e)
unfolding sided_edit edit_of IfSet
edit-fine e p w = at (is_zero e.size) refl
  where
    at : (b : Bool) → is_zero e.size ≡ b → IfSet {A = PriceLevel} ValidLevel (cond b (removes e.price) (sets (record { price = e.price; size = e.size })))
    at true z = tt
    at false z = record { price = p; size = record { within = w; some = z } }

edits-fine : (snapshot : Bool) (s : List ℕ) (es : List Entry) → bad_texts snapshot s es ≡ [] → All Fine (map sided_edit (map (numbers_at s) es))
unfolding All bad_texts numbers_at
edits-fine snapshot s [] h = tt
edits-fine snapshot s (e ∷ es) h =
    let a = append-none (cond (bad_price s e.row.price) (e.row.price ∷ []) []) _ h in
    let b = append-none (cond (bad_size snapshot s e.row.size) (e.row.size ∷ []) []) (bad_texts snapshot s es) a.1 in
    let p = price-positive s e.row.price (not_listed (bad_price s e.row.price) e.row.price a.0) in
    (edit-fine (numbers_at s e) p (number-within s e.row.size), edits-fine snapshot s es b.1)

-- those for one side
unfoldable for_one : Side → List SidedEdit → List (Edit PriceLevel)
for_one side ds = map (λ (d : SidedEdit). d.edit) (for_side (λ (d : SidedEdit). d.side) side ds)

for-one-fine : (side : Side) (ds : List SidedEdit) → All Fine ds → All (IfSet ValidLevel) (for_one side ds)
unfolding All for_one for_side
for-one-fine side [] h = tt
for-one-fine side (d ∷ ds) h = at (is_same d.side side) (for-one-fine side ds h.1)
  where
    at : (b : Bool) → All (IfSet ValidLevel) (for_one side ds)
        → All (IfSet ValidLevel) (map (λ (d : SidedEdit). d.edit) (cond b (d ∷ for_side (λ (d : SidedEdit). d.side) side ds) (for_side (λ (d : SidedEdit). d.side) side ds)))
    at true ih = (h.0, ih)
    at false ih = ih

-- ---- what a message that is understood has

pub record Understood (m : Message) : Type 0 where
  pub edits : (side : Side) → All (IfSet ValidLevel) (edits_for side m)
  pub small : m.number < 10 ^ 19
  pub low : (n : ℕ) → m.checksum ≡ printed n → n ≤ 4294967295

understood : (t : Config) (s : List ℕ) (m : Message) → decode t s ≡ Ok m → Understood m
unfolding decode decoded_of message_of bad edits_for for_one
understood t s m h = go (checked t s) refl h
  where
    go : (x : Result Layout Answer) → checked t s ≡ x → decoded_of s x ≡ Ok m → Understood m
    go (Err a) q g = let z : ◌≡◌ {A = ℕ} 0 1 = cc in absurd (omega arith)
    go (Ok l) q g =
        let e : message_of s l ≡ m = cc in
        let f = also-framed t s l q in
        let w = framed-lies t s l f.0 in
        subst Understood e (record {
          edits = λ side. for-one-fine side (message_of s l).edits (edits-fine (is_snapshot l.kind) s l.entries f.1);
          small = w.small;
          low = w.low;
        })

-- ---- what every book that is reached holds

pub record SaneSide (side : Side) (depth : ℕ) (s : List PriceLevel) : Type 0 where
  pub sorted : Sorted shown_price side s
  pub fine : All ValidLevel s
  pub few : length s ≤ depth

pub record Sane (p : Reference) : Type 0 where
  pub bids : SaneSide Bids p.config.depth p.last.sides.bids
  pub asks : SaneSide Asks p.config.depth p.last.sides.asks
  pub small : p.last.number < 10 ^ 19
  -- an M book's checksum was compared with one that a message carried
  pub low : (v : Edition) → p.config.dialect ≡ M v → checksum_of (rules_of (M v)) p.last.sides ≤ 4294967295

empty-sane : (side : Side) (depth : ℕ) → SaneSide side depth []
unfolding Sorted All
empty-sane side depth = record { sorted = tt; fine = tt; few = omega arith }

-- a side after a message
module _ (t : Config) (g : good t ≡ true) (side : Side) (es : List (Edit PriceLevel)) (base : List PriceLevel) (h : SaneSide side t.depth base) (o : All (IfSet ValidLevel) es) where
  abbrev worked : List PriceLevel
  worked = apply_all shown_price es base

  worked-sorted : Sorted shown_price side (ranked shown_price side worked)
  worked-sorted = ranked-sorted shown_price side worked (distinct-apply_all shown_price es base (sorted-distinct shown_price side base h.sorted))

  worked-fine : All ValidLevel (ranked shown_price side worked)
  worked-fine = all-ranked shown_price ValidLevel side worked (all-apply_all shown_price ValidLevel es base o h.fine)

  after-sane : length (after_edits t side es base) ≤ (rules_of t.dialect).levels → SaneSide side t.depth (after_edits t side es base)
  unfolding after_edits
  after-sane few = at (rules_of t.dialect).cut few (good-rules t g).1
    where
      at : (b : Bool) → length (cond b (take t.depth (ranked shown_price side worked)) (ranked shown_price side worked)) ≤ (rules_of t.dialect).levels
          → (b ≡ false → t.depth ≡ (rules_of t.dialect).levels)
          → SaneSide side t.depth (cond b (take t.depth (ranked shown_price side worked)) (ranked shown_price side worked))
      at true f x =
          let n = length-take t.depth (ranked shown_price side worked) in
          record { sorted = sorted-take shown_price side t.depth (ranked shown_price side worked) worked-sorted; fine = all_take ValidLevel t.depth (ranked shown_price side worked) worked-fine; few = omega arith }
      at false f x = let e = x refl in record { sorted = worked-sorted; fine = worked-fine; few = omega arith }

sane-opened : (t : Config) → Sane (opened t)
unfolding opened summed_in rules_of checksum_of checksum_text m_checksum_text interleaved colon_joined crc run
sane-opened t = record { bids = empty-sane Bids (kept t).depth; asks = empty-sane Asks (kept t).depth; small = lit< tt; low = λ v e. none-low v }
  where
    none-low : (v : Edition) → checksum_of (rules_of (M v)) (record { bids = []; asks = [] }) ≤ 4294967295
    none-low M1 = let e : checksum_of (rules_of (M M1)) (record { bids = []; asks = [] }) ≡ 0 = refl in omega arith
    none-low M2 = let e : checksum_of (rules_of (M M2)) (record { bids = []; asks = [] }) ≡ 0 = refl in omega arith

module _ (p : Reference) (s : List ℕ) (m : Message) (q : decode p.config s ≡ Ok m) (a : Acceptable p m) (g : good p.config ≡ true) (h : Sane p) where
  u : Understood m
  u = understood p.config s m q

  bids-sane : SaneSide Bids p.config.depth (sides_after p m).bids
  unfolding sides_after
  bids-sane = at (is_snapshot m.kind) refl
    where
      at : (b : Bool) → is_snapshot m.kind ≡ b → SaneSide Bids p.config.depth (after_edits p.config Bids (edits_for Bids m) (cond (is_snapshot m.kind) [] p.last.sides.bids))
      at true e = after-sane p.config g Bids (edits_for Bids m) (cond (is_snapshot m.kind) [] p.last.sides.bids) (rw e (empty-sane Bids p.config.depth)) (u.edits Bids) a.few.0
      at false e = after-sane p.config g Bids (edits_for Bids m) (cond (is_snapshot m.kind) [] p.last.sides.bids) (rw e h.bids) (u.edits Bids) a.few.0

  asks-sane : SaneSide Asks p.config.depth (sides_after p m).asks
  unfolding sides_after
  asks-sane = at (is_snapshot m.kind) refl
    where
      at : (b : Bool) → is_snapshot m.kind ≡ b → SaneSide Asks p.config.depth (after_edits p.config Asks (edits_for Asks m) (cond (is_snapshot m.kind) [] p.last.sides.asks))
      at true e = after-sane p.config g Asks (edits_for Asks m) (cond (is_snapshot m.kind) [] p.last.sides.asks) (rw e (empty-sane Asks p.config.depth)) (u.edits Asks) a.few.1
      at false e = after-sane p.config g Asks (edits_for Asks m) (cond (is_snapshot m.kind) [] p.last.sides.asks) (rw e h.asks) (u.edits Asks) a.few.1

  taken-low : (v : Edition) → p.config.dialect ≡ M v → checksum_of (rules_of (M v)) (sides_after p m) ≤ 4294967295
  taken-low v e = go a.checksum
    where
      go : Agrees m.checksum (checksum_of (rules p) (sides_after p m)) → checksum_of (rules_of (M v)) (sides_after p m) ≤ 4294967295
      go (carries_none c) =
          let k = ((said-carries p.config s m q).compared c).0 in
          let z : ◌≡◌ {A = Dialect} (M v) K = sym e ∙ k in
          let w : ◌≡◌ {A = ℕ} 1 0 = ap (λ (d : Dialect). elim d [ K ↦ 0 | M x ↦ 1 | Unknown ↦ 2 ]) z in
          absurd (omega arith)
      go (the_same c) = u.low (checksum_of (rules_of (M v)) (sides_after p m)) (c ∙ ap (λ (d : Dialect). printed (checksum_of (rules_of d) (sides_after p m))) e)

  sane-taken : Sane (taken p m)
  unfolding taken
  sane-taken = record { bids = bids-sane; asks = asks-sane; small = u.small; low = taken-low }

good-kept : (t : Config) (p : Reference) → Reached t p → is_shut p.status ≡ false → good p.config ≡ true
unfolding opened kept is_shut
good-kept t p r h = at (good t) refl (sym r.shut ∙ h)
  where
    at : (b : Bool) → good t ≡ b → is_shut (cond (good t) waiting shut) ≡ false → good p.config ≡ true
    at true e k = ap good r.config ∙ rw e e
    at false e k = absurd (true≢false (sym (rw e) ∙ k))

sane-step : (t : Config) (p : Reference) (ask : Ask) (q : Reference) → Reached t p → Steps p ask q → Sane p → Sane q
unfolding with_status
sane-step t p ask q r (stays status k l n e) h = rw e (record { bids = h.bids; asks = h.asks; small = h.small; low = h.low })
sane-step t p ask q r (moves s m d a n e) h = rw e (sane-taken p s m d a (good-kept t p r (ready-open p m a.ready)) h)

sane-final : (t : Config) (p : Reference) (cs : List Call) → Reached t p → Sane p → Sane (final p cs)
unfolding final
sane-final t p [] r h = h
sane-final t p (c ∷ cs) r h =
    let q : Reference = (does p c.ask c.buffer).after in
    let x = steps p c.ask c.buffer in
    sane-final t q cs (reached-step t p c.ask q x r) (sane-step t p c.ask q r x h)

pub sane : (t : Config) (cs : List Call) → Sane (final (opened t) cs)
sane t cs = sane-final t (opened t) cs (reached-opened t) (sane-opened t)

-- ---- reading back

-- the snapshot of a sane side gives the side again
module _ (t : Config) (g : good t ≡ true) (side : Side) (l : List PriceLevel) (h : SaneSide side t.depth l) where
  pub back : after_edits t side (map sets l) [] ≡ l
  unfolding after_edits
  back = at (rules_of t.dialect).cut
    where
      is : ranked shown_price side (apply_all shown_price (map sets l) []) ≡ l
      is = side-back side l h.sorted

      at : (b : Bool) → cond b (take t.depth (ranked shown_price side (apply_all shown_price (map sets l) []))) (ranked shown_price side (apply_all shown_price (map sets l) [])) ≡ l
      at true = ap (take t.depth) is ∙ take_all t.depth l h.few
      at false = is

  pub back-fine : Valid l
  back-fine = let d = (good-depth t g).0 in let f = h.few in record { few = omega arith; each = each-fine l h.fine }

  pub back-once : names_twice (prices_of (map sets l)) ≡ false
  back-once = ap names_twice (prices-back l) ∙ distinct-once shown_price l (sorted-distinct shown_price side l h.sorted)

-- the edits for a side among those of both
one-append : (side : Side) (c d : List SidedEdit) → for_one side (c ++ d) ≡ for_one side c ++ for_one side d
unfolding for_one for_side
one-append side [] d = refl
one-append side (x ∷ c) d = at (is_same x.side side) (one-append side c d)
  where
    of : List SidedEdit → List SidedEdit
    of l = for_side (λ (d : SidedEdit). d.side) side l

    at : (b : Bool) → for_one side (c ++ d) ≡ for_one side c ++ for_one side d
        → map (λ (d : SidedEdit). d.edit) (cond b (x ∷ of (c ++ d)) (of (c ++ d))) ≡ map (λ (d : SidedEdit). d.edit) (cond b (x ∷ of c) (of c)) ++ for_one side d
    at true ih = ap (λ (l : List (Edit PriceLevel)). x.edit ∷ l) ih
    at false ih = ih

one-own : (side : Side) (q : List PriceLevel) → is_same side side ≡ true → for_one side (map (setting side) q) ≡ map sets q
unfolding for_one for_side
one-own side [] h = refl
one-own side (x ∷ q) h = rw h (ap (λ (l : List (Edit PriceLevel)). sets x ∷ l) (one-own side q h))

one-other : (side other : Side) (q : List PriceLevel) → is_same other side ≡ false → for_one side (map (setting other) q) ≡ []
unfolding for_one for_side
one-other side other [] h = refl
one-other side other (x ∷ q) h = rw h (one-other side other q h)

-- edits that set these levels on both sides
record SetsBoth (bids asks : List PriceLevel) (ds : List SidedEdit) : Type 0 where
  on-bids : for_one Bids ds ≡ map sets bids
  on-asks : for_one Asks ds ≡ map sets asks

asks-first : (bids asks : List PriceLevel) → SetsBoth bids asks (map (setting Asks) asks ++ map (setting Bids) bids)
unfolding is_same
asks-first bids asks = record {
  on-bids = one-append Bids (map (setting Asks) asks) (map (setting Bids) bids) ∙ rw (one-other Bids Asks asks refl, one-own Bids bids refl);
  on-asks = one-append Asks (map (setting Asks) asks) (map (setting Bids) bids) ∙ rw (one-own Asks asks refl, one-other Asks Bids bids refl) (append-nil (map sets asks));
}

bids-first : (bids asks : List PriceLevel) → SetsBoth bids asks (map (setting Bids) bids ++ map (setting Asks) asks)
unfolding is_same
bids-first bids asks = record {
  on-bids = one-append Bids (map (setting Bids) bids) (map (setting Asks) asks) ∙ rw (one-own Bids bids refl, one-other Bids Asks asks refl) (append-nil (map sets bids));
  on-asks = one-append Asks (map (setting Bids) bids) (map (setting Asks) asks) ∙ rw (one-other Asks Bids bids refl, one-own Asks asks refl);
}

-- the message that a snapshot of a book is
snapshot_of : Reference → List SidedEdit → Printed → Message
snapshot_of p edits c = record { kind = Snapshot; edits = edits; checksum = c; number = p.last.number; previous = 0 }

module _ (t : Config) (p : Reference) (r : Reached t p) (h : Sane p) (g : good t ≡ true) where
  same-terms : p.config ≡ t
  unfolding kept
  same-terms = r.config ∙ rw g

  open-terms : (opened t).config ≡ t
  unfolding opened kept
  open-terms = rw g

  abbrev at-bids : SaneSide Bids t.depth p.last.sides.bids
  at-bids = subst (λ (x : Config). SaneSide Bids x.depth p.last.sides.bids) same-terms h.bids

  abbrev at-asks : SaneSide Asks t.depth p.last.sides.asks
  at-asks = subst (λ (x : Config). SaneSide Asks x.depth p.last.sides.asks) same-terms h.asks

  module _ (edits : List SidedEdit) (both : SetsBoth p.last.sides.bids p.last.sides.asks edits) (c : Printed) where
    on-bids : edits_for Bids (snapshot_of p edits c) ≡ map sets p.last.sides.bids
    unfolding edits_for snapshot_of for_one
    on-bids = both.on-bids

    on-asks : edits_for Asks (snapshot_of p edits c) ≡ map sets p.last.sides.asks
    unfolding edits_for snapshot_of for_one
    on-asks = both.on-asks

    sides-back : sides_after (opened t) (snapshot_of p edits c) ≡ p.last.sides
    unfolding sides_after snapshot_of is_snapshot
    sides-back =
        rw open-terms
        (ap₂ (λ (x y : List PriceLevel). record { bids = x; asks = y })
        (ap (λ (es : List (Edit PriceLevel)). after_edits t Bids es []) on-bids ∙ back t g Bids p.last.sides.bids at-bids)
        (ap (λ (es : List (Edit PriceLevel)). after_edits t Asks es []) on-asks ∙ back t g Asks p.last.sides.asks at-asks))

    acceptable-back : Agrees c (checksum_of (rules_of t.dialect) p.last.sides) → Acceptable (opened t) (snapshot_of p edits c)
    unfolding snapshot_of opened is_snapshot
    acceptable-back x =
        let d = (good-rules t g).0 in
        let bf = at-bids.few in
        let af = at-asks.few in
        record {
          ready = restarts open-status refl;
          once = λ e. (
            ap (λ (es : List (Edit PriceLevel)). names_twice (prices_of es)) on-bids ∙ back-once t g Bids p.last.sides.bids at-bids,
            ap (λ (es : List (Edit PriceLevel)). names_twice (prices_of es)) on-asks ∙ back-once t g Asks p.last.sides.asks at-asks,
          );
          newer = λ e n. absurd (true≢false (of-update n));
          follows = λ e l n. absurd (true≢false (of-update n));
          few = rw (sides-back, open-terms) (omega arith, omega arith);
          uncrossed = rw sides-back r.uncrossed;
          checksum = rw (sides-back, open-terms) x;
        }
      where
        open-status : (opened t).status ≡ waiting
        open-status = rw g

    read_back : decode t (snapshot_text p) ≡ Ok (snapshot_of p edits c) → Agrees c (checksum_of (rules_of t.dialect) p.last.sides) → ReadsBack t p
    unfolding taken snapshot_of is_snapshot
    read_back q x =
        let q' : decode (opened t).config (snapshot_text p) ≡ Ok (snapshot_of p edits c) = subst (λ (y : Config). decode y (snapshot_text p) ≡ Ok (snapshot_of p edits c)) (sym open-terms) q in
        let e = acceptable-taken (opened t) (snapshot_text p) (snapshot_of p edits c) q' (acceptable-back x) in
        record {
          answer = ap (λ (y : After). y.answer) e;
          status = ap (λ (y : After). y.book.status) e;
          sides = ap (λ (y : After). y.book.last.sides) e ∙ sides-back;
          number = ap (λ (y : After). y.book.last.number) e;
          updates = ap (λ (y : After). y.book.last.updates) e;
        }

  -- ---- dialect by dialect

  in-dialect : (d : Dialect) → t.dialect ≡ d → record { dialect = d; depth = t.depth; name = t.name } ≡ t
  in-dialect d e = ap (λ (x : Dialect). record { dialect = x; depth = t.depth; name = t.name }) (sym e)

  text-in : (d : Dialect) → t.dialect ≡ d → snapshot_text p ≡ text_in d p
  unfolding snapshot_text
  text-in d e = ap (λ (x : Config). text_in x.dialect p) same-terms ∙ ap (λ (x : Dialect). text_in x p) e

  k-back : t.dialect ≡ K → ReadsBack t p
  unfolding snapshot_of text_in
  k-back e =
      let bids : List PriceLevel = p.last.sides.bids in
      let asks : List PriceLevel = p.last.sides.asks in
      let i = in-dialect K e in
      let g' : good (record { dialect = K; depth = t.depth; name = t.name }) ≡ true = subst (λ (x : Config). good x ≡ true) (sym i) g in
      let w = k-round-trip t.depth t.name p.last.sides.bids p.last.sides.asks g' (back-fine t g Bids p.last.sides.bids at-bids) (back-fine t g Asks p.last.sides.asks at-asks) in
      let n : p.last.number ≡ 0 = r.number (ap (λ (x : Config). x.dialect) (sym r.config ∙ same-terms) ∙ e) in
      let x : snapshot_text p ≡ k_snapshot t.depth t.name p.last.sides.bids p.last.sides.asks = text-in K e ∙ ap (λ (y : Config). k_snapshot y.depth y.name p.last.sides.bids p.last.sides.asks) same-terms in
      let q : decode t (snapshot_text p) ≡ Ok (snapshot_of p (map (setting Asks) asks ++ map (setting Bids) bids) unprinted) = ap₂ decode (sym i) x ∙ w ∙ rw n in
      read_back (map (setting Asks) asks ++ map (setting Bids) bids) (asks-first bids asks) unprinted q (carries_none refl)

  m-back : (v : Edition) → t.dialect ≡ M v → ReadsBack t p
  unfolding snapshot_of text_in
  m-back v e =
      let bids : List PriceLevel = p.last.sides.bids in
      let asks : List PriceLevel = p.last.sides.asks in
      let i = in-dialect (M v) e in
      let d : t.depth ≡ 100 = (good-depth t g).1 v e in
      let j : record { dialect = M v; depth = 100; name = t.name } ≡ t = ap (λ (x : ℕ). record { dialect = M v; depth = x; name = t.name }) (sym d) ∙ i in
      let g' : good (record { dialect = M v; depth = 100; name = t.name }) ≡ true = subst (λ (x : Config). good x ≡ true) (sym j) g in
      let sum : ℕ = checksum_of (rules_of (M v)) p.last.sides in
      let low = h.low v (ap (λ (x : Config). x.dialect) same-terms ∙ e) in
      let w = m-round-trip v t.name p.last.sides.bids p.last.sides.asks sum p.last.number g' (back-fine t g Bids p.last.sides.bids at-bids) (back-fine t g Asks p.last.sides.asks at-asks) low h.small in
      let x : snapshot_text p ≡ m_snapshot t.name p.last.sides.bids p.last.sides.asks sum p.last.number = text-in (M v) e ∙ ap (λ (y : Config). m_snapshot y.name p.last.sides.bids p.last.sides.asks sum p.last.number) same-terms in
      let q : decode t (snapshot_text p) ≡ Ok (snapshot_of p (map (setting Bids) bids ++ map (setting Asks) asks) (printed sum)) = ap₂ decode (sym j) x ∙ w in
      read_back (map (setting Bids) bids ++ map (setting Asks) asks) (bids-first bids asks) (printed sum) q (the_same (ap (λ (x : Dialect). printed (checksum_of (rules_of x) p.last.sides)) (sym e)))

  pub either-back : ReadsBack t p
  either-back = go (good-readable t g) refl
    where
      go : {d : Dialect} → Readable d → t.dialect ≡ d → ReadsBack t p
      go is-k e = k-back e
      go (is_m v) e = m-back v e

live-good : (t : Config) (p : Reference) → Reached t p → is_live p.status ≡ true → good t ≡ true
unfolding opened is_shut is_live
live-good t p r l = at (good t) refl p.status refl
  where
    at : (b : Bool) → good t ≡ b → (x : Status) → p.status ≡ x → good t ≡ true
    at true e x k = e
    at false e shut k = absurd (true≢false (sym l ∙ rw k))
    at false e waiting k = absurd (true≢false (sym l ∙ rw k))
    at false e live k =
        let z : is_shut p.status ≡ true = r.shut ∙ rw e in
        absurd (true≢false (sym z ∙ rw k))

pub reached-back : RoundTrip
reached-back t cs l = let r = reached t cs in either-back t (final (opened t) cs) r (sane t cs) (live-good t (final (opened t) cs) r l)
