-- A message that passes the checks of its text: the book after it, from what its entries make of the sides.
-- Assumes nothing.
use Rattle.std.specs.Prelude.{Err, Ok, Result}
use mathlib.Core.Path.{◌≡◌, refl, sym, ap, ap₂, ◌∙◌, subst}
use mathlib.Core.List.{List, [], ◌∷◌, map}
use mathlib.Core.Bool.{Bool, true, false, true≢false, ◌&&◌, ◌||◌, not, cond}
use Prim.Native.Nat.{ℕ, ◌+◌, ◌≤◌}
use native.Mathlib.Omega.{arith}
use borrow.Author.Tests.{ltb-false, le-ltb}
use lib.Dec.{eqb, ltb}
use lib.ListN.{length, take, length-take, length-map}
use Rattle.lifecycle.specs.Lifecycle.{status_of, live_lifecycle, is_old_by, judged_update, judged_sides}
use Rattle.lifecycle.specs.declared.State.{State}
use Rattle.lifecycle.proofs.Laws.{judged-snapshot, judged-new}
use Rattle.answer.proofs.Laws.{taken-answer}
use Rattle.decimal.specs.Decimal.{is_zero}
use Rattle.settings.specs.Settings.{Config, good}
use Rattle.settings.specs.Kept.{config_of}
use Rattle.settings.specs.Rules.{rules_of}
use Rattle.settings.specs.declared.Rules.{Rules}
use Rattle.settings.specs.declared.SumText.{SumText}
use Rattle.settings.specs.declared.SumText.TheVariants.{Stripped, Interleaved}
use Rattle.settings.proofs.Depth.{good-depth, good-rules}
use Rattle.settings.specs.declared.Dialect.{Dialect}
use Rattle.edit.specs.Edit.{PriceLevel, shown_price, Edit, sets, removes, Numbers, edit_of, is_same, for_side, side_of}
use Rattle.edit.specs.declared.Side.{Side}
use Rattle.edit.specs.declared.Side.TheVariants.{Bids, Asks}
use Rattle.level.specs.Words.{level_price, shown}
use Rattle.level.specs.Side.{names_twice, apply_all, ranked, crosses}
use Rattle.level.specs.Ranked.{All, IsSet, Sorted, after_message, replaced}
use Rattle.level.specs.Moved.{moved}
use Rattle.level.specs.Kept.{kept_in, held}
use Rattle.level.specs.Kept as kept·
use Rattle.piece.specs.Piece.{k_piece, m_piece}
use Rattle.checksum.specs.Carried.{Carries}
use Rattle.level.specs.declared.Levels.{Levels}
use Rattle.level.proofs.Lengths.{length-ranked, after_message-whole}
use Rattle.level.proofs.Mapping.{shown-crosses}
use Rattle.level.proofs.Meeting.{met-snapshot}
use Rattle.level.proofs.Moving.{moved-few}
use Rattle.side.specs.Applying.{Given}
use Rattle.sides.specs.Worked.{SideAfter, Sound, edits_for, Worked}
use Rattle.layout.specs.Layout.{is_snapshot, printed, unprinted}
use Rattle.layout.specs.declared.Kind.{Kind}
use Rattle.layout.specs.declared.Outline.{Outline}
use Rattle.message.proofs.Entering.{or-none}
use Rattle.message.specs.Meaning.{SidedEdit, sided_edit, Message}
use Rattle.answer.specs.Answers.{answer_number, is_taken}
use Rattle.answer.specs.declared.Answer.{Answer}
use Rattle.answer.specs.declared.Answer.TheVariants.{Taken, PriceTwice, NoSnapshot, OldNumber, TooManyLevels, WrongChecksum, Crossed}
use Rattle.reference.specs.Reference.{live, is_live, Sides, Reference, After, edits_for as edits_of, after_edits, sides_after, levels_moved, prices_of, checksum_of, names_price_twice, lacks_snapshot, is_old, has_too_many, has_crossed, differs, has_wrong_checksum, one_more, taken, taken_by, refused_by, receive}
use Rattle.book.specs.Shown.{shows, text_of, Received}
use Rattle.book.specs.Taking.{entries_of, message_in, Passed, after_in, side_before, refused_step, kept_step, Judged, judged_checksum, weighed}
use Rattle.book.specs.declared.Book.{Book}
use Rattle.book.specs.declared.Step.{Step}
use Rattle.book.proofs.Refusing.{refused-told, told-as, nine, ten, eleven, twelve, sixteen, thirteen, none-fits, snapshot-not-old, snapshot-lacks-none, update-names-once, update-lacks, update-old}

-- ---- a side after entries, cut or not

module _ (cuts : Bool) (depth levels : ℕ) (whole : cuts ≡ false → depth ≡ levels) (side : Side) (es : List (Edit PriceLevel)) (base : List PriceLevel) where
  abbrev worked : List PriceLevel
  worked = apply_all shown_price es base

  abbrev left : List PriceLevel
  left = cond cuts (take depth (ranked shown_price side worked)) (ranked shown_price side worked)

  pub after_is : (cuts ≡ false → length worked ≤ levels) → after_message shown_price side depth es base ≡ left
  unfolding after_message
  after_is few = at cuts whole few
    where
      at : (t : Bool) → (t ≡ false → depth ≡ levels) → (t ≡ false → length worked ≤ levels)
          → take depth (ranked shown_price side worked) ≡ cond t (take depth (ranked shown_price side worked)) (ranked shown_price side worked)
      at true w f = refl
      at false w f = let a = w refl in let b = f refl in after_message-whole shown_price side depth es base (omega arith)

  -- more levels are left than may stand, exactly where none is cut and more stood
  pub left_over : depth ≤ levels → ltb levels (length left) ≡ (not cuts && ltb levels (length worked))
  left_over most = at cuts
    where
      at : (t : Bool) → ltb levels (length (cond t (take depth (ranked shown_price side worked)) (ranked shown_price side worked))) ≡ (not t && ltb levels (length worked))
      at true = let n = length-take depth (ranked shown_price side worked) in le-ltb levels (length (take depth (ranked shown_price side worked))) (omega arith)
      at false = ap (ltb levels) (length-ranked shown_price side worked)

after-few : (side : Side) (depth : ℕ) (es : List (Edit PriceLevel)) (base : List PriceLevel) → length (after_message shown_price side depth es base) ≤ depth
unfolding after_message
after-few side depth es base = let n = length-take depth (ranked shown_price side (apply_all shown_price es base)) in omega arith

-- both sides, where none is cut
not-each : (t a b : Bool) → ((not t && a) || (not t && b)) ≡ (not t && (a || b))
not-each true a b = refl
not-each false a b = refl

-- ---- the prices of a snapshot

one_set : (e : Numbers) → is_zero e.size ≡ false → IsSet (edit_of e)
unfolding edit_of IsSet
one_set e h = at (is_zero e.size) h
  where
    at : (t : Bool) → t ≡ false → IsSet {A = PriceLevel} (cond t (removes e.price) (sets (record { price = e.price; size = e.size })))
    at true g = absurd (true≢false g)
    at false g = tt

sets-all : (side : Side) (es : List Numbers) → All (λ e. is_zero e.size ≡ false) es → All IsSet (edits_for side es)
unfolding edits_for for_side All
sets-all side [] h = tt
sets-all side (e ∷ es) h = at (is_same e.side side) (sets-all side es h.1)
  where
    at : (b : Bool) → All IsSet (edits_for side es) → All IsSet (map edit_of (cond b (e ∷ for_side side_of side es) (for_side side_of side es)))
    at true g = (one_set e h.0, g)
    at false g = g

sided-edits : (side : Side) (es : List Numbers) → map (λ (e : SidedEdit). e.edit) (for_side (λ (e : SidedEdit). e.side) side (map sided_edit es)) ≡ map edit_of (for_side side_of side es)
unfolding for_side sided_edit
sided-edits side [] = refl
sided-edits side (e ∷ es) = at (is_same e.side side) (sided-edits side es)
  where
    at : (b : Bool) → map (λ (e : SidedEdit). e.edit) (for_side (λ (e : SidedEdit). e.side) side (map sided_edit es)) ≡ map edit_of (for_side side_of side es)
        → map (λ (x : SidedEdit). x.edit) (cond b (sided_edit e ∷ for_side (λ (x : SidedEdit). x.side) side (map sided_edit es)) (for_side (λ (x : SidedEdit). x.side) side (map sided_edit es)))
        ≡ map edit_of (cond b (e ∷ for_side side_of side es) (for_side side_of side es))
    at true h = ap (λ (x : List (Edit PriceLevel)). edit_of e ∷ x) h
    at false h = h

-- the edits of a message for one side are those of its entries
edits-are : (side : Side) (o : Outline) (buffer : List ℕ) → edits_of side (message_in o buffer) ≡ edits_for side (entries_of o buffer)
unfolding edits_of edits_for
edits-are side o buffer = sided-edits side (entries_of o buffer)

-- an update that passes checks 10 and 11 comes to a live book, and is not old
update-passed : (state : State) (r : Rules) (n : ℕ) (o : Outline) → is_snapshot o.kind ≡ false → judged_update state r n o ≡ Ok o
    → (is_live (status_of state) ≡ true) × (is_old_by r n o ≡ false)
unfolding judged_update
update-passed state r n o h j = at (is_snapshot o.kind) (is_live (status_of state)) (is_old_by r n o) h j
  where
    at : (t x y : Bool) → t ≡ false → cond t (Ok o) (cond x (cond y (Err OldNumber) (Ok o)) (Err NoSnapshot)) ≡ Ok o → (x ≡ true) × (y ≡ false)
    at true x y g e = absurd (true≢false g)
    at false true true g e = let z : ◌≡◌ {A = ℕ} 0 1 = cc in absurd (omega arith)
    at false true false g e = (refl, refl)
    at false false y g e = let z : ◌≡◌ {A = ℕ} 0 1 = cc in absurd (omega arith)

-- ---- a message that passes

module _ (b : Book) (o : Outline) (buffer : List ℕ) (k : Passed b o buffer) where
  abbrev p : Reference
  p = shows b

  abbrev es : List Numbers
  es = entries_of o buffer

  abbrev m : Message
  m = message_in o buffer

  -- the book after it
  abbrev next : After
  next = after_in b o buffer

  abbrev d : Dialect
  d = b.settings.dialect

  abbrev t : SumText
  t = text_of b

  abbrev terms : Config
  terms = config_of b.settings

  good-terms : good terms ≡ true
  good-terms = k.good.config k.unshut

  pub depth-most : b.settings.depth ≤ 100
  unfolding config_of
  depth-most = (good-depth terms good-terms).0

  abbrev r : Rules
  r = rules_of d

  -- a side that is not cut has room for as many as may stand, and no side has more
  fits : (b.settings.depth ≤ r.levels) × (r.cut ≡ false → b.settings.depth ≡ r.levels)
  unfolding config_of
  fits = good-rules terms good-terms

  o-checksum : (sum : ℕ) → (o.printed && not (eqb o.checksum sum)) ≡ differs m.checksum sum
  unfolding differs
  o-checksum sum = go o.printed
    where
      go : (x : Bool) → (x && not (eqb o.checksum sum)) ≡ differs (cond x (printed o.checksum) unprinted) sum
      go true = refl
      go false = refl

  refuse-as : (a : _) → next ≡ refused_by p a → Received next (refused_step b a)
  refuse-as a e = told-as (refused_step b a) e (refused-told b k.good k.unshut a)

  -- ---- checks 16 and 13, and then the book with these sides
  abbrev finished : Levels → Levels → ℕ → Answer → Step
  finished bids asks n a = cond (is_taken a) (kept_step b o bids asks n) (refused_step b a)

  module _ (bids asks : Levels) (n : ℕ) where
    abbrev both-sides : Sides
    both-sides = record { bids = map shown (held bids); asks = map shown (held asks) }

    pub record Settles : Type 0 where
      pub bids-sound : Sound t Bids bids
      pub asks-sound : Sound t Asks asks
      pub bids-few : length (held bids) ≤ b.settings.depth
      pub asks-few : length (held asks) ≤ b.settings.depth
      pub sides-are : both-sides ≡ sides_after p m
      pub moved-are : n ≡ levels_moved p m
      pub not-twice : names_price_twice m ≡ false
      pub not-lacking : lacks_snapshot p m ≡ false
      pub not-old : is_old p m ≡ false
      pub not-many : has_too_many p m ≡ false

    abbrev wrong : Bool
    wrong = o.printed && not (eqb o.checksum (checksum_of r both-sides))

    -- check 16
    crossed-is : Settles → has_crossed p m ≡ crosses level_price (held bids) (held asks)
    unfolding has_crossed
    crossed-is z = ap (λ (x : Sides). crosses shown_price x.bids x.asks) (sym z.sides-are) ∙ shown-crosses (held bids) (held asks)

    crossed-told : Settles → crosses level_price (held bids) (held asks) ≡ true → Received next (refused_step b Crossed)
    crossed-told z x = refuse-as Crossed (sixteen p m z.not-twice z.not-lacking z.not-old z.not-many (crossed-is z ∙ x))

    settled-told : Settles → crosses level_price (held bids) (held asks) ≡ false → Received next (finished bids asks n (cond wrong WrongChecksum Taken))
    unfolding has_wrong_checksum shows config_of kept_step live_lifecycle taken status_of is_taken answer_number
    settled-told z x = at (has_wrong_checksum p m) refl
      where
        test : (o.printed && not (eqb o.checksum (checksum_of r both-sides))) ≡ has_wrong_checksum p m
        test = o-checksum (checksum_of r both-sides) ∙ ap (λ (x : Sides). differs m.checksum (checksum_of r x)) z.sides-are

        after : Sides → Kind → ℕ → Reference
        after x kind n =
            record {
              config = terms;
              status = live;
              last = record { sides = x; number = n; updates = cond (is_snapshot kind) 0 (one_more b.updates) };
              had_snapshot = is_snapshot kind || b.lifecycle.had_snapshot;
            }

        fresh : Received (taken_by p m) (kept_step b o bids asks n)
        fresh =
            record {
              good = record {
                room = k.good.room;
                short = k.good.short;
                config = λ h. good-terms;
                bids = z.bids-sound;
                asks = z.asks-sound;
                few_bids = z.bids-few;
                few_asks = z.asks-few;
                small = k.small;
              };
              same = ap (λ (x : Sides). after x o.kind o.number) z.sides-are;
              answer = refl;
              moved = z.moved-are;
            }

        at : (t : Bool) → has_wrong_checksum p m ≡ t → Received next (finished bids asks n (cond wrong WrongChecksum Taken))
        at true e = rw (test ∙ e) (refuse-as WrongChecksum (thirteen p m z.not-twice z.not-lacking z.not-old z.not-many (crossed-is z ∙ x) e))
        at false e = rw (test ∙ e) (told-as (kept_step b o bids asks n) (none-fits p m z.not-twice z.not-lacking z.not-old z.not-many (crossed-is z ∙ x) e) fresh)

  -- ---- checks 10 and 11

  update-waits : is_snapshot o.kind ≡ false → is_live p.status ≡ false → Received next (refused_step b NoSnapshot)
  update-waits h x = refuse-as NoSnapshot (ten p m (update-names-once m (h)) (update-lacks p m false (h) x))

  old-is : is_snapshot o.kind ≡ false → is_old p m ≡ (is_old_by r b.number o)
  unfolding shows config_of is_old_by
  old-is h = update-old p m h

  update-is-old : is_snapshot o.kind ≡ false → is_live p.status ≡ true → (is_old_by r b.number o) ≡ true → Received next (refused_step b OldNumber)
  update-is-old h y x = refuse-as OldNumber (eleven p m (update-names-once m (h)) (update-lacks p m true (h) y) (old-is h ∙ x))

  -- .. of a message whose book is this one's
  pub judged-told : (s : List ℕ) → receive p s ≡ next → (v : Result Outline Answer) → v ≡ judged_update b.lifecycle.state r b.number o → Judged b s buffer v
  unfolding judged_update Judged shows status_of
  judged-told s n v e = subst (Judged b s buffer) (sym e) (at (is_snapshot o.kind) refl (is_live (status_of b.lifecycle.state)) refl (is_old_by r b.number o) refl)
    where
      at : (t : Bool) → is_snapshot o.kind ≡ t → (x : Bool) → is_live (status_of b.lifecycle.state) ≡ x → (y : Bool) → (is_old_by r b.number o) ≡ y
          → Judged b s buffer (cond t (Ok o) (cond x (cond y (Err OldNumber) (Ok o)) (Err NoSnapshot)))
      at true h x f y g = (record { passed = k; updates = sym (judged-snapshot b.lifecycle.state r b.number o h) }, n)
      at false h true f true g = told-as (refused_step b OldNumber) n (update-is-old h f g)
      at false h true f false g = (record { passed = k; updates = sym (judged-new b.lifecycle.state r b.number o h f g) }, n)
      at false h false f y g = told-as (refused_step b NoSnapshot) n (update-waits h f)

  -- a message that passes them
  module _ (judged : judged_update b.lifecycle.state r b.number o ≡ Ok o) where
    passed-both : (lacks_snapshot p m ≡ false) × (is_old p m ≡ false)
    unfolding shows
    passed-both = at (is_snapshot o.kind) refl
      where
        at : (t : Bool) → is_snapshot o.kind ≡ t → (lacks_snapshot p m ≡ false) × (is_old p m ≡ false)
        at true h = (snapshot-lacks-none p m (h), snapshot-not-old p m (h))
        at false h =
            let w = update-passed b.lifecycle.state r b.number o h judged in
            (update-lacks p m true (h) w.0, old-is h ∙ w.1)

  -- ---- the sides that entries are applied to

  before-shown : (kept : Levels) → map shown (held (side_before o kept)) ≡ cond (is_snapshot m.kind) [] (map shown (held kept))
  unfolding held
  before-shown kept = at (is_snapshot o.kind)
    where
      at : (t : Bool) → map shown (held (kept_in kept.words (cond t 0 kept.count))) ≡ cond t [] (map shown (held kept))
      at true = refl
      at false = refl

  pub before-asked : (side : Side) (kept : Levels) → Sound t side kept → length (held kept) ≤ b.settings.depth
      → Sound t side (side_before o kept) × (length (held (side_before o kept)) ≤ b.settings.depth)
  unfolding held All Sorted
  before-asked side kept z n = at (is_snapshot o.kind)
    where
      at : (x : Bool) → Sound t side (kept_in kept.words (cond x 0 kept.count)) × (length (held (kept_in kept.words (cond x 0 kept.count))) ≤ b.settings.depth)
      at true = (record { good = record { few = omega arith; room = z.good.room; sorted = tt; within = tt }; carried = tt; sized = tt }, omega arith)
      at false = (z, n)

  -- ---- what `apply_entries` requires and gives, x being the text that the code has of the rules, and n the count of a side before the entries

  module _ (x : SumText) (is : x ≡ t) (side : Side) (kept : Levels) (n : ℕ) (counts : n ≡ cond (is_snapshot o.kind) 0 kept.count) where
    pub asked-as : (own : ℕ) → Given side buffer (o.bids + o.asks) → own ≡ length (for_side side_of side es) → Sound t side kept → length (held kept) ≤ b.settings.depth
        → Sound x side (kept_in kept.words n) × Given side buffer (o.bids + o.asks) × (own ≡ length (for_side side_of side es)) × (b.settings.depth ≤ 100) × (length (held (kept_in kept.words n)) ≤ b.settings.depth)
    asked-as own g e z f = let y = before-asked side kept z f in rw (is, counts) (y.0, g, e, depth-most, y.1)

    pub worked-as : (a : SideAfter) → Worked x side b.settings.depth (edits_for side es) (kept_in kept.words n) a
        → Worked t side b.settings.depth (edits_for side es) (side_before o kept) a
    worked-as a w = rw (is, counts) at w

  -- ---- a side with the message's entries applied to it is the side after the message

  module _ (side : Side) (kept : Levels) (a : SideAfter) (w : Worked t side b.settings.depth (edits_for side es) (side_before o kept) a) where
    abbrev edits : List (Edit PriceLevel)
    edits = edits_of side m

    same-edits : edits_for side es ≡ edits
    same-edits = sym (edits-are side o buffer)

    abbrev base : List PriceLevel
    base = cond (is_snapshot m.kind) [] (map shown (held kept))

    levels-are : map shown (held a.levels) ≡ after_message shown_price side b.settings.depth edits base
    levels-are = w.levels ∙ ap₂ (λ (x : List (Edit PriceLevel)) (y : List PriceLevel). after_message shown_price side b.settings.depth x y) same-edits (before-shown kept)

    count-is : a.count ≡ length (apply_all shown_price edits base)
    count-is = w.count ∙ ap₂ (λ (x : List (Edit PriceLevel)) (y : List PriceLevel). length (apply_all shown_price x y)) same-edits (before-shown kept)

    moved-is : a.moved ≡ moved shown_price side edits base
    moved-is = w.moved ∙ ap₂ (λ (x : List (Edit PriceLevel)) (y : List PriceLevel). moved shown_price side x y) same-edits (before-shown kept)

    pub moved-small : Given side buffer (o.bids + o.asks) → Sound t side kept → length (held kept) ≤ b.settings.depth → a.moved ≤ 14950
    unfolding edits_for
    moved-small g z f =
        let x = length-map (for_side side_of side es) edit_of in
        let y = length-map (held (side_before o kept)) shown in
        subst (λ (n : ℕ). n ≤ 14950) (sym w.moved)
        (moved-few shown_price side (edits_for side es) (map shown (held (side_before o kept)))
        (omega (arith, g.own)) (omega (arith, depth-most, (before-asked side kept z f).1)))

    met-is : a.replaced ≡ replaced shown_price edits base
    met-is = w.replaced ∙ ap₂ (λ (x : List (Edit PriceLevel)) (y : List PriceLevel). replaced shown_price x y) same-edits (before-shown kept)

    levels-few : length (held a.levels) ≤ b.settings.depth
    levels-few =
        let x = length-map (held a.levels) shown in
        let y = ap length levels-are in
        let z = after-few side b.settings.depth edits base in
        omega arith

    after_same : (r.cut ≡ false → a.count ≤ r.levels) → map shown (held a.levels) ≡ after_edits terms side edits base
    unfolding after_edits config_of
    after_same f = levels-are ∙ after_is r.cut b.settings.depth r.levels fits.1 side edits base (λ e. let x = f e in let y = count-is in omega arith)

    over-is : ltb r.levels (length (after_edits terms side edits base)) ≡ (not r.cut && ltb r.levels a.count)
    unfolding after_edits config_of
    over-is = left_over r.cut b.settings.depth r.levels fits.1 side edits base fits.0 ∙ ap (λ (x : ℕ). not r.cut && ltb r.levels x) (sym count-is)

    -- in a snapshot some entry met a level exactly if its prices name one twice
    met_twice : is_snapshot m.kind ≡ true → a.replaced ≡ names_twice (prices_of edits)
    met_twice h =
        let f : All IsSet edits = subst (All IsSet) same-edits (sets-all side es (k.sets h)) in
        met-is ∙ ap (λ (x : Bool). replaced shown_price edits (cond x [] (map shown (held kept)))) h ∙ met-snapshot shown_price edits f

  -- ---- the whole of checks 9, 12, 16 and 13

  module _ (judged : judged_update b.lifecycle.state r b.number o ≡ Ok o) (bids asks : SideAfter)
      (wb : Worked t Bids b.settings.depth (edits_for Bids es) (side_before o b.bids) bids)
      (wa : Worked t Asks b.settings.depth (edits_for Asks es) (side_before o b.asks) asks) where
    abbrev over : Bool
    over = ltb r.levels bids.count || ltb r.levels asks.count

    abbrev found : Answer
    found = weighed o d (bids.replaced || asks.replaced) over bids.levels asks.levels

    -- check 9
    twice-is : names_price_twice m ≡ (is_snapshot o.kind && (bids.replaced || asks.replaced))
    unfolding names_price_twice
    twice-is = at (is_snapshot o.kind) refl
      where
        at : (x : Bool) → is_snapshot o.kind ≡ x → (x && (names_twice (prices_of (edits_of Bids m)) || names_twice (prices_of (edits_of Asks m)))) ≡ (x && (bids.replaced || asks.replaced))
        at true h = sym (ap₂ (λ (x y : Bool). x || y) (met_twice Bids b.bids bids wb h) (met_twice Asks b.asks asks wa h))
        at false h = refl

    -- check 12
    many_is : has_too_many p m ≡ (not r.cut && over)
    unfolding has_too_many sides_after shows config_of
    many_is =
        ap₂ (λ (x y : Bool). x || y) (over-is Bids b.bids bids wb) (over-is Asks b.asks asks wa)
        ∙ not-each r.cut (ltb r.levels bids.count) (ltb r.levels asks.count)

    abbrev moves : ℕ
    moves = bids.moved + asks.moved

    settles : (is_snapshot o.kind && (bids.replaced || asks.replaced)) ≡ false → (not r.cut && over) ≡ false → Settles bids.levels asks.levels moves
    unfolding sides_after levels_moved shows config_of
    settles x y =
        record {
          bids-sound = wb.sound;
          asks-sound = wa.sound;
          bids-few = levels-few Bids b.bids bids wb;
          asks-few = levels-few Asks b.asks asks wa;
          sides-are = ap₂ (λ (u v : List PriceLevel). record { bids = u; asks = v })
              (after_same Bids b.bids bids wb (λ e. (within r.cut e y).0))
              (after_same Asks b.asks asks wa (λ e. (within r.cut e y).1));
          moved-are = ap₂ (λ (u v : ℕ). u + v) (moved-is Bids b.bids bids wb) (moved-is Asks b.asks asks wa);
          not-twice = twice-is ∙ x;
          not-lacking = (passed-both judged).0;
          not-old = (passed-both judged).1;
          not-many = many_is ∙ y;
        }
      where
        within : (t : Bool) → t ≡ false → (not t && over) ≡ false → (bids.count ≤ r.levels) × (asks.count ≤ r.levels)
        within true e f = absurd (true≢false e)
        within false e f =
            let g = or-none (ltb r.levels bids.count) (ltb r.levels asks.count) f in
            (ltb-false r.levels bids.count g.0, ltb-false r.levels asks.count g.1)

    weighed-told : Received next (finished bids.levels asks.levels moves found)
    unfolding weighed judged_sides judged_checksum is_taken answer_number
    weighed-told = at (is_snapshot o.kind && (bids.replaced || asks.replaced)) refl (not r.cut && over) refl (crosses level_price (held bids.levels) (held asks.levels)) refl
      where
        first : Bool → Bool → Bool → Answer
        first x y z = cond x PriceTwice (cond y TooManyLevels (cond z Crossed Taken))

        at : (x : Bool) → (is_snapshot o.kind && (bids.replaced || asks.replaced)) ≡ x → (y : Bool) → (not r.cut && over) ≡ y → (z : Bool) → crosses level_price (held bids.levels) (held asks.levels) ≡ z
            → Received next (finished bids.levels asks.levels moves (cond (is_taken (first x y z)) (cond (wrong bids.levels asks.levels moves) WrongChecksum Taken) (first x y z)))
        at true e y f z g = refuse-as PriceTwice (nine p m (twice-is ∙ e))
        at false e true f z g = refuse-as TooManyLevels (twelve p m (twice-is ∙ e) (passed-both judged).0 (passed-both judged).1 (many_is ∙ f))
        at false e false f true g = crossed-told bids.levels asks.levels moves (settles e f) g
        at false e false f false g = settled-told bids.levels asks.levels moves (settles e f) g

    -- the same for an answer that the code found
    module _ (a : Answer) (e : a ≡ found) where
      step-told : Received next (finished bids.levels asks.levels moves a)
      step-told = subst (λ (y : Answer). Received next (finished bids.levels asks.levels moves y)) (sym e) weighed-told

      pub kept-told : is_taken a ≡ true → Received next (record { book = (kept_step b o bids.levels asks.levels moves).book; answer = a; moved = moves })
      unfolding kept_step
      kept-told h =
          let x : Received next (kept_step b o bids.levels asks.levels moves) = subst (λ (t : Bool). Received next (cond t (kept_step b o bids.levels asks.levels moves) (refused_step b a))) h step-told in
          record { good = x.good; same = x.same; answer = taken-answer a h ∙ x.answer; moved = x.moved }

      pub left-told : is_taken a ≡ false → Received next (refused_step b a)
      left-told h = subst (λ (t : Bool). Received next (cond t (kept_step b o bids.levels asks.levels moves) (refused_step b a))) h step-told

-- ---- checksums

pub k-sums : (t : SumText) (bids asks : Levels) → t ≡ Stripped → Sound t Bids bids → Sound t Asks asks
    → kept·.Good Bids bids × kept·.Good Asks asks × All (Carries k_piece) (held bids) × All (Carries k_piece) (held asks)
k-sums t bids asks e x y =
    let x' : Sound Stripped Bids bids = subst (λ (z : SumText). Sound z Bids bids) e x in
    let y' : Sound Stripped Asks asks = subst (λ (z : SumText). Sound z Asks asks) e y in
    (x'.good, y'.good, x'.carried, y'.carried)

pub m-sums : (t : SumText) (bids asks : Levels) → t ≡ Interleaved → Sound t Bids bids → Sound t Asks asks
    → kept·.Good Bids bids × kept·.Good Asks asks × All (Carries m_piece) (held bids) × All (Carries m_piece) (held asks)
m-sums t bids asks e x y =
    let x' : Sound Interleaved Bids bids = subst (λ (z : SumText). Sound z Bids bids) e x in
    let y' : Sound Interleaved Asks asks = subst (λ (z : SumText). Sound z Asks asks) e y in
    (x'.good, y'.good, x'.carried, y'.carried)
