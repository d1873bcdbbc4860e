-- What a reference book does with a message: it refuses it and keeps all but its status, or takes it, and takes it exactly when it is acceptable.
-- Assumes nothing.
use Rattle.std.specs.Prelude.{None, Option, Some, Err, Ok, Result}
use mathlib.Core.Path.{◌≡◌, refl, sym, ap, ap₂, ◌∙◌}
use mathlib.Core.List.{List, [], ◌∷◌}
use mathlib.Core.Bool.{Bool, true, false, true≢false, false≢true, ◌&&◌, ◌||◌, not, cond}
use Prim.Native.Nat.{ℕ}
use native.Mathlib.Omega.{arith}
use borrow.Author.Tests.{ltb-true, ltb-false, lt-ltb, le-ltb, leb-false, lt-leb, eqb-true, eq-eqb, not-false}
use lib.Dec.{leb, ltb, eqb}
use lib.ListN.{length}
use Rattle.decimal.specs.Decimal.{value}
use Rattle.settings.specs.Settings.{Config}
use Rattle.edit.specs.Edit.{PriceLevel, shown_price}
use Rattle.edit.specs.declared.Side.TheVariants.{Bids, Asks}
use Rattle.level.specs.Side.{names_twice, crosses}
use Rattle.entries.specs.Places.{top}
use Rattle.layout.specs.declared.Kind.TheVariants.{Update}
use Rattle.layout.specs.Layout.{is_snapshot, Printed, printed, unprinted, Layout, Envelope}
use Rattle.answer.specs.Answers.{answer_number, one_of, to_messages, is_taken, leaves_status}
use Rattle.message.specs.Meaning.{Message, decode, envelope_in, checked, decoded_of}
use Rattle.answer.specs.declared.Answer.{Answer}
use Rattle.answer.specs.declared.Answer.TheVariants.{Taken, Shut, PriceTwice, NoSnapshot, OldNumber, TooManyLevels, WrongChecksum, Crossed}
use Rattle.reference.specs.Reference.{Status, shut, waiting, live, is_shut, is_live, Sides, Reference, rules, checksum_of, edits_for, prices_of, names_price_twice, lacks_snapshot, is_old, has_too_many, has_crossed, differs, has_wrong_checksum, sides_after, verdict, with_status, taken_by, refused_by, answered, received, receive}
use Rattle.reference.proofs.Snapshot.{of-snapshot, of-update, a-snapshot, an-update}
use Rattle.reference.proofs.Checks.{Refusals, Read, Either, checked-either}
use Rattle.reference.specs.Claims.{Ready, when_live, restarts, Agrees, carries_none, the_same, Uncrossed, Acceptable}

-- ---- what a message is refused with: checks 2 to 8

-- a refusal that a message can get
refusal : Answer → Bool
refusal a = not (is_taken a) && one_of to_messages (answer_number a)

said-refusal : (t : Config) (s : List ℕ) (a : Answer) → decode t s ≡ Err a → refusal a ≡ true
unfolding decode decoded_of refusal is_taken answer_number one_of
said-refusal t s a h = go (checked t s) (checked-either F (λ l. Unit {0}) every t s (any (envelope_in t.dialect t s (top s)))) h
  where
    F : Answer → Type 0
    F b = refusal b ≡ true

    every : Refusals F
    every = record { long = refl; not-json = refl; not_ours = refl; layout = refl; entries = refl; decimal = refl }

    any-layout : (x : Option Layout) → Read (λ l. Unit {0}) x
    any-layout (Some l) = tt
    any-layout None = tt

    any : (x : Option Envelope) → Read (λ k. Read (λ l. Unit {0}) k.layout) x
    any (Some k) = any-layout k.layout
    any None = tt

    go : (x : Result Layout Answer) → Either F (λ l. Unit {0}) x → decoded_of s x ≡ Err a → refusal a ≡ true
    go (Err b) r g = let e : b ≡ a = cc in rw e at r
    go (Ok l) r g = let z : ◌≡◌ {A = ℕ} 0 1 = cc in absurd (omega arith)

refusal-other : (a : Answer) → refusal a ≡ true → is_taken a ≡ false
unfolding refusal
refusal-other a h = at (is_taken a) h
  where
    at : (b : Bool) → (not b && one_of to_messages (answer_number a)) ≡ true → b ≡ false
    at true h = absurd (false≢true h)
    at false h = refl

refusal-number : (a : Answer) → refusal a ≡ true → one_of to_messages (answer_number a) ≡ true
unfolding refusal
refusal-number a h = rw (refusal-other a h) at h

-- ---- the checks 9 to 13 and 16, each as a test and as a statement

pub or-none : (a b : Bool) → (a || b) ≡ false → (a ≡ false) × (b ≡ false)
or-none true b h = absurd (true≢false h)
or-none false b h = (refl, h)

neither : (a b : Bool) → a ≡ false → b ≡ false → (a || b) ≡ false
neither a b h k = rw (h, k)

-- a test that counts only where a rule holds
where-rule : (a b : Bool) → (a && b) ≡ false → a ≡ true → b ≡ false
where-rule a b h e = rw e at h

only-where : (a b : Bool) → (a ≡ true → b ≡ false) → (a && b) ≡ false
only-where true b h = h refl
only-where false b h = refl

differs_none : (c : Printed) (sum : ℕ) → differs c sum ≡ false → Agrees c sum
unfolding differs
differs_none (printed n) sum h = the_same (ap printed (eqb-true n sum (not-false (eqb n sum) h)))
differs_none unprinted sum h = carries_none refl

agrees-same : (c : Printed) (sum : ℕ) → Agrees c sum → differs c sum ≡ false
unfolding differs
agrees-same c sum (carries_none e) = rw (e, differs)
agrees-same c sum (the_same e) = rw (e, differs, eq-eqb sum sum refl)

crossed-none : (s : Sides) → crosses shown_price s.bids s.asks ≡ false → Uncrossed s
unfolding crosses
crossed-none s h bid ask bids asks e f =
    let n : crosses shown_price (bid ∷ bids) (ask ∷ asks) ≡ false = ap₂ (crosses shown_price) (sym e) (sym f) ∙ h in
    ltb-true (value bid.price) (value ask.price) (not-false (ltb (value bid.price) (value ask.price)) n)

uncrossed-not : (s : Sides) → Uncrossed s → crosses shown_price s.bids s.asks ≡ false
unfolding crosses
uncrossed-not s u = at s.bids s.asks refl refl
  where
    at : (x y : List PriceLevel) → s.bids ≡ x → s.asks ≡ y → crosses shown_price x y ≡ false
    at [] y e f = refl
    at (bid ∷ x) [] e f = refl
    at (bid ∷ x) (ask ∷ y) e f = ap not (lt-ltb (value bid.price) (value ask.price) (u bid ask x y e f))

-- whichever test holds, the first gives the verdict
none-fits : (a b c d x e : Bool)
    → is_taken (cond a PriceTwice (cond b NoSnapshot (cond c OldNumber (cond d TooManyLevels (cond x Crossed (cond e WrongChecksum Taken)))))) ≡ true
    → (a ≡ false) × (b ≡ false) × (c ≡ false) × (d ≡ false) × (x ≡ false) × (e ≡ false)
unfolding is_taken answer_number
none-fits true b c d x e h = absurd (false≢true h)
none-fits false true c d x e h = absurd (false≢true h)
none-fits false false true d x e h = absurd (false≢true h)
none-fits false false false true x e h = absurd (false≢true h)
none-fits false false false false true e h = absurd (false≢true h)
none-fits false false false false false true h = absurd (false≢true h)
none-fits false false false false false false h = (refl, refl, refl, refl, refl, refl)

some_fits : (a b c d x e : Bool)
    → is_taken (cond a PriceTwice (cond b NoSnapshot (cond c OldNumber (cond d TooManyLevels (cond x Crossed (cond e WrongChecksum Taken)))))) ≡ false
    → refusal (cond a PriceTwice (cond b NoSnapshot (cond c OldNumber (cond d TooManyLevels (cond x Crossed (cond e WrongChecksum Taken)))))) ≡ true
unfolding refusal is_taken answer_number one_of
some_fits true b c d x e h = refl
some_fits false true c d x e h = refl
some_fits false false true d x e h = refl
some_fits false false false true x e h = refl
some_fits false false false false true e h = refl
some_fits false false false false false true h = refl
some_fits false false false false false false h = absurd (true≢false h)

module _ (p : Reference) (m : Message) where
  verdict-refusal : is_taken (verdict p m) ≡ false → refusal (verdict p m) ≡ true
  unfolding verdict
  verdict-refusal h = some_fits (names_price_twice m) (lacks_snapshot p m) (is_old p m) (has_too_many p m) (has_crossed p m) (has_wrong_checksum p m) h

  ready-from : is_shut p.status ≡ false → lacks_snapshot p m ≡ false → Ready p m
  unfolding lacks_snapshot is_shut is_live
  ready-from u h = go p.status (is_snapshot m.kind) refl refl u h
    where
      go : (st : Status) (b : Bool) → p.status ≡ st → is_snapshot m.kind ≡ b → is_shut st ≡ false → (not b && not (is_live st)) ≡ false → Ready p m
      go shut b e k u h = absurd (true≢false u)
      go waiting true e k u h = restarts e (a-snapshot m.kind k)
      go waiting false e k u h = absurd (true≢false h)
      go live b e k u h = when_live e

  pub ready-open : Ready p m → is_shut p.status ≡ false
  unfolding is_shut
  ready-open (when_live e) = rw (e, is_shut)
  ready-open (restarts e k) = rw (e, is_shut)

  ready-has : Ready p m → lacks_snapshot p m ≡ false
  unfolding lacks_snapshot is_live
  ready-has (when_live e) = rw (e, lacks_snapshot, is_live) (at (is_snapshot m.kind))
    where
      at : (b : Bool) → (not b && false) ≡ false
      at true = refl
      at false = refl
  ready-has (restarts e k) = rw (of-snapshot k, lacks_snapshot)

  new-update : is_old p m ≡ false → (rules p).numbered ≡ true → m.kind ≡ Update → (leb m.number p.last.number || ((rules p).linked && not (eqb m.previous p.last.number))) ≡ false
  unfolding is_old
  new-update h e k = rw (of-update k) at (where-rule (rules p).numbered _ h e)

  verdict-acceptable : is_shut p.status ≡ false → is_taken (verdict p m) ≡ true → Acceptable p m
  unfolding verdict names_price_twice is_old has_too_many has_crossed has_wrong_checksum
  verdict-acceptable u h =
      let f = none-fits (names_price_twice m) (lacks_snapshot p m) (is_old p m) (has_too_many p m) (has_crossed p m) (has_wrong_checksum p m) h in
      record {
        ready = ready-from u f.1;
        once = λ k. or-none (names_twice (prices_of (edits_for Bids m))) (names_twice (prices_of (edits_for Asks m))) (rw (of-snapshot k) at f.0);
        newer = λ e k. leb-false m.number p.last.number (or-none (leb m.number p.last.number) ((rules p).linked && not (eqb m.previous p.last.number)) (new-update f.2 e k)).0;
        follows = λ e l k. eqb-true m.previous p.last.number (not-false _ (where-rule (rules p).linked (not (eqb m.previous p.last.number)) (or-none (leb m.number p.last.number) ((rules p).linked && not (eqb m.previous p.last.number)) (new-update f.2 e k)).1 l));
        few =
            let o = or-none (ltb (rules p).levels (length (sides_after p m).bids)) (ltb (rules p).levels (length (sides_after p m).asks)) f.3 in
            (ltb-false (rules p).levels (length (sides_after p m).bids) o.0, ltb-false (rules p).levels (length (sides_after p m).asks) o.1);
        uncrossed = crossed-none (sides_after p m) f.4;
        checksum = differs_none m.checksum (checksum_of (rules p) (sides_after p m)) f.5;
      }

  acceptable-once : Acceptable p m → names_price_twice m ≡ false
  unfolding names_price_twice
  acceptable-once a = at (is_snapshot m.kind) refl
    where
      at : (b : Bool) → is_snapshot m.kind ≡ b → (b && (names_twice (prices_of (edits_for Bids m)) || names_twice (prices_of (edits_for Asks m)))) ≡ false
      at true k = let e = a.once (a-snapshot m.kind k) in neither _ _ e.0 e.1
      at false k = refl

  acceptable-newer : Acceptable p m → is_old p m ≡ false
  unfolding is_old
  acceptable-newer a = only-where (rules p).numbered _ (λ e. at (is_snapshot m.kind) refl e)
    where
      at : (b : Bool) → is_snapshot m.kind ≡ b → (rules p).numbered ≡ true
          → (not b && (leb m.number p.last.number || ((rules p).linked && not (eqb m.previous p.last.number)))) ≡ false
      at true k e = refl
      at false k e =
          neither _ _ (lt-leb m.number p.last.number (a.newer e (an-update m.kind k)))
          (only-where (rules p).linked _ (λ l. ap not (eq-eqb m.previous p.last.number (a.follows e l (an-update m.kind k)))))

  acceptable-few : Acceptable p m → has_too_many p m ≡ false
  unfolding has_too_many
  acceptable-few a =
      neither _ _ (le-ltb (rules p).levels (length (sides_after p m).bids) a.few.0) (le-ltb (rules p).levels (length (sides_after p m).asks) a.few.1)

  acceptable-uncrossed : Acceptable p m → has_crossed p m ≡ false
  unfolding has_crossed
  acceptable-uncrossed a = uncrossed-not (sides_after p m) a.uncrossed

  acceptable-verdict : Acceptable p m → verdict p m ≡ Taken
  unfolding verdict has_wrong_checksum
  acceptable-verdict a =
      let h = agrees-same m.checksum (checksum_of (rules p) (sides_after p m)) a.checksum in
      rw (acceptable-once a, ready-has a.ready, acceptable-newer a, acceptable-few a, acceptable-uncrossed a, h)

-- ---- a message is refused or taken

unfoldable pub status_after : Answer → Status → Status
status_after a status = cond (leaves_status a) status waiting

pub data Outcome (p : Reference) (s : List ℕ) : Type 0 where
  is-refused : is_taken (receive p s).answer ≡ false → one_of to_messages (answer_number (receive p s).answer) ≡ true → is_shut (status_after (receive p s).answer p.status) ≡ is_shut p.status
      → (receive p s).book ≡ with_status (status_after (receive p s).answer p.status) p → (receive p s).moved ≡ 0 → Outcome p s
  is-accepted : (m : Message) → decode p.config s ≡ Ok m → Acceptable p m → receive p s ≡ taken_by p m → Outcome p s

refused-book : (p : Reference) (a : Answer) → (refused_by p a).book ≡ with_status (status_after a p.status) p
unfolding refused_by with_status status_after
refused-book p a = at (leaves_status a)
  where
    at : (b : Bool) → cond b p (with_status waiting p) ≡ with_status (cond b p.status waiting) p
    at true = refl
    at false = refl

stays_open : (a : Answer) (status : Status) → is_shut status ≡ false → is_shut (status_after a status) ≡ is_shut status
unfolding status_after is_shut
stays_open a status u = at (leaves_status a)
  where
    at : (b : Bool) → is_shut (cond b status waiting) ≡ is_shut status
    at true = refl
    at false = sym u

module _ (p : Reference) (s : List ℕ) where
  refusing : (a : Answer) → refusal a ≡ true → is_shut (status_after a p.status) ≡ is_shut p.status → receive p s ≡ refused_by p a → Outcome p s
  unfolding refused_by
  refusing a h k e = is-refused (rw e (refusal-other a h)) (rw e (refusal-number a h)) (rw e k) (rw e (refused-book p a)) (rw e)

  pub acceptable-taken : (m : Message) → decode p.config s ≡ Ok m → Acceptable p m → receive p s ≡ taken_by p m
  unfolding receive received answered is_taken answer_number
  acceptable-taken m q a = rw (ready-open p m a.ready, q, receive, received, acceptable-verdict p m a, answered, is_taken, answer_number)

  shut_out : is_shut p.status ≡ true → Outcome p s
  unfolding receive refusal is_taken answer_number one_of refused_by leaves_status status_after
  shut_out u = refusing Shut refl refl (rw (u, receive))

  pub outcome : Outcome p s
  unfolding receive received answered
  outcome = open-or-shut (is_shut p.status) refl
    where
      weighed : (m : Message) → is_shut p.status ≡ false → decode p.config s ≡ Ok m → (b : Bool) → is_taken (verdict p m) ≡ b → Outcome p s
      weighed m u q true h = let a = verdict-acceptable p m u h in is-accepted m q a (acceptable-taken m q a)
      weighed m u q false h = refusing (verdict p m) (verdict-refusal p m h) (stays_open (verdict p m) p.status u) (rw (u, q, receive, received, answered, h))

      by-text : is_shut p.status ≡ false → (x : Result Message Answer) → decode p.config s ≡ x → Outcome p s
      by-text u (Err a) q = refusing a (said-refusal p.config s a q) (stays_open a p.status u) (rw (u, q, receive, received))
      by-text u (Ok m) q = weighed m u q (is_taken (verdict p m)) refl

      open-or-shut : (b : Bool) → is_shut p.status ≡ b → Outcome p s
      open-or-shut true u = shut_out u
      open-or-shut false u = by-text u (decode p.config s) refl
