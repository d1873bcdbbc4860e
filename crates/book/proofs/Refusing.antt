-- Refusals, and the chain of checks 9 to 13 and 16, one test at a time.
-- Assumes nothing.
use Rattle.std.specs.Prelude.{Some, Err, Ok, Result}
use mathlib.Core.Path.{◌≡◌, refl, sym, ap, ◌∙◌, subst}
use mathlib.Core.List.{List, map}
use mathlib.Core.Bool.{Bool, true, false, ◌&&◌, ◌||◌, not, cond}
use Prim.Native.Nat.{ℕ}
use native.Mathlib.Omega.{arith}
use lib.Dec.{eqb, leb}
use Rattle.lifecycle.specs.Lifecycle.{status_of, refused_lifecycle, judged_sides}
use Rattle.settings.specs.declared.Dialect.{Dialect}
use Rattle.layout.specs.Layout.{is_snapshot, Printed, printed, unprinted, Layout}
use Rattle.layout.specs.Scan.{is_printed, sum_of}
use Rattle.answer.specs.Answers.{answer_number, one_of, is_taken, leaves_status}
use Rattle.message.specs.Meaning.{checked, Message, message_of, decoded_of, decode}
use Rattle.message.specs.Verdict.{verdict_of}
use Rattle.answer.specs.declared.Answer.{Answer}
use Rattle.answer.specs.declared.Answer.TheVariants.{Taken, Shut, PriceTwice, NoSnapshot, OldNumber, TooManyLevels, WrongChecksum, Crossed}
use Rattle.layout.specs.declared.Outline.{Outline}
use Rattle.layout.specs.Scan.{outline_of}
use Rattle.reference.specs.Reference.{waiting, is_shut, is_live, Reference, rules, checksum_of, names_price_twice, lacks_snapshot, is_old, has_too_many, has_crossed, differs, has_wrong_checksum, verdict, After, taken_by, with_status, refused_by, answered, received, receive}
use Rattle.settings.specs.Rules.{rules_of}
use Rattle.book.specs.Shown.{shows, Good, Received}
use Rattle.book.specs.Taking.{refused_step, judged_checksum, weighed}
use Rattle.lifecycle.specs.declared.State.TheVariants.{Waiting}
use Rattle.level.specs.Words.{level_price, shown}
use Rattle.level.specs.Side.{crosses}
use Rattle.level.specs.Kept.{held}
use Rattle.level.specs.declared.Levels.{Levels}
use borrow.Author.Tests.{eq-eqb, ne_eqb}
use Rattle.book.specs.declared.Book.{Book}
use Rattle.book.specs.declared.Step.{Step}

-- ---- a refusal

module _ (b : Book) (g : Good b) (u : is_shut (status_of b.lifecycle.state) ≡ false) where
  pub refused-told : (a : Answer) → Received (refused_by (shows b) a) (refused_step b a)
  unfolding refused_by refused_step refused_lifecycle with_status shows status_of
  refused-told a = at (leaves_status a)
    where
      at : (t : Bool) → Received (record { book = cond t (shows b) (with_status waiting (shows b)); answer = a; moved = 0 })
          (record {
            book = record { bids = b.bids; asks = b.asks; settings = b.settings; number = b.number; updates = b.updates; lifecycle = record { state = cond t b.lifecycle.state Waiting; had_snapshot = b.lifecycle.had_snapshot } };
            answer = a;
            moved = 0;
          })
      at true = record { good = g; same = refl; answer = refl; moved = refl }
      at false =
          record {
            good = record { room = g.room; short = g.short; config = λ h. g.config u; bids = g.bids; asks = g.asks; few_bids = g.few_bids; few_asks = g.few_asks; small = g.small };
            same = refl;
            answer = refl;
            moved = refl;
          }

-- a book that shows the same answers the same
pub told-as : {x y : After} (r : Step) → x ≡ y → Received y r → Received x r
told-as r h t = subst (λ (z : After). Received z r) (sym h) t

-- ---- what is heard

pub hear-shut : (p : Reference) (s : List ℕ) → is_shut p.status ≡ true → receive p s ≡ record { book = p; answer = Shut; moved = 0 }
unfolding receive
hear-shut p s u = rw (u, receive)

-- a shut book answers so, and stays as it is
pub shut-told : (b : Book) (s : List ℕ) → Good b → is_shut (status_of b.lifecycle.state) ≡ true → Received (receive (shows b) s) (refused_step b Shut)
unfolding shows refused_step refused_lifecycle leaves_status answer_number one_of
shut-told b s g u = told-as (refused_step b Shut) (hear-shut (shows b) s u) (record { good = g; same = refl; answer = refl; moved = refl })

module _ (p : Reference) (s : List ℕ) (u : is_shut p.status ≡ false) where
  pub hear-fails : (a : Answer) → checked p.config s ≡ Err a → receive p s ≡ refused_by p a
  unfolding receive received decode decoded_of
  hear-fails a h = rw (u, h, receive, decode, decoded_of, received)

  pub hear-passes : (l : Layout) → checked p.config s ≡ Ok l → receive p s ≡ answered p (message_of s l) (verdict p (message_of s l))
  unfolding receive received decode decoded_of
  hear-passes l h = rw (u, h, receive, decode, decoded_of, received)

-- from the reader's answer
module _ (s : List ℕ) (x : Result Layout Answer) (v : Result Outline Answer) (h : v ≡ verdict_of s x) where
  pub verdict-fails : (a : Answer) → v ≡ Err a → x ≡ Err a
  unfolding verdict_of
  verdict-fails a g = go x (sym h ∙ g)
    where
      go : (y : Result Layout Answer) → verdict_of s y ≡ Err a → y ≡ Err a
      go (Err b) k = let e : b ≡ a = cc in ap Err e
      go (Ok l) k = let z : ◌≡◌ {A = ℕ} 0 1 = cc in absurd (omega arith)

  pub verdict-passes : (o : Outline) → v ≡ Ok o → (l : Layout) × (x ≡ Ok l) × (o ≡ outline_of s (Some l))
  unfolding verdict_of
  verdict-passes o g = go x (sym h ∙ g)
    where
      go : (y : Result Layout Answer) → verdict_of s y ≡ Ok o → (l : Layout) × (y ≡ Ok l) × (o ≡ outline_of s (Some l))
      go (Err b) k = let z : ◌≡◌ {A = ℕ} 0 1 = cc in absurd (omega arith)
      go (Ok l) k = let e : outline_of s (Some l) ≡ o = cc in (l, refl, sym e)

-- ---- checks 9 to 13 and 16

module _ (p : Reference) (m : Message) where
  abbrev heard : After
  heard = answered p m (verdict p m)

  pub nine : names_price_twice m ≡ true → heard ≡ refused_by p PriceTwice
  unfolding verdict answered is_taken answer_number
  nine a = rw (a, verdict, answered, is_taken, answer_number)

  module _ (a : names_price_twice m ≡ false) where
    pub ten : lacks_snapshot p m ≡ true → heard ≡ refused_by p NoSnapshot
    unfolding verdict answered is_taken answer_number
    ten b = rw (a, b, verdict, answered, is_taken, answer_number)

    module _ (b : lacks_snapshot p m ≡ false) where
      pub eleven : is_old p m ≡ true → heard ≡ refused_by p OldNumber
      unfolding verdict answered is_taken answer_number
      eleven c = rw (a, b, c, verdict, answered, is_taken, answer_number)

      module _ (c : is_old p m ≡ false) where
        pub twelve : has_too_many p m ≡ true → heard ≡ refused_by p TooManyLevels
        unfolding verdict answered is_taken answer_number
        twelve d = rw (a, b, c, d, verdict, answered, is_taken, answer_number)

        module _ (d : has_too_many p m ≡ false) where
          pub sixteen : has_crossed p m ≡ true → heard ≡ refused_by p Crossed
          unfolding verdict answered is_taken answer_number
          sixteen x = rw (a, b, c, d, x, verdict, answered, is_taken, answer_number)

          module _ (x : has_crossed p m ≡ false) where
            pub thirteen : has_wrong_checksum p m ≡ true → heard ≡ refused_by p WrongChecksum
            unfolding verdict answered is_taken answer_number
            thirteen e = rw (a, b, c, d, x, e, verdict, answered, is_taken, answer_number)

            pub none-fits : has_wrong_checksum p m ≡ false → heard ≡ taken_by p m
            unfolding verdict answered is_taken answer_number
            none-fits e = rw (a, b, c, d, x, e, verdict, answered, is_taken, answer_number)

-- ---- a snapshot, and an update

module _ (p : Reference) (m : Message) (h : is_snapshot m.kind ≡ true) where
  pub snapshot-not-old : is_old p m ≡ false
  unfolding is_old
  snapshot-not-old = at (rules p).numbered
    where
      at : (t : Bool) → (t && (not (is_snapshot m.kind) && (leb m.number p.last.number || ((rules p).linked && not (eqb m.previous p.last.number))))) ≡ false
      at true = rw h
      at false = refl

  pub snapshot-lacks-none : lacks_snapshot p m ≡ false
  unfolding lacks_snapshot
  snapshot-lacks-none = rw (h, lacks_snapshot)

pub update-names-once : (m : Message) → is_snapshot m.kind ≡ false → names_price_twice m ≡ false
unfolding names_price_twice
update-names-once m h = rw (h, names_price_twice)

pub update-lacks : (p : Reference) (m : Message) (t : Bool) → is_snapshot m.kind ≡ false → is_live p.status ≡ t → lacks_snapshot p m ≡ not t
unfolding lacks_snapshot
update-lacks p m t h k = rw (h, k, lacks_snapshot)

pub update-old : (p : Reference) (m : Message) → is_snapshot m.kind ≡ false → is_old p m ≡ ((rules p).numbered && (leb m.number p.last.number || ((rules p).linked && not (eqb m.previous p.last.number))))
unfolding is_old
update-old p m h = rw (h, is_old)

-- ---- check 13 in numbers

pub differs-is : (c : Printed) (sum : ℕ) → differs c sum ≡ (is_printed c && not (eqb (sum_of c) sum))
unfolding differs is_printed sum_of
differs-is (printed n) sum = refl
differs-is unprinted sum = refl

module _ (o : Outline) (d : Dialect) (bids asks : Levels) where
  abbrev sum : ℕ
  sum = checksum_of (rules_of d) (record { bids = map shown (held bids); asks = map shown (held asks) })

  pub checksum-unprinted : o.printed ≡ false → Taken ≡ judged_checksum o d bids asks
  unfolding judged_checksum
  checksum-unprinted h = sym (rw (h, judged_checksum))

  pub checksum-right : o.printed ≡ true → o.checksum ≡ sum → Taken ≡ judged_checksum o d bids asks
  unfolding judged_checksum
  checksum-right h g = let e = eq-eqb o.checksum sum g in sym (rw (h, e, judged_checksum))

  pub checksum-wrong : o.printed ≡ true → (o.checksum ≡ sum → ⊥) → WrongChecksum ≡ judged_checksum o d bids asks
  unfolding judged_checksum
  checksum-wrong h g = let e = ne_eqb o.checksum sum g in sym (rw (h, e, judged_checksum))

  -- ---- checks 9, 12, 16 and 13 in numbers

  module _ (replaced over : Bool) where
    -- what is found before check 13
    abbrev pub before-sum : Answer
    before-sum = judged_sides o.kind replaced (not (rules_of d).cut && over) (crosses level_price (held bids) (held asks))

    pub weighed-refused : is_taken before-sum ≡ false → before-sum ≡ weighed o d replaced over bids asks
    unfolding weighed
    weighed-refused h = sym (rw (h, weighed))

    pub weighed-sum : is_taken before-sum ≡ true → judged_checksum o d bids asks ≡ weighed o d replaced over bids asks
    unfolding weighed
    weighed-sum h = sym (rw (h, weighed))
