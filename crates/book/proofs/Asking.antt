-- Questions: what a book answers is what the reference book answers.
-- Assumes nothing.
use Rattle.std.specs.Prelude.{None, Some}
use mathlib.Core.Path.{◌≡◌, refl, sym, ap, ap₂, ◌∙◌, subst}
use mathlib.Core.List.{List, [], ◌∷◌, map}
use mathlib.Core.Bool.{Bool, true, false, true≢false, cond}
use Prim.Native.Nat.{ℕ, zero, suc, ◌≤◌, ◌<◌}
use native.Mathlib.Omega.{arith}
use borrow.Author.Tests.{ltb-true, ltb-false, lt-ltb, le-ltb}
use lib.Dec.{ltb, lit<}
use lib.ListN.{length, get_or, length-map}
use Rattle.lifecycle.specs.Lifecycle.{status_of, first_state, answers, refusal_of, counts_of}
use Rattle.level.proofs.Held.{held-length}
use Rattle.decimal.specs.Decimal.{Number, number}
use Rattle.decimal.specs.declared.Decimal.{Decimal}
use Rattle.settings.specs.Settings.{Config, good, good_depth, kept, shut}
use Rattle.settings.specs.Kept.{config_of, Chosen}
use Rattle.settings.specs.declared.Settings.{Settings}
use Rattle.settings.specs.declared.Dialect.{Dialect}
use Rattle.settings.specs.declared.Dialect.TheVariants.{K, M, Unknown}
use Rattle.level.specs.Words.{level_price, level_size, shown}
use Rattle.level.specs.Kept as kept·
use Rattle.level.specs.Kept.{held, Empty}
use Rattle.level.specs.Ranked.{All}
use Rattle.edit.specs.declared.Side.{Side}
use Rattle.edit.specs.declared.Side.TheVariants.{Bids, Asks}
use Rattle.level.specs.declared.Level.{Level}
use Rattle.level.specs.declared.Levels.{Levels}
use Rattle.answer.specs.Answers.{answer_number as number_of, is_taken}
use Rattle.answer.specs.declared.Answer.{Answer}
use Rattle.answer.specs.declared.Answer.TheVariants.{Taken, Shut, NoSnapshot, NoLevel}
use Rattle.decimal.specs.Buffer.{overlaid}
use Rattle.reference.specs.Reference as r·
use Rattle.reference.specs.Reference.{Status, shut as shut', waiting, live, is_shut, Reference, opened, stands, no_level, side_of, Question, how_many, level_at, which_number, how_many_updates, counts, level, amount, zeros, Response, respond, refusal, replied, question, does}
use Rattle.book.specs.Shown.{shows, book_of, Good, Opened, AnswersCounts, AnswersLevel, AnswersAmount}
use Rattle.book.specs.Asking.{told, level_in, WithoutLevel}
use Rattle.reference.specs.declared.Scope.{Scope}
use Rattle.reference.specs.declared.Scope.TheVariants.{Current, LastGood}
use Rattle.lifecycle.specs.declared.State.{State}
use Rattle.lifecycle.specs.declared.Counts.{Counts}
use Rattle.book.specs.declared.Book.{Book}
use Rattle.book.specs.declared.CountsReply.{CountsReply}
use Rattle.book.specs.declared.Header.{Header}
use Rattle.book.specs.declared.LevelReply.{LevelReply}

-- ---- what a question is answered

module _ (p : Reference) (r : Response) where
  pub asked-yes : answers p.status p.had_snapshot r.scope ≡ true → refusal p r ≡ r.lacks
  unfolding answers refusal is_shut stands r·.is_live
  asked-yes h = go p.status refl r.scope refl h
    where
      go : (x : Status) → p.status ≡ x → (y : Scope) → r.scope ≡ y → answers x p.had_snapshot y ≡ true
          → cond (is_shut p.status) Shut (cond (stands r.scope p) r.lacks NoSnapshot) ≡ r.lacks
      go shut' e y f g = absurd (true≢false (sym g))
      go waiting e Current f g = absurd (true≢false (sym g))
      go waiting e LastGood f g = rw (e, f, g)
      go live e Current f g = rw (e, f)
      go live e LastGood f g = rw (e, f, g)

  pub asked-no : answers p.status p.had_snapshot r.scope ≡ false → refusal p r ≡ refusal_of p.status
  unfolding answers refusal is_shut stands r·.is_live refusal_of
  asked-no h = go p.status refl r.scope refl h
    where
      go : (x : Status) → p.status ≡ x → (y : Scope) → r.scope ≡ y → answers x p.had_snapshot y ≡ false
          → cond (is_shut p.status) Shut (cond (stands r.scope p) r.lacks NoSnapshot) ≡ refusal_of p.status
      go shut' e y f g = rw e
      go waiting e Current f g = rw (e, f)
      go waiting e LastGood f g = rw (e, f, g)
      go live e Current f g = absurd (true≢false g)
      go live e LastGood f g = rw (e, f, g)

refusal-refuses : (x : Status) → is_taken (refusal_of x) ≡ false
unfolding is_taken refusal_of number_of
refusal-refuses shut' = refl
refusal-refuses waiting = refl
refusal-refuses live = refl

-- the reply, where the answer is known
module _ (p : Reference) (buffer : List ℕ) (r : Response) (a : Answer) (e : refusal p r ≡ a) where
  pub reply-taken : a ≡ Taken → ((replied p buffer r).value ≡ r.value) × ((replied p buffer r).buffer ≡ overlaid buffer 0 r.text)
  unfolding replied is_taken number_of
  reply-taken h = let y : refusal p r ≡ Taken = e ∙ h in (rw (y, is_taken, number_of), rw (y, is_taken, number_of))

  pub reply-refused : is_taken a ≡ false → ((replied p buffer r).value ≡ zeros r.value) × ((replied p buffer r).buffer ≡ buffer)
  unfolding replied
  reply-refused h = let y : is_taken (refusal p r) ≡ false = ap is_taken e ∙ h in (rw y, rw y)

-- ---- how many

held-count : (levels : Levels) (side : Side) → kept·.Good side levels → levels.count ≡ length (map shown (held levels))
held-count levels side g = sym (length-map (held levels) shown ∙ held-length levels g.few g.room)

module _ (b : Book) (scope : Scope) where
  abbrev p : Reference
  p = shows b

  abbrev yes : Bool
  yes = answers (status_of b.lifecycle.state) b.lifecycle.had_snapshot scope

  -- a question on that scope that lacks nothing, where it is answered and where it is not
  module _ (r : Response) (on : r.scope ≡ scope) where
    yes-taken : yes ≡ true → r.lacks ≡ Taken → (x : List ℕ) → (Taken ≡ refusal p r) × ((replied p x r).value ≡ r.value)
    unfolding shows
    yes-taken h l x =
        let a = asked-yes p r (ap (answers p.status p.had_snapshot) on ∙ h) ∙ l in
        (sym a, (reply-taken p x r Taken a refl).0)

    pub no-refused : yes ≡ false → (a : Answer) → a ≡ refusal_of (status_of b.lifecycle.state) → (x : List ℕ)
        → (a ≡ refusal p r) × ((replied p x r).value ≡ zeros r.value) × ((replied p x r).buffer ≡ x)
    unfolding shows
    no-refused h a e x =
        let n = asked-no p r (ap (answers p.status p.had_snapshot) on ∙ h) in
        let z = reply-refused p x r (refusal_of p.status) n (refusal-refuses p.status) in
        (e ∙ sym n, z.0, z.1)

  pub counts-yes : Good b → yes ≡ true → AnswersCounts b scope (record { book = b; answer = Taken; bids = b.bids.count; asks = b.asks.count })
  unfolding does respond replied side_of shows
  counts-yes g h =
      record {
        book = refl;
        answer = λ x. (yes-taken (respond p (length x) (how_many scope)) refl h refl x).0;
        value = λ x. ap₂ counts (held-count b.bids Bids g.bids.good) (held-count b.asks Asks g.asks.good) ∙ sym (yes-taken (respond p (length x) (how_many scope)) refl h refl x).1;
      }

  pub counts-no : yes ≡ false → (a : Answer) → a ≡ refusal_of (status_of b.lifecycle.state) → AnswersCounts b scope (record { book = b; answer = a; bids = 0; asks = 0 })
  unfolding does respond replied zeros
  counts-no h a e =
      record {
        book = refl;
        answer = λ x. (no-refused (respond p (length x) (how_many scope)) refl h a e x).0;
        value = λ x. sym (no-refused (respond p (length x) (how_many scope)) refl h a e x).1;
      }

  -- ---- the sequence number and the count of updates

  module _ (q : Question) (n : ℕ) (on : (x : List ℕ) → (respond p (length x) q).scope ≡ scope) (value : (x : List ℕ) → (respond p (length x) q).value ≡ amount n) where
    amount-yes : yes ≡ true → ((x : List ℕ) → (respond p (length x) q).lacks ≡ Taken) → AnswersAmount b q (record { book = b; answer = Taken; value = n })
    unfolding does replied
    amount-yes h l =
        record {
          book = refl;
          answer = λ x. (yes-taken (respond p (length x) q) (on x) h (l x) x).0;
          value = λ x. sym ((yes-taken (respond p (length x) q) (on x) h (l x) x).1 ∙ value x);
        }

    amount-no : yes ≡ false → (a : Answer) → a ≡ refusal_of (status_of b.lifecycle.state) → AnswersAmount b q (record { book = b; answer = a; value = 0 })
    unfolding does replied zeros
    amount-no h a e =
        record {
          book = refl;
          answer = λ x. (no-refused (respond p (length x) q) (on x) h a e x).0;
          value = λ x. sym ((no-refused (respond p (length x) q) (on x) h a e x).1 ∙ ap zeros (value x));
        }

  pub number-yes : yes ≡ true → AnswersAmount b (which_number scope) (record { book = b; answer = Taken; value = b.number })
  unfolding respond shows
  number-yes h = amount-yes (which_number scope) b.number (λ x. refl) (λ x. refl) h (λ x. refl)

  pub number-no : yes ≡ false → (a : Answer) → a ≡ refusal_of (status_of b.lifecycle.state) → AnswersAmount b (which_number scope) (record { book = b; answer = a; value = 0 })
  unfolding respond shows
  number-no = amount-no (which_number scope) b.number (λ x. refl) (λ x. refl)

  pub updates-yes : yes ≡ true → AnswersAmount b (how_many_updates scope) (record { book = b; answer = Taken; value = b.updates })
  unfolding respond shows
  updates-yes h = amount-yes (how_many_updates scope) b.updates (λ x. refl) (λ x. refl) h (λ x. refl)

  pub updates-no : yes ≡ false → (a : Answer) → a ≡ refusal_of (status_of b.lifecycle.state) → AnswersAmount b (how_many_updates scope) (record { book = b; answer = a; value = 0 })
  unfolding respond shows
  updates-no = amount-no (how_many_updates scope) b.updates (λ x. refl) (λ x. refl)

  pub number-told : AnswersAmount b (which_number scope) (told b scope b.number)
  unfolding told
  number-told = go yes refl
    where
      go : (t : Bool) → yes ≡ t
          → AnswersAmount b (which_number scope) (cond t (record { book = b; answer = Taken; value = b.number }) (record { book = b; answer = refusal_of (status_of b.lifecycle.state); value = 0 }))
      go true h = number-yes h
      go false h = number-no h _ refl

  pub updates-told : AnswersAmount b (how_many_updates scope) (told b scope b.updates)
  unfolding told
  updates-told = go yes refl
    where
      go : (t : Bool) → yes ≡ t
          → AnswersAmount b (how_many_updates scope) (cond t (record { book = b; answer = Taken; value = b.updates }) (record { book = b; answer = refusal_of (status_of b.lifecycle.state); value = 0 }))
      go true h = updates-yes h
      go false h = updates-no h _ refl

-- a header answers as every good book that has it
pub counts-told : (h : Header) (scope : Scope) (r : Counts) → r ≡ counts_of h.lifecycle scope h.bids h.asks → (bids asks : List ℕ) → Good (book_of bids asks h)
    → AnswersCounts (book_of bids asks h) scope (record { book = book_of bids asks h; answer = r.answer; bids = r.bids; asks = r.asks })
unfolding counts_of
counts-told h scope r e bids asks g = subst (λ (x : Counts). AnswersCounts (book_of bids asks h) scope (replied x)) (sym e) (at (yes (book_of bids asks h) scope) refl)
  where
    replied : Counts → CountsReply
    replied x = record { book = book_of bids asks h; answer = x.answer; bids = x.bids; asks = x.asks }

    at : (t : Bool) → yes (book_of bids asks h) scope ≡ t
        → AnswersCounts (book_of bids asks h) scope (replied (cond t (record { answer = Taken; bids = h.bids; asks = h.asks }) (record { answer = refusal_of (status_of h.lifecycle.state); bids = 0; asks = 0 })))
    at true k = counts-yes (book_of bids asks h) scope g k
    at false k = counts-no (book_of bids asks h) scope k (refusal_of (status_of h.lifecycle.state)) refl

-- ---- a level

here : (i : ℕ) (s : List Level) (l : Level) → kept·.level_at i s ≡ Some l → (ltb i (length (map shown s)) ≡ true) × (get_or (map shown s) i no_level ≡ shown l)
unfolding kept·.level_at
here i [] l h = let z : ◌≡◌ {A = ℕ} 0 1 = cc in absurd (omega arith)
here zero (x ∷ s) l h = let e : x ≡ l = cc in (lt-ltb 0 (suc (length (map shown s))) (omega arith), ap shown e)
here (suc i) (x ∷ s) l h =
    let k = here i s l h in
    let m : i < length (map shown s) = ltb-true i (length (map shown s)) k.0 in
    (lt-ltb (suc i) (suc (length (map shown s))) (omega arith), k.1)

none_here : (i : ℕ) (s : List Level) → kept·.level_at i s ≡ None → ltb i (length (map shown s)) ≡ false
unfolding kept·.level_at
none_here i [] h = le-ltb i 0 (omega arith)
none_here zero (x ∷ s) h = let z : ◌≡◌ {A = ℕ} 0 1 = cc in absurd (omega arith)
none_here (suc i) (x ∷ s) h =
    let m : length (map shown s) ≤ i = ltb-false i (length (map shown s)) (none_here i s h) in
    le-ltb (suc i) (suc (length (map shown s))) (omega arith)

module _ (b : Book) (scope : Scope) (side : Side) (i : ℕ) where
  abbrev q : Reference
  q = shows b

  abbrev open' : Bool
  open' = answers (status_of b.lifecycle.state) b.lifecycle.had_snapshot scope

  abbrev asked : List ℕ → Response
  asked x = respond q (length x) (level_at scope side i)

  in-here : (s : Side) (l : Level) → level_in b s i ≡ Some l → (ltb i (length (side_of s q)) ≡ true) × (get_or (side_of s q) i no_level ≡ shown l)
  unfolding level_in side_of shows
  in-here Bids l h = here i (held b.bids) l h
  in-here Asks l h = here i (held b.asks) l h

  in-none : (s : Side) → level_in b s i ≡ None → ltb i (length (side_of s q)) ≡ false
  unfolding level_in side_of shows
  in-none Bids h = none_here i (held b.bids) h
  in-none Asks h = none_here i (held b.asks) h

  -- the answer, by whether the level is there
  answered : open' ≡ true → (t : Bool) → ltb i (length (side_of side q)) ≡ t → (x : List ℕ) → refusal q (asked x) ≡ cond t Taken NoLevel
  unfolding respond shows
  answered h t e x = asked-yes q (asked x) h ∙ ap (λ (y : Bool). cond y Taken NoLevel) e

  pub level-here : open' ≡ true → (l : Level) → level_in b side i ≡ Some l → (price size : Decimal) → number price ≡ level_price l → number size ≡ level_size l
      → AnswersLevel b scope side i (record { book = b; answer = Taken; price = price; size = size })
  unfolding does respond replied shown
  level-here h l e price size x z =
      let w = in-here side l e in
      record {
        book = refl;
        answer = λ y. sym (answered h true w.0 y);
        value = λ y. ap level (ap₂ (λ (u v : Number). record { price = u; size = v }) x z ∙ sym w.1) ∙ sym (reply-taken q y (asked y) Taken (answered h true w.0 y) refl).0;
      }

  no-level : {a : Answer} {r : LevelReply} → WithoutLevel b a r → record { price = number r.price; size = number r.size } ≡ no_level
  no-level w = ap₂ (λ (u v : Number). record { price = u; size = v }) w.price w.size

  pub level-none : open' ≡ true → level_in b side i ≡ None → {r : LevelReply} → WithoutLevel b NoLevel r → AnswersLevel b scope side i r
  unfolding does respond replied zeros is_taken number_of
  level-none h e w =
      let n = in-none side e in
      record {
        book = w.book;
        answer = λ y. w.answer ∙ sym (answered h false n y);
        value = λ y. ap level (no-level w) ∙ sym (reply-refused q y (asked y) NoLevel (answered h false n y) refl).0;
      }

  pub level-no : open' ≡ false → (a : Answer) → a ≡ refusal_of (status_of b.lifecycle.state) → {r : LevelReply} → WithoutLevel b a r → AnswersLevel b scope side i r
  unfolding does respond replied zeros
  level-no h a e w =
      record {
        book = w.book;
        answer = λ y. w.answer ∙ (no-refused b scope (asked y) refl h a e y).0;
        value = λ y. ap level (no-level w) ∙ sym (no-refused b scope (asked y) refl h a e y).1;
      }

-- ---- opening

good-first : (t : Config) → good t ≡ true → is_shut (status_of (first_state t.dialect)) ≡ false
unfolding good good_depth first_state status_of is_shut
good-first t h = go t.dialect refl
  where
    go : (d : Dialect) → t.dialect ≡ d → is_shut (status_of (first_state d)) ≡ false
    go K e = refl
    go (M v) e = refl
    go Unknown e = absurd (true≢false (sym h ∙ rw e))

-- the state by the settings that are kept
first-status : (t : Config) → status_of (first_state (kept t).dialect) ≡ cond (good t) waiting shut'
unfolding kept first_state status_of is_shut
first-status t = at (good t) refl
  where
    live-not : (d : Dialect) → is_shut (status_of (first_state d)) ≡ false → status_of (first_state d) ≡ waiting
    live-not K h = refl
    live-not (M v) h = refl
    live-not Unknown h = absurd (true≢false h)

    at : (b : Bool) → good t ≡ b → status_of (first_state (cond b t shut).dialect) ≡ cond b waiting shut'
    at true h = live-not t.dialect (good-first t h)
    at false h = refl

kept-good : (t : Config) → is_shut (status_of (first_state (kept t).dialect)) ≡ false → good (kept t) ≡ true
unfolding kept first_state status_of is_shut
kept-good t h = at (good t) refl h
  where
    at : (b : Bool) → good t ≡ b → is_shut (status_of (first_state (cond b t shut).dialect)) ≡ false → good (cond b t shut) ≡ true
    at true e g = e
    at false e g = absurd (true≢false g)

module _ (t : Config) (c : Settings) (h : Chosen t c) (none : Levels) (e : Empty none) (state : State) (f : state ≡ first_state c.dialect) where
  abbrev b : Book
  b = record { bids = none; asks = none; settings = c; number = 0; updates = 0; lifecycle = record { state = state; had_snapshot = false } }

  dialect-kept : c.dialect ≡ (kept t).dialect
  unfolding config_of
  dialect-kept = ap (λ (x : Config). x.dialect) h.config

  status-is : status_of state ≡ cond (good t) waiting shut'
  status-is = ap status_of (f ∙ ap first_state dialect-kept) ∙ first-status t

  nothing : (P : Level → Type 0) → All P (held none)
  unfolding All
  nothing P = rw e.none tt

  length_none : length (held none) ≡ 0
  length_none = ap length e.none

  pub opened-told : Opened t b
  unfolding shows opened
  opened-told =
      record {
        good = record {
          room = h.room;
          short = h.short;
          config = λ u. subst (λ (x : Config). good x ≡ true) (sym h.config) (kept-good t (subst (λ (x : State). is_shut (status_of x) ≡ false) (f ∙ ap first_state dialect-kept) u));
          bids = record { good = e.bids; carried = nothing _; sized = nothing _ };
          asks = record { good = e.asks; carried = nothing _; sized = nothing _ };
          few_bids = let n = length_none in omega arith;
          few_asks = let n = length_none in omega arith;
          small = lit< tt;
        };
        same = rw (h.config, status-is, e.none);
      }
