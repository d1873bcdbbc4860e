-- Lists of calls on a reference book: what every book that is reached has, and which messages made it.
-- Assumes nothing.
use Rattle.std.specs.Prelude.{Err, Ok, Result}
use mathlib.Core.Path.{◌≡◌, refl, sym, ap, ◌∙◌}
use mathlib.Core.List.{List, [], ◌∷◌, ◌++◌}
use mathlib.Core.Bool.{Bool, true, false, true≢false, false≢true, ◌||◌, cond, or-true, or_assoc, or_comm}
use Prim.Native.Nat.{ℕ}
use native.Mathlib.Omega.{arith}
use Rattle.answer.proofs.Laws.{is-taken}
use Rattle.settings.specs.Settings.{Config, kept, good}
use Rattle.settings.specs.declared.Dialect.TheVariants.{K}
use Rattle.answer.specs.Answers.{is_taken, leaves_status}
use Rattle.message.specs.Meaning.{Message, decode}
use Rattle.answer.specs.declared.Answer.{Answer}
use Rattle.answer.specs.declared.Answer.TheVariants.{Taken}
use Rattle.reference.specs.Reference.{Status, shut, waiting, live, is_shut, is_live, Reference, opened, sides_after, levels_moved, taken, After, receive, Reply, Ask, message, question, does, replied, Call, replies_to, final, with_status}
use Rattle.reference.specs.Claims.{Ready, when_live, restarts, Uncrossed, Acceptable, if_answered, taken_in, taken_of, any_snapshot, since_snapshot, Begins, begins, rebuilt}
use Rattle.layout.specs.Layout.{is_snapshot}
use Rattle.layout.specs.declared.Kind.TheVariants.{Snapshot}
use Rattle.reference.proofs.Snapshot.{of-snapshot, of-update, a-snapshot}
use Rattle.reference.proofs.Carried.{said-carries}
use Rattle.reference.proofs.Outcome.{status_after, Outcome, is-refused, is-accepted, outcome, ready-open}

-- ---- a step: the book is as it was but for its status, or a message was taken

pub data Steps (p : Reference) (ask : Ask) : Reference → Type 0 where
  stays : {q : Reference} (status : Status) → is_shut status ≡ is_shut p.status → (is_live status ≡ true → is_live p.status ≡ true)
      → taken_in p ask ≡ [] → q ≡ with_status status p → Steps p ask q
  moves : {q : Reference} (s : List ℕ) (m : Message) → decode p.config s ≡ Ok m → Acceptable p m → taken_in p ask ≡ m ∷ [] → q ≡ taken p m → Steps p ask q

refused-live : (b : Bool) (s : Status) → is_live (cond b s waiting) ≡ true → is_live s ≡ true
unfolding is_live
refused-live true s h = h
refused-live false s h = absurd (false≢true h)

none-taken : (a : Answer) (x : Result Message Answer) → is_taken a ≡ false → if_answered a x ≡ []
unfolding if_answered
none-taken a (Err b) h = refl
none-taken a (Ok m) h = rw h

pub steps : (p : Reference) (ask : Ask) (buffer : List ℕ) → Steps p ask (does p ask buffer).after
unfolding does replied taken_in with_status status_after if_answered is_taken
steps p (message s) buffer = go (outcome p s)
  where
    go : Outcome p s → Steps p (message s) (receive p s).book
    go (is-refused h n k e none) =
        stays (status_after (receive p s).answer p.status) k (refused-live (leaves_status (receive p s).answer) p.status) (none-taken (receive p s).answer (decode p.config s) h) e
    go (is-accepted m q a e) = moves s m q a (rw (e, q, is-taken Taken refl)) (ap (λ (x : After). x.book) e)
steps p (question q) buffer = stays p.status refl (λ h. h) refl refl

-- ---- what every book that is reached has: the settings it was opened with, shut or not as it was opened, live only after a snapshot, not crossed, in K no number

pub record Reached (t : Config) (p : Reference) : Type 0 where
  pub config : p.config ≡ kept t
  pub shut : is_shut p.status ≡ is_shut (opened t).status
  pub had_snapshot : is_live p.status ≡ true → p.had_snapshot ≡ true
  pub uncrossed : Uncrossed p.last.sides
  pub number : (kept t).dialect ≡ K → p.last.number ≡ 0

reached-taken : (t : Config) (p : Reference) (s : List ℕ) (m : Message) → decode p.config s ≡ Ok m → Acceptable p m → Reached t p → Reached t (taken p m)
unfolding taken is_shut is_live
reached-taken t p s m q a r =
    record {
      config = r.config;
      shut = sym (ready-open p m a.ready) ∙ r.shut;
      had_snapshot = λ h. go a.ready;
      uncrossed = a.uncrossed;
      number = λ k. (said-carries p.config s m q).number (rw r.config k);
    }
  where
    go : Ready p m → (is_snapshot m.kind || p.had_snapshot) ≡ true
    go (when_live e) = rw (r.had_snapshot (rw e)) (or-true (is_snapshot m.kind))
    go (restarts e k) = rw (of-snapshot k)

pub reached-step : (t : Config) (p : Reference) (ask : Ask) (q : Reference) → Steps p ask q → Reached t p → Reached t q
unfolding with_status
reached-step t p ask q (stays status k l n e) r = rw e (record { config = r.config; shut = k ∙ r.shut; had_snapshot = λ h. r.had_snapshot (l h); uncrossed = r.uncrossed; number = r.number })
reached-step t p ask q (moves s m d a n e) r = rw e (reached-taken t p s m d a r)

reached-final : (t : Config) (p : Reference) (cs : List Call) → Reached t p → Reached t (final p cs)
unfolding final
reached-final t p [] r = r
reached-final t p (c ∷ cs) r =
    reached-final t (does p c.ask c.buffer).after cs (reached-step t p c.ask (does p c.ask c.buffer).after (steps p c.ask c.buffer) r)

pub opened-waits : (t : Config) → is_live (opened t).status ≡ false
unfolding opened is_live
opened-waits t = at (good t)
  where
    at : (b : Bool) → is_live (cond b waiting shut) ≡ false
    at true = refl
    at false = refl

pub reached-opened : (t : Config) → Reached t (opened t)
unfolding opened
reached-opened t =
    record {
      config = refl;
      shut = refl;
      had_snapshot = λ h. absurd (true≢false (sym h ∙ opened-waits t));
      uncrossed = λ bid ask bids asks e f. let z : ◌≡◌ {A = ℕ} 0 1 = cc in absurd (omega arith);
      number = λ k. refl;
    }

pub reached : (t : Config) (cs : List Call) → Reached t (final (opened t) cs)
reached t cs = reached-final t (opened t) cs (reached-opened t)

-- ---- lists one after another

pub run_append : (p : Reference) (cs ds : List Call) → replies_to p (cs ++ ds) ≡ replies_to p cs ++ replies_to (final p cs) ds
unfolding replies_to final
run_append p [] ds = refl
run_append p (c ∷ cs) ds = ap (λ (rs : List Reply). does p c.ask c.buffer ∷ rs) (run_append (does p c.ask c.buffer).after cs ds)

-- ---- a snapshot makes the same of every book with the same settings

module _ (p q : Reference) (m : Message) (k : m.kind ≡ Snapshot) (h : p.config ≡ q.config) where
  sides-fresh : sides_after p m ≡ sides_after q m
  unfolding sides_after
  sides-fresh = rw (of-snapshot k, h)

  pub taken-fresh : taken p m ≡ taken q m
  unfolding taken
  taken-fresh = rw (sides-fresh, of-snapshot k, h)

  pub moved-fresh : levels_moved p m ≡ levels_moved q m
  unfolding levels_moved
  moved-fresh = rw (of-snapshot k)

  pub acceptable-fresh : Ready q m → Acceptable p m → Acceptable q m
  acceptable-fresh r a =
      record {
        ready = r;
        once = a.once;
        newer = λ e n. absurd (true≢false (sym (of-snapshot k) ∙ of-update n));
        follows = λ e l n. absurd (true≢false (sym (of-snapshot k) ∙ of-update n));
        few = rw (← sides-fresh, ← h) a.few;
        uncrossed = rw (← sides-fresh) a.uncrossed;
        checksum = rw (← sides-fresh, ← h) a.checksum;
      }

-- ---- the messages that made a book

rebuilt-status : (x y : Status) (p : Reference) (ms : List Message) → with_status x (rebuilt (with_status y p) ms) ≡ with_status x (rebuilt p ms)
unfolding with_status rebuilt taken sides_after
rebuilt-status x y p [] = refl
rebuilt-status x y p (m ∷ ms) = refl

rebuilt-step : (x : Status) (p q : Reference) (ask : Ask) (ms : List Message) → Steps p ask q
    → with_status x (rebuilt q ms) ≡ with_status x (rebuilt p (taken_in p ask ++ ms))
unfolding rebuilt
rebuilt-step x p q ask ms (stays status k l n e) = rw (n, e) (rebuilt-status x status p ms)
rebuilt-step x p q ask ms (moves s m d a n e) = rw (n, e)

pub final-rebuilt : (p : Reference) (cs : List Call) → final p cs ≡ with_status (final p cs).status (rebuilt p (taken_of p cs))
unfolding final taken_of rebuilt with_status
final-rebuilt p [] = refl
final-rebuilt p (c ∷ cs) =
    let q : Reference = (does p c.ask c.buffer).after in
    final-rebuilt q cs ∙ rebuilt-step (final q cs).status p q c.ask (taken_of q cs) (steps p c.ask c.buffer)

pub rebuilt-ever : (p : Reference) (ms : List Message) → (rebuilt p ms).had_snapshot ≡ (any_snapshot ms || p.had_snapshot)
unfolding rebuilt any_snapshot taken
rebuilt-ever p [] = refl
rebuilt-ever p (m ∷ ms) = rebuilt-ever (taken p m) ms ∙ sym (or_assoc (any_snapshot ms) (is_snapshot m.kind) p.had_snapshot) ∙ ap (λ (b : Bool). b || p.had_snapshot) (or_comm (any_snapshot ms) (is_snapshot m.kind))

pub since-begins : (ms : List Message) → any_snapshot ms ≡ true → Begins (since_snapshot ms)
unfolding any_snapshot since_snapshot
since-begins [] h = absurd (false≢true h)
since-begins (m ∷ ms) h = go (any_snapshot ms) (is_snapshot m.kind) refl refl h (since-begins ms)
  where
    go : (a b : Bool) → any_snapshot ms ≡ a → is_snapshot m.kind ≡ b → (b || a) ≡ true → (any_snapshot ms ≡ true → Begins (since_snapshot ms))
        → Begins (cond a (since_snapshot ms) (cond b (m ∷ ms) []))
    go true b n k h later = later n
    go false true n k h later = begins m ms (a-snapshot m.kind k) n
    go false false n k h later = absurd (false≢true h)

pub since-rebuilt : (p q : Reference) (ms : List Message) → p.config ≡ q.config → any_snapshot ms ≡ true → rebuilt p ms ≡ rebuilt q (since_snapshot ms)
unfolding any_snapshot since_snapshot rebuilt taken
since-rebuilt p q [] e h = absurd (false≢true h)
since-rebuilt p q (m ∷ ms) e h = go (any_snapshot ms) (is_snapshot m.kind) refl refl h (since-rebuilt (taken p m) q ms e)
  where
    go : (a b : Bool) → any_snapshot ms ≡ a → is_snapshot m.kind ≡ b → (b || a) ≡ true → (any_snapshot ms ≡ true → rebuilt (taken p m) ms ≡ rebuilt q (since_snapshot ms))
        → rebuilt (taken p m) ms ≡ rebuilt q (cond a (since_snapshot ms) (cond b (m ∷ ms) []))
    go true b n k h later = later n
    go false true n k h later = ap (λ (x : Reference). rebuilt x ms) (taken-fresh p q m (a-snapshot m.kind k) e)
    go false false n k h later = absurd (false≢true h)

live-rebuilt : (p : Reference) (ms : List Message) → p.status ≡ live → (rebuilt p ms).status ≡ live
unfolding rebuilt taken
live-rebuilt p [] h = h
live-rebuilt p (m ∷ ms) h = live-rebuilt (taken p m) ms refl

pub begins-live : (p : Reference) (ms : List Message) → Begins ms → (rebuilt p ms).status ≡ live
unfolding rebuilt taken
begins-live p ms (begins m rest k n) = live-rebuilt (taken p m) rest refl
