-- The claims that `specs/Claims` states, under the same names.
-- Assumes nothing.
use Rattle.std.specs.Prelude.{Ok}
use mathlib.Core.Path.{◌≡◌, refl, sym, ap, ap₂, ◌∙◌}
use mathlib.Core.List.{List, [], ◌∷◌, ◌++◌}
use mathlib.Core.Bool.{Bool, true, false, true≢false, cond, or-false}
use Prim.Native.Nat.{ℕ}
use Rattle.settings.specs.Settings.{Config, kept, good}
use Rattle.answer.specs.Answers.{answer_number, one_of, to_messages, to_questions, is_taken, leaves_status}
use Rattle.answer.proofs.Laws.{not_taken, other-answer}
use Rattle.message.specs.Meaning.{Message, decode}
use Rattle.answer.specs.declared.Answer.TheVariants.{Taken}
use Rattle.reference.specs.Reference.{Status, shut, waiting, live, is_shut, is_live, Reference, opened, taken_by, After, amount, receive, Question, how_many, level_at, which_number, how_many_updates, write, zeros, Response, respond, refusal, replied, Reply, Ask, message, question, does, Call, replies_to, final, with_status}
use lib.ListN.{length}
use Rattle.decimal.specs.Buffer.{overlaid}
use Rattle.decimal.proofs.Buffer.{overlaid-none}
use Rattle.layout.specs.Layout.{is_snapshot}
use Rattle.layout.specs.declared.Kind.TheVariants.{Snapshot, Update}
use Rattle.reference.proofs.Snapshot.{of-snapshot, of-update}
use Rattle.reference.proofs.Shutting as shutting·
use Rattle.reference.proofs.Back.{reached-back}
use Rattle.reference.specs.Claims.{RoundTrip, Refused, FirstDemand, SettingsDecide, Ready, when_live, restarts, Acceptable, SecondDemand, AllCompared, call, FromSnapshot, taken_in, taken_of, any_snapshot, since_snapshot, rebuilt, LatestSnapshot, NeverCrossed, KNumber, prices, NoPrice}
use Rattle.reference.proofs.Carried.{said-carries}
use Rattle.reference.proofs.Outcome.{status_after, Outcome, is-refused, is-accepted, outcome, acceptable-taken, ready-open, or-none}
use Rattle.reference.proofs.Questions.{question-one, zeros-again, no_answer, no-snapshot}
use Rattle.reference.proofs.Runs.{Steps, stays, moves, steps, Reached, opened-waits, reached, run_append, taken-fresh, moved-fresh, acceptable-fresh, final-rebuilt, rebuilt-ever, since-begins, since-rebuilt, begins-live}

-- ---- demand 1

module _ (p : Reference) (q : Question) (buffer : List ℕ) where
  of_question : one_of to_questions (answer_number (does p (question q) buffer).answer) ≡ true
  unfolding answer_number one_of
  of_question = question-one (λ a. one_of to_questions (answer_number a) ≡ true) refl refl refl refl refl p q buffer

  -- a refused question leaves the status
  leaves : is_taken (does p (question q) buffer).answer ≡ false → leaves_status (does p (question q) buffer).answer ≡ true
  unfolding one_of is_taken leaves_status answer_number
  leaves = question-one (λ a. is_taken a ≡ false → leaves_status a ≡ true) (λ k. absurd (true≢false k)) (λ k. refl) (λ k. refl) (λ k. refl) (λ k. refl) p q buffer

of_message : (p : Reference) (s buffer : List ℕ) → one_of to_messages (answer_number (does p (message s) buffer).answer) ≡ true
unfolding does answer_number one_of
of_message p s buffer = go (outcome p s)
  where
    go : Outcome p s → one_of to_messages (answer_number (receive p s).answer) ≡ true
    go (is-refused n l k e none) = l
    go (is-accepted m q a e) = rw (e, answer_number, one_of)

all-but-status : (p : Reference) (lent : List ℕ) (r : Reply) → r.after ≡ with_status (status_after r.answer p.status) p → r.value ≡ zeros r.value
    → r.buffer ≡ lent → Refused p lent r
unfolding with_status status_after
all-but-status p lent r e v b = record { config = rw e; status = rw e; last = rw e; had_snapshot = rw e; value = v; buffer = b }

refused : (p : Reference) (ask : Ask) (buffer : List ℕ) → is_taken (does p ask buffer).answer ≡ false → Refused p buffer (does p ask buffer)
unfolding does replied zeros status_after with_status
refused p (message s) buffer h = go (outcome p s)
  where
    go : Outcome p s → Refused p buffer (does p (message s) buffer)
    go (is-refused n l k e none) = all-but-status p buffer (does p (message s) buffer) e (ap amount none) refl
    go (is-accepted m q a e) = absurd (not_taken (receive p s).answer h (ap (λ (x : After). x.answer) e))
refused p (question q) buffer h =
    let r = respond p (length buffer) q in
    let l = leaves p q buffer h in
    all-but-status p buffer (does p (question q) buffer) (rw (l, status_after)) (rw h (sym (zeros-again r.value))) (rw h)

-- a question but for the writer writes nothing
no_text : (p : Reference) (room : ℕ) (q : Question) → (q ≡ write → ⊥) → (respond p room q).text ≡ []
unfolding respond
no_text p room (how_many scope) h = refl
no_text p room (level_at scope side i) h = refl
no_text p room (which_number scope) h = refl
no_text p room (how_many_updates scope) h = refl
no_text p room write h = absurd (h refl)

others_buffer : (p : Reference) (ask : Ask) (buffer : List ℕ) → (ask ≡ question write → ⊥) → (does p ask buffer).buffer ≡ buffer
unfolding does replied
others_buffer p (message s) buffer h = refl
others_buffer p (question q) buffer h = at (is_taken (refusal p r))
  where
    r : Response
    r = respond p (length buffer) q

    at : (b : Bool) → cond b (overlaid buffer 0 r.text) buffer ≡ buffer
    at true = ap (overlaid buffer 0) (no_text p (length buffer) q (λ e. h (ap question e))) ∙ overlaid-none buffer 0
    at false = refl

-- the buffer after a question but for the writer, where it is one that is asked
pub same-buffer : (p : Reference) (q : Question) (buffer : List ℕ) → (q ≡ write → ⊥) → buffer ≡ (does p (question q) buffer).buffer
same-buffer p q buffer h = sym (others_buffer p (question q) buffer (λ e. h (asked-same e)))
  where
    asked-same : {x y : Question} → question x ≡ question y → x ≡ y
    asked-same e = cc

pub demand-1 : FirstDemand
unfolding does replied
demand-1 p buffer =
    record {
      of_message = λ s. of_message p s buffer;
      of_question = λ q. of_question p q buffer;
      refused = λ ask h. refused p ask buffer (other-answer (does p ask buffer).answer h);
      unchanged = λ q. refl;
      others_buffer = λ ask. others_buffer p ask buffer;
    }

pub settings-decide : SettingsDecide
settings-decide = shutting·.settings-decide

-- ---- demand 2

pub demand-2 : SecondDemand
demand-2 p s =
    record {
      only_when = λ h. taken-when h (outcome p s);
      when = λ m q a. ap (λ (x : After). x.answer) (acceptable-taken p s m q a);
      then = λ m q h. ap (λ (x : After). x.book) (taken_then m q h (outcome p s));
      moved = λ m q h. ap (λ (x : After). x.moved) (taken_then m q h (outcome p s));
    }
  where
    taken-when : (receive p s).answer ≡ Taken → Outcome p s → (m : Message) × (decode p.config s ≡ Ok m) × Acceptable p m
    taken-when h (is-refused n l k e none) = absurd (not_taken (receive p s).answer n h)
    taken-when h (is-accepted m q a e) = (m, q, a)

    taken_then : (m : Message) → decode p.config s ≡ Ok m → (receive p s).answer ≡ Taken → Outcome p s → receive p s ≡ taken_by p m
    taken_then m q h (is-refused n l k e none) = absurd (not_taken (receive p s).answer n h)
    taken_then m q h (is-accepted n r a e) = let same : n ≡ m = cc in e ∙ ap (taken_by p) same

pub all-compared : AllCompared
all-compared = said-carries

-- ---- from a taken snapshot on

opened-ready : (t : Config) (m : Message) → is_shut (opened t).status ≡ false → m.kind ≡ Snapshot → Ready (opened t) m
unfolding opened is_shut
opened-ready t m u k = restarts (at (good t) u) k
  where
    at : (b : Bool) → is_shut (cond b waiting shut) ≡ false → cond b waiting shut ≡ waiting
    at true h = refl
    at false h = absurd (true≢false h)

module _ (t : Config) (p : Reference) (r : Reached t p) (s : List ℕ) (m : Message) (q : decode (kept t) s ≡ Ok m) (k : m.kind ≡ Snapshot) where
  hear-new : Acceptable p m → receive p s ≡ receive (opened t) s
  unfolding opened
  hear-new a =
      acceptable-taken p s m (rw r.config q) a
      ∙ ap₂ (λ (b : Reference) (n : ℕ). record { book = b; answer = Taken; moved = n }) (taken-fresh p (opened t) m k r.config) (moved-fresh p (opened t) m k r.config)
      ∙ sym
      (acceptable-taken (opened t) s m q
      (acceptable-fresh p (opened t) m k r.config (opened-ready t m (sym r.shut ∙ ready-open p m a.ready) k) a))

  hear-fresh : (receive p s).answer ≡ Taken → receive p s ≡ receive (opened t) s
  hear-fresh h = go (outcome p s)
    where
      go : Outcome p s → receive p s ≡ receive (opened t) s
      go (is-refused n l o e none) = absurd (not_taken (receive p s).answer n h)
      go (is-accepted n d a e) = let same : n ≡ m = cc (sym r.config) in hear-new (rw same at a)

-- the replies from the snapshot on are a new book's
pub fresh-replies : (t : Config) (cs ds : List Call) (s buffer : List ℕ) (m : Message) → decode (kept t) s ≡ Ok m → m.kind ≡ Snapshot
    → (receive (final (opened t) cs) s).answer ≡ Taken → replies_to (final (opened t) cs) (call (message s) buffer ∷ ds) ≡ replies_to (opened t) (call (message s) buffer ∷ ds)
unfolding replies_to does
fresh-replies t cs ds s buffer m q k h = rw (hear-fresh t (final (opened t) cs) (reached t cs) s m q k h)

pub from-snapshot : FromSnapshot
from-snapshot t cs ds s buffer m q k h =
    run_append (opened t) cs (call (message s) buffer ∷ ds) ∙ ap (λ (x : List Reply). replies_to (opened t) cs ++ x) (fresh-replies t cs ds s buffer m q k h)

-- ---- the latest snapshot

is-live-true : (s : Status) → s ≡ live → is_live s ≡ true
unfolding is_live
is-live-true s h = rw (h, is_live)

module _ (t : Config) (cs : List Call) where
  abbrev made : List Message
  made = taken_of (opened t) cs

  has-snapshot : (final (opened t) cs).had_snapshot ≡ true → any_snapshot made ≡ true
  unfolding opened with_status
  has-snapshot h = sym (or-false (any_snapshot made)) ∙ sym (rebuilt-ever (opened t) made) ∙ sym (ap (λ (p : Reference). p.had_snapshot) (final-rebuilt (opened t) cs)) ∙ h

  last_good : (final (opened t) cs).had_snapshot ≡ true → final (opened t) cs ≡ with_status (final (opened t) cs).status (rebuilt (opened t) (since_snapshot made))
  last_good h =
      final-rebuilt (opened t) cs ∙ ap (with_status (final (opened t) cs).status) (since-rebuilt (opened t) (opened t) made refl (has-snapshot h))

  ever-live : (final (opened t) cs).status ≡ live → (final (opened t) cs).had_snapshot ≡ true
  ever-live h = (reached t cs).had_snapshot (is-live-true (final (opened t) cs).status h)

  with-own : (p : Reference) (s : Status) → s ≡ p.status → with_status s p ≡ p
  unfolding with_status
  with-own p s h = rw h

  current : (final (opened t) cs).status ≡ live → final (opened t) cs ≡ rebuilt (opened t) (since_snapshot made)
  current h =
      let v = ever-live h in
      last_good v ∙ with-own (rebuilt (opened t) (since_snapshot made)) (final (opened t) cs).status
      (h ∙ sym (begins-live (opened t) (since_snapshot made) (since-begins made (has-snapshot v))))

pub latest-snapshot : LatestSnapshot
latest-snapshot t cs =
    record {
      snapshot_first = λ h. since-begins (taken_of (opened t) cs) (has-snapshot t cs h);
      last_good = last_good t cs;
      had_snapshot = ever-live t cs;
      current = current t cs;
    }

pub never-crossed : NeverCrossed
never-crossed t cs = (reached t cs).uncrossed

pub k-number : KNumber
k-number t cs h = (reached t cs).number h

-- ---- no current price

-- a book that is not live takes only a snapshot
needs-snapshot : (p : Reference) (m : Message) → is_live p.status ≡ false → Acceptable p m → m.kind ≡ Snapshot
needs-snapshot p m h a = go a.ready
  where
    go : Ready p m → m.kind ≡ Snapshot
    go (when_live e) = absurd (true≢false (sym (is-live-true p.status e) ∙ h))
    go (restarts e k) = k

no-update : (p : Reference) (s : List ℕ) (m : Message) → is_live p.status ≡ false → decode p.config s ≡ Ok m → m.kind ≡ Update → (receive p s).answer ≡ Taken → ⊥
no-update p s m h q k t = go (outcome p s)
  where
    go : Outcome p s → ⊥
    go (is-refused n b l e none) = not_taken (receive p s).answer n t
    go (is-accepted n d a e) = let same : n ≡ m = cc in true≢false (sym (of-snapshot (needs-snapshot p m h (rw same at a))) ∙ of-update k)

-- and stays so until then
module _ (p q : Reference) (ask : Ask) (ms : List Message) (h : is_live p.status ≡ false) (n : any_snapshot (taken_in p ask ++ ms) ≡ false) where
  still-waits : Steps p ask q → (is_live q.status ≡ false) × (any_snapshot ms ≡ false)
  unfolding with_status any_snapshot
  still-waits (stays status k l t e) = (rw e (dark (is_live status) l), rw t at n)
    where
      dark : (b : Bool) → (b ≡ true → is_live p.status ≡ true) → b ≡ false
      dark true g = absurd (true≢false (sym (g refl) ∙ h))
      dark false g = refl
  still-waits (moves s m d a t e) = absurd (true≢false (sym (of-snapshot (needs-snapshot p m h a)) ∙ (or-none (is_snapshot m.kind) (any_snapshot ms) (rw t at n)).0))

not_live : (p : Reference) (cs : List Call) → is_live p.status ≡ false → any_snapshot (taken_of p cs) ≡ false → prices p cs ≡ []
unfolding prices taken_of
not_live p [] h n = refl
not_live p (c ∷ cs) h n =
    let q : Reference = (does p c.ask c.buffer).after in
    let w = still-waits p q c.ask (taken_of q cs) h n (steps p c.ask c.buffer) in
    rw (no_answer p c.ask c.buffer h) (not_live q cs w.0 w.1)

refusal-waits : (p : Reference) (s : List ℕ) → ((receive p s).answer ≡ Taken → ⊥) → leaves_status (receive p s).answer ≡ false → is_live (receive p s).book.status ≡ false
unfolding with_status status_after is_live
refusal-waits p s h w = go (outcome p s)
  where
    go : Outcome p s → is_live (receive p s).book.status ≡ false
    go (is-refused n l k e none) = rw (e, with_status, status_after, w)
    go (is-accepted m q a e) = absurd (h (ap (λ (x : After). x.answer) e))

pub no-price : NoPrice
no-price =
    record {
      update = no-update;
      not_live = not_live;
      answer = no-snapshot;
      at_first = λ t cs n. not_live (opened t) cs (opened-waits t) n;
      after_refusal = λ p s cs h l n. not_live (receive p s).book cs (refusal-waits p s h l) n;
    }

-- ---- the round trip

pub round_trip : RoundTrip
round_trip = reached-back
