-- A feed that comes in blocks: what was read so far stays accounted for, as blocks come, lines are answered and a line is carried over. Assumes nothing.
use Prim.Native.Nat.{ℕ, suc, ◌+◌, ◌-◌, ◌≤◌, ◌<◌, min, zero-le}
use mathlib.Core.Path.{◌≡◌, refl, sym, ap, ◌∙◌, subst}
use mathlib.Core.Bool.{Bool, true, false}
use mathlib.Core.List.{List, [], ◌∷◌, ◌++◌, append-nil}
use native.Mathlib.Decide.{dec_lt}
use native.Mathlib.Nat.{zero-add}
use native.Mathlib.Omega.{arith}
use borrow.Author.Tests.{lt-ltb, le-ltb}
use lib.ListN.{length, take, drop, set, length-take, length-drop}
use lib.Seq.{length-take-le, take-add, take-take, drop-drop, drop_at, paste, take-paste, drop-paste, take_all, set_split, drop-set-add, take-set-le}
use Rattle.lines.specs.Lines.{bytes_before, line_end, complete, unfinished, last_line, lines_of}
use Rattle.lines.proofs.Split.{none-complete, none-unfinished, next-complete, next-unfinished, no_more}
use Rattle.lines.proofs.Blocks.{Unended, unended-take, unfinished-unended, none-unended, complete-split, unfinished-split, ended-complete, cut_again, same-last, same-complete, same-unfinished}
use Rattle.line_text.specs.Opening.{line_one}
use Rattle.reference.specs.Reference.{Reference, opened}
use Rattle.book.specs.Shown.{Good, shows, Opened}
use Rattle.book.specs.declared.Book.{Book}
use Rattle.feed.specs.declared.Stream.{Stream}
use Rattle.feed.specs.declared.Answered.{Answered}
use Rattle.feed.specs.Feed.{session, output, carried, max_reply, processing}
use Rattle.feed.specs.Stream.{State, line_one_awaited, book_open, Transcript, extend, after, begun, SoFar, FeedProgress, answering, last_lines, state_of, transcript_of, Holds, pending_of, AnsweredBlock, Finished, AnsweredLines}
use Rattle.feed.proofs.Blocks.{same_after, after-append, after-session}

-- ---- a block more

module _ {text pending : List ℕ} {t : Transcript} (s : SoFar text t pending) (block : List ℕ) where
  pub read_more : SoFar (text ++ block) t (pending ++ block)
  read_more =
      record {
        lines = ap (after t) (complete-split pending block)
            ∙ after-append t (complete pending) (complete (unfinished pending ++ block))
            ∙ ap (λ (x : Transcript). after x (complete (unfinished pending ++ block))) s.lines
            ∙ same_after (after begun (complete text)) (complete (unfinished pending ++ block)) (complete (unfinished text ++ block))
            (same-complete 32768 (unfinished pending) (unfinished text) s.rest block (unfinished-unended pending) (unfinished-unended text))
            ∙ sym (after-append begun (complete text) (complete (unfinished text ++ block)))
            ∙ ap (after begun) (sym (complete-split text block));
        rest = ap (take carried) (unfinished-split pending block)
            ∙ same-unfinished 32768 (unfinished pending) (unfinished text) s.rest block (unfinished-unended pending) (unfinished-unended text)
            ∙ sym (ap (take carried) (unfinished-split text block));
      }

-- ---- no line is left

module _ {text pending : List ℕ} {t : Transcript} (s : SoFar text t pending) (none : complete pending ≡ []) where
  unended : Unended pending
  unended = none-unended pending none

  pub carried_over : SoFar text t (take carried pending)
  carried_over =
      let u : Unended (take carried pending) = unended-take carried pending unended in
      record {
        lines = ap (after t) (none-complete (take carried pending) u ∙ sym none) ∙ s.lines;
        rest = ap (take carried) (none-unfinished (take carried pending) u) ∙ cut_again 32768 pending ∙ sym (ap (take carried) (none-unfinished pending unended)) ∙ s.rest;
      }

  stands : t ≡ after begun (complete text)
  unfolding after
  stands = ap (after t) (sym none) ∙ s.lines

  pub all_said : t.replies ≡ session (complete text)
  all_said = ap (λ (x : Transcript). x.replies) stands ∙ after-session (complete text)

  pub last-said : (after t (last_line pending)).replies ≡ output text
  unfolding output lines_of
  last-said =
      let e : take carried pending ≡ take carried (unfinished text) = sym (ap (take carried) (none-unfinished pending unended)) ∙ s.rest in
      ap (λ (x : Transcript). x.replies)
      (same_after t (last_line pending) (last_line (unfinished text)) (same-last 32768 pending (unfinished text) e)
      ∙ ap (λ (x : Transcript). after x (last_line (unfinished text))) stands
      ∙ sym (after-append begun (complete text) (last_line (unfinished text))))
      ∙ after-session (lines_of text)

pub carried_none : (pending : List ℕ) → complete pending ≡ [] → complete (take carried pending) ≡ []
carried_none pending none = none-complete (take carried pending) (unended-take carried pending (none-unended pending none))

-- ---- parts of a buffer

module _ (s : List ℕ) (a e : ℕ) (order : a ≤ e) (within : e ≤ length s) where
  pub part_length : length (take (e - a) (drop a s)) ≡ e - a
  part_length = length-take-le (e - a) (drop a s) (omega (arith, length-drop a s))

  pub part-within : (k : ℕ) → k ≤ length (take (e - a) (drop a s)) → a + k ≤ e
  part-within k h = let l = part_length in omega arith

-- a part and what follows it
pub part-more : (s : List ℕ) (a e n : ℕ) → a ≤ e → take (e + n - a) (drop a s) ≡ take (e - a) (drop a s) ++ take n (drop e s)
part-more s a e n order =
    let k : e + n - a ≡ e - a + n = omega arith in
    let d : a + (e - a) ≡ e = omega arith in
    ap (λ (x : ℕ). take x (drop a s)) k ∙ take-add (e - a) n (drop a s)
    ∙ ap (λ (x : List ℕ). take (e - a) (drop a s) ++ take n x) (drop-drop (e - a) a s ∙ ap (λ (x : ℕ). drop x s) d)

-- a part without its front
pub part-rest : (s : List ℕ) (a e k : ℕ) → a + k ≤ e → e ≤ length s → drop k (take (e - a) (drop a s)) ≡ take (e - (a + k)) (drop (a + k) s)
part-rest s a e k order within =
    let n : e - a ≡ k + (e - (a + k)) = omega arith in
    let l : length (take k (drop a s)) ≡ k = length-take-le k (drop a s) (omega (arith, length-drop a s)) in
    ap (λ (x : ℕ). drop k (take x (drop a s))) n ∙ ap (drop k) (take-add k (e - (a + k)) (drop a s))
    ∙ drop_at (take k (drop a s)) (take (e - (a + k)) (drop k (drop a s))) k l
    ∙ ap (take (e - (a + k))) (drop-drop k a s)

-- a part moved to the front
pub part_moved : (s : List ℕ) (a e held most : ℕ) → a ≤ e → e ≤ length s → held ≡ min (e - a) most →
    take held (paste s 0 (drop a s) held) ≡ take most (take (e - a) (drop a s))
part_moved s a e held most order within is =
    let l = length-drop a s in
    ap (λ (n : ℕ). take n (paste s 0 (drop a s) held)) (sym (zero-add held)) ∙ take-paste s 0 (drop a s) held (omega arith) (omega arith) ∙ cut
  where
    cut : take held (drop a s) ≡ take most (take (e - a) (drop a s))
    cut = elim (dec_lt most (e - a)) [
      | yes l ↦ let k : held ≡ most = omega arith in ap (λ (n : ℕ). take n (drop a s)) k ∙ sym (take-take most (e - a) (drop a s) (omega arith))
      | no l ↦
          let k : held ≡ e - a = omega arith in
          let n = length-take (e - a) (drop a s) in
          ap (λ (n : ℕ). take n (drop a s)) k ∙ sym (take_all most (take (e - a) (drop a s)) (omega arith))
    ]

-- what stands behind a part that was moved to the front
pub part-behind : (s : List ℕ) (a e held : ℕ) → a ≤ e → e ≤ length s → held ≤ e - a → drop held (paste s 0 (drop a s) held) ≡ drop held s
part-behind s a e held order within most =
    let l = length-drop a s in
    ap (λ (n : ℕ). drop n (paste s 0 (drop a s) held)) (sym (zero-add held)) ∙ drop-paste s 0 (drop a s) held (omega arith) (omega arith)
    ∙ ap (λ (n : ℕ). drop n s) (zero-add held)

-- a byte stored behind a part
pub part-ended : (s : List ℕ) (a e b : ℕ) → a ≤ e → e < length s → take (e + 1 - a) (drop a (set s e b)) ≡ take (e - a) (drop a s) ++ (b ∷ [])
part-ended s a e b order within =
    let k : a + (e - a) ≡ e = omega arith in
    let l : length (take e s) ≡ e = length-take-le e s (omega arith) in
    part-more (set s e b) a e 1 order
    ∙ ap (λ (x : List ℕ). x ++ take 1 (drop e (set s e b)))
    (ap (λ (n : ℕ). take (e - a) (drop a (set s n b))) (sym k) ∙ ap (take (e - a)) (drop-set-add a s (e - a) b) ∙ take-set-le (e - a) (drop a s) (e - a) b (omega arith))
    ∙ ap (λ (x : List ℕ). take (e - a) (drop a s) ++ take 1 x)
    (ap (drop e) (set_split s e b within) ∙ drop_at (take e s) (b ∷ drop (suc e) s) e l)

-- ---- line 1, or the messages

-- an open book stays open
stays_open : {s : List ℕ} {from : ℕ} {p : Reference} {book : Book} {before : List ℕ} {r : Answered} {filled : List ℕ} → AnsweredLines s from (book_open p) book before r filled →
    r.opened ≡ false → ⊥
unfolding state_of answering
stays_open {s} {from} {p} {book} {before} {r} a e =
    let q = sym (ap (λ (b : Bool). state_of b (shows r.book)) e) ∙ ap (λ (x : FeedProgress). x.state) a.same in
    let z : ◌≡◌ {A = ℕ} 0 1 = cc in
    omega arith

module _ {s before filled : List ℕ} {r : Answered} (is_open : Bool) (old : Book) where
  pub as-opened : is_open ≡ true → AnsweredLines s 0 (book_open (shows old)) old before r filled → AnsweredLines s 0 (state_of is_open (shows old)) old before r filled
  unfolding state_of
  as-opened e a = subst (λ (b : Bool). AnsweredLines s 0 (state_of b (shows old)) old before r filled) (sym e) a

  pub first-answered : {e : ℕ} {book : Book} → is_open ≡ false → e ≡ 0 + bytes_before line_end (drop 0 s) → e < length s → Opened (line_one (take e s)) book →
      AnsweredLines s (e + 1) (book_open (shows book)) book before r filled → AnsweredLines s 0 (state_of is_open (shows old)) old before r filled
  unfolding state_of after extend answering
  first-answered {e} {book} f is h o a =
      let z : e - 0 ≡ e = omega arith in
      let n : complete (drop 0 s) ≡ take (e - 0) (drop 0 s) ∷ complete (drop (e + 1) s) = next-complete s 0 e is h in
      let book-is : opened (line_one (take (e - 0) (drop 0 s))) ≡ shows book = ap (λ (k : ℕ). opened (line_one (take k (drop 0 s)))) z ∙ sym o.same in
      record {
        good = a.good;
        within = a.within;
        room = a.room;
        same = sym (ap (λ (b : Bool). answering (state_of b (shows old)) (complete (drop 0 s)) before) f
            ∙ ap (λ (ls : List (List ℕ)). answering line_one_awaited ls before) n
            ∙ ap (λ (q : Reference). answering (book_open q) (complete (drop (e + 1) s)) before) book-is
            ∙ sym a.same);
        lines = λ said. ap (λ (b : Bool). after (record { state = state_of b (shows old); replies = said }) (complete (drop 0 s))) f
            ∙ ap (after (record { state = line_one_awaited; replies = said })) n
            ∙ ap (λ (q : Reference). after (record { state = book_open q; replies = said }) (complete (drop (e + 1) s))) book-is
            ∙ a.lines said;
        awaited = λ k. absurd (stays_open a k);
        past = a.past;
        rest = a.rest ∙ sym (next-unfinished s 0 e is h);
        all = a.all;
        one = λ few k. a.one (let l = ap length n in omega arith) k;
      }

pub none-answered : (s buffer : List ℕ) (book : Book) (is_open : Bool) {e : ℕ} → is_open ≡ false → Good book → e ≡ 0 + bytes_before line_end (drop 0 s) → length s ≤ e →
    AnsweredLines s 0 (state_of is_open (shows book)) book buffer (record { book = book; next = 0; written = 0; opened = false }) buffer
unfolding state_of answering
none-answered s buffer book is_open {e} f good is h =
    let none : complete (drop 0 s) ≡ [] = no_more s 0 e is h in
    record {
      good = good;
      within = zero-le;
      room = zero-le;
      same = ap (λ (ls : List (List ℕ)). record { state = line_one_awaited; buffer = buffer; past = 0; left = ls }) none
          ∙ sym (ap (λ (b : Bool). answering (state_of b (shows book)) (complete (drop 0 s)) buffer) f
          ∙ ap (λ (ls : List (List ℕ)). answering line_one_awaited ls buffer) none);
      lines = λ said. ap (λ (b : Bool). after (record { state = state_of b (shows book); replies = said }) (complete (drop 0 s))) f
          ∙ ap (λ (w : List ℕ). after (record { state = line_one_awaited; replies = w }) (complete (drop 0 s))) (sym (append-nil said));
      awaited = λ _. refl;
      past = refl;
      rest = refl;
      all = λ _. none;
      one = λ _ _. none;
    }

-- ---- a block

module _ (stream : Stream) (input : List ℕ) (got : ℕ) {before filled : List ℕ} {r : Answered} (holds : Holds stream input) (fits : stream.to + got ≤ length input)
    (a : AnsweredLines (take (stream.to + got - stream.from) (drop stream.from input)) 0 (state_of stream.opened (shows stream.book)) stream.book before r filled) where
  abbrev part : List ℕ
  part = take (stream.to + got - stream.from) (drop stream.from input)

  abbrev block : List ℕ
  block = take got (drop stream.to input)

  pub answered-within : stream.from + r.next ≤ stream.to + got
  answered-within = let o = holds.order in part-within input stream.from (stream.to + got) (omega arith) fits r.next a.within

  left : drop r.next part ≡ take (stream.to + got - (stream.from + r.next)) (drop (stream.from + r.next) input)
  left = part-rest input stream.from (stream.to + got) r.next answered-within fits

  whole : part ≡ pending_of stream input ++ block
  whole = part-more input stream.from stream.to got holds.order

  came-to : (ls : List (List ℕ)) → complete (drop r.next part) ≡ ls →
      record { state = state_of r.opened (shows r.book); buffer = filled; past = r.written; left = ls }
      ≡ answering (state_of stream.opened (shows stream.book)) (complete (pending_of stream input ++ block)) before
  came-to ls e =
      ap (λ (x : List (List ℕ)). record { state = state_of r.opened (shows r.book); buffer = filled; past = r.written; left = x }) (sym e)
      ∙ a.same ∙ ap (λ (x : List ℕ). answering (state_of stream.opened (shows stream.book)) (complete x) before) whole

  reached : (text said : List ℕ) → SoFar text (transcript_of stream said) (pending_of stream input) →
      SoFar (text ++ block) (record { state = state_of r.opened (shows r.book); replies = said ++ take r.written filled }) (drop r.next part)
  reached text said h =
      let m : SoFar (text ++ block) (transcript_of stream said) part = subst (λ (x : List ℕ). SoFar (text ++ block) (transcript_of stream said) x) (sym whole) (read_more h block) in
      record { lines = sym (a.lines said) ∙ m.lines; rest = ap (take carried) a.rest ∙ m.rest }

  pub full_block : length filled - r.written < max_reply →
      AnsweredBlock stream input got before
      (record { stream = record { book = r.book; from = stream.from + r.next; to = stream.to + got; opened = r.opened }; written = r.written; more = true }) input filled
  full_block short =
      let room = a.room in
      record {
        holds = record { good = a.good; order = answered-within; within = fits };
        room = a.room;
        so_far = λ text said h. subst (λ (x : List ℕ). SoFar (text ++ block) (record { state = state_of r.opened (shows r.book); replies = said ++ take r.written filled }) x) left (reached text said h);
        same = came-to (complete (take (stream.to + got - (stream.from + r.next)) (drop (stream.from + r.next) input))) (ap complete left);
        past = a.past;
        awaited = a.awaited;
        more = sym (lt-ltb (length filled) (r.written + max_reply) (omega arith));
        kept = λ _. refl;
        end_kept = λ _. refl;
        front = λ e. absurd (let z : ◌≡◌ {A = ℕ} 0 1 = cc in omega arith);
        behind = λ e. absurd (let z : ◌≡◌ {A = ℕ} 0 1 = cc in omega arith);
        left_over = λ _. ap unfinished (sym left) ∙ a.rest ∙ ap unfinished whole;
        carried_over = λ e. absurd (let z : ◌≡◌ {A = ℕ} 0 1 = cc in omega arith);
        short = λ e. absurd (let z : ◌≡◌ {A = ℕ} 0 1 = cc in omega arith);
        none_left = λ e. absurd (let z : ◌≡◌ {A = ℕ} 0 1 = cc in omega arith);
        all = λ e. absurd (let z : ◌≡◌ {A = ℕ} 0 1 = cc in omega arith);
      }

  pub last_block : (held : ℕ) (moved : List ℕ) → max_reply ≤ length filled - r.written → held ≡ min (stream.to + got - (stream.from + r.next)) carried →
      moved ≡ paste input 0 (drop (stream.from + r.next) input) held → held ≤ length moved →
      AnsweredBlock stream input got before (record { stream = record { book = r.book; from = 0; to = held; opened = r.opened }; written = r.written; more = false }) moved filled
  last_block held moved space is bytes inside =
      let room = a.room in
      let none : complete (drop r.next part) ≡ [] = a.all (omega arith) in
      let z : held - 0 ≡ held = omega arith in
      let pending : take (held - 0) (drop 0 moved) ≡ take carried (drop r.next part) =
      ap (λ (n : ℕ). take n (drop 0 moved)) z ∙ ap (take held) bytes
      ∙ part_moved input (stream.from + r.next) (stream.to + got) held carried answered-within fits is ∙ ap (take carried) (sym left) in
      let none-held : complete (take (held - 0) (drop 0 moved)) ≡ [] = ap complete pending ∙ carried_none (drop r.next part) none in
      record {
        holds = record { good = a.good; order = zero-le; within = inside };
        room = a.room;
        so_far = λ text said h.
            subst (λ (x : List ℕ). SoFar (text ++ block) (record { state = state_of r.opened (shows r.book); replies = said ++ take r.written filled }) x) (sym pending)
            (carried_over (reached text said h) none);
        same = came-to (complete (take (held - 0) (drop 0 moved))) (none ∙ sym none-held);
        past = a.past;
        awaited = a.awaited;
        more = sym (le-ltb (length filled) (r.written + max_reply) (omega arith));
        kept = λ e. absurd (let z : ◌≡◌ {A = ℕ} 0 1 = cc in omega arith);
        end_kept = λ e. absurd (let z : ◌≡◌ {A = ℕ} 0 1 = cc in omega arith);
        front = λ _. refl;
        behind = λ _. ap (drop held) bytes ∙ part-behind input (stream.from + r.next) (stream.to + got) held answered-within fits (omega arith);
        short = λ _. omega arith;
        left_over = λ e. absurd (let z : ◌≡◌ {A = ℕ} 0 1 = cc in omega arith);
        carried_over = λ _. pending ∙ ap (take carried) (sym (none-unfinished (drop r.next part) (none-unended (drop r.next part) none)) ∙ a.rest ∙ ap unfinished whole);
        none_left = λ _. none-held;
        all = λ _ text said h. all_said (reached text said h) none;
      }

-- ---- the end of the input

last-line : (s : List ℕ) → 0 < length s → last_line s ≡ s ∷ []
unfolding last_line
last-line [] h = absurd (omega (arith, h))
last-line (c ∷ s) h = refl

last-lines : (s : List ℕ) → 0 < length s → last_lines s ≡ complete (s ++ (line_end ∷ []))
unfolding last_lines
last-lines [] h = absurd (omega (arith, h))
last-lines (c ∷ s) h = refl

nothing : (state : State) (buffer : List ℕ) → answering state [] buffer ≡ record { state = state; buffer = buffer; past = 0; left = [] }
unfolding answering processing
nothing (book_open p) buffer = refl
nothing line_one_awaited buffer = refl

module _ (stream : Stream) (input : List ℕ) {filled : List ℕ} where
  pub finished-none : stream.to ≡ stream.from → Finished stream input filled 0 input filled
  unfolding after last_line last_lines
  finished-none e =
      let z : stream.to - stream.from ≡ 0 = omega arith in
      let p : pending_of stream input ≡ [] = ap (λ (n : ℕ). take n (drop stream.from input)) z in
      let n = ap (λ (x : List ℕ). answering (state_of stream.opened (shows stream.book)) (last_lines x) filled) p ∙ nothing (state_of stream.opened (shows stream.book)) filled in
      record {
        room = zero-le;
        kept = refl;
        written = sym (ap (λ (x : FeedProgress). x.past) n);
        bytes = sym (ap (λ (x : FeedProgress). x.buffer) n);
        past = refl;
        all = λ none text said h. append-nil said ∙ ap (λ (x : List ℕ). (after (transcript_of stream said) (last_line x)).replies) (sym p) ∙ last-said h none;
      }

  pub finished-last : {before input' : List ℕ} {r : Answered} → Holds stream input → stream.to < length input → (stream.to ≡ stream.from → ⊥) → max_reply ≤ length before → input' ≡ input →
      AnsweredLines (take (stream.to + 1 - stream.from) (drop stream.from (set input stream.to line_end))) 0 (state_of stream.opened (shows stream.book)) stream.book before r filled →
      Finished stream input before r.written input' filled
  unfolding after
  finished-last {before} {input'} {r} holds within some room kept a =
      let o = holds.order in
      let l = part_length input stream.from stream.to o holds.within in
      let n = a.same ∙ ap (λ (ls : List (List ℕ)). answering (state_of stream.opened (shows stream.book)) ls before)
      (ap complete (part-ended input stream.from stream.to line_end o within) ∙ sym (last-lines (pending_of stream input) (omega arith))) in
      record {
        room = a.room;
        kept = kept;
        written = ap (λ (x : FeedProgress). x.past) n;
        bytes = ap (λ (x : FeedProgress). x.buffer) n;
        past = a.past;
        all = λ none text said h. last none said ∙ last-said h none;
      }
    where
      last : complete (pending_of stream input) ≡ [] → (said : List ℕ) → said ++ take r.written filled ≡ (after (transcript_of stream said) (last_line (pending_of stream input))).replies
      last none said =
          let o = holds.order in
          let l = part_length input stream.from stream.to o holds.within in
          let one = ap complete (part-ended input stream.from stream.to line_end o within) ∙ ended-complete (pending_of stream input) (none-unended (pending_of stream input) none) in
          let n = ap length one in
          let left = a.one (omega arith) room in
          sym (ap (λ (x : Transcript). x.replies)
          (ap (after (transcript_of stream said)) (last-line (pending_of stream input) (omega arith) ∙ sym one) ∙ a.lines said
          ∙ ap (after (record { state = state_of r.opened (shows r.book); replies = said ++ take r.written filled })) left))
