-- Lines heard one after another: what is left gives what the whole gives. Assumes nothing.
use Prim.Native.Nat.{ℕ, ◌+◌, ◌-◌, ◌≤◌, ◌<◌, zero-le}
use mathlib.Core.Path.{◌≡◌, refl, sym, ap, ap₂, ◌∙◌, subst}
use mathlib.Core.List.{List, [], ◌∷◌, ◌++◌, append_assoc, append-nil}
use native.Mathlib.Omega.{arith}
use borrow.Author.Tests.{le-leb, lt-leb, leb-true, leb-false}
use lib.Dec.{leb}
use mathlib.Core.Bool.{Bool, true, false}
use native.Mathlib.Nat.{le_refl}
use lib.ListN.{length, take, drop, length-append, length-drop}
use lib.Seq.{length-take-le, take_at, drop_at, drop-drop}
use Rattle.decimal.specs.Buffer.{overlaid}
use Rattle.lines.specs.Lines.{bytes_before, line_end, complete, unfinished}
use Rattle.lines.proofs.Split.{next-complete, next-unfinished, no_more}
use Rattle.writer.specs.Parts.{Room, Put}
use Rattle.writer.proofs.Owed.{put-length, length-overlaid}
use Rattle.reference.specs.Reference.{Reference, receive}
use Rattle.book.specs.Shown.{Good, shows}
use Rattle.book.specs.declared.Book.{Book}
use Rattle.feed.specs.declared.Processed.{Processed}
use Rattle.feed.specs.Feed.{reply_to, max_reply, Progress, processing, ProcessedLines}
use Rattle.feed.specs.Stream.{book_open, Transcript, extend, after, state_of, of_book, answering, AnsweredLines}

module _ (p : Reference) (buffer : List ℕ) (at : ℕ) where
  stopped : List (List ℕ) → Progress
  stopped ls = record { book = p; buffer = buffer; past = at; left = ls }

  heard_all : (ls : List (List ℕ)) → ls ≡ [] → stopped ls ≡ processing ls p buffer at
  unfolding processing stopped
  heard_all ls e = ap stopped e ∙ ap (λ (l : List (List ℕ)). processing l p buffer at) (sym e)

  no_room : (ls : List (List ℕ)) → length buffer < at + max_reply → stopped ls ≡ processing ls p buffer at
  unfolding processing stopped
  no_room [] h = refl
  no_room (line ∷ ls) h = rw (lt-leb (at + max_reply) (length buffer) h, processing)

  one_line : (line : List ℕ) (ls : List (List ℕ)) → at + max_reply ≤ length buffer →
      processing (line ∷ ls) p buffer at ≡ processing ls (receive p line).book (overlaid buffer at (reply_to (receive p line))) (at + length (reply_to (receive p line)))
  unfolding processing
  one_line line ls h = rw (le-leb (at + max_reply) (length buffer) h, processing)

-- What holds at each turn: the rest of the text gives what the whole gives.
pub record Walk (s : List ℕ) (p : Reference) (buffer₀ buffer : List ℕ) (now : Book) (next written : ℕ) : Type 0 where
  pub good : Good now
  pub within : next ≤ length s
  pub room : written ≤ length buffer
  pub size : length buffer ≡ length buffer₀
  pub same : processing (complete (drop next s)) (shows now) buffer written ≡ processing (complete s) p buffer₀ 0
  pub rest : unfinished (drop next s) ≡ unfinished s

pub begun : (s buffer : List ℕ) {book : Book} → Good book → Walk s (shows book) buffer buffer book 0 0
begun s buffer good = record { good = good; within = zero-le; room = zero-le; size = refl; same = refl; rest = refl }

module _ {s : List ℕ} {p : Reference} {buffer₀ buffer : List ℕ} {now : Book} {next written : ℕ} (walk : Walk s p buffer₀ buffer now next written) where
  ended : stopped (shows now) buffer written (complete (drop next s)) ≡ processing (complete (drop next s)) (shows now) buffer written →
      ProcessedLines s p buffer₀ (record { book = now; next = next; written = written }) buffer
  unfolding stopped
  ended e =
      let r = walk.room in
      let z = walk.size in
      record { good = walk.good; within = walk.within; room = omega arith; same = e ∙ walk.same; rest = walk.rest }

  pub ended-lines : {e : ℕ} → e ≡ next + bytes_before line_end (drop next s) → length s ≤ e → ProcessedLines s p buffer₀ (record { book = now; next = next; written = written }) buffer
  ended-lines {e} is h = ended (heard_all (shows now) buffer written (complete (drop next s)) (no_more s next e is h))

  pub ended-room : length buffer - written < max_reply → ProcessedLines s p buffer₀ (record { book = now; next = next; written = written }) buffer
  ended-room h = let r = walk.room in ended (no_room (shows now) buffer written (complete (drop next s)) (omega arith))

  pub went_on : {e : ℕ} → e ≡ next + bytes_before line_end (drop next s) → e < length s → max_reply ≤ length buffer - written →
      {book : Book} {text buffer' : List ℕ} {written' : ℕ} → Good book → shows book ≡ (receive (shows now) (take (e - next) (drop next s))).book →
      text ≡ reply_to (receive (shows now) (take (e - next) (drop next s))) → Room buffer written text → Put buffer written text buffer' written' →
      Walk s p buffer₀ buffer' book (e + 1) written'
  went_on {e} is h room {book} {text} {buffer'} {written'} good shown reply fits put =
      let r = walk.room in
      let z = walk.size in
      let l : length buffer' ≡ length buffer = put-length fits put in
      let w = put.end in
      let line : List ℕ = take (e - next) (drop next s) in
      record {
        good = good;
        within = omega arith;
        room = omega arith;
        size = omega arith;
        same = sym (one_line (shows now) buffer written line (complete (drop (e + 1) s)) (omega arith) ∙ to line reply shown put) ∙ ap (λ (ls : List (List ℕ)). processing ls (shows now) buffer written) (sym (next-complete s next e is h)) ∙ walk.same;
        rest = sym (next-unfinished s next e is h) ∙ walk.rest;
      }
    where
      to : (line : List ℕ) → text ≡ reply_to (receive (shows now) line) → shows book ≡ (receive (shows now) line).book → Put buffer written text buffer' written' →
          processing (complete (drop (e + 1) s)) (receive (shows now) line).book (overlaid buffer written (reply_to (receive (shows now) line))) (written + length (reply_to (receive (shows now) line)))
          ≡ processing (complete (drop (e + 1) s)) (shows book) buffer' written'
      to line reply shown put =
          ap (λ (q : Reference). processing (complete (drop (e + 1) s)) q (overlaid buffer written (reply_to (receive (shows now) line))) (written + length (reply_to (receive (shows now) line)))) (sym shown)
          ∙ ap (λ (t : List ℕ). processing (complete (drop (e + 1) s)) (shows book) (overlaid buffer written t) (written + length t)) (sym reply)
          ∙ ap₂ (processing (complete (drop (e + 1) s)) (shows book)) (sym put.bytes) (sym put.end)

-- the same, of an equal book
pub heard-as : {s buffer₀ buffer : List ℕ} {p q : Reference} {b c : Book} {next written : ℕ} → p ≡ q → c ≡ b
    → ProcessedLines s p buffer₀ (record { book = b; next = next; written = written }) buffer
    → ProcessedLines s q buffer₀ (record { book = c; next = next; written = written }) buffer
heard-as {s} {buffer₀} {buffer} {p} {q} {b} {c} {next} {written} e f h =
    subst (λ (x : Reference). ProcessedLines s x buffer₀ (record { book = c; next = next; written = written }) buffer) e
    (subst (λ (x : Book). ProcessedLines s p buffer₀ (record { book = x; next = next; written = written }) buffer) (sym f) h)

-- ---- what the lines that were processed give, and those that are left

-- what follows the first line
abbrev later : List ℕ → List (List ℕ) → Reference → List ℕ → ℕ → Progress
later line ls p buffer at = processing ls (receive p line).book (overlaid buffer at (reply_to (receive p line))) (at + length (reply_to (receive p line)))

past-grows : (ls : List (List ℕ)) (p : Reference) (buffer : List ℕ) (at : ℕ) → at ≤ (processing ls p buffer at).past
unfolding processing
past-grows [] p buffer at = le_refl at
past-grows (line ∷ ls) p buffer at =
    go (leb (at + max_reply) (length buffer)) refl (past-grows ls (receive p line).book (overlaid buffer at (reply_to (receive p line))) (at + length (reply_to (receive p line))))
  where
    go : (b : Bool) → leb (at + max_reply) (length buffer) ≡ b →
        at + length (reply_to (receive p line)) ≤ (later line ls p buffer at).past →
        at ≤ (processing (line ∷ ls) p buffer at).past
    go true q ih = rw (q, processing) (let h = ih in omega arith)
    go false q ih = rw (q, processing) (le_refl at)

-- the text past which a text was laid
laid-front : (b : List ℕ) (at : ℕ) (t : List ℕ) → at + length t ≤ length b → take (at + length t) (overlaid b at t) ≡ take at b ++ t
unfolding overlaid
laid-front b at t h =
    let l : length (take at b) ≡ at = length-take-le at b (omega arith) in
    let n : length (take at b ++ t) ≡ at + length t = length-append (take at b) t ∙ ap (λ (k : ℕ). k + length t) l in
    ap (take (at + length t)) (sym (append_assoc (take at b) t (drop (at + length t) b))) ∙ take_at (take at b ++ t) (drop (at + length t) b) (at + length t) n

laid-past : (b : List ℕ) (at : ℕ) (t : List ℕ) (n : ℕ) → at + length t ≤ n → at + length t ≤ length b → drop n (overlaid b at t) ≡ drop n b
unfolding overlaid
laid-past b at t n order h =
    let e : at + length t + (n - (at + length t)) ≡ n = omega arith in
    let l : length (take at b) ≡ at = length-take-le at b (omega arith) in
    let k : length (take at b ++ t) ≡ at + length t = length-append (take at b) t ∙ ap (λ (i : ℕ). i + length t) l in
    let f : drop (at + length t) (overlaid b at t) ≡ drop (at + length t) b =
    ap (drop (at + length t)) (sym (append_assoc (take at b) t (drop (at + length t) b))) ∙ drop_at (take at b ++ t) (drop (at + length t) b) (at + length t) k in
    ap (λ (i : ℕ). drop i (overlaid b at t)) (sym e) ∙ sym (drop-drop (n - (at + length t)) (at + length t) (overlaid b at t))
    ∙ ap (drop (n - (at + length t))) f ∙ drop-drop (n - (at + length t)) (at + length t) b ∙ ap (λ (i : ℕ). drop i b) e

processing-past : (ls : List (List ℕ)) (p : Reference) (buffer : List ℕ) (at : ℕ) → (processing ls p buffer at).past ≤ length buffer →
    drop (processing ls p buffer at).past (processing ls p buffer at).buffer ≡ drop (processing ls p buffer at).past buffer
unfolding processing stopped
processing-past [] p buffer at room = refl
processing-past (line ∷ ls) p buffer at room =
    go (leb (at + max_reply) (length buffer)) refl (processing-past ls (receive p line).book (overlaid buffer at (reply_to (receive p line))) (at + length (reply_to (receive p line))))
  where
    go : (b : Bool) → leb (at + max_reply) (length buffer) ≡ b →
        ((later line ls p buffer at).past ≤ length (overlaid buffer at (reply_to (receive p line))) →
        drop (later line ls p buffer at).past (later line ls p buffer at).buffer ≡ drop (later line ls p buffer at).past (overlaid buffer at (reply_to (receive p line)))) →
        drop (processing (line ∷ ls) p buffer at).past (processing (line ∷ ls) p buffer at).buffer ≡ drop (processing (line ∷ ls) p buffer at).past buffer
    go true q ih =
        let one : processing (line ∷ ls) p buffer at ≡ later line ls p buffer at = one_line p buffer at line ls (leb-true (at + max_reply) (length buffer) q) in
        let past : (later line ls p buffer at).past ≤ length buffer = subst (λ (x : Progress). x.past ≤ length buffer) one room in
        let g : at + length (reply_to (receive p line)) ≤ (later line ls p buffer at).past = past-grows ls (receive p line).book (overlaid buffer at (reply_to (receive p line))) (at + length (reply_to (receive p line))) in
        let l : length (overlaid buffer at (reply_to (receive p line))) ≡ length buffer = length-overlaid buffer at (reply_to (receive p line)) (omega arith) in
        ap (λ (x : Progress). drop x.past x.buffer) one ∙ ih (omega arith)
        ∙ laid-past buffer at (reply_to (receive p line)) (later line ls p buffer at).past g (omega arith)
        ∙ sym (ap (λ (x : Progress). drop x.past buffer) one)
    go false q ih =
        let none = no_room p buffer at (line ∷ ls) (leb-false (at + max_reply) (length buffer) q) in
        sym (ap (λ (x : Progress). drop x.past x.buffer) none) ∙ ap (λ (x : Progress). drop x.past buffer) none

-- the transcript where the buffer has the replies past those of before
abbrev reached : List ℕ → Progress → Transcript
reached said x = after (record { state = book_open x.book; replies = said ++ take x.past x.buffer }) x.left

processing-after : (said : List ℕ) (ls : List (List ℕ)) (p : Reference) (buffer : List ℕ) (at : ℕ) → (processing ls p buffer at).past ≤ length buffer →
    after (record { state = book_open p; replies = said ++ take at buffer }) ls ≡ reached said (processing ls p buffer at)
unfolding processing after extend stopped
processing-after said [] p buffer at room = refl
processing-after said (line ∷ ls) p buffer at room =
    go (leb (at + max_reply) (length buffer)) refl (processing-after said ls (receive p line).book (overlaid buffer at (reply_to (receive p line))) (at + length (reply_to (receive p line))))
  where
    go : (b : Bool) → leb (at + max_reply) (length buffer) ≡ b →
        ((later line ls p buffer at).past ≤ length (overlaid buffer at (reply_to (receive p line))) →
        after (record { state = book_open (receive p line).book; replies = said ++ take (at + length (reply_to (receive p line))) (overlaid buffer at (reply_to (receive p line))) }) ls ≡ reached said (later line ls p buffer at)) →
        after (record { state = book_open (receive p line).book; replies = (said ++ take at buffer) ++ reply_to (receive p line) }) ls ≡ reached said (processing (line ∷ ls) p buffer at)
    go true q ih =
        let one : processing (line ∷ ls) p buffer at ≡ later line ls p buffer at = one_line p buffer at line ls (leb-true (at + max_reply) (length buffer) q) in
        let past : (later line ls p buffer at).past ≤ length buffer = subst (λ (x : Progress). x.past ≤ length buffer) one room in
        let g : at + length (reply_to (receive p line)) ≤ (later line ls p buffer at).past = past-grows ls (receive p line).book (overlaid buffer at (reply_to (receive p line))) (at + length (reply_to (receive p line))) in
        let l : length (overlaid buffer at (reply_to (receive p line))) ≡ length buffer = length-overlaid buffer at (reply_to (receive p line)) (omega arith) in
        let front : take (at + length (reply_to (receive p line))) (overlaid buffer at (reply_to (receive p line))) ≡ take at buffer ++ reply_to (receive p line) = laid-front buffer at (reply_to (receive p line)) (omega arith) in
        ap (λ (w : List ℕ). after (record { state = book_open (receive p line).book; replies = w }) ls)
        (append_assoc said (take at buffer) (reply_to (receive p line)) ∙ ap (λ (w : List ℕ). said ++ w) (sym front))
        ∙ ih (omega arith)
        ∙ ap (reached said) (sym one)
    go false q ih = ap (reached said) (no_room p buffer at (line ∷ ls) (leb-false (at + max_reply) (length buffer) q))

-- where there is still room, no line is left
processing-all : (ls : List (List ℕ)) (p : Reference) (buffer : List ℕ) (at : ℕ) → (processing ls p buffer at).past + max_reply ≤ length (processing ls p buffer at).buffer →
    (processing ls p buffer at).left ≡ []
unfolding processing stopped
processing-all [] p buffer at room = refl
processing-all (line ∷ ls) p buffer at room =
    go (leb (at + max_reply) (length buffer)) refl (processing-all ls (receive p line).book (overlaid buffer at (reply_to (receive p line))) (at + length (reply_to (receive p line))))
  where
    go : (b : Bool) → leb (at + max_reply) (length buffer) ≡ b →
        ((later line ls p buffer at).past + max_reply ≤ length (later line ls p buffer at).buffer → (later line ls p buffer at).left ≡ []) →
        (processing (line ∷ ls) p buffer at).left ≡ []
    go true q ih =
        let one : processing (line ∷ ls) p buffer at ≡ later line ls p buffer at = one_line p buffer at line ls (leb-true (at + max_reply) (length buffer) q) in
        ap (λ (x : Progress). x.left) one ∙ ih (subst (λ (x : Progress). x.past + max_reply ≤ length x.buffer) one room)
    go false q ih =
        let h : length buffer < at + max_reply = leb-false (at + max_reply) (length buffer) q in
        let k : at + max_reply ≤ length buffer = subst (λ (x : Progress). x.past + max_reply ≤ length x.buffer) (sym (no_room p buffer at (line ∷ ls) h)) room in
        absurd (omega (arith, h, k))

-- one line has room
processing-one : (ls : List (List ℕ)) (p : Reference) (buffer : List ℕ) → length ls ≤ 1 → max_reply ≤ length buffer → (processing ls p buffer 0).left ≡ []
unfolding processing
processing-one [] p buffer few room = refl
processing-one (line ∷ []) p buffer few room = ap (λ (x : Progress). x.left) (one_line p buffer 0 line [] room)
processing-one (line ∷ (next ∷ ls)) p buffer few room = absurd (omega (arith, few))

-- ---- of the code's answer

module _ {s : List ℕ} {p : Reference} {before : List ℕ} {r : Processed} {filled : List ℕ} (h : ProcessedLines s p before r filled) where
  processed-lines : (said : List ℕ) → after (record { state = book_open p; replies = said }) (complete s)
      ≡ after (record { state = book_open (shows r.book); replies = said ++ take r.written filled }) (complete (drop r.next s))
  processed-lines said =
      let past : r.written ≡ (processing (complete s) p before 0).past = ap (λ (x : Progress). x.past) h.same in
      let room = h.room in
      ap (λ (w : List ℕ). after (record { state = book_open p; replies = w }) (complete s)) (sym (append-nil said))
      ∙ processing-after said (complete s) p before 0 (omega arith) ∙ ap (reached said) (sym h.same)

  processed-past : drop r.written filled ≡ drop r.written before
  processed-past =
      let past : r.written ≡ (processing (complete s) p before 0).past = ap (λ (x : Progress). x.past) h.same in
      let room = h.room in
      ap (λ (x : Progress). drop x.past x.buffer) h.same ∙ processing-past (complete s) p before 0 (omega arith) ∙ sym (ap (λ (x : Progress). drop x.past before) h.same)

  processed-all : r.written + max_reply ≤ length filled → complete (drop r.next s) ≡ []
  processed-all room = ap (λ (x : Progress). x.left) h.same ∙ processing-all (complete s) p before 0 (subst (λ (x : Progress). x.past + max_reply ≤ length x.buffer) h.same room)

  processed-one : length (complete s) ≤ 1 → max_reply ≤ length before → complete (drop r.next s) ≡ []
  processed-one few room = ap (λ (x : Progress). x.left) h.same ∙ processing-one (complete s) p before few room

  pub processed-from : (whole : List ℕ) (from : ℕ) → s ≡ drop from whole → from ≤ length whole → length filled ≡ length before → (book : Book) →
      AnsweredLines whole from (book_open p) book before (record { book = r.book; next = from + r.next; written = r.written; opened = true }) filled
  unfolding state_of answering
  processed-from whole from e within same book =
      let w = h.within in
      let l : length s ≡ length whole - from = ap length e ∙ length-drop from whole in
      let room = h.room in
      let d : drop r.next s ≡ drop (from + r.next) whole = ap (drop r.next) e ∙ drop-drop r.next from whole in
      record {
        good = h.good;
        within = omega arith;
        room = omega arith;
        same = ap (λ (x : List ℕ). record { state = book_open (shows r.book); buffer = filled; past = r.written; left = complete x }) (sym d)
            ∙ ap of_book h.same ∙ ap (λ (x : List ℕ). of_book (processing (complete x) p before 0)) e;
        lines = λ said. ap (λ (x : List ℕ). after (record { state = book_open p; replies = said }) (complete x)) (sym e) ∙ processed-lines said
            ∙ ap (λ (x : List ℕ). after (record { state = book_open (shows r.book); replies = said ++ take r.written filled }) (complete x)) d;
        awaited = λ e. absurd (let z : ◌≡◌ {A = ℕ} 0 1 = cc in omega arith);
        past = processed-past;
        rest = ap unfinished (sym d) ∙ h.rest ∙ ap unfinished e;
        all = λ k. ap complete (sym d) ∙ processed-all k;
        one = λ few k. ap complete (sym d) ∙ processed-one (subst (λ (x : List ℕ). length (complete x) ≤ 1) (sym e) few) k;
      }
