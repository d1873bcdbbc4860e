-- A message of which one byte more is carried than a message may have is answered as the whole of it. Assumes nothing.
use Rattle.std.specs.Prelude.{Err, Result}
use Rattle.answer.specs.declared.Answer.{Answer}
use Prim.Native.Nat.{ℕ, ◌<◌, ◌≤◌}
use mathlib.Core.Path.{◌≡◌, refl, sym, ap, ◌∙◌}
use mathlib.Core.Bool.{Bool, true, false, cond}
use mathlib.Core.List.{List, [], ◌∷◌, ◌++◌, map, append_assoc, append-nil}
use native.Mathlib.Omega.{arith}
use borrow.Author.Tests.{lt-ltb, leb-true, leb-false}
use lib.Dec.{leb}
use lib.ListN.{length, take}
use lib.Seq.{take_all, length-take-le}
use Rattle.settings.specs.Settings.{Config}
use Rattle.answer.specs.declared.Answer.TheVariants.{TooLong, Shut}
use Rattle.settings.specs.Rules.{rules_of}
use Rattle.settings.specs.declared.Dialect.{Dialect}
use Rattle.settings.specs.declared.Dialect.TheVariants.{K, M, Unknown}
use Rattle.message.specs.Meaning.{framed, also_decimals, checked, decoded_of, decode, Message}
use Rattle.reference.specs.Reference.{Reference, opened, is_shut, After, receive, received}
use Rattle.line_text.specs.Opening.{line_one}
use Rattle.feed.specs.Feed.{reply_to, replies, session, carried}
use Rattle.feed.specs.Stream.{State, line_one_awaited, book_open, Transcript, extend, after, begun}
use Rattle.feed.proofs.LongLine.{carried-opened}

-- no dialect has longer messages
longest-most : (d : Dialect) → (rules_of d).longest ≤ 32768
unfolding rules_of
longest-most K = omega arith
longest-most (M e) = omega arith
longest-most Unknown = omega arith

too_long : (t : Config) (s : List ℕ) → 32768 < length s → decode t s ≡ Err TooLong
unfolding decode decoded_of checked also_decimals framed
too_long t s h = let m = longest-most t.dialect in rw (lt-ltb (rules_of t.dialect).longest (length s) (omega arith), framed)

pub carried-said : (t : Config) (s : List ℕ) → decode t (take carried s) ≡ decode t s
carried-said t s = at (leb (length s) carried) refl
  where
    at : (b : Bool) → leb (length s) carried ≡ b → decode t (take carried s) ≡ decode t s
    at true e = ap (decode t) (take_all carried s (leb-true (length s) carried e))
    at false e =
        let h : carried < length s = leb-false (length s) carried e in
        let l : length (take carried s) ≡ carried = length-take-le carried s (omega arith) in
        too_long t (take carried s) (omega arith) ∙ sym (too_long t s (omega arith))

pub carried-hear : (p : Reference) (s : List ℕ) → receive p (take carried s) ≡ receive p s
unfolding receive
carried-hear p s = ap (λ (x : Result Message Answer). cond (is_shut p.status) (record { book = p; answer = Shut; moved = 0 }) (received p x)) (carried-said p.config s)

-- ---- line by line

extend_cut : (state : State) (said line : List ℕ) → extend state said (take carried line) ≡ extend state said line
unfolding extend
extend_cut line_one_awaited said line = ap (λ (p : Reference). record { state = book_open p; replies = said }) (carried-opened line)
extend_cut (book_open p) said line = ap (λ (a : After). record { state = book_open a.book; replies = said ++ reply_to a }) (carried-hear p line)

after-cut : (t : Transcript) (ls : List (List ℕ)) → after t (map (take carried) ls) ≡ after t ls
unfolding after
after-cut t [] = refl
after-cut t (line ∷ ls) = ap (λ (u : Transcript). after u (map (take carried) ls)) (extend_cut t.state t.replies line) ∙ after-cut (extend t.state t.replies line) ls

-- Lines that begin alike are answered alike.
pub same_after : (t : Transcript) (ks ls : List (List ℕ)) → map (take carried) ks ≡ map (take carried) ls → after t ks ≡ after t ls
same_after t ks ls e = sym (after-cut t ks) ∙ ap (after t) e ∙ after-cut t ls

pub after-append : (t : Transcript) (ks ls : List (List ℕ)) → after t (ks ++ ls) ≡ after (after t ks) ls
unfolding after
after-append t [] ls = refl
after-append t (line ∷ ks) ls = after-append (extend t.state t.replies line) ks ls

after_open : (p : Reference) (said : List ℕ) (ls : List (List ℕ)) → (after (record { state = book_open p; replies = said }) ls).replies ≡ said ++ replies p ls
unfolding after extend replies
after_open p said [] = sym (append-nil said)
after_open p said (line ∷ ls) =
    after_open (receive p line).book (said ++ reply_to (receive p line)) ls ∙ append_assoc said (reply_to (receive p line)) (replies (receive p line).book ls)

-- The replies line by line are those to the lines together.
pub after-session : (ls : List (List ℕ)) → (after begun ls).replies ≡ session ls
unfolding after extend session
after-session [] = refl
after-session (line ∷ ls) = after_open (opened (line_one line)) [] ls
