-- The loop of `replay`: what holds at its head, that it holds at the start and after a call, and what it gives at the end. Assumes nothing.
use Prim.Native.Nat.{ℕ, zero, suc, ◌+◌, ◌-◌, ◌≤◌}
use mathlib.Core.Path.{◌≡◌, refl, sym, ◌∙◌}
use mathlib.Core.Bool.{true, false}
use mathlib.Core.List.{List, [], ◌∷◌, ◌++◌, append_assoc}
use native.Mathlib.Omega.{arith}
use lib.ListN.{take-append-drop, length, take, drop, length-drop, length-append}
use lib.Seq.{drop-drop, length-take-le, take_at, drop_at}
use Rattle.settings.specs.Settings.{Config}
use Rattle.reference.specs.Reference.{Reference, Call, opened, does, replies_to}
use Rattle.book.specs.Shown.{Good, shows}
use Rattle.book.specs.declared.Book.{Book}
use Rattle.replay.specs.Format.{ask_of, is_whole, call_length, reply_length, reply_bytes, called, decode, script, laid_in}
use Rattle.replay.specs.Calls.{Called, Replayed}
use Rattle.replay.proofs.Fields.{Fits, whole-fits}

-- the calls that are left
abbrev pub left : List ℕ → List ℕ → ℕ → ℕ → ℕ → List Call
left s out at done calls = decode (length s - calls) (drop at s) (drop done out)

-- `p` is the book as opened, `b` the book as it is; the replies to the calls that are left are still owed
pub record Going (p : Reference) (s before out : List ℕ) (b : Book) (at done calls : ℕ) : Type 0 where
  pub good : Good b
  pub within : at ≤ length s
  pub room : done ≤ length out
  pub same : length out ≡ length before
  pub few : calls ≤ at
  pub replies : laid_in (replies_to p (script s before)) before ≡ take done out ++ laid_in (replies_to (shows b) (left s out at done calls)) (drop done out)
  pub count : length (script s before) ≡ calls + length (left s out at done calls)

pub going-none : (s out : List ℕ) (b : Book) → Good b → Going (shows b) s out out b 0 0 0
going-none s out b g =
    let z : length s - 0 ≡ length s = omega arith in
    record {
      good = g;
      within = omega arith;
      room = omega arith;
      same = refl;
      few = omega arith;
      replies = rw z;
      count = rw z (omega arith);
    }

-- ---- one call

none_left : (turns : ℕ) (s out : List ℕ) → is_whole s (length out) ≡ false → decode turns s out ≡ []
unfolding decode
none_left zero s out w = refl
none_left (suc turns) s out w = rw w

one_more : (turns : ℕ) (s out : List ℕ) → is_whole s (length out) ≡ true →
    decode (suc turns) s out ≡ called s out ∷ decode turns (drop (call_length s) s) (drop (reply_length s) out)
unfolding decode
one_more turns s out w = rw w

-- the reply to the first call, and those to the rest
one-laid : (turns : ℕ) (p p' : Reference) (s out part : List ℕ) → is_whole s (length out) ≡ true → length part ≡ reply_length s →
    p' ≡ (does p (called s out).ask (called s out).buffer).after → part ≡ reply_bytes (does p (called s out).ask (called s out).buffer) →
    laid_in (replies_to p (decode (suc turns) s out)) out ≡
    part ++ laid_in (replies_to p' (decode turns (drop (call_length s) s) (drop (reply_length s) out))) (drop (reply_length s) out)
unfolding replies_to laid_in
one-laid turns p p' s out part w n e f = rw (one_more turns s out w, ← f, ← e, n)

module _ {p : Reference} {s before out : List ℕ} {b : Book} {at done calls : ℕ} (g : Going p s before out b at done calls) where
  there : length out - done ≡ length (drop done out)
  there = sym (length-drop done out)

  pub stop : (t : Config) → p ≡ opened t → is_whole (drop at s) (length out - done) ≡ false → Replayed t s before out calls
  unfolding replies_to laid_in
  stop t e w =
      let n = none_left (length s - calls) (drop at s) (drop done out) (rw there at w) in
      record {
        out = sym (rw e at g.replies ∙ rw n (take-append-drop done out));
        count = sym (g.count ∙ rw n (omega arith));
      }

  -- a turn: a whole call, and what it ensures of its part of `out`
  module _ (w : is_whole (drop at s) (length out - done) ≡ true) {n m : ℕ} (en : n ≡ call_length (drop at s)) (em : m ≡ reply_length (drop at s)) where
    fits : Fits (drop at s) (length out - done)
    fits = whole-fits (drop at s) (length out - done) w

    pub call-within : (48 ≤ n) × (at + n ≤ length s)
    unfolding call_length
    call-within = let f = fits in let l = length-drop at s in let h = g.within in (omega arith, omega arith)

    pub reply-within : (56 ≤ m) × (done + m ≤ length out)
    unfolding reply_length
    reply-within = let f = fits in let h = g.room in (omega arith, omega arith)

    -- what the call asks of its parts
    pub call-ready : (Good b) × (48 ≤ length (take (at + n - at) (drop at s))) × (56 ≤ length (take (done + m - done) (drop done out)))
    call-ready =
        let hn = call-within in
        let hm = reply-within in
        let ls = length-drop at s in
        let lo = length-drop done out in
        let ln : length (take (at + n - at) (drop at s)) ≡ at + n - at = length-take-le (at + n - at) (drop at s) (omega arith) in
        let lm : length (take (done + m - done) (drop done out)) ≡ done + m - done = length-take-le (done + m - done) (drop done out) (omega arith) in
        (g.good, omega arith, omega arith)

    pub going_more : (b' : Book) (part : List ℕ) →
        length part ≡ length (take (done + m - done) (drop done out)) →
        Called (shows b) (ask_of (take (at + n - at) (drop at s))) (take (done + m - done) (drop done out)) part b' →
        Going p s before (take done out ++ (part ++ drop (done + m - done) (drop done out))) b' (at + n) (done + m) (calls + 1)
    unfolding called
    going_more b' part lp c =
        let hn = call-within in
        let hm = reply-within in
        let hr = g.room in
        let hs = g.same in
        let hf = g.few in
        let hw = g.within in
        let ln : at + n - at ≡ n = omega arith in
        let lm : done + m - done ≡ m = omega arith in
        let s' : List ℕ = drop at s in
        let o' : List ℕ = drop done out in
        let turns : ℕ = length s - (calls + 1) in
        let head : List ℕ = take done out ++ part in
        let lpart : length part ≡ m = lp ∙ rw lm (length-take-le m o' (let l = length-drop done out in omega arith)) in
        let lh : length head ≡ done + m = length-append (take done out) part ∙ rw (length-take-le done out hr, lpart) in
        let dm : drop m o' ≡ drop (done + m) out = drop-drop m done out in
        let dn : drop n s' ≡ drop (at + n) s = drop-drop n at s in
        let whole : take done out ++ (part ++ drop (done + m - done) o') ≡ head ++ drop (done + m) out =
        rw (lm, dm) (sym (append_assoc (take done out) part (drop (done + m) out))) in
        let tk : take (done + m) (head ++ drop (done + m) out) ≡ head = take_at head (drop (done + m) out) (done + m) lh in
        let dp : drop (done + m) (head ++ drop (done + m) out) ≡ drop (done + m) out = drop_at head (drop (done + m) out) (done + m) lh in
        let fuel : length s - calls ≡ suc turns = omega arith in
        let w' : is_whole s' (length o') ≡ true = rw there at w in
        let c' = rw (ln, lm, en, em) at c in
        let laid = rw (← en, ← em, dn, dm) at (one-laid turns (shows b) (shows b') s' o' part w' (lpart ∙ em) c'.same c'.out) in
        let more = rw (← en, ← em, dn, dm) at (one_more turns s' o' w') in
        let ld = length-drop (done + m) out in
        let la = length-append head (drop (done + m) out) in
        rw whole
        (record {
          good = c.good;
          within = hn.1;
          room = omega arith;
          same = omega arith;
          few = omega arith;
          replies = g.replies ∙ rw (fuel, laid, tk, dp) (sym (append_assoc (take done out) part _));
          count = g.count ∙ rw (fuel, more, dp) (omega arith);
        })
