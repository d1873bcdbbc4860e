-- Demand 3 of the code. The invariant of books (`Good`) goes from call to call, and with it that the book shows the reference book. Assumes nothing.
use Prim.Native.Nat.{ℕ}
use mathlib.Core.Path.{◌≡◌, refl, sym, ap, ap₂, ◌∙◌, subst}
use mathlib.Core.Bool.{true}
use mathlib.Core.List.{List, [], ◌∷◌, map}
use Rattle.decimal.specs.Decimal.{number as number_of}
use Rattle.answer.specs.declared.Answer.{Answer}
use Rattle.reference.specs.Reference.{Reference, Value, counts, level, amount, Ask, message, question, replied, how_many, level_at, which_number, how_many_updates, write, does, Call, replies_to, final}
use native.Mathlib.Omega.{arith}
use Rattle.reference.specs.Claims.{call}
use Rattle.settings.specs.Settings.{Config}
use Rattle.settings.specs.declared.Dialect.{Dialect}
use Rattle.answer.specs.declared.Answer.TheVariants.{Taken}
use lib.ListN.{length, take}
use Rattle.reference.specs.Reference.{live, is_live, opened, receive, snapshot_text}
use Rattle.reference.proofs.Runs.{reached}
use Rattle.reference.proofs.Alike.{wrote-live, wrote-length, wrote-text, answer-alike, value-alike, buffer-alike}
use Rattle.reference.proofs.Claims.{same-buffer, fresh-replies, round_trip}
use Rattle.book.specs.Shown.{shows, Good}
use Rattle.book.specs.declared.Book.{Book}
use Rattle.claims.specs.Calls.{Seen, seen, Made, no_call, a_message, a_count, a_level, a_number, an_updates, a_write, ThirdDemand, Opens, FromSnapshotCode, RoundTripCode}

-- What was seen is the reference book's, and so is all that the book shows in the end.
pub record AsReference (p : Reference) (cs : List Call) (rs : List Seen) (e : Book) : Type 0 where
  pub replies : rs ≡ map seen (replies_to p cs)
  pub good : Good e
  pub ends : shows e ≡ final p cs

-- a call whose reply is the reference book's, and then the rest
module _ (p : Reference) (ask : Ask) (buffer : List ℕ) (q : Reference) (a : Answer) (v : Value) (x : List ℕ) where
  more : q ≡ (does p ask buffer).after → a ≡ (does p ask buffer).answer → v ≡ (does p ask buffer).value → x ≡ (does p ask buffer).buffer
      → (cs : List Call) (rs : List Seen) (e : Book) → AsReference q cs rs e
      → AsReference p (call ask buffer ∷ cs) (record { answer = a; value = v; buffer = x } ∷ rs) e
  unfolding replies_to final
  more f g h i cs rs e r =
      record {
        replies = ap₂ (λ (y : Seen) (z : List Seen). y ∷ z) (rw (g, h, i)) (r.replies ∙ ap (λ (y : Reference). map seen (replies_to y cs)) f);
        good = r.good;
        ends = r.ends ∙ ap (λ (y : Reference). final y cs) f;
      }

pub made : {b e : Book} {cs : List Call} {rs : List Seen} → Good b → Made b cs rs e → AsReference (shows b) cs rs e
unfolding does replied replies_to final
made g no_call = record { replies = refl; good = g; ends = refl }
made {b} g (a_message {buffer = u} {r = r} {cs = cs} {rs = rs} κs s h k) =
    let t = h g in
    more (shows b) (message s.now) u (shows r.book) r.answer (amount r.moved) u t.same t.answer (ap amount t.moved) refl cs rs _ (made t.good k)
made {b} g (a_count {scope = c} {buffer = u} {r = r} {cs = cs} {rs = rs} κs h k) =
    let t = h g in
    more (shows b) (question (how_many c)) u (shows r.book) r.answer (counts r.bids r.asks) u (ap shows t.book) (t.answer u) (t.value u) (same-buffer (shows b) (how_many c) u (λ e. let z : ◌≡◌ {A = ℕ} 0 1 = cc in omega arith)) cs rs _
    (made (subst Good (sym t.book) g) k)
made {b} g (a_level {scope = c} {side = d} {i = i} {buffer = u} {r = r} {cs = cs} {rs = rs} κs h k) =
    let t = h g in
    more (shows b) (question (level_at c d i)) u (shows r.book) r.answer (level (record { price = number_of r.price; size = number_of r.size })) u (ap shows t.book) (t.answer u) (t.value u) (same-buffer (shows b) (level_at c d i) u (λ e. let z : ◌≡◌ {A = ℕ} 0 1 = cc in omega arith)) cs rs _
    (made (subst Good (sym t.book) g) k)
made {b} g (a_number {scope = c} {buffer = u} {r = r} {cs = cs} {rs = rs} κs h k) =
    let t = h g in
    more (shows b) (question (which_number c)) u (shows r.book) r.answer (amount r.value) u (ap shows t.book) (t.answer u) (t.value u) (same-buffer (shows b) (which_number c) u (λ e. let z : ◌≡◌ {A = ℕ} 0 1 = cc in omega arith)) cs rs _
    (made (subst Good (sym t.book) g) k)
made {b} g (an_updates {scope = c} {buffer = u} {r = r} {cs = cs} {rs = rs} κs h k) =
    let t = h g in
    more (shows b) (question (how_many_updates c)) u (shows r.book) r.answer (amount r.value) u (ap shows t.book) (t.answer u) (t.value u) (same-buffer (shows b) (how_many_updates c) u (λ e. let z : ◌≡◌ {A = ℕ} 0 1 = cc in omega arith)) cs rs _
    (made (subst Good (sym t.book) g) k)
made {b} g (a_write {r = r} {cs = cs} {rs = rs} κs u w h k) =
    let t = h g in
    more (shows b) (question write) u.now (shows r.book) r.answer (amount r.value) w.now (ap shows t.book) t.answer t.value t.buffer cs rs _
    (made (subst Good (sym t.book) g) k)

pub demand-3 : ThirdDemand
demand-3 κs dialect depth name b e cs rs o k = (subst (λ (p : Reference). AsReference p cs rs e) o.same (made o.good k)).replies

-- ---- two books

abbrev settings_of : Dialect → ℕ → List ℕ → Config
settings_of dialect depth name = record { dialect = dialect; depth = depth; name = name }

-- what is seen of a new book is the reference book's
opened-made : {dialect : Dialect} {depth : ℕ} {name : List ℕ} {b e : Book} {cs : List Call} {rs : List Seen} → Opens dialect depth name b → Made b cs rs e
    → AsReference (opened (settings_of dialect depth name)) cs rs e
opened-made {dialect} {depth} {name} {b} {e} {cs} {rs} (κs, n, h, o) k =
    subst (λ (p : Reference). AsReference p cs rs e) (o.same ∙ ap (λ (x : List ℕ). opened (settings_of dialect depth x)) h) (made o.good k)

same-amount : {m n : ℕ} → amount m ≡ amount n → m ≡ n
same-amount e = cc

second-seen : {r x : Seen} {rs xs : List Seen} {s y : Seen} → r ∷ s ∷ rs ≡ x ∷ y ∷ xs → s ≡ y
second-seen e = cc

first-seen : {r : Seen} {rs xs : List Seen} {x : Seen} → r ∷ rs ≡ x ∷ xs → r ≡ x
first-seen e = cc

pub from-snapshot-code : FromSnapshotCode
unfolding replies_to does
from-snapshot-code dialect depth name b c e n f cs ds s buffer m r qs rs ts o k l q i a o' l' =
    let t : Config = settings_of dialect depth name in
    let x = opened-made o k in
    let y : AsReference (final (opened t) cs) (call (message s) buffer ∷ ds) (r ∷ rs) e = subst (λ (p : Reference). AsReference p (call (message s) buffer ∷ ds) (r ∷ rs) e) x.ends (made x.good l) in
    let z : (receive (final (opened t) cs) s).answer ≡ Taken = sym (ap (λ (v : Seen). v.answer) (first-seen y.replies)) ∙ a in
    y.replies ∙ ap (map seen) (fresh-replies t cs ds s buffer m q i z) ∙ sym (opened-made o' l').replies

pub round-trip-code : RoundTripCode
unfolding replies_to does final is_live
round-trip-code dialect depth name b c d e n f cs lent buffer u k q qs w r a z o l v h j o' l' i v' =
    let t : Config = settings_of dialect depth name in
    let p : Reference = final (opened t) cs in
    let x = opened-made o l in
    let back : (ds : List Call) (rs : List Seen) (g : Book) → Made c ds rs g → AsReference p ds rs g = λ ds rs g y. subst (λ (i : Reference). AsReference i ds rs g) x.ends (made x.good y) in
    let ws : w ≡ seen (does p (question write) lent) = first-seen (back _ _ _ v).replies in
    let zs : z ≡ seen (does p (question q) u) = first-seen (back _ _ _ v').replies in
    let hp : (does p (question write) lent).answer ≡ Taken = sym (ap (λ (y : Seen). y.answer) ws) ∙ h in
    let kn : k ≡ length (snapshot_text p) = same-amount (sym j ∙ ap (λ (y : Seen). y.value) ws ∙ wrote-length p lent hp) in
    let text : take k w.buffer ≡ snapshot_text p = ap₂ (λ (i : ℕ) (y : Seen). take i y.buffer) kn ws ∙ wrote-text p lent hp in
    let lp = wrote-live p lent hp in
    let y = round_trip t cs lp in
    let s : List ℕ = take k w.buffer in
    let p' : Reference = (receive (opened t) s).book in
    let ns = (opened-made o' l').replies in
    let rs : r ≡ seen (does (opened t) (message s) buffer) = first-seen ns in
    let an : a ≡ seen (does p' (question q) u) = second-seen ns in
    let st : p'.status ≡ live = ap (λ (i : List ℕ). (receive (opened t) i).book.status) text ∙ y.status in
    let lq : is_live p'.status ≡ true = ap is_live st in
    let sd : p'.last.sides ≡ p.last.sides = ap (λ (i : List ℕ). (receive (opened t) i).book.last.sides) text ∙ y.sides in
    let nr : p'.last.number ≡ p.last.number = ap (λ (i : List ℕ). (receive (opened t) i).book.last.number) text ∙ y.number in
    let hq : p'.had_snapshot ≡ true = (reached t (call (message s) buffer ∷ [])).had_snapshot lq in
    let cf : p'.config ≡ p.config = (reached t (call (message s) buffer ∷ [])).config ∙ sym (reached t cs).config in
    let hs : p.had_snapshot ≡ true = (reached t cs).had_snapshot lp in
    let same : seen (does p' (question q) u) ≡ seen (does p (question q) u) =
    rw (answer-alike p' p cf sd nr lq lp hq hs q i u, value-alike p' p cf sd nr lq lp hq hs q i u, buffer-alike p' p cf sd nr lq lp hq hs q i u) in
    (ap (λ (y : Seen). y.answer) rs ∙ ap (λ (i : List ℕ). (receive (opened t) i).answer) text ∙ y.answer, an ∙ same ∙ sym zs)
