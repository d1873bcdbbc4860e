-- Demand 3 of the code, of a book whose words are lent. Assumes nothing.
use Prim.Native.Nat.{ℕ}
use mathlib.Core.Path.{◌≡◌, refl, sym, ap, ap₂, ◌∙◌, subst}
use mathlib.Core.List.{List, ◌∷◌, map}
use native.Mathlib.Omega.{arith}
use Rattle.answer.specs.declared.Answer.{Answer}
use Rattle.reference.specs.Reference.{Reference, Value, counts, amount, Ask, message, question, how_many, does, replied, replies_to, Call}
use Rattle.reference.specs.Claims.{call}
use Rattle.reference.proofs.Claims.{same-buffer}
use Rattle.book.specs.Shown.{shows, book_of, Good}
use Rattle.book.specs.declared.Header.{Header}
use Rattle.book.specs.declared.BookParts.{BookParts}
use Rattle.book.proofs.Asking.{counts-told}
use Rattle.claims.specs.Calls.{Seen, seen}
use Rattle.crc32.specs.Table.{ShiftTable}
use Rattle.claims.specs.Lent.{MadeIn, no_call_in, a_message_in, a_count_in, ThirdDemandLent}

module _ (p : Reference) (ask : Ask) (buffer : List ℕ) (q : Reference) (a : Answer) (v : Value) (x : List ℕ) where
  one_more : q ≡ (does p ask buffer).after → a ≡ (does p ask buffer).answer → v ≡ (does p ask buffer).value → x ≡ (does p ask buffer).buffer
      → (cs : List Call) (rs : List Seen) → rs ≡ map seen (replies_to q cs) → record { answer = a; value = v; buffer = x } ∷ rs ≡ map seen (replies_to p (call ask buffer ∷ cs))
  unfolding replies_to
  one_more f g h i cs rs e = ap₂ (λ (y : Seen) (z : List Seen). y ∷ z) (rw (g, h, i)) (e ∙ ap (λ (y : Reference). map seen (replies_to y cs)) f)

made_in : {h : Header} {bids asks : List ℕ} {cs : List Call} {rs : List Seen} → Good (book_of bids asks h) → MadeIn h bids asks cs rs → rs ≡ map seen (replies_to (shows (book_of bids asks h)) cs)
unfolding does replied replies_to
made_in g no_call_in = refl
made_in {h} g (a_message_in {r = r} {buffer = w} {cs = cs} {rs = rs} κs u v x y s t κt t0 t1 f n l k) =
    let e = (l (g, subst ShiftTable (sym n) f.right)).received in
    one_more (shows (book_of u.now v.now h)) (message s.now) w (shows (book_of x.now y.now r.header)) r.answer (amount r.moved) w e.same e.answer (ap amount e.moved) refl cs rs (made_in e.good k)
made_in {h} {bids} {asks} g (a_count_in {buffer = w} {scope = c} {r = r} {cs = cs} {rs = rs} κs l k) =
    let e = counts-told h c r l bids asks g in
    one_more (shows (book_of bids asks h)) (question (how_many c)) w (shows (book_of bids asks h)) r.answer (counts r.bids r.asks) w refl (e.answer w) (e.value w)
    (same-buffer (shows (book_of bids asks h)) (how_many c) w (λ z. let n : ◌≡◌ {A = ℕ} 0 1 = cc in omega arith)) cs rs (made_in g k)

pub demand-3-lent : ThirdDemandLent
demand-3-lent κs κp dialect depth name b p cs rs o e k =
    subst (λ (x : Reference). rs ≡ map seen (replies_to x cs)) o.same
    (made_in o.good (subst (λ (x : BookParts). MadeIn x.header x.bids x.asks cs rs) e k))
