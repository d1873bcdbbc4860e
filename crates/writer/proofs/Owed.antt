-- Laws of texts laid one after another: what is still to be laid, until it is laid. Assumes nothing.
use mathlib.Core.Path.{◌≡◌, refl, sym, ap, ap₂, ◌∙◌, subst}
use mathlib.Core.Bool.{true}
use mathlib.Core.List.{List, [], ◌∷◌, ◌++◌, append_assoc}
use Prim.Native.Nat.{ℕ, ◌+◌, ◌≤◌}
use native.Mathlib.Nat.{add-zero, add_assoc}
use native.Mathlib.Numerals.{add-one}
use native.Mathlib.Omega.{arith}
use borrow.Author.Tests.{le-leb}
use lib.ListN.{length, take, drop, set, length-append, length-drop}
use lib.Seq.{set_split, take_at, drop_at, drop-drop, length-take-le}
use Rattle.decimal.specs.Buffer.{overlaid}
use Rattle.decimal.specs.Laying.{fits, Laid}
use Rattle.std.specs.Prelude.{Option, Some, unwrap_or}
use Rattle.decimal.proofs.Buffer.{overlaid-none, laid-to}
use Rattle.writer.specs.Parts.{Room, Put}

-- ---- one text after another is one text

module _ (b : List ℕ) (at : ℕ) (t u : List ℕ) (inside : at ≤ length b) where
  up_to : length (take at b ++ t) ≡ at + length t
  up_to = length-append (take at b) t ∙ ap (λ (n : ℕ). n + length t) (length-take-le at b inside)

  overlaid-grouped : overlaid b at t ≡ (take at b ++ t) ++ drop (at + length t) b
  unfolding overlaid
  overlaid-grouped = sym (append_assoc (take at b) t (drop (at + length t) b))

  past-it : drop (at + length t + length u) (overlaid b at t) ≡ drop (at + length (t ++ u)) b
  past-it =
      sym (drop-drop (length u) (at + length t) (overlaid b at t))
      ∙ ap (drop (length u)) (ap (drop (at + length t)) overlaid-grouped ∙ drop_at (take at b ++ t) (drop (at + length t) b) (at + length t) up_to)
      ∙ drop-drop (length u) (at + length t) b
      ∙ ap (λ (n : ℕ). drop n b) (add_assoc at (length t) (length u) ∙ ap (λ (n : ℕ). at + n) (sym (length-append t u)))

  pub overlaid-twice : overlaid (overlaid b at t) (at + length t) u ≡ overlaid b at (t ++ u)
  unfolding overlaid
  overlaid-twice =
      ap₂ (λ (x y : List ℕ). x ++ (u ++ y))
      (ap (take (at + length t)) overlaid-grouped ∙ take_at (take at b ++ t) (drop (at + length t) b) (at + length t) up_to)
      past-it
      ∙ append_assoc (take at b) t (u ++ drop (at + length (t ++ u)) b)
      ∙ ap (λ (y : List ℕ). take at b ++ y) (sym (append_assoc t u (drop (at + length (t ++ u)) b)))

pub length-overlaid : (b : List ℕ) (at : ℕ) (t : List ℕ) → Room b at t → length (overlaid b at t) ≡ length b
unfolding overlaid
length-overlaid b at t room =
    let p : length (take at b ++ (t ++ drop (at + length t) b)) ≡ length (take at b) + (length t + length (drop (at + length t) b)) = length-append (take at b) (t ++ drop (at + length t) b) ∙ ap (λ (n : ℕ). length (take at b) + n) (length-append t (drop (at + length t) b)) in
    let q : length (take at b) ≡ at = length-take-le at b (omega arith) in
    let r = length-drop (at + length t) b in
    omega arith

pub put-length : {b : List ℕ} {at : ℕ} {text b' : List ℕ} {e : ℕ} → Room b at text → Put b at text b' e → length b' ≡ length b
put-length {b} {at} {text} room put = ap length put.bytes ∙ length-overlaid b at text room

-- ---- what is still to be laid

-- A text that is still to be laid at a position, after which the buffer is `final` and the position `past`.
pub record Owed (final : List ℕ) (past : ℕ) (b : List ℕ) (at : ℕ) (text : List ℕ) : Type 0 where
  pub bytes : overlaid b at text ≡ final
  pub end : at + length text ≡ past
  pub room : at + length text ≤ length b

abbrev pub Whole : List ℕ → ℕ → List ℕ → List ℕ → ℕ → List ℕ → Type 0
Whole b₀ at₀ text₀ b at text = Owed (overlaid b₀ at₀ text₀) (at₀ + length text₀) b at text

pub owed-as : {b : List ℕ} {at : ℕ} {text text' : List ℕ} → text ≡ text' → Room b at text → Whole b at text b at text'
owed-as {b} {at} {text} e room = subst (Whole b at text b at) e (record { bytes = refl; end = refl; room = room })

pub owed_all : {b : List ℕ} {at : ℕ} {text : List ℕ} → Room b at text → Whole b at text b at text
owed_all room = owed-as refl room

module _ {final : List ℕ} {past : ℕ} {b : List ℕ} {at : ℕ} where
  pub room-first : (t u : List ℕ) → Owed final past b at (t ++ u) → at + length t ≤ length b
  room-first t u owed = let h = owed.room in let l = length-append t u in omega arith

  pub owed-rest : {t u b' : List ℕ} {e : ℕ} → Owed final past b at (t ++ u) → Put b at t b' e → Owed final past b' e u
  owed-rest {t} {u} {b'} {e} owed put =
      let h = owed.room in
      let l = length-append t u in
      let i : at ≤ length b = omega arith in
      let q : length b' ≡ length b = put-length (room-first t u owed) put in
      let z = put.end in
      let y = owed.end in
      record {
        bytes = ap₂ (λ (x : List ℕ) (n : ℕ). overlaid x n u) put.bytes put.end ∙ overlaid-twice b at t u i ∙ owed.bytes;
        end = omega arith;
        room = omega arith;
      }

  -- the first text as its callee names it
  pub room-first-as : {t' : List ℕ} (t u : List ℕ) → t' ≡ t → Owed final past b at (t ++ u) → at + length t' ≤ length b
  room-first-as t u is owed = rw is (room-first t u owed)

  pub owed-rest-as : {t t' u b' : List ℕ} {e : ℕ} → t' ≡ t → Owed final past b at (t ++ u) → Put b at t' b' e → Owed final past b' e u
  owed-rest-as {b' = b'} {e = e} is owed put = owed-rest owed (subst (λ (l : List ℕ). Put b at l b' e) is put)

-- the last text that was owed
pub put_last : {b₀ : List ℕ} {at₀ : ℕ} {text₀ b : List ℕ} {at : ℕ} {text t b' : List ℕ} {e : ℕ} → Whole b₀ at₀ text₀ b at text → text ≡ t → Put b at t b' e → Put b₀ at₀ text₀ b' e
put_last {b₀} {at₀} {text₀} {b} {at} owed is put =
    let o = subst (Whole b₀ at₀ text₀ b at) is owed in
    record { bytes = put.bytes ∙ o.bytes; end = put.end ∙ o.end }

pub room-all : {final : List ℕ} {past : ℕ} {b : List ℕ} {at : ℕ} {text t : List ℕ} → Owed final past b at text → text ≡ t → at + length t ≤ length b
room-all owed is = rw is at owed.room

pub put-none : {b₀ : List ℕ} {at₀ : ℕ} {text₀ b : List ℕ} {at : ℕ} → Whole b₀ at₀ text₀ b at [] → Put b₀ at₀ text₀ b at
put-none {b = b} {at = at} owed = put_last owed refl (record { bytes = sym (overlaid-none b at); end = sym (add-zero at) })

-- one byte
pub owed-byte : {final : List ℕ} {past : ℕ} {b : List ℕ} {at x : ℕ} {u : List ℕ} → Owed final past b at (x ∷ u) → Owed final past (set b at x) (at + 1) u
unfolding overlaid
owed-byte {b = b} {at = at} {x = x} {u = u} owed =
    let h = owed.room in
    owed-rest {t = x ∷ []} owed (record { bytes = set_split b at x (omega arith) ∙ ap (λ (n : ℕ). take at b ++ (x ∷ drop n b)) (sym (add-one at)); end = refl })

-- ---- a text of another crate's that is laid where there is room

module _ {b : List ℕ} {at : ℕ} {text b' : List ℕ} {w : Option ℕ} (room : Room b at text) (laid : Laid b at text b' w) where
  it-fits : fits b at text ≡ true
  unfolding fits
  it-fits = le-leb (at + length text) (length b) room

  -- so the end is told, and none other is taken in its place
  pub put_end : (other : ℕ) {e : ℕ} → e ≡ unwrap_or w other → Put b at text b' e
  put_end other is =
      let p : w ≡ Some (at + length text) = laid.end ∙ rw it-fits in
      record { bytes = laid.bytes ∙ rw it-fits; end = is ∙ ap (λ (o : Option ℕ). unwrap_or o other) p }

-- ---- the text of the whole, as a caller is told of it

pub put-laid : {b : List ℕ} {at : ℕ} {text b' : List ℕ} {e : ℕ} → Room b at text → Put b at text b' e → Laid b at text b' (Some e)
put-laid {b} {at} {text} room put = laid-to b at text room put.bytes put.end
