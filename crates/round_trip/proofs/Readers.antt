-- What the readers of values make of texts that are known: arrays, objects, members by name, strings, whole numbers. Assumes nothing.
use Rattle.std.specs.Prelude.{Option, Some}
use Prim.Native.Nat.{ℕ, suc, ◌+◌, ◌-◌}
use mathlib.Core.Path.{◌≡◌, refl, ap, ap₂, ◌∙◌}
use mathlib.Core.Bool.{Bool, true, false, cond, and-eq-true_iff}
use mathlib.Core.List.{List, [], ◌∷◌, ◌++◌, map}
use native.Mathlib.Omega.{arith}
use borrow.Author.Tests.{eq-eqb, ne_eqb}
use lib.ListN.{length, take, drop}
use lib.Seq.{take-append_seam}
use Rattle.text.specs.Text.{byte_at}
use Rattle.json_values.specs.Json.{Span, Pair}
use Rattle.json_values.specs.Names.{meaning, same, means, inner}
use Rattle.json_values.specs.Claims.{holds}
use Rattle.json_values.proofs.Names.{plain-text, same_self}
use Rattle.entries.specs.Places.{is_string, contents, array_at, object_at, values_of}
use Rattle.writer.specs.Snapshot.{quoted, array}
use Rattle.round_trip.specs.Claims.{Each}
use Rattle.round_trip.proofs.Places.{byte-here, past-byte, Is}
use Rattle.round_trip.proofs.Tokens.{plain, unescaped-in, quoted-append, length-quoted}
use Rattle.round_trip.proofs.Lists.{Matched, both_none, both_more}
use Rattle.round_trip.proofs.Values.{Reads, IsText, elements-read, Field, object, GoodField, IsField, members-read}

-- ---- arrays and objects
pub record Gives {A D : Type 0} (is : A → D → Type 0) (ds : List D) (x : Option (List A)) : Type 0 where
  pub found : List A
  pub gives : x ≡ Some found
  pub matches : Matched is found ds

pub array-at : {D : Type 0} (d : ℕ) (write : D → List ℕ) (ds : List D) → Each (λ x. Reads d (write x)) ds
    → (s : List ℕ) (a : Span) → Is s a (array (map write ds)) → Gives (IsText write s) ds (array_at (suc d) s a)
unfolding array_at contents array
array-at d write ds each s a h =
    let r = elements-read d write ds each s a.from h.rest h.here in
    let b : byte_at s a.from ≡ 91 = byte-here s a.from _ h.here in
    record { found = r.found; gives = rw (eq-eqb (byte_at s a.from) 91 b) (ap contents r.reads-them); matches = r.matches }

pub object-at : (d : ℕ) (fs : List Field) → Each (GoodField d) fs
    → (s : List ℕ) (a : Span) → Is s a (object fs) → Gives (IsField s) fs (object_at (suc d) s a)
unfolding object_at contents object
object-at d fs each s a h =
    let r = members-read d fs each s a.from h.rest h.here in
    let b : byte_at s a.from ≡ 123 = byte-here s a.from _ h.here in
    record { found = r.found; gives = rw (eq-eqb (byte_at s a.from) 123 b) (ap contents r.reads-them); matches = r.matches }

-- ---- strings
plain-holds : (t : List ℕ) → plain t ≡ true → holds 92 t ≡ false
unfolding plain holds
plain-holds [] h = refl
plain-holds (c ∷ t) h =
    let p = (and-eq-true_iff _ (plain t)).0 h in
    let q = unescaped-in c p.0 in
    rw (ne_eqb c 92 q.2) (plain-holds t p.1)

module _ {s : List ℕ} {a : Span} (t : List ℕ) (h : Is s a (quoted t)) where
  from-quote : drop a.from s ≡ 34 ∷ (t ++ (34 ∷ h.rest))
  from-quote = h.here ∙ quoted-append t h.rest

  pub is-string : is_string s a ≡ true
  unfolding is_string
  is-string = eq-eqb (byte_at s a.from) 34 (byte-here s a.from _ from-quote)

  pub inner-is : inner s a ≡ t
  unfolding inner
  inner-is =
      let e : a.to ≡ a.from + length (quoted t) = h.ends in
      let l : length (quoted t) ≡ length t + 2 = length-quoted t in
      let n : a.to - a.from - 2 ≡ length t = omega arith in
      ap₂ take n (past-byte s a.from 34 _ from-quote) ∙ take-append_seam t (34 ∷ h.rest)

  -- it means what the bytes between its quotes mean
  pub means-same : (name : List ℕ) → means s a name ≡ same (meaning 0 t) name
  unfolding means
  means-same name = rw (eq-eqb (byte_at s a.from) 34 (byte-here s a.from _ from-quote), inner-is)

  pub means-it : plain t ≡ true → means s a t ≡ true
  means-it p = means-same t ∙ ap (λ (l : List ℕ). same l t) (plain-text t (plain-holds t p)) ∙ same_self t

-- ---- members by name
unfoldable pub named : List ℕ → List Field → List (List ℕ)
named name [] = []
named name (f ∷ fs) = cond (same (meaning 0 f.name) name) (f.text ∷ named name fs) (named name fs)

pub values-named : (s name : List ℕ) {ms : List Pair} {fs : List Field} → Matched (IsField s) ms fs → Matched (Is s) (values_of s name ms) (named name fs)
unfolding values_of named
values-named s name both_none = both_none
values-named s name (both_more {a = m} {d = f} {l = ms} {k = fs} h r) = rw (means-same f.name h.name-is name) (at (same (meaning 0 f.name) name) (values-named s name r))
  where
    at : (b : Bool) → Matched (Is s) (values_of s name ms) (named name fs)
        → Matched (Is s) (cond b (m.value ∷ values_of s name ms) (values_of s name ms)) (cond b (f.text ∷ named name fs) (named name fs))
    at true ih = both_more h.value-is ih
    at false ih = ih

pub matched-length : {A D : Type 0} {is : A → D → Type 0} {l : List A} {k : List D} → Matched is l k → length l ≡ length k
matched-length both_none = refl
matched-length (both_more h r) = ap suc (matched-length r)

-- the one of a list
pub record One {A D : Type 0} (is : A → D → Type 0) (l : List A) (d : D) : Type 0 where
  pub the : A
  pub alone : l ≡ the ∷ []
  pub is-it : is the d

pub the_one : {A D : Type 0} {is : A → D → Type 0} {l : List A} {d : D} → Matched is l (d ∷ []) → One is l d
the_one (both_more {a} h both_none) = record { the = a; alone = refl; is-it = h }
