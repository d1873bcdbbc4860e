-- A shut book answers 1 to every call, and no other book ever does. Assumes nothing.
use Rattle.std.specs.Prelude.{None, Option, Some, Err, Ok, Result}
use mathlib.Core.Path.{◌≡◌, refl, sym, ap, ◌∙◌}
use mathlib.Core.List.{List}
use mathlib.Core.Bool.{Bool, true, false, true≢false, cond}
use Prim.Native.Nat.{ℕ}
use native.Mathlib.Omega.{arith}
use lib.Dec.{eqb}
use lib.ListN.{length}
use Rattle.settings.specs.Settings.{Config}
use Rattle.entries.specs.Places.{top}
use Rattle.layout.specs.Layout.{Layout, Envelope}
use Rattle.answer.specs.Answers.{answer_number, is_taken}
use Rattle.message.specs.Meaning.{Message, decode, envelope_in, checked, decoded_of}
use Rattle.answer.specs.declared.Answer.{Answer}
use Rattle.answer.specs.declared.Answer.TheVariants.{Taken, Shut, PriceTwice, NoSnapshot, OldNumber, TooManyLevels, WrongChecksum, Crossed}
use Rattle.reference.specs.Reference.{is_shut, Reference, opened, names_price_twice, lacks_snapshot, is_old, has_too_many, has_crossed, has_wrong_checksum, verdict, taken_by, refused_by, answered, received, receive, stands, Response, respond, refusal, replied, Ask, message, question, does, final}
use Rattle.reference.specs.Claims.{SettingsDecide}
use Rattle.reference.proofs.Checks.{Refusals, Read, Either, checked-either}
use Rattle.reference.proofs.Questions.{lacks-one}
use Rattle.reference.proofs.Runs.{reached}

-- an answer other than 1
Other : Answer → Type 0
Other a = eqb (answer_number a) 1 ≡ false

other-not : (a : Answer) → Other a → a ≡ Shut → ⊥
unfolding Other answer_number
other-not a h e = true≢false (sym (ap (λ (x : Answer). eqb (answer_number x) 1) e) ∙ h)

-- ---- a shut book

shut-answers : (p : Reference) (ask : Ask) (buffer : List ℕ) → is_shut p.status ≡ true → (does p ask buffer).answer ≡ Shut
unfolding does receive replied refusal
shut-answers p (message s) buffer u = rw (u, receive)
shut-answers p (question q) buffer u = rw u

-- ---- one that is not

decoded-other : (t : Config) (s : List ℕ) (a : Answer) → decode t s ≡ Err a → Other a
unfolding decode decoded_of Other answer_number
decoded-other t s a h = go (checked t s) (checked-either Other (λ l. Unit {0}) every t s (any (envelope_in t.dialect t s (top s)))) h
  where
    every : Refusals Other
    every = record { long = refl; not-json = refl; not_ours = refl; layout = refl; entries = refl; decimal = refl }

    any-layout : (x : Option Layout) → Read (λ l. Unit {0}) x
    any-layout (Some l) = tt
    any-layout None = tt

    any : (x : Option Envelope) → Read (λ k. Read (λ l. Unit {0}) k.layout) x
    any (Some k) = any-layout k.layout
    any None = tt

    go : (x : Result Layout Answer) → Either Other (λ l. Unit {0}) x → decoded_of s x ≡ Err a → Other a
    go (Err b) r g = let e : b ≡ a = cc in rw e at r
    go (Ok l) r g = let z : ◌≡◌ {A = ℕ} 0 1 = cc in absurd (omega arith)

verdict-other : (p : Reference) (m : Message) → Other (verdict p m)
unfolding verdict Other answer_number
verdict-other p m = at (names_price_twice m) (lacks_snapshot p m) (is_old p m) (has_too_many p m) (has_crossed p m) (has_wrong_checksum p m)
  where
    at : (a b c d x e : Bool) → Other (cond a PriceTwice (cond b NoSnapshot (cond c OldNumber (cond d TooManyLevels (cond x Crossed (cond e WrongChecksum Taken))))))
    at true b c d x e = refl
    at false true c d x e = refl
    at false false true d x e = refl
    at false false false true x e = refl
    at false false false false true e = refl
    at false false false false false true = refl
    at false false false false false false = refl

received-other : (p : Reference) (s : List ℕ) → is_shut p.status ≡ false → Other (receive p s).answer
unfolding receive received answered refused_by Other answer_number
received-other p s u = rw (u, receive) (go (decode p.config s) refl)
  where
    go : (x : Result Message Answer) → decode p.config s ≡ x → Other (received p x).answer
    go (Err a) q = decoded-other p.config s a q
    go (Ok m) q = at m (is_taken (verdict p m))
      where
        at : (m : Message) (b : Bool) → Other (cond b (taken_by p m) (refused_by p (verdict p m))).answer
        at m true = refl
        at m false = verdict-other p m

open-answers : (p : Reference) (ask : Ask) (buffer : List ℕ) → is_shut p.status ≡ false → Other (does p ask buffer).answer
unfolding does replied refusal Other answer_number
open-answers p (message s) buffer u = received-other p s u
open-answers p (question q) buffer u = rw u (at (stands r.scope p))
  where
    r : Response
    r = respond p (length buffer) q

    at : (b : Bool) → Other (cond b r.lacks NoSnapshot)
    at true = lacks-one Other refl refl refl p (length buffer) q
    at false = refl

-- ---- by the settings

pub settings-decide : SettingsDecide
unfolding opened is_shut
settings-decide t cs ask buffer =
    let p : Reference = final (opened t) cs in
    let r = reached t cs in
    ((λ h. shut-answers p ask buffer (r.shut ∙ rw h)), (λ h. other-not (does p ask buffer).answer (open-answers p ask buffer (r.shut ∙ rw h))))
