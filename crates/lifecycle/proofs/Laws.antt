-- Laws of how a book stands. Assumes nothing.
use Rattle.std.specs.Prelude.{Err, Ok, Result}
use Prim.Native.Nat.{ℕ}
use mathlib.Core.Path.{◌≡◌, refl, sym, ap, ◌∙◌}
use mathlib.Core.List.{List}
use mathlib.Core.Bool.{Bool, true, false, true≢false, ◌&&◌, cond}
use Rattle.answer.specs.Answers.{leaves_status}
use Rattle.answer.specs.declared.Answer.{Answer}
use Rattle.answer.specs.declared.Answer.TheVariants.{Taken, PriceTwice, NoSnapshot, OldNumber, TooManyLevels, Crossed}
use Rattle.answer.specs.declared.Answer.TheVariants as answer·
use Rattle.settings.specs.Rules.{rules_of}
use Rattle.settings.specs.declared.Rules.{Rules}
use Rattle.layout.specs.Layout.{is_snapshot}
use Rattle.settings.specs.Kept.{config_of}
use Rattle.settings.specs.declared.Settings.{Settings}
use Rattle.layout.specs.declared.Kind.{Kind}
use Rattle.layout.specs.declared.Outline.{Outline}
use Rattle.message.specs.Meaning.{checked}
use Rattle.message.specs.Verdict.{verdict_of}
use Rattle.reference.specs.Reference.{is_shut, is_live}
use Rattle.lifecycle.specs.Lifecycle.{status_of, refused_lifecycle, is_old_by, judged_update, judged_sides, after_text, judged}
use Rattle.lifecycle.specs.declared.State.{State}
use Rattle.lifecycle.specs.declared.State.TheVariants.{Waiting}
use Rattle.lifecycle.specs.declared.Lifecycle.{Lifecycle}

-- after a refusal
pub refused-left : (x : Lifecycle) (a : Answer) → leaves_status a ≡ true → x ≡ refused_lifecycle x a
unfolding refused_lifecycle
refused-left x a h = sym (rw (h, refused_lifecycle))

pub refused-waits : (x : Lifecycle) (a : Answer) → leaves_status a ≡ false → record { state = Waiting; had_snapshot = x.had_snapshot } ≡ refused_lifecycle x a
unfolding refused_lifecycle
refused-waits x a h = sym (rw (h, refused_lifecycle))

-- ---- checks 10 and 11 in numbers, one test at a time

module _ (state : State) (r : Rules) (n : ℕ) (o : Outline) where
  pub judged-snapshot : is_snapshot o.kind ≡ true → Ok o ≡ judged_update state r n o
  unfolding judged_update
  judged-snapshot h = sym (pick (is_snapshot o.kind) h)
    where
      pick : (t : Bool) → t ≡ true → cond t (Ok o) (cond (is_live (status_of state)) (cond (is_old_by r n o) (Err OldNumber) (Ok o)) (Err NoSnapshot)) ≡ Ok o
      pick true e = refl
      pick false e = absurd (true≢false (sym e))

  module _ (h : is_snapshot o.kind ≡ false) where
    pub judged-idle : is_live (status_of state) ≡ false → Err NoSnapshot ≡ judged_update state r n o
    unfolding judged_update
    judged-idle l = sym (pick (is_snapshot o.kind) (is_live (status_of state)) h l)
      where
        pick : (t x : Bool) → t ≡ false → x ≡ false → cond t (Ok o) (cond x (cond (is_old_by r n o) (Err OldNumber) (Ok o)) (Err NoSnapshot)) ≡ Err NoSnapshot
        pick true x e f = absurd (true≢false e)
        pick false true e f = absurd (true≢false f)
        pick false false e f = refl

    pub judged-live : is_live (status_of state) ≡ true → cond (is_old_by r n o) (Err OldNumber) (Ok o) ≡ judged_update state r n o
    unfolding judged_update
    judged-live l = sym (pick (is_snapshot o.kind) (is_live (status_of state)) h l)
      where
        pick : (t x : Bool) → t ≡ false → x ≡ true → cond t (Ok o) (cond x (cond (is_old_by r n o) (Err OldNumber) (Ok o)) (Err NoSnapshot)) ≡ cond (is_old_by r n o) (Err OldNumber) (Ok o)
        pick true x e f = absurd (true≢false e)
        pick false true e f = refl
        pick false false e f = absurd (true≢false (sym f))

    pub judged-old : is_live (status_of state) ≡ true → (is_old_by r n o) ≡ true → Err OldNumber ≡ judged_update state r n o
    judged-old l e = sym (ap (λ (t : Bool). cond t (Err OldNumber) (Ok o)) e) ∙ judged-live l

    pub judged-new : is_live (status_of state) ≡ true → (is_old_by r n o) ≡ false → Ok o ≡ judged_update state r n o
    judged-new l e = sym (ap (λ (t : Bool). cond t (Err OldNumber) (Ok o)) e) ∙ judged-live l

-- ---- checks 9, 12 and 16, one test at a time

module _ (kind : Kind) (replaced over crossed : Bool) where
  pub sides-twice : (is_snapshot kind && replaced) ≡ true → PriceTwice ≡ judged_sides kind replaced over crossed
  unfolding judged_sides
  sides-twice h = sym (rw (h, judged_sides))

  module _ (a : (is_snapshot kind && replaced) ≡ false) where
    pub sides-many : over ≡ true → TooManyLevels ≡ judged_sides kind replaced over crossed
    unfolding judged_sides
    sides-many h = sym (rw (a, h, judged_sides))

    module _ (b : over ≡ false) where
      pub sides-crossed : crossed ≡ true → Crossed ≡ judged_sides kind replaced over crossed
      unfolding judged_sides
      sides-crossed h = sym (rw (a, b, h, judged_sides))

      pub sides-fit : crossed ≡ false → Taken ≡ judged_sides kind replaced over crossed
      unfolding judged_sides
      sides-fit h = sym (rw (a, b, h, judged_sides))

-- ---- checks 1 to 8, before 10 and 11

module _ (settings : Settings) (x : Lifecycle) (n : ℕ) (s : List ℕ) where
  pub judged-shut : is_shut (status_of x.state) ≡ true → Err answer·.Shut ≡ judged settings x n s
  unfolding judged
  judged-shut u = sym (rw (u, judged))

  pub judged-open : is_shut (status_of x.state) ≡ false → (v : Result Outline Answer) → verdict_of s (checked (config_of settings) s) ≡ v
      → after_text x.state (rules_of settings.dialect) n v ≡ judged settings x n s
  unfolding judged
  judged-open u v h = sym (rw (u, judged, h))
