-- What checks 1 to 8, 10 and 11 find of a book, from what `judge` answers. Assumes nothing.
use Rattle.std.specs.Prelude.{Err, Ok, Result}
use Rattle.layout.specs.declared.Outline.{Outline}
use Rattle.layout.specs.Layout.{Layout}
use Rattle.answer.specs.declared.Answer.{Answer}
use Prim.Native.Nat.{ℕ}
use mathlib.Core.Path.{◌≡◌, refl, sym, ap, ◌∙◌, subst}
use mathlib.Core.Bool.{Bool, true, false}
use mathlib.Core.List.{List}
use Rattle.settings.specs.Kept.{config_of}
use Rattle.message.specs.Meaning.{checked, Message}
use Rattle.message.specs.Verdict.{verdict_of}
use Rattle.reference.specs.Reference.{is_shut, verdict, answered}
use Rattle.lifecycle.specs.Lifecycle.{status_of, after_text, judged, JudgedAs}
use Rattle.lifecycle.proofs.Laws.{judged-shut, judged-open}
use Rattle.book.specs.Shown.{shows, Good}
use Rattle.book.specs.Taking.{refused_step, Judged}
use Rattle.book.specs.declared.Book.{Book}
use Rattle.book.proofs.Refusing.{shut-told, hear-fails, hear-passes, told-as, refused-told}
use Rattle.book.proofs.Entering.{outlined, message-is, passes-in}
use Rattle.book.proofs.Settling.{judged-told}

module _ (b : Book) (s buffer : List ℕ) (g : Good b) where
  abbrev Is : Result Outline Answer → Type 0
  Is = Judged b s buffer

  pub judged-by : (v : Result Outline Answer) → JudgedAs b.settings b.lifecycle b.number s buffer v → Is v
  unfolding Judged after_text verdict_of shows
  judged-by v h = subst Is (sym h.told) (shut-or-open (is_shut (status_of b.lifecycle.state)) refl)
    where
      by-text : is_shut (status_of b.lifecycle.state) ≡ false → (x : Result Layout Answer) → checked (config_of b.settings) s ≡ x → Is (judged b.settings b.lifecycle b.number s)
      by-text u (Err a) e =
          subst Is (judged-open b.settings b.lifecycle b.number s u (Err a) (rw (e, verdict_of)))
          (told-as (refused_step b a) (hear-fails (shows b) s u a e) (refused-told b g u a))
      by-text u (Ok l) e =
          let kept = h.kept u l e in
          let o = outlined b s buffer l e kept in
          subst Is (judged-open b.settings b.lifecycle b.number s u (Ok o) (rw (e, verdict_of)))
          (judged-told b o buffer (passes-in b s buffer l e kept g u) s
          (hear-passes (shows b) s u l e ∙ ap (λ (m : Message). answered (shows b) m (verdict (shows b) m)) (message-is b s buffer l e kept)) _ refl)

      shut-or-open : (t : Bool) → is_shut (status_of b.lifecycle.state) ≡ t → Is (judged b.settings b.lifecycle b.number s)
      shut-or-open true u = subst Is (judged-shut b.settings b.lifecycle b.number s u) (shut-told b s g u)
      shut-or-open false u = by-text u (checked (config_of b.settings) s) refl
