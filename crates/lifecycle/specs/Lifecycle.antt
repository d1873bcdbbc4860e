-- How a book stands, in terms of the code. Assumes nothing: these are definitions.
use Rattle.std.specs.Prelude.{ℕ, ◌≤◌, ◌≡◌, List, Bool, true, false, ◌&&◌, ◌||◌, not, cond, leb, eqb, length, Some, Err, Ok, Result}
use Rattle.answer.specs.Answers.{leaves_status}
use Rattle.answer.specs.declared.Answer.{Answer}
use Rattle.answer.specs.declared.Answer.TheVariants.{Taken, PriceTwice, NoSnapshot, OldNumber, TooManyLevels, Crossed}
use Rattle.answer.specs.declared.Answer.TheVariants as answer·
use Rattle.settings.specs.Settings.{good}
use Rattle.settings.specs.Rules.{rules_of}
use Rattle.settings.specs.declared.Rules.{Rules}
use Rattle.settings.specs.Kept.{config_of}
use Rattle.settings.specs.declared.Settings.{Settings}
use Rattle.settings.specs.declared.Dialect.{Dialect}
use Rattle.settings.specs.declared.Dialect.TheVariants.{K, M, Unknown}
use Rattle.entries.specs.Tally.{Kept}
use Rattle.layout.specs.Layout.{is_snapshot, Layout}
use Rattle.layout.specs.declared.Kind.{Kind}
use Rattle.layout.specs.declared.Outline.{Outline}
use Rattle.message.specs.Meaning.{checked}
use Rattle.message.specs.Verdict.{verdict_of}
use Rattle.reference.specs.Reference.{Status, shut, waiting, live, is_shut, is_live}
use Rattle.reference.specs.declared.Scope.{Scope}
use Rattle.reference.specs.declared.Scope.TheVariants.{Current, LastGood}
use Rattle.lifecycle.specs.declared.State.{State}
use Rattle.lifecycle.specs.declared.State.TheVariants.{Shut, Waiting, Live}
use Rattle.lifecycle.specs.declared.Lifecycle.{Lifecycle}
use Rattle.lifecycle.specs.declared.Counts.{Counts}

unfoldable pub status_of : State → Status
status_of Shut = shut
status_of Waiting = waiting
status_of Live = live

unfoldable pub first_state : Dialect → State
first_state K = Waiting
first_state (M e) = Waiting
first_state Unknown = Shut

-- Whether a question is answered, of a book of that status, with or without a last good state.
unfoldable pub answers : Status → Bool → Scope → Bool
answers shut ever scope = false
answers waiting ever Current = false
answers waiting ever LastGood = ever
answers live ever Current = true
answers live ever LastGood = ever

unfoldable pub refusal_of : Status → Answer
refusal_of shut = answer·.Shut
refusal_of waiting = NoSnapshot
refusal_of live = NoSnapshot

-- How many bids and asks there are: as many as it has where the question is answered, and none where it is not.
unfoldable pub counts_of : Lifecycle → Scope → ℕ → ℕ → Counts
counts_of now scope bids asks =
    cond (answers (status_of now.state) now.had_snapshot scope)
    (record { answer = Taken; bids = bids; asks = asks })
    (record { answer = refusal_of (status_of now.state); bids = 0; asks = 0 })

-- How a book stands after a message that is taken, and after a refusal.
unfoldable pub live_lifecycle : Lifecycle → Kind → Lifecycle
live_lifecycle now kind = record { state = Live; had_snapshot = is_snapshot kind || now.had_snapshot }

unfoldable pub refused_lifecycle : Lifecycle → Answer → Lifecycle
refused_lifecycle now a = record { state = cond (leaves_status a) now.state Waiting; had_snapshot = now.had_snapshot }

-- Check 11, of an update to a book that has this sequence number.
unfoldable pub is_old_by : Rules → ℕ → Outline → Bool
is_old_by r number o = r.numbered && (leb o.number number || (r.linked && not (eqb o.previous number)))

-- Checks 10 and 11.
unfoldable pub judged_update : State → Rules → ℕ → Outline → Result Outline Answer
judged_update state r number o =
    cond (is_snapshot o.kind) (Ok o)
    (cond (is_live (status_of state))
    (cond (is_old_by r number o) (Err OldNumber) (Ok o))
    (Err NoSnapshot))

-- Checks 9, 12 and 16, by what its entries make of the sides.
unfoldable pub judged_sides : Kind → Bool → Bool → Bool → Answer
judged_sides kind replaced over crossed =
    cond (is_snapshot kind && replaced) PriceTwice
    (cond over TooManyLevels
    (cond crossed Crossed Taken))

-- What a message may be read with: of a book that is not shut the settings are good.
pub record Ruled (settings : Settings) (now : Lifecycle) : Type 0 where
  pub room : length settings.name ≡ 16
  pub short : settings.length ≤ 16
  pub config : is_shut (status_of now.state) ≡ false → good (config_of settings) ≡ true

-- Checks 1 to 8, 10 and 11.
unfoldable pub after_text : State → Rules → ℕ → Result Outline Answer → Result Outline Answer
after_text state r number (Err a) = Err a
after_text state r number (Ok o) = judged_update state r number o

unfoldable pub judged : Settings → Lifecycle → ℕ → List ℕ → Result Outline Answer
judged settings now number s =
    cond (is_shut (status_of now.state)) (Err answer·.Shut)
    (after_text now.state (rules_of settings.dialect) number (verdict_of s (checked (config_of settings) s)))

-- What `judge` promises: the verdict, and that the buffer has the entries of a message that passes.
pub record JudgedAs (settings : Settings) (now : Lifecycle) (number : ℕ) (s buffer : List ℕ) (r : Result Outline Answer) : Type 0 where
  pub told : r ≡ judged settings now number s
  pub kept : is_shut (status_of now.state) ≡ false → (l : Layout) → checked (config_of settings) s ≡ Ok l → Kept s (Some l.entries) buffer
