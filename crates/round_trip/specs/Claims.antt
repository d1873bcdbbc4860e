-- What the writer's snapshot says when it is read: statements, each proved in `proofs/Claims`. Assumes nothing: these are definitions.
use Rattle.std.specs.Prelude.{ℕ, ◌≤◌, ◌<◌, ◌^◌, ◌≡◌, true, false, List, [], ◌∷◌, ◌++◌, map, length, Ok}
use Rattle.decimal.specs.Decimal.{Number, is_zero}
use Rattle.decimal.specs.Limits.{Within}
use Rattle.edit.specs.Edit.{PriceLevel, sets}
use Rattle.edit.specs.declared.Side.{Side}
use Rattle.edit.specs.declared.Side.TheVariants.{Bids, Asks}
use Rattle.settings.specs.Settings.{good}
use Rattle.settings.specs.declared.Dialect.TheVariants.{K, M}
use Rattle.settings.specs.declared.Edition.{Edition}
use Rattle.layout.specs.Layout.{printed, unprinted}
use Rattle.layout.specs.declared.Kind.TheVariants.{Snapshot}
use Rattle.message.specs.Meaning.{SidedEdit, decode}
use Rattle.writer.specs.Snapshot.{k_snapshot, m_snapshot}

-- An entry that sets a level.
abbrev pub setting : Side → PriceLevel → SidedEdit
setting side l = record { side = side; edit = sets l }

-- A price or a size that a book can hold.
pub record Positive (n : Number) : Type 0 where
  pub within : Within n
  pub some : is_zero n ≡ false

pub record ValidLevel (l : PriceLevel) : Type 0 where
  pub price : Positive l.price
  pub size : Positive l.size

-- Each of a list has a property.
pub data Each {A : Type 0} (P : A → Type 0) : List A → Type 0 where
  each_none : Each P []
  each_more : {a : A} {l : List A} → P a → Each P l → Each P (a ∷ l)

-- The levels of a side, as many as a message may have.
pub record Valid (levels : List PriceLevel) : Type 0 where
  pub few : length levels ≤ 100
  pub each : Each ValidLevel levels

-- ---- the claims

abbrev pub KRoundTrip : Type 0
KRoundTrip = (depth : ℕ) (name : List ℕ) (bids asks : List PriceLevel) → good (record { dialect = K; depth = depth; name = name }) ≡ true → Valid bids → Valid asks
    → decode (record { dialect = K; depth = depth; name = name }) (k_snapshot depth name bids asks)
    ≡ Ok (record { kind = Snapshot; edits = map (setting Asks) asks ++ map (setting Bids) bids; checksum = unprinted; number = 0; previous = 0 })

abbrev pub MRoundTrip : Type 0
MRoundTrip = (e : Edition) (name : List ℕ) (bids asks : List PriceLevel) (checksum number : ℕ) → good (record { dialect = M e; depth = 100; name = name }) ≡ true → Valid bids → Valid asks
    → checksum ≤ 4294967295 → number < 10 ^ 19
    → decode (record { dialect = M e; depth = 100; name = name }) (m_snapshot name bids asks checksum number)
    ≡ Ok (record { kind = Snapshot; edits = map (setting Bids) bids ++ map (setting Asks) asks; checksum = printed checksum; number = number; previous = 0 })
