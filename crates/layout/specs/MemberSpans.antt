-- One member of an object more; how often members have one of our names, told up to twice, and where the last of them lies.
-- Assumes nothing: these are definitions.
use Rattle.std.specs.Prelude.{ℕ, zero, suc, Bool, cond, List, eqb, None, Option, Some}
use Rattle.json_tokens.specs.Ends.{end_of}
use Rattle.json_values.specs.Json.{Span, Pair, value}
use Rattle.json_values.specs.Names.{means}
use Rattle.json_values.specs.Fold.{fold_from}
use Rattle.layout.specs.declared.MemberSpan.{MemberSpan}

-- none, one, or more
unfoldable pub few : ℕ → ℕ
few zero = 0
few (suc zero) = 1
few (suc (suc n)) = 2

-- one more
unfoldable pub few_more : ℕ → ℕ
few_more zero = 1
few_more (suc n) = 2

abbrev pub no_member_span : MemberSpan
no_member_span = record { times = 0; from = 0; to = 0 }

unfoldable pub with_member_span : MemberSpan → Span → MemberSpan
with_member_span m a = record { times = few_more m.times; from = a.from; to = a.to }

abbrev pub member_span_of : List Span → MemberSpan
member_span_of l = fold_from with_member_span no_member_span l

-- The value of a name that was met once.
unfoldable pub once_at : MemberSpan → Option Span
once_at m = cond (eqb m.times 1) (Some (record { from = m.from; to = m.to })) None

-- ---- one member more

-- What follows the members of one name: `add` takes the value of one more, if it is one of them.
unfoldable pub on_hit : {A : Type 0} → Bool → (A → Span → A) → A → Span → A
on_hit hit add x a = cond hit (add x a) x

abbrev pub on_member : {A : Type 0} → List ℕ → List ℕ → (A → Span → A) → A → Pair → A
on_member s name add x m = on_hit (means s m.name name) add x m.value

-- The member whose name lies from `first` to `past`, and whose value begins at `from`; it ends at 0 where it is not JSON.
abbrev pub member_at : ℕ → List ℕ → ℕ → ℕ → ℕ → Pair
member_at depth s first past from = record { name = record { from = first; to = past }; value = record { from = from; to = end_of (value depth s from) } }
