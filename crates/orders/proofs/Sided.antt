-- Laws of the entries that are for one side. Assumes nothing.
use mathlib.Core.Path.{◌≡◌, refl, ap₂}
use mathlib.Core.List.{List, [], ◌∷◌, map}
use Rattle.edit.specs.Edit.{is_same, for_side}
use Rattle.edit.specs.declared.Side.{Side}
use Rattle.level.specs.Ranked.{All}
use Rattle.level.proofs.All.{all-cond}
use Rattle.order_edit.specs.Buffer.{OrderEntry, entry_side}

pub all-sided : (P : OrderEntry → Type 0) (side : Side) (es : List OrderEntry) → All P es → All P (for_side entry_side side es)
unfolding All for_side
all-sided P side [] a = tt
all-sided P side (e ∷ es) a =
    all-cond P (is_same (entry_side e) side) (e ∷ for_side entry_side side es) (for_side entry_side side es) (a.0, all-sided P side es a.1) (all-sided P side es a.1)

module _ {A B : Type 0} (P : A → Type 0) where
  pub all-mapped : (Q : B → Type 0) (f : A → B) → ((x : A) → P x → Q (f x)) → (s : List A) → All P s → All Q (map f s)
  unfolding All
  all-mapped Q f h [] a = tt
  all-mapped Q f h (x ∷ s) a = (h x a.0, all-mapped Q f h s a.1)

  pub map_same : (f g : A → B) → ((x : A) → P x → f x ≡ g x) → (s : List A) → All P s → map f s ≡ map g s
  unfolding All
  map_same f g h [] a = refl
  map_same f g h (x ∷ s) a = ap₂ (λ (y : B) (r : List B). y ∷ r) (h x a.0) (map_same f g h s a.1)

pub map-map : {A B C : Type 0} (f : A → B) (g : B → C) (s : List A) → map g (map f s) ≡ map (λ x. g (f x)) s
map-map f g [] = refl
map-map {A} {B} {C} f g (x ∷ s) = ap₂ (λ (y : C) (r : List C). y ∷ r) refl (map-map f g s)
