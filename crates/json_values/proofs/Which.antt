-- A string means one name at the most of a list of names that differ. Assumes nothing.
use mathlib.Core.Path.{◌≡◌, refl, sym, ap, ap₂, ◌∙◌}
use mathlib.Core.List.{List, [], ◌∷◌, map}
use mathlib.Core.Bool.{Bool, true, false, true≢false, not, cond, and-eq-true_iff}
use Prim.Native.Nat.{ℕ, zero, suc, ◌<◌}
use native.Mathlib.Omega.{arith}
use borrow.Author.Tests.{eq-eqb, ne_eqb, not-true}
use lib.Dec.{eqb}
use lib.ListN.{length, get_or}
use Rattle.json_values.specs.Json.{Span}
use Rattle.json_values.specs.Names.{same, means}
use Rattle.json_values.specs.Which.{which, is_new, all_differ}
use Rattle.json_values.proofs.Claims.{one_name}
use Rattle.json_values.proofs.Names.{same_self}

-- none of the names
abbrev none_of : List (List ℕ) → List Bool
none_of [] = []
none_of (n ∷ ns) = false ∷ none_of ns

-- the name at place i and no other
abbrev pub only_at : ℕ → List (List ℕ) → List Bool
only_at i [] = []
only_at zero (n ∷ ns) = true ∷ none_of ns
only_at (suc i) (n ∷ ns) = false ∷ only_at i ns

-- which names of a list have the number x, if the first of them has the number k
abbrev pub numbered : ℕ → ℕ → List (List ℕ) → List Bool
numbered x k [] = []
numbered x k (n ∷ ns) = eqb x k ∷ numbered x (suc k) ns

numbered-past : (ns : List (List ℕ)) (x k : ℕ) → x < k → numbered x k ns ≡ none_of ns
numbered-past [] x k l = refl
numbered-past (n ∷ ns) x k l = ap₂ (λ b t. b ∷ t) (ne_eqb x k (λ e. omega arith)) (numbered-past ns x (suc k) (omega arith))

module _ (s : List ℕ) (a : Span) where
  abbrev pub meant : List (List ℕ) → List Bool
  meant ns = map (means s a) ns

  other : (n m : List ℕ) → same n m ≡ false → means s a n ≡ true → means s a m ≡ false
  other n m d h = go (means s a m) refl
    where
      go : (b : Bool) → means s a m ≡ b → b ≡ false
      go true g = absurd (true≢false (sym (same_self n) ∙ ap (same n) (one_name s a n m h g) ∙ d))
      go false g = refl

  none-meant : (n : List ℕ) (ns : List (List ℕ)) → is_new n ns ≡ true → means s a n ≡ true → meant ns ≡ none_of ns
  none-meant n [] d h = refl
  none-meant n (m ∷ ns) d h =
      let p = (and-eq-true_iff (not (same n m)) (is_new n ns)).0 d in
      ap₂ (λ b t. b ∷ t) (other n m (not-true _ p.0) h) (none-meant n ns p.1 h)

  none-at : (ns : List (List ℕ)) → meant ns ≡ none_of ns → (i : ℕ) → i < length ns → means s a (get_or ns i []) ≡ false
  none-at [] e i l = absurd (omega arith)
  none-at (n ∷ ns) e zero l = cc
  none-at (n ∷ ns) e (suc i) l = none-at ns (cc) i (omega arith)

  -- where the name at place i is meant, no other is
  pub one-meant : (ns : List (List ℕ)) → all_differ ns ≡ true → (i : ℕ) → i < length ns → means s a (get_or ns i []) ≡ true → meant ns ≡ only_at i ns
  one-meant [] d i l h = refl
  one-meant (n ∷ ns) d zero l h = ap₂ (λ b t. b ∷ t) h (none-meant n ns ((and-eq-true_iff (is_new n ns) (all_differ ns)).0 d).0 h)
  one-meant (n ∷ ns) d (suc i) l h =
      let p = (and-eq-true_iff (is_new n ns) (all_differ ns)).0 d in
      ap₂ (λ b t. b ∷ t) (first p.0 (means s a n) refl) (one-meant ns p.1 i (omega arith) h)
    where
      first : is_new n ns ≡ true → (b : Bool) → means s a n ≡ b → b ≡ false
      first q true g = absurd (true≢false (sym h ∙ none-at ns (none-meant n ns q g) i (omega arith)))
      first q false g = refl

  -- ---- by number
  which-past : (ns : List (List ℕ)) (k j : ℕ) → 0 < j → j < k → eqb (which s a k ns) j ≡ false
  which-past [] k j p l = ne_eqb 0 j (λ e. omega arith)
  which-past (n ∷ ns) k j p l = go (means s a n) (which-past ns (suc k) j p (omega arith))
    where
      go : (b : Bool) → eqb (which s a (suc k) ns) j ≡ false → eqb (cond b k (which s a (suc k) ns)) j ≡ false
      go true h = ne_eqb k j (λ e. omega arith)
      go false h = h

  -- the tests by number are the tests by name
  pub which-meant : (ns : List (List ℕ)) → all_differ ns ≡ true → (k : ℕ) → 0 < k → numbered (which s a k ns) k ns ≡ meant ns
  which-meant [] d k p = refl
  which-meant (n ∷ ns) d k p = go (means s a n) refl (which-meant ns q.1 (suc k) (omega arith))
    where
      q : (is_new n ns ≡ true) × (all_differ ns ≡ true)
      q = (and-eq-true_iff (is_new n ns) (all_differ ns)).0 d

      go : (b : Bool) → means s a n ≡ b → numbered (which s a (suc k) ns) (suc k) ns ≡ meant ns
          → numbered (cond b k (which s a (suc k) ns)) k (n ∷ ns) ≡ b ∷ meant ns
      go true h e = ap₂ (λ c t. c ∷ t) (eq-eqb k k refl) (numbered-past ns k (suc k) (omega arith) ∙ sym (none-meant n ns q.0 h))
      go false h e = ap₂ (λ c t. c ∷ t) (which-past ns (suc k) k p (omega arith)) e
