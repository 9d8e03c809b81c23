-- Lists read by `get_elem?`, and a function changed at one number.
use Rattle.std.proofs.Common.{◌≡◌, ◌≢◌, ◌⊎◌, ℕ, zero, suc, ◌<◌, List, [], ◌∷◌, ◌++◌, length, get_or, sym, refl, ap, inl, inr, ⊎_elim, arith, Option, Some, None, IsSome, IsSomeAnd, true, false, true≢false, subst}
use Rattle.std.specs.Option.{ForSome}
use mathlib.Core.Option.{some, some-injective, some-ne-none}
use native.Mathlib.Decide.{ℕ_discrete}
use lib.ListN.{get_elem?}

pub not_true : false ≡ true → ⊥
not_true e = true≢false (sym e)

module _ {A : Type 0} where
  pub none_some : (a : A) → None ≡ Some a → ⊥
  none_some a e = cc

  pub some_same : (a b : A) → Some a ≡ Some b → a ≡ b
  some_same a b e = cc

  pub none_of : (o : Option A) → (IsSome o → ⊥) → o ≡ None
  none_of None none = refl
  none_of (Some x) none = absurd (none refl)

  pub some_of : (o : Option A) → IsSome o → (x : A) × (o ≡ Some x)
  some_of None e = absurd (not_true e)
  some_of (Some x) e = (x, refl)

  pub is_some : (o : Option A) (x : A) → o ≡ Some x → IsSome o
  is_some o x e = ap Rattle.std.specs.Prelude.is_some e

  pub some_and : (o : Option A) (P : A → Type 0) → IsSomeAnd o P → (x : A) × (o ≡ Some x) × P x
  some_and None P h = absurd h
  some_and (Some x) P h = (x, refl, h)

  pub some_fit : (o : Option A) (P : A → Type 0) → IsSome o → ForSome o P → IsSomeAnd o P
  some_fit None P is h = absurd (not_true is)
  some_fit (Some x) P is h = h x refl

  pub fit_some : (o : Option A) (P : A → Type 0) → IsSomeAnd o P → ForSome o P
  fit_some None P h = absurd h
  fit_some (Some x) P h = λ y e. subst P (some_same x y e) h

module _ {V : Type 0} where
  pub below_length : (l : List V) (i : ℕ) (a : V) → get_elem? l i ≡ some a → i < length l
  below_length [] i a e = absurd (some-ne-none a (sym e))
  below_length (x ∷ xs) zero a e = omega arith
  below_length (x ∷ xs) (suc i) a e = let h = below_length xs i a e in omega arith

  pub at_end : (l : List V) (a b : V) (j : ℕ) → get_elem? (l ++ a ∷ []) j ≡ some b → (get_elem? l j ≡ some b) ⊎ ((j ≡ length l) × (a ≡ b))
  at_end [] a b zero e = inr (refl, some-injective a b e)
  at_end [] a b (suc j) e = absurd (some-ne-none b (sym e))
  at_end (x ∷ xs) a b zero e = inl e
  at_end (x ∷ xs) a b (suc j) e = ⊎_elim (λ (h : get_elem? xs j ≡ some b). inl h) (λ (h : (j ≡ length xs) × (a ≡ b)). let k = h.0 in inr (omega arith, h.1)) (at_end xs a b j e)

  -- within a list the default does not count
  pub same_default : (l : List V) (i : ℕ) (d : V) → i < length l → get_or l i d ≡ get_or l i (get_or l i d)
  same_default [] i d low = absurd (omega arith)
  same_default (x ∷ xs) zero d low = refl
  same_default (x ∷ xs) (suc i) d low = same_default xs i d (omega arith)

abbrev pick : {P X : Type 0} → Dec P → X → X → X
pick (yes _) a b = a
pick (no _) a b = b

module _ {X : Type 0} where
  pub put : (ℕ → X) → ℕ → X → ℕ → X
  put f i c j = pick (ℕ_discrete j i) c (f j)

  pub put_here : (f : ℕ → X) (i : ℕ) (c : X) (j : ℕ) → j ≡ i → put f i c j ≡ c
  unfolding put
  put_here f i c j e = go (ℕ_discrete j i)
    where
      go : (d : Dec (j ≡ i)) → pick d c (f j) ≡ c
      go (yes _) = refl
      go (no n) = absurd (n e)

  pub put_else : (f : ℕ → X) (i : ℕ) (c : X) (j : ℕ) → j ≢ i → put f i c j ≡ f j
  unfolding put
  put_else f i c j other = go (ℕ_discrete j i)
    where
      go : (d : Dec (j ≡ i)) → pick d c (f j) ≡ f j
      go (yes e) = absurd (other e)
      go (no _) = refl
