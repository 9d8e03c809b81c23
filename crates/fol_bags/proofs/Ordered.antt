-- A list that was sorted by a key that no two of its elements share is in strict order.
use Rattle.std.proofs.Common.{◌≡◌, ◌+◌, Bool, true, false, List, [], ◌∷◌, get_or, refl, sym, ◌∙◌, ap, arith}
use Rattle.std.specs.List.{IsDistinct}
use Rattle.std.specs.List.Sorted.{IsSortedBy, IsSortedByKey, IsStrictlySortedBy}
use denote.Ref.{Bor}
use denote.Param.Members.{Mut}
use Rattle.std.specs.Fn.{Called, ComputesKey, ComparesAs}
use Rattle.std.specs.Cmp.{IsTotalOrder, IsStrictWeakOrder}
use Rattle.std.specs.Ordering.{is_lt, ordering_reverse}
use Rattle.std.specs.declared.cmp.Ordering.{Ordering}
use Rattle.std.specs.declared.cmp.Ordering.TheVariants.{Less, Equal, Greater}
use Rattle.std.proofs.lemmas.Cmp.{on_total}
use Rattle.std.proofs.lemmas.Fn.{always_returns_same}
use Rattle.std.proofs.lemmas.List.Sorted.{ranks_by}
use Rattle.std.proofs.lemmas.Map.Keys.{apart_from_distinct, sorted_from_all_adjacent}

module _ {X K : Type 0} (key : X → K) (cmp : K → K → Ordering) (o : IsTotalOrder cmp) (tell : (a b : K) → cmp a b ≡ Equal → a ≡ b) (same : K → K → Bool) (same_self : (a : K) → same a a ≡ true) where
  below : (a b : K) → same a b ≡ false → is_lt (cmp b a) ≡ false → cmp a b ≡ Less
  below a b d h = go (cmp a b) (cmp b a) refl refl
    where
      go : (r s : Ordering) → cmp a b ≡ r → cmp b a ≡ s → r ≡ Less
      go Less s e f = refl
      go Equal s e f =
          let w : a ≡ b = tell a b e in
          let t : same a b ≡ true = ap (λ q. same a q) (sym w) ∙ same_self a in
          let z : true ≡ false = sym t ∙ d in
          cc
      go Greater s e f =
          let w : cmp b a ≡ Less = o.antisymm b a ∙ ap ordering_reverse e in
          let z : true ≡ false = sym (ap is_lt w) ∙ h in
          cc

  pub strict_from_sorted : (xs : List X) → IsDistinct (λ a b. same (key a) (key b)) xs → IsSortedBy (λ a b. is_lt (cmp (key a) (key b))) xs → IsStrictlySortedBy (λ a b. cmp (key a) (key b)) xs
  unfolding IsStrictlySortedBy
  strict_from_sorted [] d h = tt
  strict_from_sorted (x ∷ xs) d h =
      sorted_from_all_adjacent (on_total key o) (x ∷ xs) x
      (λ k l. below (key (get_or (x ∷ xs) k x)) (key (get_or (x ∷ xs) (k + 1) x)) (apart_from_distinct (λ a b. same (key a) (key b)) (x ∷ xs) k (k + 1) x d (omega arith) l) (h k x (omega arith) l))

  -- what a sort by the key ensures
  pub strict_by_key : {F : Type 0} {g : Mut F (Bor X × Unit {0}) K} {f : F} (xs : List X) → IsDistinct (λ a b. same (key a) (key b)) xs
      → ((k : X → K) → ComputesKey g k f → IsSortedByKey k cmp xs)
      → ((a : Bor X × Unit {0}) (r : K) (f' : F) → Called g f a r f' → (r ≡ key a.0.now) × (f' ≡ f)) → IsStrictlySortedBy (λ a b. cmp (key a) (key b)) xs
  strict_by_key {g = g} {f = f} xs d up h = strict_from_sorted xs d (up key (always_returns_same g (λ a r. r ≡ key a.0.now) f h))

  -- and what a sort ensures that compares the keys
  pub strict_by : {F : Type 0} {g : Mut F (Bor X × (Bor X × Unit {0})) Ordering} {f : F} (xs : List X) → IsDistinct (λ a b. same (key a) (key b)) xs
      → ((lt : X → X → Bool) → IsStrictWeakOrder lt → ComparesAs g lt f → IsSortedBy lt xs)
      → ((a : Bor X × (Bor X × Unit {0})) (r : Ordering) (f' : F) → Called g f a r f' → (r ≡ cmp (key a.0.now) (key a.1.0.now)) × (f' ≡ f)) → IsStrictlySortedBy (λ a b. cmp (key a) (key b)) xs
  strict_by {g = g} {f = f} xs d up h =
      strict_from_sorted xs d
      (up (λ a b. is_lt (cmp (key a) (key b))) (ranks_by o key) (always_returns_same g (λ a r. is_lt r ≡ is_lt (cmp (key a.0.now) (key a.1.0.now))) f (λ a r f' k. (ap is_lt (h a r f' k).0, (h a r f' k).1))))
