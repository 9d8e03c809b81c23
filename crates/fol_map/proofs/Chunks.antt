-- Tests that tell chunks and coordinates apart.
use Rattle.std.proofs.Common.{◌≡◌, refl, ap, subst, Bool, true, List, [], ◌∷◌}
use Rattle.std.specs.Prelude.{ℤ}
use Rattle.std.specs.List.{list_any}
use Rattle.std.specs.Ordering.{eq_by_cmp, int_cmp, int_eq, is_eq}
use Rattle.std.specs.Cmp.{both_ways, int_ranks}
use Rattle.std.specs.declared.cmp.Ordering.{Ordering}
use Rattle.std.specs.declared.cmp.Ordering.TheVariants.{Less, Equal, Greater}
use Rattle.std.proofs.lemmas.Bool.Decides.{Decides-int_eq}
use Rattle.std.proofs.lemmas.Cmp.{int_cmp_total, tied_itself}
use Rattle.std.specs.List.Sorted.{IsStrictlySortedBy}
use Rattle.fol_model.specs.declared.places.ChunkPos.{ChunkPos}
use Rattle.fol_model.specs.Geometry.{same_chunk}
use Rattle.fol_model.specs.Universe.{chunk_cmp}
use Rattle.fol_model.proofs.PlaceKeys.{chunk_cmp_tells, chunk_cmp_total, same_chunk-self, same_chunk-true}
use Rattle.fol_map.specs.Counts.{by_place}

ties : (o : Ordering) → is_eq o ≡ true → o ≡ Equal
ties Less h = absurd (cc)
ties Equal h = refl
ties Greater h = absurd (cc)

pub chunk_test : (a b : ChunkPos) → eq_by_cmp chunk_cmp a b ≡ same_chunk a b
chunk_test a b = both_ways (eq_by_cmp chunk_cmp a b) (same_chunk a b)
    (λ h. subst (λ (x : ChunkPos). same_chunk a x ≡ true) (chunk_cmp_tells a b (ties (chunk_cmp a b) h)) (same_chunk-self a))
    (λ h. subst (λ (x : ChunkPos). is_eq (chunk_cmp a x) ≡ true) (same_chunk-true a b h) (ap is_eq (tied_itself chunk_cmp_total a)))

int_same : (x y : ℤ) → int_cmp x y ≡ Equal → x ≡ y
int_same x y e = let h = int_ranks x y in rw e at h

pub int_test : (x y : ℤ) → eq_by_cmp int_cmp x y ≡ int_eq x y
int_test x y = both_ways (eq_by_cmp int_cmp x y) (int_eq x y)
    (λ h. (Decides-int_eq x y).1 (int_same x y (ties (int_cmp x y) h)))
    (λ h. subst (λ (z : ℤ). is_eq (int_cmp x z) ≡ true) ((Decides-int_eq x y).0 h) (ap is_eq (tied_itself int_cmp_total x)))

-- two tests that agree find the same
pub any_same : {X : Type 0} (p q : X → Bool) → ((x : X) → p x ≡ q x) → (xs : List X) → list_any p xs ≡ list_any q xs
any_same p q h [] = refl
any_same p q h (x ∷ xs) = rw (h x, any_same p q h xs) refl

-- the order of keys is that of chunks
pub place_test : (a b : ChunkPos) → eq_by_cmp by_place a b ≡ same_chunk a b
unfolding chunk_cmp
place_test a b = chunk_test a b

pub places_sorted : (cs : List ChunkPos) → IsStrictlySortedBy by_place cs → IsStrictlySortedBy chunk_cmp cs
unfolding chunk_cmp
places_sorted cs h = h
