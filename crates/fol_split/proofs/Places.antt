-- Facts on sections: when two are one, their order, and their distance.
use Rattle.std.proofs.Common.{◌≡◌, ℕ, ◌+◌, ◌<◌, ◌≤◌, refl, sym, ◌∙◌, ap, arith, true, false, ◌⊎◌, inl, inr, List, length, get_or}
use Rattle.std.specs.Prelude.{ℤ, pos, ◌-ℤ◌, ◌<ℤ◌, nat_abs, nat_le}
use Rattle.std.specs.List.{IsDistinct}
use Rattle.std.specs.List.Sorted.{IsSortedBy, IsStrictlySortedBy}
use Rattle.std.specs.Ordering.{is_lt, int_cmp, ordering_reverse, ordering_then}
use Rattle.std.specs.Cmp.{IsEquivalence, both_ways, int_cmp_is, int_ranks}
use Rattle.std.specs.declared.cmp.Ordering.{Ordering}
use Rattle.std.specs.declared.cmp.Ordering.TheVariants.{Less, Equal, Greater}
use Rattle.std.proofs.lemmas.Bool.{cases_Bool, and_parts, leb-true, true≢false}
use Rattle.std.proofs.lemmas.Map.Keys.{sorted_from_all_adjacent, apart_from_distinct, IsDistinct-from_apart, Less-from_sorted}
use borrow.Author.Differences.{ints}
use Rattle.fol_model.specs.declared.places.SectionPos.{SectionPos}
use Rattle.fol_model.specs.Geometry.{distance, is_section, is_within, same_section}
use Rattle.fol_model.specs.Universe.{section_cmp}
use Rattle.fol_model.proofs.PlaceKeys.{same_section-true, same_section-self, section_cmp_total, section_cmp_tells}

pub same_section-swap : (a b : SectionPos) → same_section a b ≡ same_section b a
same_section-swap a b = both_ways (same_section a b) (same_section b a)
    (λ h. let e = same_section-true a b h in rw e (same_section-self b))
    (λ h. let e = same_section-true b a h in rw e (same_section-self a))

pub same_section_equiv : IsEquivalence same_section
same_section_equiv = record {
  refl = same_section-self;
  symm = same_section-swap;
  congr = λ a b c h. ap (λ (s : SectionPos). same_section s c) (same_section-true a b h);
}

not_less_self : (r : Ordering) → r ≡ ordering_reverse r → r ≡ Less → ⊥
not_less_self r e h = let k : Less ≡ ordering_reverse Less = rw h at e in cc

pub less_not_same : (a b : SectionPos) → section_cmp a b ≡ Less → same_section a b ≡ true → ⊥
less_not_same a b l h =
    let e = same_section-true a b h in
    let k : section_cmp b b ≡ Less = rw e at l in
    not_less_self (section_cmp b b) (section_cmp_total.antisymm b b) k

-- of two sections that differ, one is less where the other is not
less_from : (a b : SectionPos) → is_lt (section_cmp b a) ≡ false → same_section a b ≡ false → section_cmp a b ≡ Less
less_from a b h n = elim (section_cmp a b) as (λ r. section_cmp a b ≡ r → r ≡ Less) [
  | Less ↦ λ _. refl
  | Equal ↦ λ e. let s = section_cmp_tells a b e in absurd (true≢false (sym (rw s (same_section-self b)) ∙ n))
  | Greater ↦ λ e. let t : section_cmp b a ≡ Less = section_cmp_total.antisymm b a ∙ ap ordering_reverse e in absurd (true≢false (sym (ap is_lt t) ∙ h))
] refl

origin : SectionPos
origin = record { x = pos 0; z = pos 0 }

-- distinct sections that a sort put in order rise
pub rises_from_sort : (xs : List SectionPos) → IsSortedBy (λ a b. is_lt (section_cmp a b)) xs → IsDistinct same_section xs → IsStrictlySortedBy section_cmp xs
rises_from_sort xs h apart = sorted_from_all_adjacent section_cmp_total xs origin (λ k l.
    less_from (get_or xs k origin) (get_or xs (k + 1) origin) (h k origin (omega arith) l) (apart_from_distinct same_section xs k (k + 1) origin apart (omega arith) l))

abs_swap : (x y : ℤ) → nat_abs (x -ℤ y) ≡ nat_abs (y -ℤ x)
abs_swap x y = omega (arith, ints)

distance-swap : (a b : SectionPos) → distance a b ≡ distance b a
unfolding distance
distance-swap a b = simp (abs_swap a.x b.x, abs_swap a.z b.z)

pub within-swap : (a : SectionPos) (r : ℕ) (b : SectionPos) → is_within a r b ≡ is_within b r a
within-swap a r b = ap (λ d. nat_le d r) (distance-swap a b)

-- sections that rise are distinct
pub rising-distinct : (xs : List SectionPos) → ((k : ℕ) (d : SectionPos) → k + 1 < length xs → section_cmp (get_or xs k d) (get_or xs (k + 1) d) ≡ Less) → IsDistinct same_section xs
rising-distinct xs h =
    let sorted = sorted_from_all_adjacent section_cmp_total xs origin (λ k l. h k origin l) in
    IsDistinct-from_apart same_section xs (λ i j d l m. elim (cases_Bool (same_section (get_or xs i d) (get_or xs j d))) [
      | inr e ↦ e
      | inl e ↦ absurd (less_not_same (get_or xs i d) (get_or xs j d) (Less-from_sorted section_cmp xs i j d sorted l m) e)
    ])

pub less_row : (a b : SectionPos) → a.z <ℤ b.z → section_cmp a b ≡ Less
unfolding section_cmp
less_row a b l = ap (λ r. ordering_then r (int_cmp a.x b.x)) (sym (int_cmp_is a.z b.z Less l))

pub less_in_row : (a b : SectionPos) → a.z ≡ b.z → a.x <ℤ b.x → section_cmp a b ≡ Less
unfolding section_cmp
less_in_row a b e l = ap (λ r. ordering_then r (int_cmp a.x b.x)) (sym (int_cmp_is a.z b.z Equal e)) ∙ sym (int_cmp_is a.x b.x Less l)

then_less : (r s : Ordering) → ordering_then r s ≡ Less → (r ≡ Less) ⊎ ((r ≡ Equal) × (s ≡ Less))
then_less Less s e = inl refl
then_less Equal s e = inr (refl, e)
then_less Greater s e = absurd (cc)

-- what is less stands in a row before, or before in the same row
pub less-gives : (a b : SectionPos) → section_cmp a b ≡ Less → (a.z <ℤ b.z) ⊎ ((a.z ≡ b.z) × (a.x <ℤ b.x))
unfolding section_cmp
less-gives a b h = elim (then_less (int_cmp a.z b.z) (int_cmp a.x b.x) h) [
  | inl l ↦ let r = int_ranks a.z b.z in inl (rw l at r)
  | inr p ↦ let z = int_ranks a.z b.z in let x = int_ranks a.x b.x in inr (rw p.0 at z, rw p.1 at x)
]

-- a section within the limits
pub section_near : (s : SectionPos) → is_section s ≡ true → (nat_abs s.x ≤ 1000008) × (nat_abs s.z ≤ 1000008)
unfolding is_section
section_near s h = let p = and_parts (nat_le (nat_abs s.x) 1000008) (nat_le (nat_abs s.z) 1000008) h in (leb-true _ _ p.0, leb-true _ _ p.1)
