-- An event on a chunk that is held touches the region of its section alone.
use Rattle.std.proofs.Common.{◌≡◌, ℕ, zero, suc, ◌<◌, ◌≤◌, refl, sym, ◌∙◌, ap, arith, Bool, true, false, inl, inr, ◌&&◌, ◌||◌, List, [], ◌∷◌, ◌++◌}
use Rattle.std.specs.Prelude.{filter, nat_eq, nat_lt, not}
use Rattle.std.proofs.lemmas.Bool.{cases_Bool, cases_eq, eq-eqb, eqb-true, lt-ltb, ne_eqb}
use Rattle.std.proofs.lemmas.List.Elements.{filter-append}
use Rattle.fol_model.specs.declared.places.ChunkPos.{ChunkPos}
use Rattle.fol_model.specs.Add.{is_full}
use Rattle.fol_model.specs.Geometry.{section_of}
use Rattle.fol_model.specs.GridState.{GridState}
use Rattle.fol_model.specs.Rules.{Rules}
use Rattle.fol_model.specs.Universe.{numbers_below}
use Rattle.fol_laws.proofs.Distances.{self_distance}
use Rattle.fol_region_tables.proofs.Chosen.{filter_like}
use Rattle.fol_regions.specs.Touched.{is_touched}
use Rattle.fol_regions.proofs.AddAgain.{none_wanted}

-- ---- one number among all below a bound

none_number : (k n : ℕ) → n ≤ k → filter (nat_eq k) (numbers_below n) ≡ []
unfolding numbers_below
none_number k zero low = refl
none_number k (suc n) low =
    let other : nat_eq k n ≡ false = ne_eqb k n (λ e. omega (arith, e, low)) in
    filter-append (nat_eq k) (numbers_below n) (n ∷ []) ∙ ap (λ (xs : List ℕ). xs ++ filter (nat_eq k) (n ∷ [])) (none_number k n (omega (arith, low))) ∙ rw other refl

one_number : (k n : ℕ) → k < n → filter (nat_eq k) (numbers_below n) ≡ k ∷ []
unfolding numbers_below
one_number k zero low = absurd (omega (arith, low))
one_number k (suc n) low = filter-append (nat_eq k) (numbers_below n) (n ∷ []) ∙ elim (cases_eq k n) [
  | inl same ↦
      let one : nat_eq k n ≡ true = eq-eqb k n same in
      ap (λ (xs : List ℕ). xs ++ filter (nat_eq k) (n ∷ [])) (none_number k n (omega (arith, same))) ∙ rw one (ap (λ (j : ℕ). j ∷ []) (sym same))
  | inr other ↦
      let none : nat_eq k n ≡ false = ne_eqb k n other in
      ap (λ (xs : List ℕ). xs ++ filter (nat_eq k) (n ∷ [])) (one_number k n (omega (arith, low, other))) ∙ rw none refl
]

-- one number alone among them
pub alone_listed : (f : ℕ → Bool) (k n : ℕ) → k < n → ((r : ℕ) → f r ≡ nat_eq k r) → k ∷ [] ≡ filter f (numbers_below n)
alone_listed f k n low alone = sym (filter_like _ _ alone (numbers_below n) ∙ one_number k n low)

-- ---- the region of a held chunk

abbrev pub owner : GridState → ChunkPos → ℕ
owner g c = g.owner (section_of g.grid c)

module _ (g : GridState) (c : ChunkPos) (rules : Rules g) (held : 0 < g.holds c) where
  pub some_owner : 0 < owner g c
  some_owner = rules.margin c (section_of g.grid c) held (omega (arith, self_distance (section_of g.grid c)))

  pub alone : (r : ℕ) → is_touched g c r ≡ nat_eq (owner g c) r
  alone r =
      let none = none_wanted g c rules (lt-ltb 0 (g.holds c) held) in
      elim (cases_Bool (nat_eq (owner g c) r)) [
        | inl own ↦ let same : owner g c ≡ r = eqb-true (owner g c) r own in let some : nat_lt 0 r ≡ true = lt-ltb 0 r (omega (arith, same, some_owner)) in rw (some, own) refl
        | inr other ↦ rw (none, other) (nothing (nat_lt 0 r) (not (is_full g c)))
      ]
    where
      nothing : (a b : Bool) → (a && (false || (b && false))) ≡ false
      nothing true true = refl
      nothing true false = refl
      nothing false b = refl

  pub owner_below : owner g c < g.next
  owner_below = rules.below_next (owner g c) (rules.owner_lives (section_of g.grid c) some_owner)
