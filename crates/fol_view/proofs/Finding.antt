-- What a search by halves finds.
use Rattle.std.proofs.Common.{◌≡◌, ℕ, zero, suc, ◌<◌, if◌then◌else◌, List, [], ◌∷◌, length, get_or, Contains, sym, refl, ap, ◌∙◌, arith, inl, inr, Some, None}
use Rattle.std.specs.List.Sorted.{IsStrictlySortedBy, IsPartitionPoint}
use Rattle.std.specs.declared.cmp.Ordering.TheVariants.{Less, Equal, Greater}
use Rattle.std.specs.Cmp.{tied_itself}
use Rattle.std.proofs.lemmas.Bool.{cases_Bool}
use Rattle.std.proofs.lemmas.List.Elements.{All-from_recursion, All-get_or}
use Rattle.fol_model.specs.declared.places.SectionPos.{SectionPos}
use Rattle.fol_model.specs.declared.closings.OwnerRow.{OwnerRow}
use Rattle.fol_model.specs.Geometry.{same_section}
use Rattle.fol_model.specs.Universe.{section_cmp}
use Rattle.fol_keyed.proofs.Places.{same_section-true, same_section-self, section_cmp_total}
use Rattle.fol_keyed.proofs.Sorted.{none_between}
use Rattle.fol_view.specs.Rows.{AreInOrder, owner_in}

first_is : (r : OwnerRow) (rs : List OwnerRow) (s : SectionPos) → r.at ≡ s → owner_in (r ∷ rs) s ≡ Some r.region
first_is r rs s e = ap (λ b. if b then Some r.region else owner_in rs s) (ap (λ q. same_section r.at q) (sym e) ∙ same_section-self r.at)

later_is : (r : OwnerRow) (rs : List OwnerRow) (s : SectionPos) → (r.at ≡ s → ⊥) → owner_in (r ∷ rs) s ≡ owner_in rs s
later_is r rs s ne =
    elim (cases_Bool (same_section r.at s)) [
      | inl y ↦ absurd (ne (same_section-true r.at s y))
      | inr z ↦ ap (λ b. if b then Some r.region else owner_in rs s) z
    ]

pub found_at : (rows : List OwnerRow) (s : SectionPos) (i : ℕ) (d : OwnerRow) → AreInOrder rows → i < length rows → ((e : OwnerRow) → (get_or rows i e).at ≡ s) → owner_in rows s ≡ Some (get_or rows i d).region
unfolding IsStrictlySortedBy
found_at [] s i d sorted low is = absurd (omega arith)
found_at (r ∷ rs) s zero d sorted low is = first_is r rs s (is d)
found_at (r ∷ rs) s (suc i) d sorted low is =
    let P : OwnerRow → Type 0 = λ q. section_cmp r.at q.at ≡ Less in
    let less : section_cmp r.at (get_or rs i d).at ≡ Less = All-get_or P rs i d (omega arith) (All-from_recursion P rs sorted.0) in
    let ne : r.at ≡ s → ⊥ = λ e. let same : section_cmp s s ≡ Less = ap (λ q. section_cmp q s) (sym e) ∙ (ap (λ q. section_cmp r.at q) (sym (is d)) ∙ less) in let eq : section_cmp s s ≡ Equal = tied_itself section_cmp_total s in cc in
    later_is r rs s ne ∙ found_at rs s i d sorted.1 (omega arith) is

none_there : (rows : List OwnerRow) (s : SectionPos) → ((r : OwnerRow) → Contains rows r → r.at ≡ s → ⊥) → owner_in rows s ≡ None
none_there [] s never = refl
none_there (r ∷ rs) s never = later_is r rs s (never r (zero, omega arith, refl)) ∙ none_there rs s (λ q c. never q (let low = c.1 in (suc c.0, omega arith, c.2)))

pub found_none : (rows : List OwnerRow) (s : SectionPos) (i : ℕ) → IsPartitionPoint (λ (r : OwnerRow). section_cmp r.at s ≡ Less) (λ (r : OwnerRow). section_cmp r.at s ≡ Greater) rows i → owner_in rows s ≡ None
found_none rows s i p = none_there rows s (none_between (λ (r : OwnerRow). r.at) section_cmp section_cmp_total rows i s p)
