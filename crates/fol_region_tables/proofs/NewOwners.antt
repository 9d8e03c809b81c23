-- In how many pages those sections of a list lie that have no region.
use Rattle.std.proofs.Common.{◌≡◌, ℕ, ◌<◌, refl, arith, true, false, inl, inr, List}
use Rattle.std.specs.Prelude.{nat_eq}
use Rattle.std.proofs.lemmas.Bool.{and_parts, cases_Bool, ne_eqb}
use Rattle.fol_model.specs.declared.places.SectionPos.{SectionPos}
use Rattle.fol_model.specs.Geometry.{is_among}
use Rattle.fol_pages.specs.Pages.{LieIn}
use Rattle.fol_pages.proofs.LyingIn.{lie_in-none, lie_in-some}
use Rattle.fol_region_tables.specs.Owners.{is_new}

module _ (owner : SectionPos → ℕ) (sections : List SectionPos) (n : ℕ) where
  -- where all have one
  pub none_new : ((s : SectionPos) → is_among sections s ≡ true → 0 < owner s) → LieIn (is_new owner sections) n
  none_new owned = lie_in-none (is_new owner sections) n (λ s. elim (cases_Bool (is_among sections s)) [
    | inl e ↦ let none : nat_eq (owner s) 0 ≡ false = ne_eqb (owner s) 0 (λ z. absurd (omega (arith, owned s e))) in rw (e, none) refl
    | inr e ↦ rw e refl
  ])

  -- no more than all
  pub some_new : LieIn (is_among sections) n → LieIn (is_new owner sections) n
  some_new lie = lie_in-some (is_new owner sections) (is_among sections) n (λ s h. (and_parts (is_among sections s) (nat_eq (owner s) 0) h).0) lie
