-- What the lists of a table say, by the tables that they are made of.
use Rattle.std.proofs.Common.{◌≡◌, ℕ, refl, ◌∙◌, ap, cond, true, ◌&&◌, inl, inr, List, [], ◌∷◌}
use Rattle.std.specs.Prelude.{ℤ}
use Rattle.std.specs.Ordering.{int_eq}
use Rattle.std.specs.Cmp.{both_ways}
use Rattle.std.proofs.Math.Path.{fun_ext}
use Rattle.std.proofs.lemmas.Bool.{cases_Bool}
use Rattle.fol_model.specs.declared.places.ChunkPos.{ChunkPos}
use Rattle.fol_model.specs.declared.places.SectionPos.{SectionPos}
use Rattle.fol_model.specs.Geometry.{is_section, same_chunk, same_section, is_among}
use Rattle.fol_model.specs.Universe.{all_sections}
use Rattle.fol_laws.proofs.AllSections.{some_section-is}
use Rattle.fol_laws.proofs.SectionOrder.{section_members}
use Rattle.fol_laws.proofs.SamePlaces.{same_chunk-true, same_chunk-self, same_section-true, same_section-self}
use Rattle.fol_sections.specs.Places.{number_at, count_at}
use Rattle.fol_sections.specs.Pages.{is_here}
use Rattle.fol_sections.specs.declared.pages.Page.{Page}
use Rattle.fol_sections.specs.Table.{count_in}
use Rattle.fol_sections.specs.Kept.{held_in, present_in}

pub same_chunk-swap : (a b : ChunkPos) → same_chunk a b ≡ same_chunk b a
same_chunk-swap a b = both_ways (same_chunk a b) (same_chunk b a)
    (λ h. let e = same_chunk-true a b h in rw e (same_chunk-self b))
    (λ h. let e = same_chunk-true b a h in rw e (same_chunk-self a))

pub same_section-swap : (a b : SectionPos) → same_section a b ≡ same_section b a
same_section-swap a b = both_ways (same_section a b) (same_section b a)
    (λ h. let e = same_section-true a b h in rw e (same_section-self b))
    (λ h. let e = same_section-true b a h in rw e (same_section-self a))

pub count_in-held : (holds : List ((ℤ × ℤ) × ℕ)) (c : ChunkPos) → count_in (held_in holds) c ≡ count_at holds c
unfolding count_at number_at
count_in-held [] c = refl
count_in-held (e ∷ es) c =
    let place : ChunkPos = record { x = e.0.0; z = e.0.1 } in
    let swap : same_chunk place c ≡ (int_eq c.x e.0.0 && int_eq c.z e.0.1) = same_chunk-swap place c ∙ unfold same_chunk in refl in
    ap (λ b. cond b e.1 (count_in (held_in es) c)) swap ∙ elim (cases_Bool (int_eq c.x e.0.0 && int_eq c.z e.0.1)) [
      | inl h ↦ rw h refl
      | inr h ↦ rw h (count_in-held es c)
    ]

pub among-present : (pages : List ((ℤ × ℤ) × Page)) → ((s : SectionPos) → is_here pages s ≡ true → is_section s ≡ true) → (s : SectionPos) → is_among (present_in pages) s ≡ is_here pages s
among-present pages limits s = section_members (is_here pages) all_sections s ∙ elim (cases_Bool (is_here pages s)) [
  | inl h ↦ let listed = some_section-is (same_section s) s (limits s h) (same_section-self s) in rw (h, listed) refl
  | inr h ↦ rw h refl
]

pub holds-are : (holds : List ((ℤ × ℤ) × ℕ)) → count_in (held_in holds) ≡ count_at holds
holds-are holds = fun_ext (count_in-held holds)

pub presence-is : (pages : List ((ℤ × ℤ) × Page)) → ((s : SectionPos) → is_here pages s ≡ true → is_section s ≡ true) → is_among (present_in pages) ≡ is_here pages
presence-is pages limits = fun_ext (among-present pages limits)
