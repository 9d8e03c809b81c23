use Rattle.std.proofs.Common.{◌≡◌, ◌+◌, ◌<◌, refl, sym, ◌∙◌, ap, ℕ, Bool, true, false, not, inl, inr, List, length, get_or, take}
use Rattle.std.specs.Prelude.{pos, ℤ}
use Rattle.std.proofs.lemmas.Bool.{or_cases, true≢false}
use Rattle.std.proofs.lemmas.List.Folds.{list_any_more}
use Rattle.fol_laws.proofs.SamePlaces.{same_section-true}
use Rattle.fol_model.specs.declared.places.SectionPos.{SectionPos}
use Rattle.fol_model.specs.Geometry.{is_among, same_section}
use Rattle.fol_pages.specs.Pages.{is_same, page_of}
use Rattle.fol_pages.proofs.PagePlaces.{same_place}
use Rattle.fol_pages.proofs.runs.stretch_len.Goals as goal

abbrev origin : SectionPos
origin = record { x = pos 0; z = pos 0 }

-- one section more of the page
module _ (page : ℤ × ℤ) (sections : List SectionPos) (i : ℕ) (l : i < length sections) (at : (page_of (get_or sections i origin).x, (get_or sections i origin).z) ≡ page)
    (before : (s : SectionPos) → is_among (take i sections) s ≡ true → (page_of s.x ≡ page.0) × (s.z ≡ page.1)) where
  page_more : (s : SectionPos) → is_among (take (i + 1) sections) s ≡ true → (page_of s.x ≡ page.0) × (s.z ≡ page.1)
  page_more s h = elim (or_cases (is_among (take i sections) s) (same_section s (get_or sections i origin)) (sym (list_any_more (same_section s) sections i origin l) ∙ h)) [
    | inl e ↦ before s e
    | inr e ↦
        let k = same_section-true s (get_or sections i origin) e in
        (ap (λ (q : SectionPos). page_of q.x) k ∙ ap (λ (p : ℤ × ℤ). p.0) at, ap (λ (q : SectionPos). q.z) k ∙ ap (λ (p : ℤ × ℤ). p.1) at)
  ]

pub loop-i-init : goal.loop-i-init
loop-i-init c = page_more _ c.args.sections.now 0 c.requires (sym c.page_of-page.ensures) (λ s h. absurd (true≢false (sym h)))

not_other : (b : Bool) → false ≡ not b → b ≡ true
not_other true e = refl
not_other false e = absurd (true≢false (sym e))

pub loop-i-preserved : goal.loop-i-preserved
unfolding is_same
loop-i-preserved c =
    let same = same_place c.page_of.result.0 c.page_of.result.1 c.page_of-page.result.0 c.page_of-page.result.1 (not_other _ c.if-ne.ensures) in
    page_more _ c.args.sections.now c.loop-i.i c.loop-i-test.true (sym c.page_of.ensures ∙ (λ i. (same.0 i, same.1 i))) c.loop-i.invariant
