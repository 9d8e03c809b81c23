-- Numbers over the turn of a section.
use Rattle.std.proofs.Common.{◌≡◌, ◌+◌, refl, sym, ◌∙◌, ap, arith, cond, inl, inr, List}
use Rattle.std.specs.Prelude.{ℤ, Some}
use Rattle.std.proofs.lemmas.Bool.{cases_Bool}
use Rattle.fol_model.specs.declared.places.SectionPos.{SectionPos}
use Rattle.fol_model.specs.Geometry.{same_section}
use Rattle.fol_laws.proofs.SamePlaces.{same_section-true}
use Rattle.fol_sections.specs.Pages.{chunks_at, counts_at, near_at}
use Rattle.fol_sections.specs.Turns.{fall, rise}
use Rattle.fol_sections.specs.declared.pages.Counts.{Counts}
use Rattle.fol_sections.specs.declared.pages.Page.{Page}
use Rattle.fol_sections.specs.declared.turns.Turn.{Turn}
use Rattle.fol_sections.specs.declared.turns.Turn.TheVariants.{Filled, Emptied}
use Rattle.fol_sections.proofs.NumberSteps.{chunks-put, near-put, chunks-are, near-are}

pub rise_none : (turn : Turn) → rise turn 0 ≡ 0
rise_none Filled = refl
rise_none Emptied = refl

pub fall_none : (turn : Turn) → fall turn 0 ≡ 0
fall_none Filled = refl
fall_none Emptied = refl

module _ (before after : List ((ℤ × ℤ) × Page)) (s : SectionPos) (was now : Counts) (turn : Turn) (is : counts_at before s ≡ Some was)
    (step : (q : SectionPos) → counts_at after q ≡ cond (same_section s q) (Some now) (counts_at before q)) where
  -- the number of its loaded chunks turned
  module _ (turned : now.loaded + fall turn 1 ≡ was.loaded + rise turn 1) where
    pub chunks-turned : (q : SectionPos) → chunks_at after q + fall turn (cond (same_section s q) 1 0) ≡ chunks_at before q + rise turn (cond (same_section s q) 1 0)
    chunks-turned q =
        let put = chunks-put before after s now step q in
        elim (cases_Bool (same_section s q)) [
          | inl e ↦
              let k = same_section-true s q e in
              let old : chunks_at before q ≡ was.loaded = ap (chunks_at before) (sym k) ∙ chunks-are before s was is in
              let new : chunks_at after q ≡ now.loaded = put ∙ ap (λ b. cond b now.loaded (chunks_at before q)) e in
              rw (e, new, old) turned
          | inr e ↦
              let new : chunks_at after q ≡ chunks_at before q = put ∙ ap (λ b. cond b now.loaded (chunks_at before q)) e in
              rw (e, new) (omega (arith, rise_none turn, fall_none turn))
        ]

  pub near-kept : now.near ≡ was.near → (q : SectionPos) → near_at after q ≡ near_at before q
  near-kept same q = near-put before after s now step q ∙ elim (cases_Bool (same_section s q)) [
    | inl e ↦ let k = same_section-true s q e in rw e (same ∙ sym (ap (near_at before) (sym k) ∙ near-are before s was is))
    | inr e ↦ rw e refl
  ]
