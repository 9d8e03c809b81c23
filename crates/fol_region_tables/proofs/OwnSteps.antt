-- Sections that had no owner get one.
use Rattle.std.proofs.Common.{◌≡◌, ℕ, ◌+◌, ◌<◌, sym, ◌∙◌, ap, arith, true, false, cond, ◌||◌, List, length, inl, inr}
use Rattle.std.specs.Prelude.{◌≢◌, filter, nat_eq, nat_lt}
use Rattle.std.proofs.Math.Bool.{or-false, or-true}
use Rattle.std.proofs.lemmas.Bool.{cases_Bool, eq-eqb, ne_eqb, lt-ltb, ltb-true}
use Rattle.std.proofs.lemmas.List.Sums.{length-filter}
use Rattle.fol_model.specs.declared.places.SectionPos.{SectionPos}
use Rattle.fol_model.specs.Geometry.{is_section, is_among}
use Rattle.fol_model.specs.Universe.{all_sections, count_sections}
use Rattle.fol_region_tables.proofs.Chosen.{chosen_limits, count_either}

module _ (f g : SectionPos → ℕ) (xs : List SectionPos) (t : ℕ) (pos : 0 < t) (set : (q : SectionPos) → g q ≡ cond (is_among xs q) t (f q)) (absent : (s : SectionPos) → is_among xs s ≡ true → f s ≡ 0)
    (row : xs ≡ filter (is_among xs) all_sections) where
  yes : (s : SectionPos) → is_among xs s ≡ true → g s ≡ t
  yes s e = set s ∙ ap (λ b. cond b t (f s)) e

  no : (s : SectionPos) → is_among xs s ≡ false → g s ≡ f s
  no s e = set s ∙ ap (λ b. cond b t (f s)) e

  pub own_other : (r : ℕ) → 0 < r → r ≢ t → (s : SectionPos) → nat_eq (g s) r ≡ nat_eq (f s) r
  own_other r p n s = elim (cases_Bool (is_among xs s)) [
    | inl e ↦ ne_eqb (g s) r (λ k. n (sym (sym (yes s e) ∙ k))) ∙ sym (ne_eqb (f s) r (λ k. absurd (omega (arith, absent s e))))
    | inr e ↦ ap (λ k. nat_eq k r) (no s e)
  ]

  pub own_here : (s : SectionPos) → nat_eq (g s) t ≡ (nat_eq (f s) t || is_among xs s)
  own_here s = elim (cases_Bool (is_among xs s)) [
    | inl e ↦ eq-eqb (g s) t (yes s e) ∙ sym (rw e (or-true (nat_eq (f s) t)))
    | inr e ↦ rw e (ap (λ k. nat_eq k t) (no s e) ∙ sym (or-false (nat_eq (f s) t)))
  ]

  pub own_length : length xs ≡ count_sections (is_among xs)
  own_length = ap length row ∙ length-filter (is_among xs) all_sections

  pub own_count : count_sections (λ s. nat_lt 0 (g s)) ≡ count_sections (λ s. nat_lt 0 (f s)) + length xs
  own_count = count_either (λ s. nat_lt 0 (f s)) (is_among xs) (λ s. nat_lt 0 (g s))
      (λ s h. elim (cases_Bool (is_among xs s)) [ inl e ↦ absurd (omega (arith, ltb-true 0 (f s) h, absent s e)) | inr e ↦ e ])
      (λ s. elim (cases_Bool (is_among xs s)) [
        | inl e ↦ lt-ltb 0 (g s) (omega (arith, yes s e)) ∙ sym (ap (λ b. nat_lt 0 (f s) || b) e ∙ or-true (nat_lt 0 (f s)))
        | inr e ↦ ap (nat_lt 0) (no s e) ∙ sym (ap (λ b. nat_lt 0 (f s) || b) e ∙ or-false (nat_lt 0 (f s)))
      ]) all_sections ∙ ap (λ n. count_sections (λ s. nat_lt 0 (f s)) + n) (sym own_length)

  pub own_limits : ((s : SectionPos) → 0 < f s → is_section s ≡ true) → (s : SectionPos) → 0 < g s → is_section s ≡ true
  own_limits l s p = elim (cases_Bool (is_among xs s)) [
    | inl e ↦ chosen_limits (is_among xs) s (ap (λ ys. is_among ys s) (sym row) ∙ e)
    | inr e ↦ l s (omega (arith, no s e))
  ]
