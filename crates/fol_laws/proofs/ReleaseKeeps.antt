-- A release keeps the rules, the holds, and every region apart from the released one and those that join it.
use Rattle.std.proofs.Common.{◌≡◌, ℕ, ◌+◌, ◌≤◌, ◌<◌, refl, sym, ◌∙◌, ap, arith, false, inl, inr, ◌&&◌}
use Rattle.std.specs.Prelude.{◌≢◌, nat_eq, nat_lt, nat_le}
use Rattle.std.proofs.lemmas.Bool.{cases_Bool, and_parts, ne_eqb, leb-true}
use Rattle.fol_model.specs.declared.regions.State.TheVariants.{Ready, Ticking, Dead}
use Rattle.fol_model.specs.GridNumbers.{IsGrid}
use Rattle.fol_model.specs.GridState.{GridState}
use Rattle.fol_model.specs.Release.{joined_owner, must_wait, cleans, held, parts, part_id, is_part_id, cleaned, release}
use Rattle.fol_model.specs.Rules.{Rules}
use Rattle.fol_laws.specs.Steps.{SameSections}
use Rattle.fol_laws.proofs.Joins as joins
use Rattle.fol_laws.proofs.CleanedGrid.{part_ready, owner_cleaned, part_cases}
use Rattle.fol_laws.proofs.CleanedKeeps.{cleaned_keeps}
use Rattle.fol_laws.proofs.HeldKeeps.{held_keeps, rested_keeps}

pub release_keeps : (g : GridState) (t : ℕ) → Rules g → IsGrid g.grid → g.state t ≡ Ticking → Rules (release g t)
unfolding release
release_keeps g t rules ok ticks = elim (cases_Bool (must_wait g t)) [
  | inl w ↦ rw w (held_keeps g t rules ticks w)
  | inr w ↦ elim (cases_Bool (cleans g t)) [
    | inl k ↦ rw (w, k) (cleaned_keeps g t rules ok ticks w)
    | inr k ↦ rw (w, k) (rested_keeps g t rules ticks k)
  ]
]

pub grid_release : (g : GridState) (t : ℕ) → (release g t).grid ≡ g.grid
unfolding release
grid_release g t = elim (cases_Bool (must_wait g t)) [ inl w ↦ rw w refl | inr w ↦ elim (cases_Bool (cleans g t)) [ inl k ↦ rw (w, k) refl | inr k ↦ rw (w, k) refl ] ]

pub holds_release : (g : GridState) (t : ℕ) → (release g t).holds ≡ g.holds
unfolding release
holds_release g t = elim (cases_Bool (must_wait g t)) [ inl w ↦ rw w refl | inr w ↦ elim (cases_Bool (cleans g t)) [ inl k ↦ rw (w, k) refl | inr k ↦ rw (w, k) refl ] ]

-- the release of one Ticking region leaves a region that does not join it
module _ (g : GridState) (t : ℕ) (rules : Rules g) (ok : IsGrid g.grid) (ticks : g.state t ≡ Ticking) (r : ℕ) (lives : g.state r ≢ Dead) (a : joins.Apart g t rules ticks r) where
  held_sections : SameSections g (held g t) r
  held_sections s = (
    (λ e. joins.owned_apart g t rules ticks s r e a),
    (λ e. elim (joins.owner_joined g t rules ticks s) [ inl x ↦ absurd (a.differs (sym e ∙ x)) | inr k ↦ sym k.same ∙ e ]),
  )

  cleaned_sections : must_wait g t ≡ false → SameSections g (cleaned g t) r
  cleaned_sections free s = (
    (λ e. let o = joins.owned_apart g t rules ticks s r e a in
        let n : nat_eq (joined_owner g t s) t ≡ false = ne_eqb _ _ (λ x. a.differs (sym o ∙ x)) in rw n e),
    (λ e. let p : 0 < r = rules.given r lives in elim (owner_cleaned g t rules ok ticks free s (rw e p)) [
      | inl k ↦ let x = part_ready g t rules ok ticks free s k.stays in
          let y : part_id g t s ≡ r = sym k.is ∙ e in elim (part_cases g t rules ok ticks free s k.stays) [
            | inl z ↦ absurd (a.differs (sym y ∙ z.1))
            | inr z ↦ let b : r < g.next = rules.below_next r lives in absurd (let q = z.1 in omega arith)
          ]
      | inr k ↦ sym k.is ∙ e
    ]),
  )

  pub release_apart_sections : SameSections g (release g t) r
  unfolding release
  release_apart_sections = elim (cases_Bool (must_wait g t)) [
    | inl w ↦ rw w held_sections
    | inr w ↦ elim (cases_Bool (cleans g t)) [
      | inl k ↦ rw (w, k) (cleaned_sections w)
      | inr k ↦ rw (w, k) (λ s. ((λ e. e), (λ e. e)))
    ]
  ]

  pub apart_part : is_part_id g t r ≡ false
  apart_part = elim (cases_Bool (is_part_id g t r)) [
    | inl e ↦ let x = and_parts (nat_le 2 (parts g t)) (nat_le g.next r && nat_lt r (g.next + parts g t)) e in
        let y = and_parts (nat_le g.next r) (nat_lt r (g.next + parts g t)) x.1 in
        let l : g.next ≤ r = leb-true _ _ y.0 in let m : r < g.next = rules.below_next r lives in absurd (omega arith)
    | inr e ↦ e
  ]

  pub release_apart_state : (release g t).state r ≡ g.state r
  unfolding release
  release_apart_state = let n : nat_eq r t ≡ false = ne_eqb _ _ a.differs in let f = a.free in elim (cases_Bool (must_wait g t)) [
    | inl w ↦ rw (w, n, f) refl
    | inr w ↦ elim (cases_Bool (cleans g t)) [
      | inl k ↦ rw (w, k, apart_part, n, f) refl
      | inr k ↦ rw (w, k, n) refl
    ]
  ]

-- as of another Ticking region
pub release_ticking_sections : (g : GridState) (t : ℕ) (rules : Rules g) (ok : IsGrid g.grid) (ticks : g.state t ≡ Ticking) (r : ℕ) → g.state r ≡ Ticking → r ≢ t → SameSections g (release g t) r
release_ticking_sections g t rules ok ticks r other differs = release_apart_sections g t rules ok ticks r (λ d. cc) (joins.other_apart g t rules ticks r other differs)

-- and of a Ready one
pub ready_apart : (g : GridState) (t : ℕ) (rules : Rules g) (ticks : g.state t ≡ Ticking) (r : ℕ) → g.state r ≡ Ready → joins.Apart g t rules ticks r
ready_apart g t rules ticks r ready = record {
  differs = λ e. let x : g.state r ≡ g.state t = ap g.state e in absurd (cc);
  free = elim (cases_Bool (g.waits r t)) [ inl w ↦ let e = rules.waiting r t w in absurd (cc) | inr w ↦ w ];
}
