-- The regions that have a slot are those that are not Dead.
use Rattle.std.proofs.Common.{◌≡◌, ℕ, ◌<◌, refl, sym, ◌∙◌, ap, arith, true, false, inl, inr, not, get_or}
use Rattle.std.specs.Prelude.{◌≢◌, filter, pos}
use Rattle.std.proofs.lemmas.Bool.{cases_Bool, true≢false, eqb-true}
use Rattle.fol_model.specs.declared.places.SectionPos.{SectionPos}
use Rattle.fol_model.specs.declared.regions.State.{State}
use Rattle.fol_model.specs.declared.regions.State.TheVariants.{Transient, Ready, Ticking, Dead}
use Rattle.fol_model.specs.GridState.{is_dead}
use Rattle.fol_model.specs.Rules.{Rules}
use Rattle.fol_model.specs.Universe.{numbers_below}
use Rattle.fol_sections.specs.Table as sections
use Rattle.fol_region_tables.specs.Book.{Book, IsBook, is_live, owner_of, rows_of, state_of}
use Rattle.fol_regions.specs.Released.{grid_of}
use Rattle.fol_region_tables.proofs.Among.{among_at}
use Rattle.fol_region_tables.proofs.Chosen.{filter_like}
use Rattle.fol_region_tables.proofs.PartedBooks.{row_members}
use Rattle.fol_regions.proofs.TableSteps.{dead_if}

not_dead : (x : State) → x ≢ Dead → is_dead x ≡ false
not_dead Transient h = refl
not_dead Ready h = refl
not_dead Ticking h = refl
not_dead Dead h = absurd (h refl)

-- a region has a slot exactly where it is not Dead
live_is : (s : sections.Table) (b : Book) → IsBook b → Rules (grid_of s b) → ((r : ℕ) → state_of b r ≢ Dead → is_live b r ≡ true) → (r : ℕ) → is_live b r ≡ not (is_dead (state_of b r))
unfolding grid_of
live_is s b h rules lives r = elim (cases_Bool (is_live b r)) [
  | inl e ↦
      let given = h.given r e in
      let q : SectionPos = get_or (rows_of b r) 0 (record { x = pos 0; z = pos 0 }) in
      let own : owner_of b q ≡ r = eqb-true _ _ (sym (row_members b r given.0 h q) ∙ among_at (rows_of b r) 0 (record { x = pos 0; z = pos 0 }) (h.some r e)) in
      let some : 0 < owner_of b q = let p = given.0 in omega arith in
      let alive : is_dead (state_of b r) ≡ false = not_dead (state_of b r) (λ dead. rules.owner_lives q some (ap (state_of b) own ∙ dead)) in
      rw (e, alive) refl
  | inr e ↦
      let dead : state_of b r ≡ Dead = dead_if (state_of b r) (λ n. true≢false (sym (lives r n) ∙ e)) in
      rw (e, dead) refl
]

pub live_regions : (s : sections.Table) (b : Book) (n : ℕ) → IsBook b → Rules (grid_of s b) → ((r : ℕ) → state_of b r ≢ Dead → is_live b r ≡ true)
    → filter (is_live b) (numbers_below n) ≡ filter (λ r. not (is_dead (state_of b r))) (numbers_below n)
live_regions s b n h rules lives = filter_like (is_live b) (λ r. not (is_dead (state_of b r))) (live_is s b h rules lives) (numbers_below n)
