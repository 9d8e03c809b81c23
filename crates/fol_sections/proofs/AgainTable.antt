-- A hold more on a chunk that has one: nothing is missing, and no section changes.
use Rattle.std.proofs.Common.{◌≡◌, ℕ, ◌+◌, refl, sym, ◌∙◌, ap, arith, subst, Bool, true, false, cond, not, ◌&&◌, ◌||◌, List, []}
use Rattle.std.specs.Prelude.{ℤ, nat_eq, nat_lt}
use Rattle.std.specs.List.{filter}
use Rattle.std.proofs.Math.Path.{fun_ext}
use Rattle.std.proofs.lemmas.Bool.{le-ltb, ltb-false}
use Rattle.fol_model.specs.declared.places.ChunkPos.{ChunkPos}
use Rattle.fol_model.specs.declared.places.SectionPos.{SectionPos}
use Rattle.fol_model.specs.declared.grids.Grid.{Grid}
use Rattle.fol_model.specs.Geometry.{is_chunk, is_within, same_section, section_of}
use Rattle.fol_model.specs.GridState.{at_chunk}
use Rattle.fol_model.specs.Universe.{square}
use Rattle.fol_sections.specs.declared.answers.Added.TheVariants.{Counted}
use Rattle.fol_sections.specs.Places.{count_at}
use Rattle.fol_sections.specs.Pages.{chunks_at, is_here, near_at}
use Rattle.fol_sections.specs.declared.pages.Page.{Page}
use Rattle.fol_sections.specs.Kept.{IsKept, is_held}
use Rattle.fol_sections.specs.Table.{Adds, added, is_full_for, is_missing}
use Rattle.fol_sections.proofs.AddTable.{added_counted, full-is, here-more, missing_length, missing_rows, none_missing, presence-more}
use Rattle.fol_sections.proofs.KeptSteps.{kept_add}
use Rattle.fol_sections.proofs.NumberSteps.{chunks_positive, filled_around}
use Rattle.fol_sections.proofs.Tables.{table, table-holds, table-presence}

or_no : (b : Bool) → (b || false) ≡ b
or_no true = refl
or_no false = refl

none_counted : (b : Bool) (n : ℕ) → n ≡ cond (b && false) 1 0 + n
none_counted true n = omega arith
none_counted false n = omega arith

plain : (n : ℕ) → n ≡ n + 0
plain n = omega arith

-- ---- the first hold on a chunk
first_one : (n : ℕ) → nat_lt 0 n ≡ false → 1 ≡ n + 1
first_one n h = omega (arith, ltb-false 0 n h)

pub first_counts : (holds holds' : List ((ℤ × ℤ) × ℕ)) (c : ChunkPos) → is_held holds c ≡ false → ((q : ChunkPos) → count_at holds' q ≡ at_chunk (count_at holds) c 1 q)
    → (q : ChunkPos) → count_at holds' q ≡ at_chunk (count_at holds) c (count_at holds c + 1) q
first_counts holds holds' c new step q = step q ∙ ap (λ n. at_chunk (count_at holds) c n q) (first_one (count_at holds c) new)

pub first_chunks : (same held : Bool) (n : ℕ) → held ≡ false → cond same 1 0 + n ≡ cond (same && not held) 1 0 + n
first_chunks true held n new = rw new refl
first_chunks false held n new = refl

pub first_near : (n : ℕ) (held near : Bool) → held ≡ false → n + cond near 1 0 ≡ n + cond (not held && near) 1 0
first_near n held near new = rw new refl

-- ---- one more
module _ (grid : Grid) (holds : List ((ℤ × ℤ) × ℕ)) (pages : List ((ℤ × ℤ) × Page)) (count : ℕ) (filled died : List SectionPos) (spare : ℕ) (kept : IsKept grid holds pages count) (c : ChunkPos) (held : is_held holds c ≡ true) where
  limits : is_chunk c ≡ true
  limits = kept.chunk_limits c held

  found : [] ≡ filter (λ s. not (is_here pages s)) (square (section_of grid c) grid.create)
  found = sym (none_missing pages (section_of grid c) grid.create (filled_around grid holds pages count (section_of grid c) kept (chunks_positive grid holds pages count c kept held)))

  pub again_room : is_full_for (table grid holds pages filled died spare) c ≡ false
  again_room = full-is grid holds pages count filled died spare kept c limits [] found ∙ le-ltb _ _ (omega (arith, kept.few))

  pub again_counted : Counted ≡ added (table grid holds pages filled died spare) c
  again_counted = added_counted grid holds pages count filled died spare kept c limits [] found 0 refl (omega (arith, kept.few)) refl

  module _ (holds' : List ((ℤ × ℤ) × ℕ)) (counts : (q : ChunkPos) → count_at holds' q ≡ at_chunk (count_at holds) c (count_at holds c + 1) q) where
    pub again_kept : IsKept grid holds' pages count
    again_kept = kept_add grid holds holds' pages pages count count c kept limits counts
        (λ s. sym (or_no (is_here pages s)) ∙ here-more grid holds pages count filled died spare kept c limits [] found s)
        (λ s. none_counted (same_section (section_of grid c) s) (chunks_at pages s) ∙ ap (λ b. cond (same_section (section_of grid c) s && not b) 1 0 + chunks_at pages s) (sym held))
        (λ s. plain (near_at pages s) ∙ ap (λ b. near_at pages s + cond (not b && (nat_eq (chunks_at pages (section_of grid c)) 0 && is_within (section_of grid c) grid.create s)) 1 0) (sym held))
        (omega (arith, missing_length grid holds pages count filled died spare kept c limits [] found)) kept.few

    pub again_adds : (less : ℕ) → less + 1 ≡ spare → Adds (table grid holds pages filled died spare) (table grid holds' pages [] [] less) c
    again_adds less one =
        let was = table-holds grid holds pages filled died spare in
        let presence = table-presence grid holds pages filled died spare kept.section_limits in
        record {
          holds = table-holds grid holds' pages [] [] less ∙ fun_ext counts ∙ ap (λ (f : ChunkPos → ℕ). at_chunk f c (f c + 1)) (sym was);
          presence = table-presence grid holds' pages [] [] less kept.section_limits
              ∙ fun_ext (λ s. sym (or_no (is_here pages s)) ∙ presence-more grid holds pages count filled died spare kept c limits [] found s
              ∙ ap (λ (f : SectionPos → Bool). f s || is_missing (table grid holds pages filled died spare) c s) (sym presence));
          filled = missing_rows grid holds pages count filled died spare kept c limits [] found;
          spare = one;
        }

-- one more where there is one, and else none
pub kept_either : (grid : Grid) (holds holds' : List ((ℤ × ℤ) × ℕ)) (pages : List ((ℤ × ℤ) × Page)) (count : ℕ) → IsKept grid holds pages count → (c : ChunkPos) (held : Bool) → held ≡ is_held holds c
    → (held ≡ true → (q : ChunkPos) → count_at holds' q ≡ at_chunk (count_at holds) c (count_at holds c + 1) q) → (held ≡ false → holds' ≡ holds) → IsKept grid holds' pages count
kept_either grid holds holds' pages count kept c true is more same = again_kept grid holds pages count [] [] 0 kept c (sym is) holds' (more refl)
kept_either grid holds holds' pages count kept c false is more same = subst (λ (h : List ((ℤ × ℤ) × ℕ)). IsKept grid h pages count) (sym (same refl)) kept
