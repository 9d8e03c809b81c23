-- The words of contracts on what a table keeps.
use Rattle.std.proofs.Common.{◌≡◌, ℕ, refl, sym, ◌∙◌, ap, arith, Bool, true, not, ◌&&◌, List, []}
use Rattle.std.specs.Prelude.{ℤ, nat_eq, nat_lt}
use Rattle.std.specs.Option.{unwrap_or}
use Rattle.std.specs.Prelude.{is_some}
use Rattle.std.specs.List.{count_by}
use Rattle.std.proofs.Math.Path.{fun_ext}
use Rattle.std.proofs.lemmas.Bool.Decides.{nat_tests}
use Rattle.std.proofs.lemmas.Bool.{true≢false}
use Rattle.fol_model.specs.declared.places.ChunkPos.{ChunkPos}
use Rattle.fol_model.specs.declared.places.SectionPos.{SectionPos}
use Rattle.fol_model.specs.declared.grids.Grid.{Grid}
use Rattle.fol_model.specs.Geometry.{is_section, is_within, same_section, section_of}
use Rattle.fol_model.specs.GridNumbers.{IsGrid}
use Rattle.fol_model.specs.Universe.{all_chunks, all_sections, count_sections, some_chunk}
use Rattle.fol_laws.proofs.ListCounts.{count_by-none}
use Rattle.fol_sections.specs.Places.{count_at, number_at}
use Rattle.fol_sections.specs.Pages.{chunks_at, counts_at, is_here, near_at, no_counts, page_at}
use Rattle.fol_sections.specs.declared.pages.Page.{Page}
use Rattle.fol_sections.specs.Table.{Table, holds_of, presence_of, in_margin_of, neighbours_of, is_filled_in, is_loaded_chunk_of, loaded_count, IsEmpty, IsSame}
use Rattle.fol_sections.specs.Kept.{IsKept, is_filled_near, is_held, is_loaded_in, held_in, present_in}
use Rattle.fol_sections.proofs.Views.{holds-are, presence-is}
use Rattle.fol_sections.proofs.Margins.{margin-is, count-like}

abbrev pub table : Grid → List ((ℤ × ℤ) × ℕ) → List ((ℤ × ℤ) × Page) → List SectionPos → List SectionPos → ℕ → Table
table grid holds pages filled died spare = record { grid = grid; held = held_in holds; present = present_in pages; filled = filled; died = died; spare = spare }

pub table-holds : (grid : Grid) (holds : List ((ℤ × ℤ) × ℕ)) (pages : List ((ℤ × ℤ) × Page)) (filled died : List SectionPos) (spare : ℕ) → holds_of (table grid holds pages filled died spare) ≡ count_at holds
unfolding holds_of
table-holds grid holds pages filled died spare = holds-are holds

pub table-presence : (grid : Grid) (holds : List ((ℤ × ℤ) × ℕ)) (pages : List ((ℤ × ℤ) × Page)) (filled died : List SectionPos) (spare : ℕ) → ((s : SectionPos) → is_here pages s ≡ true → is_section s ≡ true) → presence_of (table grid holds pages filled died spare) ≡ is_here pages
unfolding presence_of
table-presence grid holds pages filled died spare limits = presence-is pages limits

module _ (grid : Grid) (holds : List ((ℤ × ℤ) × ℕ)) (pages : List ((ℤ × ℤ) × Page)) (filled died : List SectionPos) (spare : ℕ) where
  pub table-neighbours : (s : SectionPos) → neighbours_of (table grid holds pages filled died spare) s ≡ count_sections (λ q. is_filled_in grid (count_at holds) q && is_within s grid.create q)
  unfolding neighbours_of
  table-neighbours s = ap (λ (f : ChunkPos → ℕ). count_sections (λ q. is_filled_in grid f q && is_within s grid.create q)) (table-holds grid holds pages filled died spare)

  -- the words on the loaded chunks of a section, by the holds
  pub table-loaded : (s : SectionPos) → (is_loaded_chunk_of (table grid holds pages filled died spare) s ≡ is_loaded_in grid holds s) × (loaded_count (table grid holds pages filled died spare) s ≡ count_by (is_loaded_in grid holds s) all_chunks)
  unfolding is_loaded_chunk_of loaded_count
  table-loaded s =
      let e : is_loaded_chunk_of (table grid holds pages filled died spare) s ≡ is_loaded_in grid holds s =
      ap (λ (f : ChunkPos → ℕ). λ (c : ChunkPos). nat_lt 0 (f c) && same_section (section_of grid c) s) (table-holds grid holds pages filled died spare) in
      (e, ap (λ (p : ChunkPos → Bool). count_by p all_chunks) e)

  pub table-margin : (s : SectionPos) → in_margin_of (table grid holds pages filled died spare) s ≡ some_chunk (λ c. is_held holds c && is_within (section_of grid c) grid.create s)
  unfolding in_margin_of
  table-margin s = ap (λ (f : ChunkPos → ℕ). some_chunk (λ c. nat_lt 0 (f c) && is_within (section_of grid c) grid.create s)) (table-holds grid holds pages filled died spare)

  pub table-dead : (count : ℕ) → IsKept grid holds pages count → (s : SectionPos) (n : ℕ) → n ≡ neighbours_of (table grid holds pages filled died spare) s → nat_eq n 0 ≡ not (in_margin_of (table grid holds pages filled died spare) s)
  table-dead count kept s n e =
      let m = e ∙ table-neighbours s in
      ap (λ k. nat_eq k 0) m ∙ zero_test (count_sections (λ q. is_filled_in grid (count_at holds) q && is_within s grid.create q))
      ∙ ap not (sym (table-margin s ∙ margin-is grid holds pages count kept s))
    where
      zero_test : (k : ℕ) → nat_eq k 0 ≡ not (nat_lt 0 k)
      zero_test k = grind (arith, nat_tests)

-- ---- nothing is held
pub kept_none : (grid : Grid) (holds : List ((ℤ × ℤ) × ℕ)) (pages : List ((ℤ × ℤ) × Page)) → IsGrid grid → holds ≡ [] → pages ≡ [] → IsKept grid holds pages 0
unfolding count_at number_at chunks_at is_here near_at counts_at page_at
kept_none grid holds pages numbers e f = rw (e, f) (record {
  numbers = numbers;
  chunk_limits = λ c h. absurd (true≢false (sym h));
  section_limits = λ s h. absurd (true≢false (sym h));
  chunks = λ s. sym (count_by-none (is_loaded_in grid [] s) (λ c. refl) all_chunks);
  near = λ s. sym (count_by-none (is_filled_near grid [] s) (λ q. refl) all_sections);
  margin = λ c s h w. absurd (true≢false (sym h));
  count = sym (count_by-none (is_here []) (λ s. refl) all_sections);
  few = omega arith;
})

pub table_none : (grid : Grid) (holds : List ((ℤ × ℤ) × ℕ)) (pages : List ((ℤ × ℤ) × Page)) (filled died : List SectionPos) (spare : ℕ) → holds ≡ [] → pages ≡ [] → filled ≡ [] → died ≡ [] → IsEmpty (table grid holds pages filled died spare)
unfolding count_at number_at is_here counts_at page_at
table_none grid holds pages filled died spare e f g h = record {
  holds = table-holds grid holds pages filled died spare ∙ fun_ext (λ c. ap (λ xs. count_at xs c) e);
  presence = table-presence grid holds pages filled died spare (rw f (λ s h. absurd (true≢false (sym h)))) ∙ fun_ext (λ s. ap (λ xs. is_here xs s) f);
  filled = g;
  died = h;
}

-- ---- the same numbers in other tables
module _ (grid : Grid) (holds holds' : List ((ℤ × ℤ) × ℕ)) (pages pages' : List ((ℤ × ℤ) × Page)) (same_holds : (a b : ℤ) → number_at holds' a b ≡ number_at holds a b) (same_counts : (s : SectionPos) → counts_at pages' s ≡ counts_at pages s) where
  counts : (c : ChunkPos) → count_at holds' c ≡ count_at holds c
  unfolding count_at
  counts c = ap (λ o. unwrap_or o 0) (same_holds c.x c.z)

  here : (s : SectionPos) → is_here pages' s ≡ is_here pages s
  unfolding is_here
  here s = ap is_some (same_counts s)

  chunks : (s : SectionPos) → chunks_at pages' s ≡ chunks_at pages s
  unfolding chunks_at
  chunks s = ap (λ o. (unwrap_or o no_counts).loaded) (same_counts s)

  near : (s : SectionPos) → near_at pages' s ≡ near_at pages s
  unfolding near_at
  near s = ap (λ o. (unwrap_or o no_counts).near) (same_counts s)

  held : (c : ChunkPos) → is_held holds' c ≡ is_held holds c
  held c = ap (nat_lt 0) (counts c)

  pub kept_same : (count : ℕ) → IsKept grid holds pages count → IsKept grid holds' pages' count
  kept_same count kept = record {
    numbers = kept.numbers;
    chunk_limits = λ c h. kept.chunk_limits c (sym (held c) ∙ h);
    section_limits = λ s h. kept.section_limits s (sym (here s) ∙ h);
    chunks = λ s. chunks s ∙ kept.chunks s ∙ sym (count-like (is_loaded_in grid holds' s) (is_loaded_in grid holds s) all_chunks (λ c. ap (λ b. b && same_section (section_of grid c) s) (held c)));
    near = λ s. near s ∙ kept.near s ∙ sym (count-like (is_filled_near grid pages' s) (is_filled_near grid pages s) all_sections (λ q. ap (λ n. nat_lt 0 n && is_within s grid.create q) (chunks q)));
    margin = λ c s h w. here s ∙ kept.margin c s (sym (held c) ∙ h) w;
    count = kept.count ∙ sym (count-like (is_here pages') (is_here pages) all_sections here);
    few = kept.few;
  }

  pub table_same : (count : ℕ) → IsKept grid holds pages count → (filled filled' died died' : List SectionPos) (spare spare' : ℕ) → IsSame (table grid holds pages filled died spare) (table grid holds' pages' filled' died' spare')
  table_same count kept filled filled' died died' spare spare' = record {
    grid = refl;
    holds = table-holds grid holds' pages' filled' died' spare' ∙ fun_ext counts ∙ sym (table-holds grid holds pages filled died spare);
    presence = table-presence grid holds' pages' filled' died' spare' (λ s h. kept.section_limits s (sym (here s) ∙ h)) ∙ fun_ext here ∙ sym (table-presence grid holds pages filled died spare kept.section_limits);
  }
