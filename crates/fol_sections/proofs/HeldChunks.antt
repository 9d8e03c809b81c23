-- What is listed of some sections, one after the other.
use Rattle.std.proofs.Common.{◌≡◌, ℕ, Bool, suc, ◌+◌, ◌<◌, ◌≤◌, refl, sym, ◌∙◌, ap, arith, List, [], ◌∷◌, ◌++◌, append_assoc, length, length-append, get_or, take}
use Rattle.std.specs.Prelude.{ℤ, flat_map, sum_by}
use Rattle.std.specs.List.{All, filter}
use Rattle.std.proofs.lemmas.Grind.{flat_map-append}
use Rattle.std.proofs.lemmas.List.{take_more}
use Rattle.std.proofs.lemmas.List.Concat.{flat_map-cons}
use Rattle.std.proofs.lemmas.List.Concat.{length-flat_map}
use Rattle.std.proofs.lemmas.List.Sums.{length-filter}
use Rattle.std.proofs.Math.Path.{fun_ext}
use Rattle.fol_model.specs.declared.places.ChunkPos.{ChunkPos}
use Rattle.fol_model.specs.declared.places.SectionPos.{SectionPos}
use Rattle.fol_model.specs.declared.grids.Grid.{Grid}
use Rattle.fol_model.specs.Universe.{all_chunks}
use Rattle.fol_sections.specs.Kept.{IsKept, IsListed, held_chunks, is_held, is_loaded_in}
use Rattle.fol_sections.specs.Pages.{chunks_at}
use Rattle.fol_sections.specs.Table.{is_loaded_chunk_of, loaded_count}
use Rattle.fol_sections.specs.declared.pages.Page.{Page}
use Rattle.fol_sections.proofs.Margins.{section_near}
use Rattle.fol_sections.proofs.NumberSteps.{chunks_here}
use Rattle.fol_sections.proofs.Products.{side_some}
use Rattle.fol_sections.proofs.Rows.{append-none}
use Rattle.fol_sections.proofs.SectionChunks.{section_chunks}
use Rattle.fol_sections.proofs.Tables.{table, table-loaded}

module _ {X A : Type 0} (f : X → List A) where
  flat_map_one : (x : X) → flat_map f (x ∷ []) ≡ f x
  flat_map_one x = flat_map-cons f x [] ∙ append-none (f x)

  -- what one more element brings
  pub flat_map_next : (xs : List X) (i : ℕ) (d : X) → i < length xs → flat_map f (take (i + 1) xs) ≡ flat_map f (take i xs) ++ f (get_or xs i d)
  flat_map_next xs i d l = ap (flat_map f) (take_more xs i d l) ∙ flat_map-append f (take i xs) (get_or xs i d ∷ []) ∙ ap (λ ys. flat_map f (take i xs) ++ ys) (flat_map_one (get_or xs i d))

  -- elements that bring nothing
  pub flat_map_none : (xs : List X) → All (λ x. f x ≡ []) xs → flat_map f xs ≡ []
  flat_map_none [] all = refl
  flat_map_none (x ∷ xs) all =
      flat_map-cons f x xs ∙ ap (λ ys. ys ++ flat_map f xs) (all 0 x (omega arith)) ∙ flat_map_none xs (λ k d l. all (suc k) d (omega arith))

  -- ---- a stretch more
  module _ (rest part after : List X) (out new : List A) (split : rest ≡ part ++ after) where
    flat_map_split : flat_map f rest ≡ flat_map f part ++ flat_map f after
    flat_map_split = ap (flat_map f) split ∙ flat_map-append f part after

    pub listed_on : (all : List A) → new ≡ out ++ flat_map f part → out ++ flat_map f rest ≡ all → new ++ flat_map f after ≡ all
    listed_on all adds h =
        ap (λ xs. xs ++ flat_map f after) adds ∙ append_assoc out (flat_map f part) (flat_map f after)
        ∙ ap (λ xs. out ++ xs) (sym flat_map_split) ∙ h

    pub listed_fits : (all : List A) (room : ℕ) → out ++ flat_map f rest ≡ all → length all ≤ room → length out + length (flat_map f part) ≤ room
    listed_fits all room h fits =
        omega (arith, ap length h, length-append out (flat_map f rest), ap length flat_map_split, length-append (flat_map f part) (flat_map f after), fits)

-- a section with no loaded chunk has no chunk with a hold
pub listed_none : (grid : Grid) (holds : List ((ℤ × ℤ) × ℕ)) (loaded : ℕ) (s : SectionPos) → IsListed grid holds loaded s → loaded ≡ 0 → held_chunks grid holds s ≡ []
listed_none grid holds loaded s known e = empty (held_chunks grid holds s) (known.count ∙ e)
  where
    empty : (xs : List ChunkPos) → length xs ≡ 0 → xs ≡ []
    empty [] h = refl
    empty (x ∷ xs) h = absurd (omega arith)

-- ---- the sections of a table
module _ (grid : Grid) (holds : List ((ℤ × ℤ) × ℕ)) (pages : List ((ℤ × ℤ) × Page)) where
  module _ (present : ℕ) (kept : IsKept grid holds pages present) where
    -- its chunks with a hold are its loaded ones
    held_are : (s : SectionPos) → held_chunks grid holds s ≡ filter (is_loaded_in grid holds s) all_chunks
    held_are s = (section_chunks grid s (side_some grid.shift) (is_held holds) kept.chunk_limits).0

    pub listed_known : (s : SectionPos) → IsListed grid holds (chunks_at pages s) s
    listed_known s = record {
      count = ap length (held_are s) ∙ length-filter (is_loaded_in grid holds s) all_chunks ∙ sym (kept.chunks s);
      near = λ h. section_near s (kept.section_limits s (chunks_here pages s h));
    }

  -- the same in the words of the table
  pub listed_words : (filled died : List SectionPos) (spare present : ℕ) → IsKept grid holds pages present
      → (held_chunks grid holds ≡ (λ s. filter (is_loaded_chunk_of (table grid holds pages filled died spare) s) all_chunks))
      × ((list : List SectionPos) → length (flat_map (held_chunks grid holds) list) ≡ sum_by (loaded_count (table grid holds pages filled died spare)) list)
  listed_words filled died spare present kept =
      let words = table-loaded grid holds pages filled died spare in (
        fun_ext (λ s. held_are present kept s ∙ sym (ap (λ (p : ChunkPos → Bool). filter p all_chunks) (words s).0)),
        λ list. length-flat_map (held_chunks grid holds) list
            ∙ ap (λ f. sum_by f list) (fun_ext (λ s. ap length (held_are present kept s) ∙ length-filter (is_loaded_in grid holds s) all_chunks ∙ sym (words s).1)),
      )
