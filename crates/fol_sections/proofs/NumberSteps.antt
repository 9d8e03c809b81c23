-- The counts after the number of one place was changed.
use Rattle.std.proofs.Common.{◌≡◌, ℕ, zero, suc, ◌-◌, ◌<◌, refl, sym, ◌∙◌, ap, arith, true, false, cond, ◌&&◌, inl, inr, List, [], ◌∷◌, length, take, get_or}
use Rattle.std.specs.Prelude.{ℤ, Option, Some, None, is_some}
use Rattle.std.specs.Option.{unwrap_or}
use Rattle.std.specs.List.{All, IsDistinct}
use Rattle.std.specs.Ordering.{int_eq}
use Rattle.std.proofs.lemmas.Bool.{cases_Bool, or_cases, true≢false, and_from, and_parts}
use Rattle.std.proofs.lemmas.Map.Keys.{apart_from_distinct, IsDistinct-tail}
use Rattle.fol_model.specs.declared.places.ChunkPos.{ChunkPos}
use Rattle.fol_model.specs.declared.places.SectionPos.{SectionPos}
use Rattle.fol_model.specs.declared.grids.Grid.{Grid}
use Rattle.fol_model.specs.Geometry.{is_within, same_chunk, same_section, section_of, is_among}
use Rattle.fol_model.specs.GridState.{at_chunk}
use Rattle.fol_model.specs.Universe.{all_chunks}
use Rattle.fol_laws.proofs.SamePlaces.{same_chunk-true, same_section-true, same_section-self}
use Rattle.fol_laws.proofs.AllSections.{some_chunk-is}
use Rattle.fol_laws.proofs.ListCounts.{count_by-some, list_any-count}
use Rattle.fol_sections.specs.Places.{count_at, is_same, number_at}
use Rattle.fol_sections.specs.Pages.{chunks_at, counts_at, is_here, near_at, no_counts}
use Rattle.fol_sections.specs.Kept.{IsKept, is_held, is_loaded_in}
use Rattle.fol_sections.specs.declared.pages.Counts.{Counts}
use Rattle.fol_sections.specs.declared.pages.Page.{Page}
use Rattle.fol_sections.proofs.Views.{same_section-swap}

module _ (before after : List ((ℤ × ℤ) × ℕ)) where
  pub count-put : (c : ChunkPos) (n : ℕ) → ((a b : ℤ) → number_at after a b ≡ cond (is_same c.x c.z a b) (Some n) (number_at before a b)) → (q : ChunkPos) → count_at after q ≡ at_chunk (count_at before) c n q
  unfolding count_at is_same same_chunk
  count-put c n step q = ap (λ o. unwrap_or o 0) (step q.x q.z) ∙ elim (cases_Bool (int_eq c.x q.x && int_eq c.z q.z)) [ inl e ↦ rw e refl | inr e ↦ rw e refl ]

  pub count-out : (c : ChunkPos) → ((a b : ℤ) → number_at after a b ≡ cond (is_same c.x c.z a b) None (number_at before a b)) → (q : ChunkPos) → count_at after q ≡ at_chunk (count_at before) c 0 q
  unfolding count_at is_same same_chunk
  count-out c step q = ap (λ o. unwrap_or o 0) (step q.x q.z) ∙ elim (cases_Bool (int_eq c.x q.x && int_eq c.z q.z)) [ inl e ↦ rw e refl | inr e ↦ rw e refl ]

-- where there is none, one less changes nothing
pub count-stays : (holds : List ((ℤ × ℤ) × ℕ)) (c : ChunkPos) → count_at holds c ≡ 0 → (q : ChunkPos) → count_at holds q ≡ at_chunk (count_at holds) c (count_at holds c - 1) q
count-stays holds c none q = elim (cases_Bool (same_chunk c q)) [
  | inl e ↦ let k = same_chunk-true c q e in let n : count_at holds q ≡ count_at holds c - 1 = omega (arith, none, ap (count_at holds) k) in rw e n
  | inr e ↦ rw e refl
]

-- ---- the numbers of one section changed
module _ (before after : List ((ℤ × ℤ) × Page)) (s : SectionPos) (counts : Counts)
    (step : (q : SectionPos) → counts_at after q ≡ cond (same_section s q) (Some counts) (counts_at before q)) where
  pub chunks-put : (q : SectionPos) → chunks_at after q ≡ cond (same_section s q) counts.loaded (chunks_at before q)
  unfolding chunks_at
  chunks-put q = ap (λ o. (unwrap_or o no_counts).loaded) (step q) ∙ elim (cases_Bool (same_section s q)) [ inl e ↦ rw e refl | inr e ↦ rw e refl ]

  pub near-put : (q : SectionPos) → near_at after q ≡ cond (same_section s q) counts.near (near_at before q)
  unfolding near_at
  near-put q = ap (λ o. (unwrap_or o no_counts).near) (step q) ∙ elim (cases_Bool (same_section s q)) [ inl e ↦ rw e refl | inr e ↦ rw e refl ]

  pub here-put : is_here before s ≡ true → (q : SectionPos) → is_here after q ≡ is_here before q
  unfolding is_here
  here-put there q = ap is_some (step q) ∙ elim (cases_Bool (same_section s q)) [
    | inl e ↦ let k = same_section-true s q e in rw e (sym (ap (λ q. is_some (counts_at before q)) (sym k) ∙ there))
    | inr e ↦ rw e refl
  ]

-- what is kept of a present section
module _ (pages : List ((ℤ × ℤ) × Page)) (s : SectionPos) (counts : Counts) (is : counts_at pages s ≡ Some counts) where
  pub chunks-are : chunks_at pages s ≡ counts.loaded
  unfolding chunks_at
  chunks-are = ap (λ o. (unwrap_or o no_counts).loaded) is

  pub near-are : near_at pages s ≡ counts.near
  unfolding near_at
  near-are = ap (λ o. (unwrap_or o no_counts).near) is

-- ---- sections that come
pub fresh : (xs : List SectionPos) (i : ℕ) (d : SectionPos) → IsDistinct same_section xs → i < length xs → is_among (take i xs) (get_or xs i d) ≡ false
fresh [] i d h l = absurd (omega arith)
fresh (x ∷ xs) zero d h l = refl
fresh (x ∷ xs) (suc i) d h l =
    let e : same_section (get_or xs i d) x ≡ false = same_section-swap (get_or xs i d) x ∙ apart_from_distinct same_section (x ∷ xs) 0 (suc i) d h (omega arith) l in
    rw e (fresh xs i d (IsDistinct-tail same_section x xs h) (omega arith))

-- a section with a loaded chunk has a number above 0
pub chunks_positive : (grid : Grid) (holds : List ((ℤ × ℤ) × ℕ)) (pages : List ((ℤ × ℤ) × Page)) (count : ℕ) (c : ChunkPos) → IsKept grid holds pages count → is_held holds c ≡ true → 0 < chunks_at pages (section_of grid c)
chunks_positive grid holds pages count c kept h =
    let some = list_any-count (is_loaded_in grid holds (section_of grid c)) all_chunks
    (some_chunk-is (is_loaded_in grid holds (section_of grid c)) c (kept.chunk_limits c h) (and_from _ _ h (same_section-self (section_of grid c)))) in
    omega (arith, some, kept.chunks (section_of grid c))

-- round a section that holds a loaded chunk all within the create radius are present
pub filled_around : (grid : Grid) (holds : List ((ℤ × ℤ) × ℕ)) (pages : List ((ℤ × ℤ) × Page)) (count : ℕ) (n : SectionPos) → IsKept grid holds pages count → 0 < chunks_at pages n
    → (s : SectionPos) → is_within n grid.create s ≡ true → is_here pages s ≡ true
filled_around grid holds pages count n kept some s w =
    let c = count_by-some (is_loaded_in grid holds n) all_chunks (omega (arith, some, kept.chunks n)) in
    let p = and_parts (is_held holds c.0) (same_section (section_of grid c.0) n) c.1 in
    kept.margin c.0 s p.0 (ap (λ q. is_within q grid.create s) (same_section-true (section_of grid c.0) n p.1) ∙ w)

pub chunks_here : (pages : List ((ℤ × ℤ) × Page)) (s : SectionPos) → 0 < chunks_at pages s → is_here pages s ≡ true
unfolding chunks_at is_here
chunks_here pages s h = there (counts_at pages s) h
  where
    there : (o : Option Counts) → 0 < (unwrap_or o no_counts).loaded → is_some o ≡ true
    there None p = absurd (omega arith)
    there (Some n) p = refl

pub all_among : (P : SectionPos → Type 0) (xs : List SectionPos) (s : SectionPos) → All P xs → is_among xs s ≡ true → P s
all_among P [] s all h = absurd (true≢false (sym h))
all_among P (x ∷ xs) s all h = elim (or_cases (same_section s x) (is_among xs s) h) [
  | inl e ↦ let k = same_section-true s x e in let p = all 0 s (omega arith) in rw (← k) at p
  | inr e ↦ all_among P xs s (λ k d l. all (suc k) d (omega arith)) e
]
