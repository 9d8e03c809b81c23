-- The regions of sections side by side in one page.
use Rattle.std.proofs.Common.{◌≡◌, ℕ, zero, suc, ◌+◌, ◌<◌, ◌≤◌, refl, sym, ◌∙◌, ap, arith, true, false, cond, length, get_or, ◌||◌, inl, inr, List, [], ◌∷◌, ◌++◌, append_assoc}
use Rattle.std.specs.Prelude.{ℤ, pos, ◌+ℤ◌, nat_eq, nat_lt}
use Rattle.std.specs.List.{count_by, list_any, filter}
use Rattle.std.proofs.lemmas.Bool.{cases_Bool, eq-eqb, ne_eqb, or_left, or_right}
use Rattle.std.proofs.lemmas.List.{get_or_append_left}
use Rattle.std.proofs.lemmas.List.Folds.{list_any-append}
use Rattle.fol_model.specs.declared.places.SectionPos.{SectionPos}
use Rattle.fol_laws.proofs.ListCounts.{count_by-cons}
use Rattle.fol_sections.specs.Rows.{row_of as run_of, section_at}
use Rattle.fol_sections.proofs.Rows.{row-more, row-split}
use Rattle.fol_region_tables.specs.Links.{with_id}
use Rattle.fol_regions.specs.Near.{noted, regions_of, row_of}
use Rattle.fol_regions.proofs.NearRegions.{regions_more}

-- a run behind the first sections of a row
pub row-run : (first : SectionPos) (row i len : ℕ) → row_of first row (i + len) ≡ row_of first row i ++ run_of section_at (first.x +ℤ pos i) (first.z +ℤ pos row) len
unfolding row_of run_of
row-run first row i len = row-split section_at first.x (first.z +ℤ pos row) i len

-- an id that is noted twice
pub noted_twice : (id : ℕ) (ids : List ℕ) → noted id (noted id ids) ≡ noted id ids
noted_twice id ids = elim (cases_Bool (nat_eq id 0 || list_any (nat_eq id) ids)) [
  | inl e ↦ rw (e, e) refl
  | inr e ↦ rw e (let there = or_right (nat_eq id 0) (list_any (nat_eq id) (with_id id ids)) here in rw there refl)
]
  where
    here : list_any (nat_eq id) (with_id id ids) ≡ true
    here = list_any-append (nat_eq id) (filter (λ k. nat_lt k id) ids) (id ∷ filter (λ k. nat_lt id k) ids)
        ∙ or_right (list_any (nat_eq id) (filter (λ k. nat_lt k id) ids)) _ (or_left (nat_eq id id) (list_any (nat_eq id) (filter (λ k. nat_lt id k) ids)) (eq-eqb id id refl))

module _ (owner : SectionPos → ℕ) (next : ℕ) (below : (s : SectionPos) → 0 < owner s → owner s < next) (x z : ℤ) (before : List SectionPos) where
  -- one section more
  pub run_more : (i id : ℕ) (near : List ℕ) → near ≡ regions_of owner next (before ++ run_of section_at x z i) → id ≡ owner (section_at (x +ℤ pos i) z)
      → noted id near ≡ regions_of owner next (before ++ run_of section_at x z (i + 1))
  run_more i id near e is =
      (λ j. noted (is j) (e j)) ∙ regions_more owner next below (before ++ run_of section_at x z i) (section_at (x +ℤ pos i) z)
      ∙ ap (regions_of owner next) (append_assoc before (run_of section_at x z i) (section_at (x +ℤ pos i) z ∷ []) ∙ ap (λ xs. before ++ xs) (sym (row-more section_at x z i)))

  -- sections with no region add none
  pub run_rest : (i k : ℕ) → ((j : ℕ) → i + j < i + k → owner (section_at (x +ℤ pos (i + j)) z) ≡ 0) → regions_of owner next (before ++ run_of section_at x z i) ≡ regions_of owner next (before ++ run_of section_at x z (i + k))
  run_rest i zero none = let e : i ≡ i + zero = omega arith in ap (λ n. regions_of owner next (before ++ run_of section_at x z n)) e
  run_rest i (suc k) none =
      let e : (i + k) + 1 ≡ i + suc k = omega arith in
      run_rest i k (λ j l. none j (omega arith)) ∙ run_more (i + k) 0 (regions_of owner next (before ++ run_of section_at x z (i + k))) refl (sym (none k (omega arith)))
      ∙ ap (λ n. regions_of owner next (before ++ run_of section_at x z n)) e

-- a section of the first part of a list
pub part_at : (rest part after : List SectionPos) → rest ≡ part ++ after → (k : ℕ) (d : SectionPos) → k < length part → get_or rest k d ≡ get_or part k d
part_at rest part after split k d l = ap (λ (xs : List SectionPos). get_or xs k d) split ∙ get_or_append_left part after d k l

-- how many sections a region has among some of which the owners are these, and the others have none
pub count_run : (owner : SectionPos → ℕ) (r : ℕ) → 0 < r → (part : List SectionPos) (ids : List ℕ) (d : SectionPos) → length ids ≤ length part → ((k : ℕ) → k < length part → get_or ids k 0 ≡ owner (get_or part k d))
    → count_by (λ s. nat_eq (owner s) r) part ≡ count_by (λ id. nat_eq id r) ids
count_run owner r p [] [] d l same = refl
count_run owner r p [] (id ∷ ids) d l same = absurd (omega arith)
count_run owner r p (s ∷ part) [] d l same =
    let rest = count_run owner r p part [] d (omega arith) (λ k m. same (suc k) (omega arith)) in
    let none : owner s ≡ 0 = sym (same 0 (omega arith)) in
    let no : nat_eq (owner s) r ≡ false = ne_eqb (owner s) r (λ e. omega (arith, e, none, p)) in
    omega (arith, count_by-cons (λ s. nat_eq (owner s) r) s part, ap (λ b. cond {A = ℕ} b 1 0) no, rest)
count_run owner r p (s ∷ part) (id ∷ ids) d l same =
    let rest = count_run owner r p part ids d (omega arith) (λ k m. same (suc k) (omega arith)) in
    let one : id ≡ owner s = same 0 (omega arith) in
    count_by-cons (λ s. nat_eq (owner s) r) s part ∙ rw (← one, rest) (sym (count_by-cons (λ id. nat_eq id r) id ids))
