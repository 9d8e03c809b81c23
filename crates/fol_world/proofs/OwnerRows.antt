-- The rows of the owners, from the rows of each region's sections.
use Rattle.std.proofs.Common.{◌≡◌, ℕ, ◌+◌, ◌<◌, refl, sym, ◌∙◌, ap, arith, Bool, false, cond, inl, inr, List, [], ◌∷◌, ◌++◌, length, get_or, take, not, append_assoc}
use Rattle.std.specs.Prelude.{nat_eq, nat_lt, flat_map, map, filter}
use Rattle.std.specs.List.{AllByRecursion, list_any}
use Rattle.std.specs.List.Sorted.{IsPermutation, IsSortedBy, IsStrictlySortedBy}
use Rattle.std.specs.Cmp.{ranks}
use Rattle.std.specs.Ordering.{is_lt, nat_cmp}
use Rattle.std.specs.declared.cmp.Ordering.TheVariants.{Less}
use Rattle.std.proofs.Math.Path.{fun_ext}
use Rattle.std.proofs.lemmas.Bool.{cases_Bool, eqb-true, lt-ltb, ltb-true, true≢false}
use Rattle.std.proofs.lemmas.Grind.{flat_map-append}
use Rattle.std.proofs.lemmas.List.{append-nil, get_or-map, length-map, take_more}
use Rattle.std.proofs.lemmas.List.Concat.{flat_map-cons}
use Rattle.std.proofs.lemmas.List.Elements.{All-from_recursion, recursion_from_All}
use Rattle.std.proofs.lemmas.List.Kept.{IsStrictlySortedBy-filter}
use Rattle.std.proofs.lemmas.List.Sorted.{All-permutation, IsPermutation-append_right, IsPermutation-map, IsPermutation-refl, IsPermutation-sym, IsPermutation-trans}
use Rattle.fol_model.specs.declared.places.SectionPos.{SectionPos}
use Rattle.fol_model.specs.declared.closings.OwnerRow.{OwnerRow}
use Rattle.fol_model.specs.GridState.{GridState, is_dead, is_present}
use Rattle.fol_model.specs.Rules.{Rules}
use Rattle.fol_model.specs.Universe.{all_sections, numbers_below, section_cmp}
use Rattle.fol_laws.proofs.NumberOrder.{numbers_sorted}
use Rattle.fol_laws.proofs.SectionOrder.{sections_sorted, sections_tell}
use Rattle.fol_regions.proofs.InOrder.{filter_either, sorted_is}
use Rattle.fol_model.specs.declared.events.Entry.{Entry}
use Rattle.fol_model.specs.declared.openings.Opening.{Opening}
use Rattle.fol_model.specs.Outputs.{owner_rows}
use Rattle.fol_model.specs.Run.{world}
use Rattle.fol_regions.specs.Table.{grid_state}
use Rattle.fol_world.specs.Closings.{live_in, owner_row, owners_in, owners_of}
use Rattle.fol_world.specs.Stands.{Stands}
use Rattle.fol_world.specs.declared.tables.Tables.{Tables}
use Rattle.fol_world.proofs.CalmStore.{dead_not, in_live}
use Rattle.fol_world.proofs.KeyedRows.{map_flat, map_passing, passing}

-- a number is not among those that rise above it
not_later : (k : ℕ) (ks : List ℕ) → AllByRecursion (λ n. nat_cmp k n ≡ Less) ks → list_any (nat_eq k) ks ≡ false
not_later k [] h = refl
not_later k (n ∷ ks) h = elim (cases_Bool (nat_eq k n)) [
  | inl e ↦ let s : k ≡ n = eqb-true k n e in let l : nat_cmp n n ≡ Less = rw s at h.0 in absurd (let z = below_itself n l in z)
  | inr e ↦ rw e (not_later k ks h.1)
]
  where
    below_itself : (n : ℕ) → nat_cmp n n ≡ Less → ⊥
    below_itself n l = let h = ranks n n in let b : n < n = rw l at h in absurd (omega arith)

-- the rows of the next region are added
pub rows_more : (f : ℕ → List OwnerRow) (old now new : List OwnerRow) (ids : List ℕ) (i d : ℕ) → i < length ids → now ≡ old ++ flat_map f (take i ids) → new ≡ now ++ f (get_or ids i d)
    → new ≡ old ++ flat_map f (take (i + 1) ids)
rows_more f old now new ids i d l so_far added =
    let next : flat_map f (take (i + 1) ids) ≡ flat_map f (take i ids) ++ f (get_or ids i d) = ap (flat_map f) (take_more ids i d l) ∙ flat_map-append f (take i ids) (get_or ids i d ∷ [])
    ∙ ap (λ zs. flat_map f (take i ids) ++ zs) (flat_map-cons {A = OwnerRow} f (get_or ids i d) [] ∙ append-nil (f (get_or ids i d))) in
    added ∙ ap (λ xs. xs ++ f (get_or ids i d)) so_far ∙ append_assoc old (flat_map f (take i ids)) (f (get_or ids i d)) ∙ ap (λ xs. old ++ xs) (sym next)

module _ (g : GridState) where
  abbrev row : SectionPos → OwnerRow
  row s = record { at = s; region = g.owner s }

  abbrev sections_of : ℕ → List SectionPos
  sections_of id = filter (λ s. nat_eq (g.owner s) id) all_sections

  abbrev owned_among : List ℕ → SectionPos → Bool
  owned_among ids s = list_any (nat_eq (g.owner s)) ids

  -- the sections of distinct regions, one region behind the other, are those of all of them in another order
  parted : (ids : List ℕ) → IsStrictlySortedBy nat_cmp ids → IsPermutation (flat_map sections_of ids) (filter (owned_among ids) all_sections)
  unfolding IsStrictlySortedBy
  parted [] up = rw (none all_sections) (IsPermutation-refl [])
    where
      none : (ss : List SectionPos) → filter (owned_among []) ss ≡ []
      none [] = refl
      none (s ∷ ss) = none ss
  parted (id ∷ ids) up =
      rw (flat_map-cons {A = SectionPos} sections_of id ids)
      (IsPermutation-trans (sections_of id ++ flat_map sections_of ids) (sections_of id ++ filter (owned_among ids) all_sections) (filter (owned_among (id ∷ ids)) all_sections)
      (IsPermutation-append_right (sections_of id) (flat_map sections_of ids) (filter (owned_among ids) all_sections) (parted ids up.1))
      (filter_either (owned_among (id ∷ ids)) (λ s. nat_eq (g.owner s) id) (owned_among ids) one all_sections))
    where
      one : (s : SectionPos) → cond (owned_among (id ∷ ids) s) 1 0 ≡ cond (nat_eq (g.owner s) id) 1 0 + cond (owned_among ids s) 1 0
      one s = elim (cases_Bool (nat_eq (g.owner s) id)) [
        | inl e ↦ let n : owned_among ids s ≡ false = let z = not_later id ids up.0 in let k : g.owner s ≡ id = eqb-true (g.owner s) id e in ap (λ i. list_any (nat_eq i) ids) k ∙ z in rw (e, n) refl
        | inr e ↦ rw e (omega arith)
      ]

  -- a row says who owns its section
  abbrev IsRow : OwnerRow → Type 0
  IsRow r = r ≡ row r.at

  all_rows : (ss : List SectionPos) → AllByRecursion IsRow (map row ss)
  all_rows [] = tt
  all_rows (s ∷ ss) = (refl, all_rows ss)

  rows_back : (rs : List OwnerRow) → AllByRecursion IsRow rs → rs ≡ map row (map (λ r. r.at) rs)
  rows_back [] h = refl
  rows_back (r ∷ rs) h = λ i. h.0 i ∷ rows_back rs h.1 i

  places_back : (ss : List SectionPos) → map (λ r. r.at) (map row ss) ≡ ss
  places_back [] = refl
  places_back (s ∷ ss) = ap (λ (qs : List SectionPos). s ∷ qs) (places_back ss)

  places_sorted : (rs : List OwnerRow) → IsSortedBy (λ a b. is_lt (section_cmp a.at b.at)) rs → IsSortedBy (λ a b. is_lt (section_cmp a b)) (map (λ r. r.at) rs)
  places_sorted rs up k d low high =
      let e : OwnerRow = row d in
      let n : k + 1 < length rs = let e = length-map rs (λ (r : OwnerRow). r.at) in omega (arith, e, high) in
      let a = get_or-map (λ (r : OwnerRow). r.at) rs (k + 1) e d n in
      let b = get_or-map (λ (r : OwnerRow). r.at) rs k e d (omega arith) in
      rw (a, b) (up k e low n)

  -- rows in order, which are those of these sections in another order
  pub rows_are : (ss : List SectionPos) (rs : List OwnerRow) → IsStrictlySortedBy section_cmp ss → IsPermutation (map row ss) rs → IsSortedBy (λ a b. is_lt (section_cmp a.at b.at)) rs → rs ≡ map row ss
  rows_are ss rs rising moved up =
      let each : AllByRecursion IsRow rs = recursion_from_All IsRow rs (All-permutation IsRow (map row ss) rs moved (All-from_recursion IsRow (map row ss) (all_rows ss))) in
      let places : IsPermutation ss (map (λ r. r.at) rs) = rw (places_back ss) at (IsPermutation-map (λ (r : OwnerRow). r.at) (map row ss) rs moved) in
      let same : map (λ r. r.at) rs ≡ ss = sorted_is section_cmp sections_tell (map (λ r. r.at) rs) ss (places_sorted rs up) rising (IsPermutation-sym ss (map (λ r. r.at) rs) places) in
      rows_back rs each ∙ ap (map row) same

  module _ (rules : Rules g) where
    owners_live : (s : SectionPos) → owned_among (live_in g) s ≡ is_present g s
    owners_live s = elim (cases_Bool (nat_lt 0 (g.owner s))) [
      | inl e ↦ rw e (in_live g (g.owner s) rules (rules.owner_lives s (ltb-true 0 (g.owner s) e)))
      | inr e ↦ rw e (none_owned e (live_in g) above)
    ]
      where
        above : AllByRecursion (λ id. 0 < id) (live_in g)
        above = passing (λ r. not (is_dead (g.state r))) (λ id. 0 < id) (λ id h. rules.given id (dead_not (g.state id) h)) (numbers_below g.next)

        none_owned : nat_lt 0 (g.owner s) ≡ false → (ids : List ℕ) → AllByRecursion (λ id. 0 < id) ids → owned_among ids s ≡ false
        none_owned e [] h = refl
        none_owned e (id ∷ ids) h = elim (cases_Bool (nat_eq (g.owner s) id)) [
          | inl k ↦ let o : g.owner s ≡ id = eqb-true (g.owner s) id k in let l : 0 < g.owner s = omega (arith, h.0, o) in absurd (true≢false (sym (lt-ltb 0 (g.owner s) l) ∙ e))
          | inr k ↦ rw k (none_owned e ids h.1)
        ]

    live_rises : IsStrictlySortedBy nat_cmp (live_in g)
    live_rises = IsStrictlySortedBy-filter nat_cmp (λ r. not (is_dead (g.state r))) (numbers_below g.next) (numbers_sorted g.next)

    owner_is : (id : ℕ) → owners_of g id ≡ map row (sections_of id)
    owner_is id = map_passing (owner_row id) row (λ s. nat_eq (g.owner s) id) (λ s e. let k : g.owner s ≡ id = eqb-true (g.owner s) id e in ap (λ n. record { at = s; region = n }) (sym k)) all_sections

    -- the rows of each region, one behind the other and then put in order, are the rows of all present sections
    pub owners_are : (rs : List OwnerRow) → IsPermutation (flat_map (owners_of g) (live_in g)) rs → IsSortedBy (λ a b. is_lt (section_cmp a.at b.at)) rs → rs ≡ owners_in g
    owners_are rs moved up =
        let listed : flat_map (owners_of g) (live_in g) ≡ map row (flat_map sections_of (live_in g)) = ap (λ (f : ℕ → List OwnerRow). flat_map f (live_in g)) (fun_ext owner_is) ∙ sym (map_flat row sections_of (live_in g)) in
        let present : filter (owned_among (live_in g)) all_sections ≡ filter (is_present g) all_sections = ap (λ (p : SectionPos → Bool). filter p all_sections) (fun_ext owners_live) in
        let whole : IsPermutation (flat_map sections_of (live_in g)) (filter (is_present g) all_sections) = rw present at (parted (live_in g) live_rises) in
        rows_are (filter (is_present g) all_sections) rs (IsStrictlySortedBy-filter section_cmp (is_present g) all_sections sections_sorted)
        (IsPermutation-trans (map row (filter (is_present g) all_sections)) (map row (flat_map sections_of (live_in g))) rs
        (IsPermutation-sym (map row (flat_map sections_of (live_in g))) (map row (filter (is_present g) all_sections)) (IsPermutation-map row (flat_map sections_of (live_in g)) (filter (is_present g) all_sections) whole))
        (rw listed at moved)) up

-- the tables of a core give the owners of the world after its history
pub owners_stand : (o : Opening) (h : List Entry) (t : Tables) → Stands o h t → owners_in (grid_state t.regions) ≡ owner_rows (world o h)
unfolding owner_rows
owners_stand o h t s = ap owners_in s.fits.regions
