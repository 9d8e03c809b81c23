-- What a table keeps when a dead section leaves.
use Rattle.std.proofs.Common.{◌≡◌, ℕ, ◌+◌, ◌-◌, refl, sym, ◌∙◌, ap, arith, Bool, true, false, cond, not, ◌&&◌, ◌||◌, inl, inr, List, [], ◌∷◌, length}
use Rattle.std.specs.Prelude.{ℤ, nat_eq, nat_lt, is_some, None}
use Rattle.std.specs.Option.{unwrap_or}
use Rattle.std.specs.Bool.{IsTrue}
use Rattle.std.specs.List.{All, AllByRecursion, IsDistinct, count_by, filter}
use Rattle.std.proofs.lemmas.Bool.{cases_Bool, and_parts, and_from, true≢false, le-leb, ltb-true, eqb-true, cases_lt, or_left, or_right}
use Rattle.std.proofs.lemmas.Bool.Decides.{nat_tests}
use Rattle.std.proofs.lemmas.List.Filters.{length-filter_both}
use Rattle.std.proofs.lemmas.List.Sums.{length-filter}
use Rattle.std.proofs.lemmas.Map.Keys.{IsDistinct-head, IsDistinct-tail}
use Rattle.fol_model.specs.declared.places.ChunkPos.{ChunkPos}
use Rattle.fol_model.specs.declared.places.SectionPos.{SectionPos}
use Rattle.fol_model.specs.declared.grids.Grid.{Grid}
use Rattle.fol_model.specs.Geometry.{distance, is_section, is_within, section_of, same_section, is_among}
use Rattle.fol_model.specs.Universe.{all_chunks, all_sections, count_sections, square}
use Rattle.fol_laws.proofs.SamePlaces.{same_section-true, same_section-self}
use Rattle.fol_laws.proofs.Distances.{self_distance}
use Rattle.fol_laws.proofs.AllSections.{some_chunk-is}
use Rattle.fol_laws.proofs.ListCounts.{count_by-cons, count_by-none, count_by-some}
use Rattle.fol_laws.proofs.SectionOrder.{section_count_change, square_members}
use Rattle.fol_sections.specs.Pages.{chunks_at, counts_at, is_here, near_at, no_counts}
use Rattle.fol_sections.specs.declared.pages.Page.{Page}
use Rattle.fol_sections.specs.Kept.{IsKept, is_filled_near, is_held, is_loaded_in}
use Rattle.fol_sections.specs.Table.{in_margin_of, presence_of}
use Rattle.fol_sections.proofs.Margins.{count-like, margin-is, near-is}
use Rattle.fol_sections.proofs.NumberSteps.{all_among}
use Rattle.fol_sections.proofs.Rows.{filter_none}
use Rattle.fol_sections.proofs.Tables.{table, table-dead, table-neighbours, table-presence}
use Rattle.fol_sections.proofs.Views.{same_section-swap}

-- no section near s holds a loaded chunk
abbrev pub is_lonely : List ((ℤ × ℤ) × Page) → SectionPos → Bool
is_lonely pages s = nat_eq (near_at pages s) 0

always : (b : Bool) → (b && true) ≡ b
always true = refl
always false = refl

pub filter-like : (p q : SectionPos → Bool) (xs : List SectionPos) → ((s : SectionPos) → is_among xs s ≡ true → p s ≡ q s) → filter p xs ≡ filter q xs
filter-like p q [] h = refl
filter-like p q (x ∷ xs) h =
    ap (λ b. cond b (x ∷ filter p xs) (filter p xs)) (h x (or_left (same_section x x) _ (same_section-self x)))
    ∙ ap (λ ys. cond (q x) (x ∷ ys) ys) (filter-like p q xs (λ s k. h s (or_right (same_section s x) _ k)))

-- a test that no section of a square passes keeps none of them
pub square_none : (p : SectionPos → Bool) (n : SectionPos) (r : ℕ) → ((s : SectionPos) → is_within n r s ≡ true → p s ≡ false) → filter p (square n r) ≡ []
square_none p n r h =
    filter-like p (λ s. false) (square n r) (λ s k. h s (sym (square_members n r s) ∙ k))
    ∙ filter_none (λ s. false) (square n r) (count_by-none (λ s. false) (λ s. refl) (square n r))

module _ (grid : Grid) (holds : List ((ℤ × ℤ) × ℕ)) (pages pages' : List ((ℤ × ℤ) × Page)) (count : ℕ) (gone : SectionPos → Bool) (kept : IsKept grid holds pages count)
    (lonely : (q : SectionPos) → gone q ≡ true → is_lonely pages q ≡ true) (out : (q : SectionPos) → counts_at pages' q ≡ cond (gone q) None (counts_at pages q)) where
  nobody : (s : SectionPos) → gone s ≡ true → (c : ChunkPos) → is_held holds c ≡ true → is_within (section_of grid c) grid.create s ≡ false
  nobody s g c h = elim (cases_Bool (is_within (section_of grid c) grid.create s)) [
    | inr e ↦ e
    | inl e ↦
        let some = some_chunk-is (λ c. is_held holds c && is_within (section_of grid c) grid.create s) c (kept.chunk_limits c h) (and_from _ _ h e) in
        let more = ltb-true _ _ (sym (margin-is grid holds pages count kept s) ∙ some) in
        absurd (omega (arith, near-is grid holds pages count kept s, eqb-true _ _ (lonely s g)))
  ]

  no_chunk : (s : SectionPos) → gone s ≡ true → chunks_at pages s ≡ 0
  no_chunk s g = elim (cases_lt 0 (count_by (is_loaded_in grid holds s) all_chunks)) [
    | inr e ↦ omega (arith, kept.chunks s)
    | inl e ↦
        let c = count_by-some (is_loaded_in grid holds s) all_chunks e in
        let p = and_parts (is_held holds c.0) (same_section (section_of grid c.0) s) c.1 in
        let k = same_section-true (section_of grid c.0) s p.1 in
        let near : is_within (section_of grid c.0) grid.create s ≡ true = le-leb _ _ (omega (arith, self_distance s, ap (λ q. distance q s) k)) in
        absurd (true≢false (sym near ∙ nobody s g c.0 p.0))
  ]

  pub here-out : (q : SectionPos) → is_here pages' q ≡ (is_here pages q && not (gone q))
  unfolding is_here
  here-out q = ap is_some (out q) ∙ elim (cases_Bool (gone q)) [
    | inl e ↦ rw e (sym (never (is_some (counts_at pages q))))
    | inr e ↦ rw e (sym (always (is_some (counts_at pages q))))
  ]
    where
      never : (b : Bool) → (b && false) ≡ false
      never true = refl
      never false = refl

  chunks-out : (q : SectionPos) → chunks_at pages' q ≡ chunks_at pages q
  unfolding chunks_at
  chunks-out q = ap (λ o. (unwrap_or o no_counts).loaded) (out q) ∙ elim (cases_Bool (gone q)) [ inl e ↦ rw e (sym (no_chunk q e)) | inr e ↦ rw e refl ]

  near-out : (q : SectionPos) → near_at pages' q ≡ near_at pages q
  unfolding near_at
  near-out q = ap (λ o. (unwrap_or o no_counts).near) (out q) ∙ elim (cases_Bool (gone q)) [ inl e ↦ rw e (sym (eqb-true _ _ (lonely q e))) | inr e ↦ rw e refl ]

  pub kept_out : (dropped : ℕ) → count_sections (is_here pages) ≡ dropped + count_sections (is_here pages') → IsKept grid holds pages' (count - dropped)
  kept_out dropped counts = record {
    numbers = kept.numbers;
    chunk_limits = kept.chunk_limits;
    section_limits = λ q h. kept.section_limits q (and_parts (is_here pages q) (not (gone q)) (sym (here-out q) ∙ h)).0;
    chunks = λ q. chunks-out q ∙ kept.chunks q;
    near = λ q. near-out q ∙ kept.near q ∙ sym (count-like (is_filled_near grid pages' q) (is_filled_near grid pages q) all_sections (λ p. ap (λ n. nat_lt 0 n && is_within q grid.create p) (chunks-out p)));
    margin = λ c q h w. here-out q ∙ and_from _ _ (kept.margin c q h w) (stays c q h w);
    count = omega (arith, kept.count, counts);
    few = omega (arith, kept.few);
  }
    where
      stays : (c : ChunkPos) (q : SectionPos) → is_held holds c ≡ true → is_within (section_of grid c) grid.create q ≡ true → not (gone q) ≡ true
      stays c q h w = elim (cases_Bool (gone q)) [
        | inr e ↦ ap not e
        | inl e ↦ absurd (true≢false (sym w ∙ nobody q e c h))
      ]

-- ---- how many they are
-- a section of distinct ones is none of those behind it
head_fresh : (x : SectionPos) (xs : List SectionPos) → IsDistinct same_section (x ∷ xs) → is_among xs x ≡ false
head_fresh x xs apart = none xs (IsDistinct-head same_section x xs apart)
  where
    none : (ys : List SectionPos) → AllByRecursion (λ y. same_section x y ≡ false) ys → is_among ys x ≡ false
    none [] h = refl
    none (y ∷ ys) h = (λ i. h.0 i || none ys h.1 i)

-- distinct present sections that pass a test, and those that are left without them
pub count_out : (here test : SectionPos → Bool) (xs : List SectionPos) → IsDistinct same_section xs → ((s : SectionPos) → is_among xs s ≡ true → (here s ≡ true) × (is_section s ≡ true))
    → count_sections here ≡ count_by test xs + count_sections (λ q. here q && not (is_among xs q && test q))
count_out here test [] apart ok =
    let same = count-like here (λ q. here q && true) all_sections (λ q. sym (always (here q))) in
    omega (arith, same)
count_out here test (x ∷ xs) apart ok =
    let rest = count_out here test xs (IsDistinct-tail same_section x xs apart) (λ s k. ok s (or_right (same_section s x) _ k)) in
    let first = ok x (or_left (same_section x x) (is_among xs x) (same_section-self x)) in
    let fresh = head_fresh x xs apart in
    let before : SectionPos → Bool = λ q. here q && not (is_among xs q && test q) in
    let after : SectionPos → Bool = λ q. here q && not ((same_section q x || is_among xs q) && test q) in
    let more = count_by-cons test x xs in
    elim (cases_Bool (test x)) [
      | inl e ↦
          let out : after x ≡ false = (λ i. here x && not ((same_section-self x i || is_among xs x) && e i)) ∙ never (here x) in
          let was : before x ≡ true = (λ i. first.0 i && not (fresh i && test x)) in
          let change = section_count_change before after x first.1 out (λ s n. ap (λ b. here s && not ((b || is_among xs s) && test s)) (sym (same_section-swap s x ∙ n))) in
          omega (arith, rest, more, change, ap (λ b. cond {A = ℕ} b 1 0) e, ap (λ b. cond {A = ℕ} b 1 0) was)
      | inr e ↦
          let same = count-like before after all_sections (λ q. elim (cases_Bool (same_section q x)) [
            | inl k ↦ let t : test q ≡ false = ap test (same_section-true q x k) ∙ e in (λ i. here q && not (is_among xs q && t i)) ∙ ap (λ b. here q && not b) (never (is_among xs q) ∙ sym (never (same_section q x || is_among xs q))) ∙ (λ i. here q && not ((same_section q x || is_among xs q) && sym t i))
            | inr k ↦ ap (λ b. here q && not ((b || is_among xs q) && test q)) (sym k)
          ]) in
          omega (arith, rest, more, same, ap (λ b. cond {A = ℕ} b 1 0) e)
    ]
  where
    never : (b : Bool) → (b && false) ≡ false
    never true = refl
    never false = refl

-- those of a list that are left and those that are not are all of it
pub kept_and_gone : (here lonely : SectionPos → Bool) (xs : List SectionPos) → ((s : SectionPos) → is_among xs s ≡ true → here s ≡ not (lonely s)) → count_by here xs + count_by lonely xs ≡ length xs
kept_and_gone here lonely xs h =
    let same = sym (length-filter here xs) ∙ ap length (filter-like here (λ s. not (lonely s)) xs h) in
    omega (arith, same, length-filter lonely xs, length-filter_both lonely (λ s. not (lonely s)) (λ s. refl) xs)

-- ---- the dead ones of a list leave
module _ (grid : Grid) (holds : List ((ℤ × ℤ) × ℕ)) (pages pages' : List ((ℤ × ℤ) × Page)) (count : ℕ) (kept : IsKept grid holds pages count) (list : List SectionPos)
    (present : All (λ s. IsTrue (is_here pages s)) list) (apart : IsDistinct same_section list)
    (out : (q : SectionPos) → counts_at pages' q ≡ cond (is_among list q && is_lonely pages q) None (counts_at pages q)) where
  listed : (q : SectionPos) → is_among list q ≡ true → is_here pages q ≡ true
  listed q h = all_among (λ s. IsTrue (is_here pages s)) list q present h

  gone : (q : SectionPos) → (is_among list q && is_lonely pages q) ≡ true → is_lonely pages q ≡ true
  gone q h = (and_parts (is_among list q) (is_lonely pages q) h).1

  pub here_left : (q : SectionPos) → is_here pages' q ≡ (is_here pages q && not (is_among list q && is_lonely pages q))
  here_left = here-out grid holds pages pages' count (λ q. is_among list q && is_lonely pages q) kept gone out

  pub counts_left : count_sections (is_here pages) ≡ count_by (is_lonely pages) list + count_sections (is_here pages')
  counts_left =
      let all = count_out (is_here pages) (is_lonely pages) list apart (λ s h. (listed s h, kept.section_limits s (listed s h))) in
      omega (arith, all, count-like (is_here pages') (λ q. is_here pages q && not (is_among list q && is_lonely pages q)) all_sections here_left)

  pub kept_left : IsKept grid holds pages' (count - count_by (is_lonely pages) list)
  kept_left = kept_out grid holds pages pages' count (λ q. is_among list q && is_lonely pages q) kept gone out (count_by (is_lonely pages) list) counts_left

  pub stays_where : (q : SectionPos) → is_among list q ≡ true → is_here pages' q ≡ not (is_lonely pages q)
  stays_where q h = here_left q ∙ (λ i. listed q h i && not (h i && is_lonely pages q))

  pub all_left : count_by (is_here pages') list + count_by (is_lonely pages) list ≡ length list
  all_left = kept_and_gone (is_here pages') (is_lonely pages) list stays_where

-- a section near which no section holds a loaded chunk is dead
pub lonely-is : (grid : Grid) (holds : List ((ℤ × ℤ) × ℕ)) (pages : List ((ℤ × ℤ) × Page)) (count : ℕ) (filled died : List SectionPos) (spare : ℕ) → IsKept grid holds pages count → (s : SectionPos)
    → is_lonely pages s ≡ not (in_margin_of (table grid holds pages filled died spare) s)
lonely-is grid holds pages count filled died spare kept s =
    table-dead grid holds pages filled died spare count kept s (near_at pages s) (near-is grid holds pages count kept s ∙ sym (table-neighbours grid holds pages filled died spare s))

-- the dead ones of a square whose sections are all present
pub dead_square : (grid : Grid) (holds : List ((ℤ × ℤ) × ℕ)) (pages : List ((ℤ × ℤ) × Page)) (count : ℕ) (filled died : List SectionPos) (spare : ℕ) → IsKept grid holds pages count → (n : SectionPos) (r : ℕ)
    → ((s : SectionPos) → is_within n r s ≡ true → is_here pages s ≡ true)
    → filter (is_lonely pages) (square n r) ≡ filter (λ s. presence_of (table grid holds pages filled died spare) s && not (in_margin_of (table grid holds pages filled died spare) s)) (square n r)
dead_square grid holds pages count filled died spare kept n r here =
    let t = table grid holds pages filled died spare in
    filter-like (is_lonely pages) (λ s. presence_of t s && not (in_margin_of t s)) (square n r) (λ s k.
    let present : presence_of t s ≡ true = ap (λ (f : SectionPos → Bool). f s) (table-presence grid holds pages filled died spare kept.section_limits) ∙ here s (sym (square_members n r s) ∙ k) in
    lonely-is grid holds pages count filled died spare kept s ∙ ap (λ b. b && not (in_margin_of t s)) (sym present))

-- and the others are in a margin
pub living-is : (grid : Grid) (holds : List ((ℤ × ℤ) × ℕ)) (pages : List ((ℤ × ℤ) × Page)) (count : ℕ) (filled died : List SectionPos) (spare : ℕ) → IsKept grid holds pages count → (s : SectionPos)
    → nat_lt 0 (near_at pages s) ≡ in_margin_of (table grid holds pages filled died spare) s
living-is grid holds pages count filled died spare kept s = some_near (near_at pages s) ∙ ap not (lonely-is grid holds pages count filled died spare kept s) ∙ twice (in_margin_of (table grid holds pages filled died spare) s)
  where
    some_near : (n : ℕ) → nat_lt 0 n ≡ not (nat_eq n 0)
    some_near n = grind (arith, nat_tests)

    twice : (b : Bool) → not (not b) ≡ b
    twice true = refl
    twice false = refl
