-- The sections that are dead since a chunk has no hold any more.
use Rattle.std.proofs.Common.{◌≡◌, ℕ, ◌+◌, ◌-◌, ◌≤◌, ◌<◌, refl, sym, ◌∙◌, ap, arith, Bool, true, false, inl, inr, ◌⊎◌, not, ◌&&◌, cond, List, [], ◌∷◌}
use Rattle.std.specs.Prelude.{nat_eq, nat_lt, min, count_by, filter}
use Rattle.std.proofs.lemmas.Bool.{cases_Bool, true≢false, and_parts, and_from, or_left, or_right, lt-ltb, ltb-true, ltb-false, leb-true, eq-eqb, eqb-true, not-true}
use Rattle.fol_model.specs.declared.places.ChunkPos.{ChunkPos}
use Rattle.fol_model.specs.declared.places.SectionPos.{SectionPos}
use Rattle.fol_model.specs.Geometry.{is_chunk, is_within, same_chunk, section_of, is_section}
use Rattle.fol_model.specs.GridNumbers.{IsGrid}
use Rattle.fol_model.specs.GridState.{GridState, at_chunk, in_margin}
use Rattle.fol_model.specs.Universe.{all_sections, count_sections, square}
use Rattle.fol_model.specs.Rules.{Rules}
use Rattle.fol_laws.proofs.AllSections.{some_chunk-is, some_chunk-gives}
use Rattle.fol_laws.proofs.FloorDivision.{around_in_limits}
use Rattle.fol_laws.proofs.ListCounts.{count_by-cons, count_by-mono, count_by-or}
use Rattle.fol_laws.proofs.SamePlaces.{same_chunk-true, same_chunk-self}
use Rattle.fol_laws.proofs.SectionOrder.{near_rows}
use Rattle.fol_sections.specs.Table.{holds_of, in_margin_of, presence_of, removed}
use Rattle.fol_sections.specs.declared.answers.Removed.TheVariants.{Gone}
use Rattle.fol_sections.specs.Table as sections
use Rattle.fol_region_tables.specs.Book.{Book, owner_of}
use Rattle.fol_regions.specs.declared.dead_bounds.Known.{Known}
use Rattle.fol_regions.specs.DeadBounds.{BoundsDead, dead_count, most_in}
use Rattle.fol_regions.specs.Released.{IsPresence, grid_of}

-- the section is the region's, and in no margin
abbrev is_dead_in : sections.Table → Book → ℕ → SectionPos → Bool
is_dead_in s b r q = nat_eq (owner_of b q) r && not (in_margin_of s q)

-- of the present and dead ones of some sections, those of a region
pub dead_listed : (s : sections.Table) (b : Book) → IsPresence s b → (r : ℕ) → 0 < r → (xs : List SectionPos)
    → count_by (λ q. nat_eq (owner_of b q) r) (filter (λ q. presence_of s q && not (in_margin_of s q)) xs) ≡ count_by (is_dead_in s b r) xs
dead_listed s b here r p [] = refl
dead_listed s b here r p (x ∷ xs) =
    let rest = dead_listed s b here r p xs in
    let all = count_by-cons (is_dead_in s b r) x xs in
    let left = filter (λ q. presence_of s q && not (in_margin_of s q)) xs in
    elim (cases_Bool (presence_of s x && not (in_margin_of s x))) [
      | inl e ↦
          let dead = (and_parts (presence_of s x) (not (in_margin_of s x)) e).1 in
          let one = count_by-cons (λ q. nat_eq (owner_of b q) r) x left in
          let same : is_dead_in s b r x ≡ nat_eq (owner_of b x) r = ap (λ v. nat_eq (owner_of b x) r && v) dead ∙ always (nat_eq (owner_of b x) r) in
          rw e (omega (arith, rest, all, one, ap (λ v. cond {A = ℕ} v 1 0) same))
      | inr e ↦
          let none : is_dead_in s b r x ≡ false = elim (cases_Bool (is_dead_in s b r x)) [
            | inr n ↦ n
            | inl y ↦
                let q = and_parts (nat_eq (owner_of b x) r) (not (in_margin_of s x)) y in
                let present : presence_of s x ≡ true = here x ∙ lt-ltb 0 (owner_of b x) (omega (arith, eqb-true _ _ q.0)) in
                absurd (true≢false (sym (and_from (presence_of s x) (not (in_margin_of s x)) present q.1) ∙ e))
          ] in
          rw e (omega (arith, rest, all, ap (λ v. cond {A = ℕ} v 1 0) none))
    ]
  where
    always : (v : Bool) → (v && true) ≡ v
    always true = refl
    always false = refl

-- ---- counts
-- what passes p passes q, or lies near
pub count_near : (p q : SectionPos → Bool) (n : SectionPos) (r : ℕ) → ((s : SectionPos) → is_within n r s ≡ true → is_section s ≡ true) → ((s : SectionPos) → p s ≡ true → q s ≡ false → is_within n r s ≡ true)
    → count_sections p ≤ count_sections q + count_by p (square n r)
count_near p q n r limits near =
    let rows = (near_rows n r p limits).1 in
    let both = count_by-or p q (λ s. p s && is_within n r s) (λ s e. elim (cases_Bool (q s)) [
      | inl y ↦ or_left (q s) (p s && is_within n r s) y
      | inr y ↦ or_right (q s) (p s && is_within n r s) (and_from (p s) (is_within n r s) e (near s e y))
    ]) all_sections in
    omega (arith, rows, both)

-- a region has at most 16,384 dead sections
pub dead_few : (g : GridState) (r : ℕ) → Rules g → 0 < r → dead_count g r ≤ 16384
unfolding dead_count
dead_few g r rules p =
    let l = count_by-mono (λ s. nat_eq (g.owner s) r && not (in_margin g s)) (λ s. nat_lt 0 (g.owner s)) (λ s e.
    let o = eqb-true _ _ (and_parts (nat_eq (g.owner s) r) (not (in_margin g s)) e).0 in lt-ltb 0 (g.owner s) (omega arith)) all_sections in
    omega (arith, l, rules.count)

-- what is dead in one state is dead in another
pub dead_fewer : (g h : GridState) (r : ℕ) → ((s : SectionPos) → h.owner s ≡ r → in_margin h s ≡ false → (g.owner s ≡ r) × (in_margin g s ≡ false)) → dead_count h r ≤ dead_count g r
unfolding dead_count
dead_fewer g h r was = count_by-mono (λ s. nat_eq (h.owner s) r && not (in_margin h s)) (λ s. nat_eq (g.owner s) r && not (in_margin g s)) (λ s e.
    let x = and_parts (nat_eq (h.owner s) r) (not (in_margin h s)) e in
    let w = was s (eqb-true _ _ x.0) (not-true _ x.1) in
    let m = w.1 in
    and_from (nat_eq (g.owner s) r) (not (in_margin g s)) (eq-eqb _ _ w.0) (rw m refl)) all_sections

-- ---- a removed hold
module _ (g h : GridState) (c : ChunkPos) (grid : h.grid ≡ g.grid) (owner : h.owner ≡ g.owner) (holds : h.holds ≡ at_chunk g.holds c (g.holds c - 1)) where
  still_loaded : (q : ChunkPos) → same_chunk c q ≡ false → h.holds q ≡ g.holds q
  still_loaded q n = ap (λ f. f q) holds ∙ rw n refl

  holds_left : h.holds c ≡ g.holds c - 1
  holds_left = let e = same_chunk-self c in ap (λ f. f c) holds ∙ rw e refl

  -- a section that a loaded chunk keeps in a margin
  margin_by : (q : ChunkPos) (s : SectionPos) → is_chunk q ≡ true → nat_lt 0 (h.holds q) ≡ true → is_within (section_of g.grid q) g.grid.create s ≡ true → in_margin h s ≡ true
  unfolding in_margin
  margin_by q s l p w = some_chunk-is (λ x. nat_lt 0 (h.holds x) && is_within (section_of h.grid x) h.grid.create s) q l (and_from (nat_lt 0 (h.holds q)) (is_within (section_of h.grid q) h.grid.create s) p (rw grid w))

  -- only sections near the chunk can be dead since
  margin_left : (s : SectionPos) → in_margin g s ≡ true → (in_margin h s ≡ true) ⊎ ((g.holds c ≡ 1) × (is_within (section_of g.grid c) g.grid.create s ≡ true))
  unfolding in_margin
  margin_left s m =
      let q = some_chunk-gives (λ q. nat_lt 0 (g.holds q) && is_within (section_of g.grid q) g.grid.create s) m in
      let both = and_parts (nat_lt 0 (g.holds q.0)) (is_within (section_of g.grid q.0) g.grid.create s) q.2 in
      elim (cases_Bool (same_chunk c q.0)) [
        | inr n ↦ let k = still_loaded q.0 n in inl (margin_by q.0 s q.1 (ap (nat_lt 0) k ∙ both.0) both.1)
        | inl e ↦
            let same : c ≡ q.0 = same_chunk-true c q.0 e in
            let near : is_within (section_of g.grid c) g.grid.create s ≡ true = ap (λ x. is_within (section_of g.grid x) g.grid.create s) same ∙ both.1 in
            let some : 0 < g.holds c = ltb-true 0 _ (ap (λ x. nat_lt 0 (g.holds x)) same ∙ both.0) in
            elim (cases_Bool (nat_lt 0 (h.holds c))) [
              | inl p ↦ inl (margin_by c s (ap is_chunk same ∙ q.1) p near)
              | inr z ↦ inr (let l = ltb-false 0 (h.holds c) z in omega (arith, holds_left), near)
            ]
      ]

  was_dead : (s : SectionPos) → in_margin h s ≡ false → ((g.holds c ≡ 1) → is_within (section_of g.grid c) g.grid.create s ≡ true → ⊥) → in_margin g s ≡ false
  was_dead s e never = elim (cases_Bool (in_margin g s)) [
    | inr x ↦ x
    | inl x ↦ elim (margin_left s x) [ inl y ↦ absurd (true≢false (sym y ∙ e)) | inr y ↦ absurd (never y.0 y.1) ]
  ]

  owned : (s : SectionPos) → h.owner s ≡ g.owner s
  owned s = ap (λ f. f s) owner

  -- the chunk has holds left, or had none
  pub dead_kept : (g.holds c ≡ 1 → ⊥) → (r : ℕ) → dead_count h r ≤ dead_count g r
  dead_kept n r = dead_fewer g h r (λ s o e. (sym (owned s) ∙ o, was_dead s e (λ x w. n x)))

  -- the last hold is gone
  pub dead_near : IsGrid g.grid → is_chunk c ≡ true → (r : ℕ) → dead_count h r ≤ dead_count g r + count_by (λ s. nat_eq (h.owner s) r && not (in_margin h s)) (square (section_of g.grid c) g.grid.create)
  unfolding dead_count
  dead_near ok limits r = count_near (λ s. nat_eq (h.owner s) r && not (in_margin h s)) (λ s. nat_eq (g.owner s) r && not (in_margin g s)) (section_of g.grid c) g.grid.create
      (λ s w. around_in_limits g.grid c s ok limits (leb-true _ _ w))
      (λ s e out.
      let x = and_parts (nat_eq (h.owner s) r) (not (in_margin h s)) e in
      let o = ap (λ k. nat_eq k r) (sym (owned s)) ∙ x.0 in
      elim (cases_Bool (is_within (section_of g.grid c) g.grid.create s)) [
        | inl w ↦ w
        | inr w ↦
            let m : in_margin g s ≡ false = was_dead s (not-true _ x.1) (λ y v. true≢false (sym v ∙ w)) in
            absurd (true≢false (sym (and_from (nat_eq (g.owner s) r) (not (in_margin g s)) o (rw m refl)) ∙ out))
      ])

-- ---- the numbers that a table keeps
module _ (s e : sections.Table) (b : Book) (c : ChunkPos) (same : e.grid ≡ s.grid) (holds : holds_of e ≡ at_chunk (holds_of s) c (holds_of s c - 1)) (old new : List Known) (bounds : BoundsDead (grid_of s b) (most_in old))
    (after : Rules (grid_of e b)) (died : List SectionPos) (noted : (r : ℕ) → 0 < r → min 16384 (most_in old r + count_by (λ q. nat_eq (owner_of b q) r) died) ≤ most_in new r) where
  dead_is : (r : ℕ) (n : SectionPos) (k : ℕ) → count_by (λ q. nat_eq ((grid_of e b).owner q) r && not (in_margin (grid_of e b) q)) (square n k) ≡ count_by (is_dead_in e b r) (square n k)
  unfolding grid_of in_margin in_margin_of
  dead_is r n k = refl

  same_dead : (holds_of s c ≡ 1 → ⊥) → (r : ℕ) → dead_count (grid_of e b) r ≤ dead_count (grid_of s b) r
  unfolding grid_of
  same_dead n r = dead_kept (grid_of s b) (grid_of e b) c same refl holds n r

  -- the chunk has holds left, or had none
  pub bounds_kept : (holds_of s c ≡ 1 → ⊥) → BoundsDead (grid_of e b) (most_in new)
  bounds_kept n = record { at = λ r p. omega (arith, bounds.at r p, same_dead n r, dead_few (grid_of e b) r after p, noted r p) }

  -- its last hold is gone
  module _ (ok : IsGrid s.grid) (limits : is_chunk c ≡ true) (presence : IsPresence e b)
      (are : died ≡ filter (λ q. presence_of e q && not (in_margin_of e q)) (square (section_of s.grid c) s.grid.create)) where
    noted_near : (r : ℕ) → dead_count (grid_of e b) r ≤ dead_count (grid_of s b) r + count_by (is_dead_in e b r) (square (section_of s.grid c) s.grid.create)
    unfolding grid_of
    noted_near r = let d = dead_near (grid_of s b) (grid_of e b) c same refl holds ok limits r in let i = dead_is r (section_of s.grid c) s.grid.create in omega (arith, d, i)

    pub bounds_noted : BoundsDead (grid_of e b) (most_in new)
    bounds_noted = record {
      at = λ r p.
          let listed = ap (count_by (λ q. nat_eq (owner_of b q) r)) are ∙ dead_listed e b presence r p (square (section_of s.grid c) s.grid.create) in
          omega (arith, bounds.at r p, listed, noted_near r, dead_few (grid_of e b) r after p, noted r p);
    }

-- ---- the answer
module _ (s : sections.Table) (c : ChunkPos) where
  pub gone_one : removed s c ≡ Gone → holds_of s c ≡ 1
  unfolding removed
  gone_one e = elim (cases_Bool (nat_eq (holds_of s c) 0)) [
    | inl k ↦ let x = rw k at e in absurd (cc)
    | inr k ↦ let x = rw k at e in elim (cases_Bool (nat_eq (holds_of s c) 1)) [ inl m ↦ eqb-true _ _ m | inr m ↦ let y = rw m at x in absurd (cc) ]
  ]

  pub one_gone : holds_of s c ≡ 1 → removed s c ≡ Gone
  unfolding removed
  one_gone e = rw e refl
