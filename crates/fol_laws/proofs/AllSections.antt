-- What the list of all sections gives.
use Rattle.std.proofs.Common.{◌≡◌, ◌≤◌, ◌<◌, sym, ◌∙◌, arith, Bool, true, cond}
use Rattle.std.specs.Prelude.{ℤ, pos, ◌+ℤ◌, ◌-ℤ◌, nat_abs, nat_le, map}
use Rattle.std.specs.List.{count_by, list_any}
use Rattle.std.proofs.lemmas.Bool.{and_parts, and_from, leb-true, le-leb}
use borrow.Author.Differences.{ints}
use Rattle.fol_model.specs.declared.places.ChunkPos.{ChunkPos}
use Rattle.fol_model.specs.declared.places.SectionPos.{SectionPos}
use Rattle.fol_model.specs.Geometry.{distance, is_section, is_chunk}
use Rattle.fol_model.specs.Universe.{some_section, count_sections, all_sections, coordinates, some_chunk, all_chunks}
use Rattle.fol_laws.proofs.Coordinates.{list_any-coordinates, list_any-coordinates_gives, sum-coordinates, list_any-map, list_any-flat_map, count_by-map, count_by-flat_map}
use Rattle.fol_laws.proofs.ListCounts.{list_any-count}

abbrev at : ℤ → ℤ → SectionPos
at x z = record { x = x; z = z }

-- each section is in the list
pub some_section-is : (p : SectionPos → Bool) (s : SectionPos) → is_section s ≡ true → p s ≡ true → some_section p ≡ true
unfolding is_section all_sections
some_section-is p s l h =
    let parts = and_parts (nat_le (nat_abs s.x) 1000008) (nat_le (nat_abs s.z) 1000008) l in
    let row : list_any (λ x. p (record { x = x; z = s.z })) (coordinates 1000008) ≡ true = list_any-coordinates (λ x. p (record { x = x; z = s.z })) s.x 1000008 (leb-true _ _ parts.0) h in
    list_any-flat_map p (λ z. map (λ x. record { x = x; z = z }) (coordinates 1000008)) (coordinates 1000008)
    ∙ list_any-coordinates (λ z. list_any p (map (λ x. record { x = x; z = z }) (coordinates 1000008))) s.z 1000008 (leb-true _ _ parts.1)
    (list_any-map p (λ x. record { x = x; z = s.z }) (coordinates 1000008) ∙ row)

pub count_sections-is : (p : SectionPos → Bool) (s : SectionPos) → is_section s ≡ true → p s ≡ true → 0 < count_sections p
count_sections-is p s l h = list_any-count p all_sections (some_section-is p s l h)

in_limits : (s : SectionPos) → is_section s ≡ true → (nat_abs s.x ≤ 1000008) × (nat_abs s.z ≤ 1000008)
unfolding is_section
in_limits s l = let parts = and_parts (nat_le (nat_abs s.x) 1000008) (nat_le (nat_abs s.z) 1000008) l in (leb-true _ _ parts.0, leb-true _ _ parts.1)

near_at : (n : SectionPos) (x z : ℤ) → nat_abs (n.x -ℤ x) ≤ 1 → nat_abs (n.z -ℤ z) ≤ 1 → distance n (record { x = x; z = z }) ≤ 1
unfolding distance
near_at n x z a b = omega arith

pub nine_sections : (p : SectionPos → Bool) (n : SectionPos) → ((s : SectionPos) → distance n s ≤ 1 → is_section s ≡ true) → ((s : SectionPos) → distance n s ≤ 1 → p s ≡ true) → 9 ≤ count_sections p
unfolding all_sections
nine_sections p n l h =
    let x = in_limits (at (n.x -ℤ pos 1) n.z) (l _ (near_at n _ _ (omega (arith, ints)) (omega (arith, ints)))) in
    let y = in_limits (at (n.x +ℤ pos 1) n.z) (l _ (near_at n _ _ (omega (arith, ints)) (omega (arith, ints)))) in
    let u = in_limits (at n.x (n.z -ℤ pos 1)) (l _ (near_at n _ _ (omega (arith, ints)) (omega (arith, ints)))) in
    let v = in_limits (at n.x (n.z +ℤ pos 1)) (l _ (near_at n _ _ (omega (arith, ints)) (omega (arith, ints)))) in
    let one : (a b : ℤ) → nat_abs (n.x -ℤ a) ≤ 1 → nat_abs (n.z -ℤ b) ≤ 1 → 1 ≤ cond (p (at a b)) 1 0 = λ a b d e.
    let k : p (at a b) ≡ true = h (at a b) (near_at n a b d e) in rw k (omega arith) in
    let row : (b : ℤ) → nat_abs (n.z -ℤ b) ≤ 1 → 3 ≤ count_by p (map (λ a. at a b) (coordinates 1000008)) = λ b e.
    let m = sum-coordinates (λ a. cond (p (at a b)) 1 0) n.x 1000008 1 x.0 (omega (arith, ints, x.0, y.0)) y.0
    (one _ b (omega (arith, ints)) e) (one _ b (omega (arith, ints)) e) (one _ b (omega (arith, ints)) e) in
    omega (arith, count_by-map p (λ a. at a b) (coordinates 1000008)) in
    let m = sum-coordinates (λ b. count_by p (map (λ a. at a b) (coordinates 1000008))) n.z 1000008 3 u.1 (omega (arith, ints, u.1, v.1)) v.1
    (row _ (omega (arith, ints))) (row _ (omega (arith, ints))) (row _ (omega (arith, ints))) in
    omega (arith, count_by-flat_map p (λ b. map (λ a. at a b) (coordinates 1000008)) (coordinates 1000008))

-- each chunk is in the list
pub some_chunk-is : (p : ChunkPos → Bool) (c : ChunkPos) → is_chunk c ≡ true → p c ≡ true → some_chunk p ≡ true
unfolding is_chunk all_chunks
some_chunk-is p c l h =
    let parts = and_parts (nat_le (nat_abs c.x) 1000000) (nat_le (nat_abs c.z) 1000000) l in
    let row : list_any (λ x. p (record { x = x; z = c.z })) (coordinates 1000000) ≡ true = list_any-coordinates (λ x. p (record { x = x; z = c.z })) c.x 1000000 (leb-true _ _ parts.0) h in
    list_any-flat_map p (λ z. map (λ x. record { x = x; z = z }) (coordinates 1000000)) (coordinates 1000000)
    ∙ list_any-coordinates (λ z. list_any p (map (λ x. record { x = x; z = z }) (coordinates 1000000))) c.z 1000000 (leb-true _ _ parts.1)
    (list_any-map p (λ x. record { x = x; z = c.z }) (coordinates 1000000) ∙ row)

-- each section of the list is within the limits
pub some_section-gives : (p : SectionPos → Bool) → some_section p ≡ true → (s : SectionPos) × (is_section s ≡ true) × (p s ≡ true)
unfolding is_section all_sections
some_section-gives p h =
    let z = list_any-coordinates_gives (λ z. list_any p (map (λ x. record { x = x; z = z }) (coordinates 1000008))) 1000008
    (sym (list_any-flat_map p (λ z. map (λ x. record { x = x; z = z }) (coordinates 1000008)) (coordinates 1000008)) ∙ h) in
    let x = list_any-coordinates_gives (λ x. p (record { x = x; z = z.0 })) 1000008 (sym (list_any-map p (λ x. record { x = x; z = z.0 }) (coordinates 1000008)) ∙ z.2) in
    (record { x = x.0; z = z.0 }, and_from _ _ (le-leb _ _ x.1) (le-leb _ _ z.1), x.2)

-- each chunk of the list is within the limits
pub some_chunk-gives : (p : ChunkPos → Bool) → some_chunk p ≡ true → (c : ChunkPos) × (is_chunk c ≡ true) × (p c ≡ true)
unfolding is_chunk all_chunks
some_chunk-gives p h =
    let z = list_any-coordinates_gives (λ z. list_any p (map (λ x. record { x = x; z = z }) (coordinates 1000000))) 1000000
    (sym (list_any-flat_map p (λ z. map (λ x. record { x = x; z = z }) (coordinates 1000000)) (coordinates 1000000)) ∙ h) in
    let x = list_any-coordinates_gives (λ x. p (record { x = x; z = z.0 })) 1000000 (sym (list_any-map p (λ x. record { x = x; z = z.0 }) (coordinates 1000000)) ∙ z.2) in
    (record { x = x.0; z = z.0 }, and_from _ _ (le-leb _ _ x.1) (le-leb _ _ z.1), x.2)
