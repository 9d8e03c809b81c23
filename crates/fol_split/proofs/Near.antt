-- Runs that are near have sections that are, and the other way round; the sections of one run are joined.
use Rattle.std.proofs.Common.{◌≡◌, ℕ, zero, suc, ◌+◌, ◌≤◌, refl, sym, ◌∙◌, ap, arith, Bool, true, false, ◌&&◌, ◌||◌, ◌⊎◌, inl, inr, List, [], ◌∷◌, ◌++◌}
use Rattle.std.specs.Prelude.{ℤ, pos, ◌+ℤ◌, ◌-ℤ◌, ◌<ℤ◌, ◌≤ℤ◌, nat_abs, int_lt}
use Rattle.std.specs.Ordering.{int_eq}
use Rattle.std.specs.Cmp.{both_ways}
use Rattle.std.proofs.lemmas.Bool.{cases_Bool, and_parts, and_from, or_cases, or_left, or_right, leb-true, le-leb, true≢false}
use Rattle.std.proofs.lemmas.Bool.Decides.{Decides-int_eq}
use borrow.Author.Differences.{ints}
use Rattle.fol_model.specs.declared.places.SectionPos.{SectionPos}
use Rattle.fol_model.specs.Geometry.{distance, is_within, is_among}
use Rattle.fol_split.specs.declared.runs.Run.{Run}
use Rattle.fol_split.specs.Parts.{IsJoined}
use Rattle.fol_split.specs.Runs.{sections_of, first_of, is_one_of, is_across, is_met, is_met_in, is_near}
use Rattle.fol_split.proofs.Chains.{chain_more, joined_both, joined_back}
use Rattle.fol_split.proofs.Rows.{in_run-gives, in_run-from, first_in}

-- ---- numbers in a row
one_of-gives : (x : ℤ) (n : ℕ) (y : ℤ) → is_one_of x n y ≡ true → (x ≤ℤ y) × (y <ℤ (x +ℤ pos n))
unfolding is_one_of
one_of-gives x n y h = (grind (arith, ints), grind (arith, ints))

one_of-from : (x : ℤ) (n : ℕ) (y : ℤ) → x ≤ℤ y → y <ℤ (x +ℤ pos n) → is_one_of x n y ≡ true
unfolding is_one_of
one_of-from x n y a b = grind (arith, ints)

one_of-none : (x y : ℤ) → is_one_of x 0 y ≡ false
unfolding is_one_of
one_of-none x y = grind (arith, ints)

-- one more
one_of-more : (x : ℤ) (n : ℕ) (y : ℤ) → is_one_of x (n + 1) y ≡ (is_one_of x n y || int_eq (x +ℤ pos n) y)
one_of-more x n y = both_ways _ _
    (λ h. let g = one_of-gives x (n + 1) y h in elim (cases_Bool (int_eq (x +ℤ pos n) y)) [
      | inl e ↦ or_right (is_one_of x n y) _ e
      | inr e ↦ let other : (x +ℤ pos n) ≡ y → ⊥ = λ q. true≢false (sym ((Decides-int_eq (x +ℤ pos n) y).1 q) ∙ e) in
          or_left _ _ (one_of-from x n y g.0 (omega (arith, ints, g.0, g.1, other)))
    ])
    (λ h. elim (or_cases (is_one_of x n y) (int_eq (x +ℤ pos n) y) h) [
      | inl e ↦ let g = one_of-gives x n y e in one_of-from x (n + 1) y g.0 (omega (arith, ints, g.1))
      | inr e ↦ let g = (Decides-int_eq (x +ℤ pos n) y).0 e in one_of-from x (n + 1) y (omega (arith, ints)) (omega (arith, ints))
    ])

pub rows-none : (z low high : ℤ) (run : Run) → is_met_in z 0 low high run ≡ false
rows-none z low high run = ap (λ b. b && is_across low high run) (one_of-none z run.z)

pub spread : (a b x : Bool) → ((a || b) && x) ≡ ((a && x) || (b && x))
spread true true true = refl
spread true true false = refl
spread true false true = refl
spread true false false = refl
spread false b x = refl

-- one more row
pub rows-more : (z : ℤ) (n : ℕ) (low high : ℤ) (run : Run) → is_met_in z (n + 1) low high run ≡ (is_met_in z n low high run || is_met (z +ℤ pos n) low high run)
rows-more z n low high run = ap (λ b. b && is_across low high run) (one_of-more z n run.z) ∙ spread (is_one_of z n run.z) (int_eq (z +ℤ pos n) run.z) (is_across low high run)

pub is_across-gives : (low high : ℤ) (run : Run) → is_across low high run ≡ true → (low <ℤ run.to) × (run.from <ℤ high)
unfolding is_across
is_across-gives low high run h = (grind (arith, ints), grind (arith, ints))

pub is_across-from : (low high : ℤ) (run : Run) → low <ℤ run.to → run.from <ℤ high → is_across low high run ≡ true
unfolding is_across
is_across-from low high run a b = grind (arith, ints)

pub cases_int : (x y : ℤ) → (x ≤ℤ y) ⊎ (y <ℤ x)
cases_int x y = elim (cases_Bool (int_lt y x)) [
  | inl e ↦ inr (grind (arith, ints))
  | inr e ↦ inl (grind (arith, ints))
]

-- ---- near runs
module _ (merge : ℕ) (a b : Run) (p : a.from <ℤ a.to) (q : b.from <ℤ b.to) where
  pub near-from : (s t : SectionPos) → is_among (sections_of a) s ≡ true → is_among (sections_of b) t ≡ true → is_within s merge t ≡ true → is_near merge a b ≡ true
  unfolding distance
  near-from s t h k w =
      let x = in_run-gives a p s h in
      let y = in_run-gives b q t k in
      let d = leb-true _ _ w in
      and_from _ _
      (one_of-from (a.z -ℤ pos merge) (merge + merge + 1) b.z (omega (arith, ints, x.0, y.0, d)) (omega (arith, ints, x.0, y.0, d)))
      (is_across-from (a.from -ℤ pos merge) (a.to +ℤ pos merge) b (omega (arith, ints, x.1, x.2, y.1, y.2, d)) (omega (arith, ints, x.1, x.2, y.1, y.2, d)))

  within_both : (x y : ℤ) → nat_abs (a.z -ℤ b.z) ≤ merge → nat_abs (x -ℤ y) ≤ merge → is_within (record { x = x; z = a.z }) merge (record { x = y; z = b.z }) ≡ true
  unfolding distance
  within_both x y l m = le-leb _ _ (omega arith)

  AreNear : Type 0
  AreNear = (s t : SectionPos) × (is_among (sections_of a) s ≡ true) × (is_among (sections_of b) t ≡ true) × (is_within s merge t ≡ true)

  pair : (x y : ℤ) → nat_abs (a.z -ℤ b.z) ≤ merge → a.from ≤ℤ x → x <ℤ a.to → b.from ≤ℤ y → y <ℤ b.to → nat_abs (x -ℤ y) ≤ merge → AreNear
  unfolding AreNear
  pair x y z l m n o d = (record { x = x; z = a.z }, record { x = y; z = b.z }, in_run-from a p (record { x = x; z = a.z }) refl l m, in_run-from b q (record { x = y; z = b.z }) refl n o, within_both x y z d)

  near-pair : is_near merge a b ≡ true → AreNear
  near-pair h =
      let parts = and_parts (is_one_of (a.z -ℤ pos merge) (merge + merge + 1) b.z) (is_across (a.from -ℤ pos merge) (a.to +ℤ pos merge) b) h in
      let row = one_of-gives (a.z -ℤ pos merge) (merge + merge + 1) b.z parts.0 in
      let gap = is_across-gives (a.from -ℤ pos merge) (a.to +ℤ pos merge) b parts.1 in
      let z : nat_abs (a.z -ℤ b.z) ≤ merge = omega (arith, ints, row.0, row.1) in
      elim (cases_int a.to b.from) [
        | inl l ↦ pair (a.to -ℤ pos 1) b.from z (omega (arith, ints)) (omega (arith, ints)) (omega (arith, ints)) (omega (arith, ints)) (omega (arith, ints, gap.1))
        | inr l ↦ elim (cases_int b.to a.from) [
          | inl m ↦ pair a.from (b.to -ℤ pos 1) z (omega (arith, ints)) (omega (arith, ints)) (omega (arith, ints)) (omega (arith, ints)) (omega (arith, ints, gap.0))
          | inr m ↦ elim (cases_int a.from b.from) [
            | inl n ↦ pair b.from b.from z (omega (arith, ints)) (omega (arith, ints)) (omega (arith, ints)) (omega (arith, ints)) (omega (arith, ints))
            | inr n ↦ pair a.from a.from z (omega (arith, ints)) (omega (arith, ints)) (omega (arith, ints)) (omega (arith, ints)) (omega (arith, ints))
          ]
        ]
      ]

  pub near-gives : is_near merge a b ≡ true → (s t : SectionPos) × (is_among (sections_of a) s ≡ true) × (is_among (sections_of b) t ≡ true) × (is_within s merge t ≡ true)
  unfolding AreNear
  near-gives h = near-pair h

-- ---- the sections of one run are joined
module _ (all : List SectionPos) (merge : ℕ) (low : 1 ≤ merge) (run : Run) (solid : run.from <ℤ run.to) (within : (s : SectionPos) → is_among (sections_of run) s ≡ true → is_among all s ≡ true) where
  beside : (s t : SectionPos) → s.z ≡ t.z → t.x ≡ s.x +ℤ pos 1 → is_within s merge t ≡ true
  unfolding distance
  beside s t e f = le-leb _ _ (omega (arith, ints))

  reach : (n : ℕ) (s : SectionPos) → is_among (sections_of run) s ≡ true → s.x ≡ run.from +ℤ pos n → IsJoined all merge (first_of run) s
  reach zero s h e =
      let r = in_run-gives run solid s h in
      let x : run.from ≡ s.x = omega (arith, ints, e) in
      let z = sym r.0 in
      ([], λ i. record { x = x i; z = z i })
  reach (suc n) s h e =
      let r = in_run-gives run solid s h in
      let b : SectionPos = record { x = run.from +ℤ pos n; z = run.z } in
      let there = in_run-from run solid b refl (omega (arith, ints)) (omega (arith, ints, r.2, e)) in
      let way = reach n b there refl in
      (way.0 ++ s ∷ [], chain_more all merge (first_of run) way.0 b s way.1 (within s h) (beside b s (sym r.0) (omega (arith, ints, e))))

  pub from_first : (s : SectionPos) → is_among (sections_of run) s ≡ true → IsJoined all merge (first_of run) s
  from_first s h = let r = in_run-gives run solid s h in reach (nat_abs (s.x -ℤ run.from)) s h (omega (arith, ints, r.1))

  joined_in_run : (s t : SectionPos) → is_among (sections_of run) s ≡ true → is_among (sections_of run) t ≡ true → IsJoined all merge s t
  joined_in_run s t h k =
      let way = from_first s h in
      joined_both all merge s (first_of run) t (joined_back all merge (first_of run) way.0 s (within (first_of run) (first_in run solid)) way.1) (from_first t k)

  -- a run that is near one whose sections are joined with a
  pub joined_near : (other : Run) → other.from <ℤ other.to → is_near merge other run ≡ true → (a : SectionPos) → ((s : SectionPos) → is_among (sections_of other) s ≡ true → IsJoined all merge a s)
      → (s : SectionPos) → is_among (sections_of run) s ≡ true → IsJoined all merge a s
  joined_near other firm near a joined s h =
      let w = near-gives merge other run firm solid near in
      let way = joined w.0 w.2 in
      joined_both all merge a w.1 s (way.0 ++ w.1 ∷ [], chain_more all merge a way.0 w.0 w.1 way.1 (within w.1 w.3) w.4) (joined_in_run w.1 s w.3 h)
