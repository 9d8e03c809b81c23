-- The blocks of a rectangle of chunks, and what walks there.
use Rattle.std.proofs.Common.{◌≡◌, ℕ, ◌-◌, ◌<◌, ◌%◌, List, [], ◌∷◌, map, refl, sym, ◌∙◌, ap, inl, inr, arith, div-add-mod'}
use Rattle.std.specs.Prelude.{ℤ, pos, negsuc, ◌+ℤ◌, ◌*ℤ◌, ◌≤ℤ◌, int_le}
use Rattle.std.specs.Int.{int_div_euclid}
use Rattle.std.proofs.lemmas.Bool.{cases_Bool}
use Rattle.std.proofs.lemmas.Int.{ints}
use Rattle.fol_model.specs.declared.places.ChunkPos.{ChunkPos}
use Rattle.fol_model.specs.declared.entities.Entity.{Entity}
use Rattle.fol_model.specs.Geometry.{chunk_of}
use Rattle.fol_model.specs.ActionStep.{Recorded}
use Rattle.fol_keyed.specs.Rectangles.{is_between}
use Rattle.fol_keyed.proofs.Rectangles.{le_z_true, true_le_z}
use Rattle.fol_chunks.specs.declared.area.Area.{Area}
use Rattle.fol_chunks.specs.Areas.{is_in_area, is_inside, stepped_in}
use Rattle.fol_chunks.specs.Rows.{stepped}

-- a number is one of the 16 from 16 times its quotient
in_sixteen : (x : ℤ) → (i : ℕ) × (i < 16) × (x ≡ (pos 16 *ℤ int_div_euclid x (pos 16)) +ℤ pos i)
in_sixteen (pos a) = let d = div-add-mod' a 16 in let m : a % 16 < 16 = omega arith in (a % 16, m, omega (arith, ints))
in_sixteen (negsuc a) = let d = div-add-mod' a 16 in let m : a % 16 < 16 = omega arith in (15 - a % 16, omega arith, omega (arith, ints))

-- two comparisons of which each follows from the other
same_test : (a b c d : ℤ) → (a ≤ℤ b → c ≤ℤ d) → (c ≤ℤ d → a ≤ℤ b) → int_le a b ≡ int_le c d
same_test a b c d f g =
    elim (cases_Bool (int_le a b)) [
      | inl e ↦ e ∙ sym (true_le_z c d (f (le_z_true a b e)))
      | inr e ↦
          elim (cases_Bool (int_le c d)) [
            | inl t ↦ true_le_z a b (g (le_z_true c d t)) ∙ sym t
            | inr t ↦ e ∙ sym t
          ]
    ]

-- the quotient is not below a number exactly where the number is not below 16 times that
from_low : (x low : ℤ) → int_le low (int_div_euclid x (pos 16)) ≡ int_le (pos 16 *ℤ low) x
from_low x low =
    let r = in_sixteen x in
    same_test low (int_div_euclid x (pos 16)) (pos 16 *ℤ low) x (λ h. omega (arith, ints, r.1, r.2)) (λ h. omega (arith, ints, r.1, r.2))

-- nor above it exactly where the number is not above the last of its 16
to_high : (x high : ℤ) → int_le (int_div_euclid x (pos 16)) high ≡ int_le x ((pos 16 *ℤ high) +ℤ pos 15)
to_high x high =
    let r = in_sixteen x in
    same_test (int_div_euclid x (pos 16)) high x ((pos 16 *ℤ high) +ℤ pos 15) (λ h. omega (arith, ints, r.1, r.2)) (λ h. omega (arith, ints, r.1, r.2))

-- a block lies in a chunk between two others exactly where it lies between the sides of their area
pub in_area : (first last : ChunkPos) (x z : ℤ)
    → is_between first last (chunk_of (record { x = x; y = pos 0; z = z }))
    ≡ is_in_area (pos 16 *ℤ first.x) ((pos 16 *ℤ last.x) +ℤ pos 15) (pos 16 *ℤ first.z) ((pos 16 *ℤ last.z) +ℤ pos 15) x z
unfolding chunk_of
in_area first last x z = rw (from_low x first.x, to_high x last.x, from_low z first.z, to_high z last.z) refl

-- where the chunks are those of an area, to walk on them is to walk inside it
module _ (rec : Recorded) (area : Area) (exact : (x z : ℤ) → rec (chunk_of (record { x = x; y = pos 0; z = z })) ≡ is_inside area x z) where
  step_inside : (e : Entity) → stepped_in area e ≡ stepped rec e
  unfolding chunk_of
  step_inside e = rw (exact e.at.x e.at.z, exact (e.at.x +ℤ e.vx) (e.at.z +ℤ e.vz)) refl

  pub steps_inside : (es : List Entity) → map (stepped_in area) es ≡ map (stepped rec) es
  steps_inside [] = refl
  steps_inside (e ∷ es) = ap (λ f. f ∷ map (stepped_in area) es) (step_inside e) ∙ ap (λ l. stepped rec e ∷ l) (steps_inside es)
