-- Flat worlds that are the same, and such as have nothing in common.
use Rattle.std.proofs.Common.{◌≡◌, ℕ, ap, refl, inl, inr, Option, None}
use Rattle.std.specs.Option.{is_none}
use Rattle.std.proofs.lemmas.Bool.{cases_Bool}
use Rattle.fol_model.specs.declared.places.BlockPos.{BlockPos}
use Rattle.fol_model.specs.ActionStep.{Flat, Standing}
use Rattle.fol_chunks.specs.Contents.{Apart}

-- the same blocks and the same entities
pub flat_is : (f g : Flat) → f.blocks ≡ g.blocks → f.standing ≡ g.standing → f ≡ g
flat_is f g p q = λ i. record { blocks = p i; standing = q i }

-- one has no block, and the other no entity
pub apart_kinds : (f g : Flat) → f.blocks ≡ (λ b. 0) → g.standing ≡ (λ id. None) → Apart f g
apart_kinds f g e h = record {
  blocks = λ b. rw (ap (λ (t : BlockPos → ℕ). t b) e) refl;
  standing = λ id.
      let none : g.standing id ≡ None = ap (λ (t : ℕ → Option Standing). t id) h in
      rw none (elim (cases_Bool (is_none (f.standing id))) [ inl t ↦ rw t refl | inr t ↦ rw t refl ]);
}
