-- The bags of the parts of a region, one by one.
use Rattle.std.proofs.Common.{◌≡◌, ℕ, refl, sym, ◌∙◌, ap, true, false, inl, inr, List, [], ◌∷◌}
use Rattle.std.specs.Prelude.{nat_eq}
use Rattle.std.proofs.lemmas.Bool.{cases_Bool, eqb-true, eqb-false, or_parts, true≢false}
use Rattle.fol_model.specs.ActionStep.{at_id}
use Rattle.fol_laws.proofs.FunctionsChanged.{at_here, at_other}
use Rattle.fol_store.specs.Bag.{Bag}
use Rattle.fol_world.specs.Released.{opened_parts, part_bag}
use Rattle.fol_world.proofs.JoinedBags.{among}

module _ (tick owed : ℕ) where
  pub opened_off : (ids : List ℕ) (f : ℕ → Bag) (q : ℕ) → among q ids ≡ false → opened_parts tick owed ids f q ≡ f q
  opened_off [] f q h = refl
  opened_off (x ∷ xs) f q h = let p = or_parts (nat_eq q x) (among q xs) h in opened_off xs (at_id f x (part_bag tick owed)) q p.1 ∙ at_other f x (part_bag tick owed) q (eqb-false q x p.0)

  pub opened_new : (ids : List ℕ) (f : ℕ → Bag) (q : ℕ) → among q ids ≡ true → opened_parts tick owed ids f q ≡ part_bag tick owed
  opened_new [] f q h = absurd (true≢false (sym h))
  opened_new (x ∷ xs) f q h = elim (cases_Bool (among q xs)) [
    | inl e ↦ opened_new xs (at_id f x (part_bag tick owed)) q e
    | inr e ↦ elim (cases_Bool (nat_eq q x)) [
      | inl k ↦ let s : q ≡ x = eqb-true q x k in opened_off xs (at_id f x (part_bag tick owed)) q e ∙ ap (at_id f x (part_bag tick owed)) s ∙ at_here f x (part_bag tick owed)
      | inr k ↦ let y : false ≡ true = rw (k, e) at h in absurd (true≢false (sym y))
    ]
  ]
