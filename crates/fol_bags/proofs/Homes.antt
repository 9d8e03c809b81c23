-- The place of a chunk, after what lies on some chunks went from one bag to another.
use Rattle.std.proofs.Common.{◌≡◌, ℕ, ◌&&◌, Bool, true, false, List, refl, sym, ◌∙◌, ◌⊎◌, inl, inr, Some}
use Rattle.std.proofs.lemmas.Bool.{cases_Bool}
use Rattle.fol_model.specs.declared.places.ChunkPos.{ChunkPos}
use Rattle.fol_chunks.specs.Contents.{is_recorded}
use Rattle.fol_bags.specs.declared.places.Place.{Place}
use Rattle.fol_bags.specs.Places.{is_bag, rehomed}
use Rattle.fol_bags.proofs.PlaceSteps.{is_bag-some, bag-from_is}

module _ (chunks : List ChunkPos) (u id : ℕ) (c : ChunkPos) (p : Place) where
  pub rehomed-spot : (rehomed chunks u id c p).spot ≡ p.spot
  rehomed-spot = elim (cases_Bool (is_recorded chunks c && is_bag u p)) [ inl e ↦ rw e refl | inr e ↦ rw e refl ]

  pub rehomed-keeps : (n : ℕ) → p.bag ≡ Some n → (n ≡ u → is_recorded chunks c ≡ false) → (rehomed chunks u id c p).bag ≡ Some n
  rehomed-keeps n e f = go (is_recorded chunks c) (is_bag u p) refl refl
    where
      go : (a b : Bool) → is_recorded chunks c ≡ a → is_bag u p ≡ b → (rehomed chunks u id c p).bag ≡ Some n
      go true true x y =
          let g : Some n ≡ Some u = sym e ∙ bag-from_is p u y in
          let k : n ≡ u = cc in
          let z : true ≡ false = sym x ∙ f k in cc
      go true false x y = rw (x, y) e
      go false b x y = rw x e

  pub record Homed (n : ℕ) : Type 0 where
    pub here : n ≡ id
    pub listed : is_recorded chunks c ≡ true
    pub was : p.bag ≡ Some u

  pub rehomed-cases : (n : ℕ) → (rehomed chunks u id c p).bag ≡ Some n → Homed n ⊎ (p.bag ≡ Some n)
  rehomed-cases n e = go (is_recorded chunks c) (is_bag u p) refl refl
    where
      go : (a b : Bool) → is_recorded chunks c ≡ a → is_bag u p ≡ b → Homed n ⊎ (p.bag ≡ Some n)
      go true true x y =
          let f : Some id ≡ Some n = rw (x, y) at e in
          let g : n ≡ id = cc in
          inl (record { here = g; listed = x; was = bag-from_is p u y })
      go true false x y = inr (rw (x, y) at e)
      go false b x y = inr (rw x at e)

  pub rehomed-moves : is_recorded chunks c ≡ true → p.bag ≡ Some u → (rehomed chunks u id c p).bag ≡ Some id
  rehomed-moves a b = rw (a, is_bag-some p u b) refl
