-- How many entities have a speed.
use Rattle.std.proofs.Common.{◌≡◌, ℕ, ◌+◌, true, false, cond, List, [], ◌∷◌, ◌++◌, length, refl, sym, ◌∙◌, ap, inl, inr, arith, IsNone}
use Rattle.std.specs.List.{filter, count_by}
use Rattle.std.proofs.lemmas.Bool.{cases_Bool}
use Rattle.std.proofs.lemmas.List.Sums.{length-filter, sum_by-append, sum_by-cons}
use Rattle.fol_model.specs.declared.entities.Entity.{Entity}
use Rattle.fol_model.specs.ActionStep.{standing_of}
use Rattle.fol_model.specs.World.{standing_in}
use Rattle.fol_chunks.specs.Crowds.{AreParted, is_still, walks}
use Rattle.fol_chunks.proofs.EntityLists.{nat_self, standing_filtered}

-- a list of which no entity stands has none
nobody : (es : List Entity) → ((id : ℕ) → IsNone (standing_in es id)) → es ≡ []
nobody [] h = refl
nobody (e ∷ es) h = let w : true ≡ false = rw (nat_self e.id) at (h e.id) in absurd cc

-- a list in which no entity is still
all_walk : (es : List Entity) → filter (λ (e : Entity). is_still (standing_of e)) es ≡ [] → count_by (λ (e : Entity). walks (standing_of e)) es ≡ length es
all_walk [] h = refl
all_walk (e ∷ es) h =
    elim (cases_Bool (is_still (standing_of e))) [
      | inl t ↦ let w = rw t at h in absurd (cc)
      | inr n ↦
          let rest = all_walk es (rw n at h) in
          let one : cond {A = ℕ} (walks (standing_of e)) 1 0 ≡ 1 = rw n refl in
          let more : count_by (λ (e : Entity). walks (standing_of e)) (e ∷ es) ≡ cond {A = ℕ} (walks (standing_of e)) 1 0 + count_by (λ (e : Entity). walks (standing_of e)) es = sum_by-cons (λ (e : Entity). cond {A = ℕ} (walks (standing_of e)) 1 0) e es in
          omega (arith, rest, more, one)
    ]

module _ (es fs : List Entity) (parted : AreParted es fs) where
  pub count_walks : count_by (λ (e : Entity). walks (standing_of e)) (es ++ fs) ≡ length es
  count_walks =
      let none_still = nobody (filter (λ (e : Entity). is_still (standing_of e)) es) (λ id. rw (standing_filtered es is_still parted.walking_order) (parted.all_walk id)) in
      let none_walks = nobody (filter (λ (e : Entity). walks (standing_of e)) fs) (λ id. rw (standing_filtered fs walks parted.still_order) (parted.all_still id)) in
      let first = all_walk es none_still in
      let second : count_by (λ (e : Entity). walks (standing_of e)) fs ≡ 0 = sym (length-filter (λ (e : Entity). walks (standing_of e)) fs) ∙ ap length none_walks in
      omega (arith, first, second, sum_by-append (λ (e : Entity). cond {A = ℕ} (walks (standing_of e)) 1 0) es fs)
