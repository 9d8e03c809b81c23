-- Entities to which movements are owed.
use Rattle.std.proofs.Common.{◌≡◌, ℕ, zero, suc, ◌+◌, add-zero, arith, Bool, not, List, [], ◌∷◌, map, refl, sym, ◌∙◌, ap, inl, inr, true, false, Some}
use Rattle.std.specs.Prelude.{◌+ℤ◌, nat_eq, ◌&&◌}
use Rattle.std.specs.Fn.{iterate}
use Rattle.std.specs.List.{AllByRecursion}
use Rattle.std.specs.List.Sorted.{IsStrictlySortedBy}
use Rattle.std.specs.Option.{option_map}
use Rattle.std.specs.Ordering.{int_eq, nat_cmp}
use Rattle.std.specs.declared.cmp.Ordering.TheVariants.{Less}
use Rattle.std.proofs.lemmas.Bool.{cases_Bool, and_parts, eqb-true}
use Rattle.std.proofs.lemmas.Bool.Decides.{Decides-int_eq}
use Rattle.fol_model.specs.declared.entities.Entity.{Entity}
use Rattle.fol_model.specs.ActionStep.{standing_of}
use Rattle.fol_model.specs.World.{standing_in}
use Rattle.fol_chunks.specs.declared.area.Area.{Area}
use Rattle.fol_chunks.specs.declared.owed.Owed.{Owed}
use Rattle.fol_chunks.specs.Areas.{is_inside, paid, stepped_in}
use Rattle.fol_chunks.specs.Contents.{entity_of}
use Rattle.fol_chunks.specs.Rows.{by_id}
use Rattle.fol_chunks.proofs.EntityLists.{entity_back}

-- no movement is owed
pub none_owed : (owed : Owed) (es : List Entity) → owed.steps ≡ 0 → map (paid owed) es ≡ es
none_owed owed [] h = refl
none_owed owed (e ∷ es) h = ap (λ l. paid owed e ∷ l) (none_owed owed es h) ∙ ap (λ n. iterate (stepped_in owed.area) n e ∷ es) h

-- one more movement is owed
iterate_more : {A : Type 0} (f : A → A) (n : ℕ) (x : A) → iterate f (suc n) x ≡ f (iterate f n x)
iterate_more f zero x = refl
iterate_more f (suc n) x = iterate_more f n (f x)

one_more : (area : Area) (n : ℕ) (es : List Entity) → map (iterate (stepped_in area) (suc n)) es ≡ map (stepped_in area) (map (iterate (stepped_in area) n) es)
one_more area n [] = refl
one_more area n (e ∷ es) = ap (λ f. f ∷ map (iterate (stepped_in area) (suc n)) es) (iterate_more (stepped_in area) n e) ∙ ap (λ l. stepped_in area (iterate (stepped_in area) n e) ∷ l) (one_more area n es)

-- many more are owed
pub more_owed : (area : Area) (m n : ℕ) (es : List Entity) → map (iterate (stepped_in area) (n + m)) es ≡ iterate (map (stepped_in area)) m (map (iterate (stepped_in area) n) es)
more_owed area zero n es = ap (λ k. map (iterate (stepped_in area) k) es) (add-zero n)
more_owed area (suc m) n es =
    let sum : n + suc m ≡ suc n + m = omega arith in
    ap (λ k. map (iterate (stepped_in area) k) es) sum ∙ more_owed area m (suc n) es ∙ ap (iterate (map (stepped_in area)) m) (one_more area n es)

-- two areas of which each side is the same
pub area_same : (a b : Area) → not (int_eq a.west b.west && (int_eq a.east b.east && (int_eq a.north b.north && int_eq a.south b.south))) ≡ false → a ≡ b
area_same a b h =
    let p = and_parts _ _ (not_false _ h) in
    let q = and_parts _ _ p.1 in
    let r = and_parts _ _ q.1 in
    let west = (Decides-int_eq a.west b.west).0 p.0 in
    let east = (Decides-int_eq a.east b.east).0 q.0 in
    let north = (Decides-int_eq a.north b.north).0 r.0 in
    let south = (Decides-int_eq a.south b.south).0 r.1 in
    λ i. record { west = west i; east = east i; north = north i; south = south i }
  where
    not_false : (b : Bool) → not b ≡ false → b ≡ true
    not_false true h = refl
    not_false false h = cc

-- ---- the ids stay
step_id : (area : Area) (e : Entity) → (stepped_in area e).id ≡ e.id
step_id area e = elim (cases_Bool (is_inside area e.at.x e.at.z && is_inside area (e.at.x +ℤ e.vx) (e.at.z +ℤ e.vz))) [ inl t ↦ rw t refl | inr t ↦ rw t refl ]

steps_id : (area : Area) (n : ℕ) (e : Entity) → (iterate (stepped_in area) n e).id ≡ e.id
steps_id area zero e = refl
steps_id area (suc n) e = steps_id area n (stepped_in area e) ∙ step_id area e

pub paid_id : (owed : Owed) (e : Entity) → (paid owed e).id ≡ e.id
paid_id owed e = steps_id owed.area owed.steps e

-- so the order was the same
pub order_before : (owed : Owed) (es : List Entity) → IsStrictlySortedBy by_id (map (paid owed) es) → IsStrictlySortedBy by_id es
unfolding IsStrictlySortedBy
order_before owed [] s = tt
order_before owed (e ∷ es) s = (all owed e es s.0, order_before owed es s.1)
  where
    all : (owed : Owed) (e : Entity) (es : List Entity) → AllByRecursion (λ f. by_id (paid owed e) f ≡ Less) (map (paid owed) es) → AllByRecursion (λ f. by_id e f ≡ Less) es
    all owed e [] h = tt
    all owed e (f ∷ fs) h = (sym (ap (λ k. nat_cmp k (paid owed f).id) (paid_id owed e) ∙ ap (λ k. nat_cmp e.id k) (paid_id owed f)) ∙ h.0, all owed e fs h.1)

-- who stands there after the movements
pub standing_paid : (owed : Owed) (es : List Entity) (id : ℕ) → standing_in (map (paid owed) es) id ≡ option_map (λ s. standing_of (paid owed (entity_of id s))) (standing_in es id)
standing_paid owed [] id = refl
standing_paid owed (e ∷ es) id =
    elim (cases_Bool (nat_eq e.id id)) [
      | inl t ↦
          let s : nat_eq (paid owed e).id id ≡ true = ap (λ k. nat_eq k id) (paid_id owed e) ∙ t in
          rw (s, t) (ap (λ (x : Entity). Some (standing_of (paid owed x))) (entity_back e id (eqb-true e.id id t)))
      | inr t ↦ let s : nat_eq (paid owed e).id id ≡ false = ap (λ k. nat_eq k id) (paid_id owed e) ∙ t in rw (s, t) (standing_paid owed es id)
    ]
