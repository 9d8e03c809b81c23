-- Many movements.
use Rattle.std.proofs.Common.{◌≡◌, ℕ, zero, suc, ◌+◌, add-one, List, ◌++◌, length, map, refl, sym, ◌∙◌, ap}
use Rattle.std.specs.Fn.{iterate}
use Rattle.std.specs.List.Sorted.{IsStrictlySortedBy}
use Rattle.std.proofs.lemmas.List.{length-map}
use Rattle.fol_model.specs.declared.entities.Entity.{Entity}
use Rattle.fol_model.specs.ActionStep.{Flat, Recorded}
use Rattle.fol_model.specs.FlatTick.{moved}
use Rattle.fol_model.specs.World.{standing_in}
use Rattle.fol_chunks.specs.Crowds.{AreParted, all_walked}
use Rattle.fol_chunks.specs.Rows.{by_id, stepped}
use Rattle.fol_chunks.proofs.EitherList.{stepped_first, stepped_parted}
use Rattle.fol_chunks.proofs.Movement.{order_stepped}

-- what each step keeps
iterate_keeps : {A : Type 0} (P : A → Type 0) (f : A → A) (n : ℕ) (x : A) → ((y : A) → P y → P (f y)) → P x → P (iterate f n x)
iterate_keeps P f zero x h p = p
iterate_keeps P f (suc n) x h p = iterate_keeps P f n (f x) h (h x p)

-- steps that are the same
pub iterate_same : {A : Type 0} (f g : A → A) (n : ℕ) (x : A) → ((y : A) → f y ≡ g y) → iterate f n x ≡ iterate g n x
iterate_same f g zero x h = refl
iterate_same f g (suc n) x h = ap (iterate f n) (h x) ∙ iterate_same f g n (g x) h

-- steps that change nothing
pub iterate_stays : {A : Type 0} (f : A → A) (n : ℕ) (x : A) → f x ≡ x → x ≡ iterate f n x
iterate_stays f zero x h = refl
iterate_stays f (suc n) x h = iterate_stays f n x h ∙ ap (iterate f n) (sym h)

-- one step more, at the end
pub iterate_next : {A : Type 0} (f : A → A) (n : ℕ) (x : A) → iterate f (n + 1) x ≡ f (iterate f n x)
iterate_next f n x = ap (λ k. iterate f k x) (add-one n) ∙ last f n x
  where
    last : {A : Type 0} (f : A → A) (n : ℕ) (x : A) → iterate f (suc n) x ≡ f (iterate f n x)
    last f zero x = refl
    last f (suc n) x = last f n (f x)

module _ (rec : Recorded) (n : ℕ) (es : List Entity) where
  pub often_order : IsStrictlySortedBy by_id es → IsStrictlySortedBy by_id (iterate (map (stepped rec)) n es)
  often_order h = iterate_keeps (IsStrictlySortedBy by_id) (map (stepped rec)) n es (order_stepped rec) h

  pub often_long : length (iterate (map (stepped rec)) n es) ≡ length es
  often_long = iterate_keeps (λ (l : List Entity). length l ≡ length es) (map (stepped rec)) n es (λ l h. length-map l (stepped rec) ∙ h) refl

module _ (rec : Recorded) (fs : List Entity) where
  pub often_parted : (n : ℕ) (es : List Entity) → AreParted es fs → AreParted (iterate (map (stepped rec)) n es) fs
  often_parted n es h = iterate_keeps (λ l. AreParted l fs) (map (stepped rec)) n es (λ l p. stepped_parted l fs p rec) h

  pub often_first : (n : ℕ) (es : List Entity) → AreParted es fs → standing_in (iterate (map (stepped rec)) n es ++ fs) ≡ iterate (all_walked rec) n (standing_in (es ++ fs))
  often_first zero es h = refl
  often_first (suc n) es h = often_first n (map (stepped rec) es) (stepped_parted es fs h rec) ∙ ap (iterate (all_walked rec) n) (stepped_first es fs h rec)

pub often_moved : (rec : Recorded) (n : ℕ) (f : Flat) → iterate (moved rec) n f ≡ record { blocks = f.blocks; standing = iterate (all_walked rec) n f.standing }
often_moved rec zero f = refl
often_moved rec (suc n) f = often_moved rec n (moved rec f)
