-- Entities that arrive later still stand nowhere.
use Rattle.std.proofs.Common.{◌≡◌, ℕ, refl, false, inl, inr, List, [], ◌∷◌, ◌++◌}
use Rattle.std.specs.Prelude.{All, IsNone, Option, nat_eq}
use Rattle.std.specs.List.{IsDistinct, AllByRecursion}
use Rattle.std.proofs.lemmas.Bool.{cases_Bool}
use Rattle.std.proofs.lemmas.List.Elements.{recursion_from_All, All-from_recursion}
use Rattle.fol_model.specs.ActionStep.{Flat, Recorded, Standing, act, plain_of, stands, standing_after}
use Rattle.fol_model.specs.declared.actions.Action.{Action}
use Rattle.fol_model.specs.declared.actions.Action.TheVariants as action
use Rattle.fol_model.specs.declared.tasks.Task.{Task}
use Rattle.fol_tick.specs.Runs.{arrival_of, arrivals, AreFresh}

module _ (rec : Recorded) (s : ℕ → Option Standing) where
  -- who stands nowhere and does not arrive stands nowhere afterwards
  still_absent : (a : Action) (id : ℕ) → AllByRecursion (λ k. nat_eq k id ≡ false) (arrival_of a) → IsNone (s id) → IsNone (standing_after rec s a id)
  still_absent (action.Set at n) id o h = h
  still_absent (action.Copy at to) id o h = h
  still_absent (action.Load c) id o h = h
  still_absent (action.Unload c) id o h = h
  still_absent (action.Post c d inner) id o h = h
  still_absent (action.Send k to) id o h = elim (cases_Bool (stands rec (s k))) [
    | inl e ↦ rw e (elim (cases_Bool (nat_eq k id)) [ inl f ↦ rw f refl | inr f ↦ rw f h ])
    | inr e ↦ rw e h
  ]
  still_absent (action.Arrive e) id o h = rw o.0 h
  still_absent (action.Every p l inner) id o h = h

-- the arrivals that come behind those of one action
module _ (behind : List ℕ) where
  later_distinct : (a : Action) → IsDistinct nat_eq (arrival_of a ++ behind) → IsDistinct nat_eq behind
  unfolding IsDistinct
  later_distinct (action.Set at n) h = h
  later_distinct (action.Copy at to) h = h
  later_distinct (action.Load c) h = h
  later_distinct (action.Unload c) h = h
  later_distinct (action.Post c d inner) h = h
  later_distinct (action.Send k to) h = h
  later_distinct (action.Arrive e) h = h.1
  later_distinct (action.Every p l inner) h = h

  -- none of them is that of the action
  abbrev AreOthers : Action → List ℕ → Type 0
  AreOthers a ids = AllByRecursion (λ id. AllByRecursion (λ k. nat_eq k id ≡ false) (arrival_of a)) ids

  others_none : (a : Action) → arrival_of a ≡ [] → (ids : List ℕ) → AreOthers a ids
  others_none a e [] = tt
  others_none a e (id ∷ ids) = (rw e tt, others_none a e ids)

  others_one : (ids : List ℕ) (k : ℕ) → AllByRecursion (λ id. nat_eq k id ≡ false) ids → AllByRecursion (λ id. AllByRecursion (λ k. nat_eq k id ≡ false) (k ∷ [])) ids
  others_one [] k h = tt
  others_one (id ∷ ids) k h = ((h.0, tt), others_one ids k h.1)

  others : (a : Action) → IsDistinct nat_eq (arrival_of a ++ behind) → AreOthers a behind
  unfolding IsDistinct
  others (action.Set at n) h = others_none (action.Set at n) refl behind
  others (action.Copy at to) h = others_none (action.Copy at to) refl behind
  others (action.Load c) h = others_none (action.Load c) refl behind
  others (action.Unload c) h = others_none (action.Unload c) refl behind
  others (action.Post c d inner) h = others_none (action.Post c d inner) refl behind
  others (action.Send k to) h = others_none (action.Send k to) refl behind
  others (action.Arrive e) h = others_one behind e.id h.0
  others (action.Every p l inner) h = others_none (action.Every p l inner) refl behind

later : (P : ℕ → Type 0) (ks ids : List ℕ) → AllByRecursion P (ks ++ ids) → AllByRecursion P ids
later P [] ids h = h
later P (k ∷ ks) ids h = later P ks ids h.1

first : (P : ℕ → Type 0) (ks ids : List ℕ) → AllByRecursion P (ks ++ ids) → AllByRecursion P ks
first P [] ids h = tt
first P (k ∷ ks) ids h = (h.0, first P ks ids h.1)

all_absent : (rec : Recorded) (s : ℕ → Option Standing) (a : Action) (ids : List ℕ) → AllByRecursion (λ id. AllByRecursion (λ k. nat_eq k id ≡ false) (arrival_of a)) ids → AllByRecursion (λ id. IsNone (s id)) ids
    → AllByRecursion (λ id. IsNone (standing_after rec s a id)) ids
all_absent rec s a [] o h = tt
all_absent rec s a (id ∷ ids) o h = (still_absent rec s a id o.0 h.0, all_absent rec s a ids o.1 h.1)

-- the next task's own arrival
pub fresh_first : (f : Flat) (t : Task) (ts : List Task) → AreFresh f (t ∷ ts) → All (λ id. IsNone (f.standing id)) (arrival_of (plain_of t.action))
fresh_first f t ts h = All-from_recursion (λ id. IsNone (f.standing id)) _ (first (λ id. IsNone (f.standing id)) (arrival_of (plain_of t.action)) (arrivals ts) (recursion_from_All _ _ h.absent))

-- and those behind it, once it has run
pub fresh_after : (rec : Recorded) (f : Flat) (t : Task) (ts : List Task) → AreFresh f (t ∷ ts) → AreFresh (act rec f (plain_of t.action)) ts
fresh_after rec f t ts h = record {
  distinct = later_distinct (arrivals ts) (plain_of t.action) h.distinct;
  absent = All-from_recursion (λ id. IsNone (standing_after rec f.standing (plain_of t.action) id)) (arrivals ts)
      (all_absent rec f.standing (plain_of t.action) (arrivals ts) (others (arrivals ts) (plain_of t.action) h.distinct) (later (λ id. IsNone (f.standing id)) (arrival_of (plain_of t.action)) (arrivals ts) (recursion_from_All (λ id. IsNone (f.standing id)) (arrival_of (plain_of t.action) ++ arrivals ts) h.absent)));
}
