-- What the count of places says of each entity's place.
use Rattle.std.proofs.Common.{◌≡◌, ℕ, zero, suc, ◌+◌, ◌≤◌, ◌<◌, refl, sym, ◌∙◌, ap, arith, Bool, true, false, inl, inr}
use Rattle.std.specs.Prelude.{Some, None}
use Rattle.std.proofs.lemmas.Bool.{cases_Bool, cases_lt, true≢false}
use Rattle.fol_model.specs.Counting.{some_below, least, count_below}
use Rattle.fol_laws.proofs.NumbersBelow.{some_below-is, some_below-gives, least-below, least-passes}
use Rattle.fol_laws.proofs.CountBelow.{count_below-lt}
use Rattle.fol_model.specs.ActionStep.{Standing}
use Rattle.fol_model.specs.World.{World, standing_in}
use Rattle.fol_laws.proofs.SoundState.{SoundWorld}
use Rattle.fol_laws.specs.OnePlace.{one, transits, OnePlace, place_of, PlacesOk}
use Rattle.fol_model.specs.Outputs.{brings}
use Rattle.fol_model.specs.declared.openings.Opening.{Opening}
use Rattle.fol_model.specs.declared.entities.Place.{Place}
use Rattle.fol_model.specs.declared.entities.Place.TheVariants.{At, Transit}
use Rattle.fol_laws.proofs.EntityTotals.{one_most}
use Rattle.fol_laws.proofs.UnseenTicks.{none_one}

least_only : (p : ℕ → Bool) (n m : ℕ) → n < m → p n ≡ true → count_below p m ≤ 1 → least p m ≡ n
least_only p n m l h one =
    let a = least-below p m n l h in
    let b = least-passes p m (omega arith) in
    let c = count_below-lt p n m l h in
    elim (cases_lt (least p m) n) [
      | inl x ↦ let d = count_below-lt p (least p m) n x b in absurd (omega arith)
      | inr x ↦ omega arith
    ]

count_none : (p : ℕ → Bool) (m : ℕ) → count_below p m ≡ 0 → some_below p m ≡ false
count_none p m z = elim (cases_Bool (some_below p m)) [
  | inl e ↦ let k = some_below-gives p m e in let c = count_below-lt p k.0 m k.1 k.2 in absurd (omega arith)
  | inr e ↦ e
]

count_there : (p : ℕ → Bool) (m : ℕ) → 0 < count_below p m → some_below p m ≡ true
unfolding count_below
count_there p zero h = absurd (omega arith)
count_there p (suc m) h = elim (cases_Bool (p m)) [
  | inl e ↦ some_below-is p (suc m) m (omega arith) e
  | inr e ↦ let y = rw e at h in let x : 0 < count_below p m = omega arith in let k = some_below-gives p m (count_there p m x) in some_below-is p (suc m) k.0 (omega (arith, k.1)) k.2
]

module _ (o : Opening) (w : World) (s : SoundWorld w) (place : OnePlace o w) where
  bound_below : (id n : ℕ) → brings id (w.jobs n) ≡ true → n < w.next_job
  bound_below id n h = elim (cases_lt n w.next_job) [ inl l ↦ l | inr l ↦ absurd (true≢false (sym h ∙ ap (brings id) (s.numbers n l))) ]

  most : (id : ℕ) → one (w.flat.standing id) + transits w id ≤ 1
  most id = let a = place id in let b = one_most (standing_in o.entities id) in omega arith

  bound_count : (id n : ℕ) → brings id (w.jobs n) ≡ true → 0 < transits w id
  bound_count id n h = let c = count_below-lt (λ n. brings id (w.jobs n)) n w.next_job (bound_below id n h) h in omega arith

  place_arrives : (id n : ℕ) → brings id (w.jobs n) ≡ true → (place_of w id ≡ Some (Transit n)) × (w.flat.standing id ≡ None)
  place_arrives id n h =
      let a = bound_count id n h in let b = most id in
      let none : w.flat.standing id ≡ None = none_one (w.flat.standing id) (omega arith) in
      let l = bound_below id n h in
      let e = least_only (λ n. brings id (w.jobs n)) n w.next_job l h (omega arith) in
      let k = some_below-is (λ n. brings id (w.jobs n)) w.next_job n l h in
      (rw (none, k, e) refl, none)

  no_arrival : (id : ℕ) → one (w.flat.standing id) ≡ 1 → (n : ℕ) → brings id (w.jobs n) ≡ false
  no_arrival id e n = elim (cases_Bool (brings id (w.jobs n))) [
    | inl h ↦ let a = bound_count id n h in let b = most id in absurd (omega arith)
    | inr h ↦ h
  ]

  place_some : (id : ℕ) (b : Standing) → standing_in o.entities id ≡ Some b → (p : Place) × (place_of w id ≡ Some p)
  place_some id b e =
      let total : one (w.flat.standing id) + transits w id ≡ 1 = place id ∙ ap one e in
      elim (w.flat.standing id) as (λ x. w.flat.standing id ≡ x → (p : Place) × (place_of w id ≡ Some p)) [
        | Some c ↦ λ k. (At c.at, rw k refl)
        | None ↦ λ k. let z : one (w.flat.standing id) ≡ 0 = ap one k in
            let t = count_there (λ n. brings id (w.jobs n)) w.next_job (omega arith) in
            (Transit (least (λ n. brings id (w.jobs n)) w.next_job), rw (k, t) refl)
      ] refl

  place_none : (id : ℕ) → standing_in o.entities id ≡ None → place_of w id ≡ None
  place_none id e =
      let total : one (w.flat.standing id) + transits w id ≡ 0 = place id ∙ ap one e in
      let k = none_one (w.flat.standing id) (omega arith) in
      let t = count_none (λ n. brings id (w.jobs n)) w.next_job (omega arith) in rw (k, t) refl

  pub places_ok : PlacesOk o w
  places_ok = record {
    none = place_none;
    some = place_some;
    stands = λ id b e. (rw e refl, no_arrival id (ap one e));
    arrives = place_arrives;
  }
