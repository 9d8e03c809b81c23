-- The entities that arrive in a tick differ, and stand nowhere before.
use Rattle.std.proofs.Common.{◌≡◌, ℕ, ◌+◌, ◌≤◌, refl, sym, arith, true, false, cond, inl, inr, List, [], ◌∷◌, ◌++◌}
use Rattle.std.specs.Prelude.{IsNone, Option, None, nat_eq}
use Rattle.std.specs.List.{AllByRecursion, IsDistinct}
use Rattle.std.proofs.lemmas.Bool.{cases_Bool, eq-eqb, ne_eqb}
use Rattle.std.proofs.lemmas.List.Elements.{All-from_recursion}
use Rattle.fol_model.specs.ActionStep.{Flat, Standing, plain_of}
use Rattle.fol_model.specs.Outputs.{is_arrival_of}
use Rattle.fol_model.specs.World.{World, due, standing_in}
use Rattle.fol_model.specs.declared.actions.Action.{Action}
use Rattle.fol_model.specs.declared.actions.Action.TheVariants as action
use Rattle.fol_model.specs.declared.openings.Opening.{Opening}
use Rattle.fol_model.specs.declared.tasks.Task.{Task}
use Rattle.fol_laws.specs.OnePlace.{one}
use Rattle.fol_laws.proofs.EntityCounts as counts
use Rattle.fol_laws.proofs.EntityTotals.{due_total, one_most}
use Rattle.fol_laws.proofs.UnseenTicks.{none_one}
use Rattle.fol_laws.proofs.WholeRuns.{Good}
use Rattle.fol_laws.proofs.WishLimits.{TaskOk, due_ok}
use Rattle.fol_tick.specs.Runs.{AreFresh, arrival_of, arrivals}

-- ---- how often an id stands in a list

abbrev times : ℕ → List ℕ → ℕ
times id [] = 0
times id (k ∷ ks) = cond (nat_eq k id) 1 0 + times id ks

times_both : (id : ℕ) (ks ls : List ℕ) → times id (ks ++ ls) ≡ times id ks + times id ls
times_both id [] ls = omega arith
times_both id (k ∷ ks) ls = let rest = times_both id ks ls in omega arith

times_first : (id : ℕ) (ks : List ℕ) → times id (id ∷ ks) ≡ 1 + times id ks
times_first id ks = let same : nat_eq id id ≡ true = eq-eqb id id refl in rw same refl

none_times : (id : ℕ) (ks : List ℕ) → times id ks ≡ 0 → AllByRecursion (λ k. nat_eq id k ≡ false) ks
none_times id [] z = tt
none_times id (k ∷ ks) z = elim (cases_Bool (nat_eq k id)) [
  | inl e ↦ let one_more = rw e at z in absurd (omega arith)
  | inr e ↦
      let rest : times id ks ≡ 0 = (let z' = rw e at z in omega arith) in
      (ne_eqb id k (λ same. let own : nat_eq k id ≡ true = eq-eqb k id (sym same) in absurd (cc)), none_times id ks rest)
]

-- a list in which no id stands twice
distinct_ids : (ks : List ℕ) → ((id : ℕ) → times id ks ≤ 1) → IsDistinct nat_eq ks
unfolding IsDistinct
distinct_ids [] most = tt
distinct_ids (k ∷ ks) most =
    let own : 1 + times k ks ≤ 1 = rw (times_first k ks) at (most k) in
    (none_times k ks (omega arith), distinct_ids ks (λ id. let h = most id in omega arith))

module _ (s t : ℕ → Option Standing) (absent : (id : ℕ) → s id ≡ None → IsNone (t id)) where
  -- ids that stand in the list stand nowhere else
  absent_ids : (ks : List ℕ) → ((id : ℕ) → one (s id) + times id ks ≤ 1) → AllByRecursion (λ id. IsNone (t id)) ks
  absent_ids [] most = tt
  absent_ids (k ∷ ks) most =
      let first = times_first k ks in
      let own = most k in
      (absent k (none_one (s k) (omega arith)), absent_ids ks (λ id. let h = most id in omega arith))

-- ---- the arrivals of tasks

times_arrival : (id : ℕ) (a : Action) → times id (arrival_of a) ≡ cond (is_arrival_of id a) 1 0
times_arrival id (action.Set at n) = refl
times_arrival id (action.Copy at to) = refl
times_arrival id (action.Load c) = refl
times_arrival id (action.Unload c) = refl
times_arrival id (action.Post c d inner) = refl
times_arrival id (action.Send k to) = refl
times_arrival id (action.Arrive e) = omega arith
times_arrival id (action.Every p left inner) = refl

times_arrivals : (id : ℕ) (ts : List Task) → AllByRecursion TaskOk ts → times id (arrivals ts) ≡ counts.arrivals id ts
times_arrivals id [] ok = refl
times_arrivals id (t ∷ ts) ok =
    let rest = times_arrivals id ts ok.1 in
    let both = times_both id (arrival_of (plain_of t.action)) (arrivals ts) in
    let own = times_arrival id (plain_of t.action) in
    let plain = counts.plain_brings_is id t ok.0.fits in
    omega arith

-- ---- the arrivals of the due tasks of a world

module _ (o : Opening) (w : World) (r : ℕ) (good : Good o w) where
  place_most : (id : ℕ) → one (w.flat.standing id) + times id (arrivals (due w r)) ≤ 1
  place_most id =
      let here = good.place id in
      let most = one_most (standing_in o.entities id) in
      let both = due_total id w r (omega arith) in
      let same = times_arrivals id (due w r) (due_ok w r w.next_job good.sound.each) in
      omega arith

  pub fresh_due : (f : Flat) → ((id : ℕ) → w.flat.standing id ≡ None → IsNone (f.standing id)) → AreFresh f (due w r)
  fresh_due f absent = record {
    distinct = distinct_ids (arrivals (due w r)) (λ id. let h = place_most id in omega arith);
    absent = All-from_recursion (λ id. IsNone (f.standing id)) (arrivals (due w r)) (absent_ids w.flat.standing f.standing absent (arrivals (due w r)) place_most);
  }
