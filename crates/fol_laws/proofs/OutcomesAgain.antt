-- What a tick came to gives the same tick again.
use Rattle.std.proofs.Common.{◌≡◌, ℕ, zero, suc, ◌<◌, refl, arith, true, false, inl, inr, List, [], ◌∷◌, ◌++◌}
use Rattle.std.specs.Prelude.{nat_eq, Option, Some, None}
use Rattle.std.specs.List.{AllByRecursion}
use Rattle.std.proofs.lemmas.Bool.{cases_Bool, eq-eqb, ne_eqb}
use Rattle.fol_model.specs.ActionStep.{Flat, Recorded, act, plain_of, outcome_of}
use Rattle.fol_model.specs.FlatTick.{acted, moved, asked, outcomes, flat_tick, AllAbove, Rising}
use Rattle.fol_model.specs.World.{World, due_below}
use Rattle.fol_model.specs.Job.{Job, taken_task}
use Rattle.fol_model.specs.End.{outcome_in}
use Rattle.fol_model.specs.declared.actions.Action.{Action}
use Rattle.fol_model.specs.declared.actions.Action.TheVariants as action
use Rattle.fol_model.specs.declared.tasks.Outcome.{Outcome}
use Rattle.fol_model.specs.declared.tasks.Task.{Task}
use Rattle.fol_model.specs.declared.tasks.Ran.{Ran}
use Rattle.fol_laws.proofs.SortedRows.{all_append}

-- ---- the due tasks rise by number
taken_below : (r n : ℕ) (o : Option Job) → AllByRecursion (λ t. t.number < suc n) (taken_task r n o)
taken_below r n None = tt
taken_below r n (Some j) = elim (cases_Bool (nat_eq j.taker r)) [ inl e ↦ rw e (omega arith, tt) | inr e ↦ rw e tt ]

more_below : (n : ℕ) (ts : List Task) → AllByRecursion (λ t. t.number < n) ts → AllByRecursion (λ t. t.number < suc n) ts
more_below n [] h = tt
more_below n (t ∷ ts) h = (let x = h.0 in omega arith, more_below n ts h.1)

due_numbers : (w : World) (r n : ℕ) → AllByRecursion (λ t. t.number < n) (due_below w r n)
unfolding due_below
due_numbers w r zero = tt
due_numbers w r (suc n) = all_append (λ t. t.number < suc n) (due_below w r n) (taken_task r n (w.jobs n)) (more_below n (due_below w r n) (due_numbers w r n)) (taken_below r n (w.jobs n))

above_last : (k : ℕ) (ts : List Task) (u : Task) → AllAbove k ts → k < u.number → AllAbove k (ts ++ u ∷ [])
above_last k [] u h l = (l, tt)
above_last k (t ∷ ts) u h l = (h.0, above_last k ts u h.1 l)

rising_last : (ts : List Task) (u : Task) → Rising ts → AllByRecursion (λ t. t.number < u.number) ts → Rising (ts ++ u ∷ [])
rising_last [] u h l = (tt, tt)
rising_last (t ∷ ts) u h l = (above_last t.number ts u h.0 l.0, rising_last ts u h.1 l.1)

above_nil : (k : ℕ) (ts : List Task) → AllAbove k ts → AllAbove k (ts ++ [])
above_nil k [] h = tt
above_nil k (t ∷ ts) h = (h.0, above_nil k ts h.1)

rising_nil : (ts : List Task) → Rising ts → Rising (ts ++ [])
rising_nil [] h = tt
rising_nil (t ∷ ts) h = (above_nil t.number ts h.0, rising_nil ts h.1)

rising_taken : (r n : ℕ) (ts : List Task) (o : Option Job) → Rising ts → AllByRecursion (λ t. t.number < n) ts → Rising (ts ++ taken_task r n o)
rising_taken r n ts None h l = rising_nil ts h
rising_taken r n ts (Some j) h l = elim (cases_Bool (nat_eq j.taker r)) [
  | inl e ↦ rw e (rising_last ts (record { number = n; chunk = j.chunk; action = j.action }) h l)
  | inr e ↦ rw e (rising_nil ts h)
]

pub due_rising : (w : World) (r n : ℕ) → Rising (due_below w r n)
unfolding due_below
due_rising w r zero = tt
due_rising w r (suc n) = rising_taken r n (due_below w r n) (w.jobs n) (due_rising w r n) (due_numbers w r n)

-- ---- the outcomes as what is given
module _ (rec : Recorded) (given : ℕ → Outcome) where
  same_given : (f : Flat) (a : Action) (h g : Outcome) → h ≡ outcome_of rec f g a → outcome_of rec f h a ≡ outcome_of rec f g a
  same_given f (action.Set at id) h g e = refl
  same_given f (action.Copy at to) h g e = refl
  same_given f (action.Load c) h g e = e
  same_given f (action.Unload c) h g e = e
  same_given f (action.Post c d inner) h g e = refl
  same_given f (action.Send id to) h g e = refl
  same_given f (action.Arrive k) h g e = refl
  same_given f (action.Every p l inner) h g e = refl

  again : (h : ℕ → Outcome) (f : Flat) (ts : List Task) → AllByRecursion (λ (x : Ran). h x.number ≡ x.outcome) (outcomes rec given f ts) → outcomes rec h f ts ≡ outcomes rec given f ts
  again h f [] e = refl
  again h f (t ∷ ts) e =
      let a = same_given f (plain_of t.action) (h t.number) (given t.number) e.0 in
      let b = again h (act rec f (plain_of t.action)) ts e.1 in cc

  -- a number in front changes nothing for later ones
  later_in : (x : Ran) (xs : List Ran) (f : Flat) (ts : List Task) → AllAbove x.number ts
      → AllByRecursion (λ (y : Ran). outcome_in xs y.number ≡ y.outcome) (outcomes rec given f ts) → AllByRecursion (λ (y : Ran). outcome_in (x ∷ xs) y.number ≡ y.outcome) (outcomes rec given f ts)
  later_in x xs f [] h e = tt
  later_in x xs f (t ∷ ts) h e =
      let l = h.0 in
      let z : nat_eq x.number t.number ≡ false = ne_eqb _ _ (λ k. omega arith) in
      (rw z e.0, later_in x xs (act rec f (plain_of t.action)) ts h.1 e.1)

  own_in : (f : Flat) (ts : List Task) → Rising ts → AllByRecursion (λ (y : Ran). outcome_in (outcomes rec given f ts) y.number ≡ y.outcome) (outcomes rec given f ts)
  own_in f [] h = tt
  own_in f (t ∷ ts) h =
      let g = act rec f (plain_of t.action) in
      let z : nat_eq t.number t.number ≡ true = eq-eqb _ _ refl in
      (rw z refl, later_in (record { number = t.number; outcome = outcome_of rec f (given t.number) (plain_of t.action) }) (outcomes rec given g ts) g ts h.0 (own_in g ts h.1))

  pub same_again : (f : Flat) (ts : List Task) → Rising ts → flat_tick rec (outcome_in (flat_tick rec given ts f).ran) ts f ≡ flat_tick rec given ts f
  unfolding flat_tick
  same_again f ts h = let e = again (outcome_in (outcomes rec given f ts)) f ts (own_in f ts h) in
      λ i. record { flat = moved rec (acted rec f ts); ran = e i; wishes = asked rec f ts }
