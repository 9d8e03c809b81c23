-- One task, and what is left of the tasks behind it.
use Rattle.std.proofs.Common.{◌≡◌, ℕ, suc, ◌+◌, ◌<◌, refl, sym, ◌∙◌, ap, true, false, inl, inr, List, [], ◌∷◌, ◌++◌, length, get_or, drop, append-nil, add-one}
use Rattle.std.specs.Prelude.{nat_eq, nat_le, Option, IsTrue, ◌&&◌}
use Rattle.std.specs.List.{list_all}
use Rattle.std.specs.Option.{option_to_list}
use Rattle.std.proofs.Math.Seq.{drop-cons}
use Rattle.std.proofs.lemmas.Bool.{cases_Bool, eq-eqb, and_parts, and_from}
use Rattle.fol_model.specs.Deed.{Plain, Wrap, set, copy, load, unload, send, arrive, post, every}
use Rattle.fol_model.specs.Nesting.{action_at}
use Rattle.fol_model.specs.Limits.{is_action, is_plain, is_wrap}
use Rattle.fol_model.specs.ActionStep.{Flat, Recorded, plain_of, outcome_of, wishes_of, plain_wishes, repeats}
use Rattle.fol_model.specs.FlatTick.{FlatEnd}
use Rattle.fol_model.specs.declared.places.ChunkPos.{ChunkPos}
use Rattle.fol_model.specs.declared.actions.Action.{Action}
use Rattle.fol_model.specs.declared.actions.Action.TheVariants as action
use Rattle.fol_model.specs.declared.tasks.Outcome.{Outcome}
use Rattle.fol_model.specs.declared.tasks.Task.{Task}
use Rattle.fol_model.specs.declared.tasks.Ran.{Ran}
use Rattle.fol_model.specs.declared.tasks.Wish.{Wish}
use Rattle.fol_tick.specs.Calls.{HostCall, is_hosted, AreCallsOf, given}
use Rattle.fol_tick.specs.Effects.{Acts, IsCallOf, outcome_given}
use Rattle.fol_tick.specs.Prepared.{repeated_by}
use Rattle.fol_tick.specs.Runs.{TasksRan}
use Rattle.fol_tick.specs.declared.step.Effect.{Effect}
use Rattle.fol_tick.proofs.Outcomes.{outcome_same}

-- the wish for the task again
repeated : (c : ChunkPos) (a : Action) → option_to_list (repeated_by c a) ≡ repeats c a
repeated c (action.Set at id) = refl
repeated c (action.Copy at to) = refl
repeated c (action.Load k) = refl
repeated c (action.Unload k) = refl
repeated c (action.Post k d inner) = refl
repeated c (action.Send id to) = refl
repeated c (action.Arrive e) = refl
repeated c (action.Every p left inner) = elim (cases_Bool (nat_le 2 left)) [ inl e ↦ rw e refl | inr e ↦ rw e refl ]

module _ (t : Task) (calls : List HostCall) where
  -- the calls of one task
  served_one : IsCallOf (plain_of t.action) calls → AreCallsOf (t ∷ []) calls
  served_one h = elim (cases_Bool (is_hosted (plain_of t.action))) [
    | inl e ↦ rw e (rw e at h)
    | inr e ↦ rw e (rw e at h)
  ]

  -- the answer of its call, by its number
  own_answer : (xs : List HostCall) → IsCallOf (plain_of t.action) xs → is_hosted (plain_of t.action) ≡ true → outcome_given xs ≡ given (t ∷ []) xs t.number
  own_answer [] h e = absurd (let w : [] ≡ (plain_of t.action) ∷ [] = rw e at h in cc)
  own_answer (x ∷ xs) h e = let same : nat_eq t.number t.number ≡ true = eq-eqb _ _ refl in rw e (rw same refl)

  given_one : (rec : Recorded) (f : Flat) → IsCallOf (plain_of t.action) calls → outcome_of rec f (outcome_given calls) (plain_of t.action) ≡ outcome_of rec f (given (t ∷ []) calls t.number) (plain_of t.action)
  given_one rec f h = outcome_same rec f (plain_of t.action) (outcome_given calls) (given (t ∷ []) calls t.number) (own_answer calls h)

  -- one task, from what its action did
  pub one_ran : (rec : Recorded) (before after : FlatEnd) (e : Effect) (again : Option Wish) → IsCallOf (plain_of t.action) calls → Acts rec (outcome_given calls) (plain_of t.action) before.flat after.flat e → again ≡ repeated_by t.chunk t.action
      → after.ran ≡ before.ran ++ (record { number = t.number; outcome = e.outcome }) ∷ [] → after.wishes ≡ before.wishes ++ (option_to_list e.wish ++ option_to_list again) → TasksRan rec (t ∷ []) before after calls
  one_ran rec before after e again call acts same ran wishes = record {
    served = served_one call;
    stage =
        let one : e.outcome ≡ outcome_of rec before.flat (given (t ∷ []) calls t.number) (plain_of t.action) = acts.outcome ∙ given_one rec before.flat call in
        let logged : after.ran ≡ before.ran ++ (record { number = t.number; outcome = outcome_of rec before.flat (given (t ∷ []) calls t.number) (plain_of t.action) }) ∷ [] =
        ran ∙ ap (λ (o : Outcome). let x : Ran = record { number = t.number; outcome = o } in before.ran ++ x ∷ []) one in
        let asked_for : after.wishes ≡ before.wishes ++ (wishes_of rec before.flat t ++ []) =
        wishes ∙ ap (λ ws. before.wishes ++ (ws ++ option_to_list again)) acts.wish ∙ ap (λ (o : Option Wish). before.wishes ++ (plain_wishes rec before.flat (plain_of t.action) ++ option_to_list o)) same
        ∙ ap (λ ws. before.wishes ++ (plain_wishes rec before.flat (plain_of t.action) ++ ws)) (repeated t.chunk t.action) ∙ ap (λ ws. before.wishes ++ ws) (sym (append-nil (wishes_of rec before.flat t))) in
        λ i. record { flat = acts.flat i; ran = logged i; wishes = asked_for i };
  }

-- the tasks from a place on
pub from_next : (ts : List Task) (k : ℕ) (x : Task) → k < length ts → x ≡ get_or ts k x → drop k ts ≡ x ∷ drop (k + 1) ts
from_next ts k x l e = drop-cons ts k x l ∙ ap (λ y. y ∷ drop (suc k) ts) (sym e) ∙ ap (λ n. x ∷ drop n ts) (sym (add-one k))

-- what stands in an action within the limits is within them
within_limits : (ws : List Wrap) (p : Plain) → IsTrue (list_all is_wrap ws && is_plain p) → IsTrue (is_action (action_at ws p))
within_limits [] (set at id) h = h
within_limits [] (copy at to) h = h
within_limits [] (load c) h = h
within_limits [] (unload c) h = h
within_limits [] (send entity to) h = h
within_limits [] (arrive e) h = h
within_limits (post c d ∷ ws) p h = h
within_limits (every p' left ∷ ws) p h = h

pub plain_within : (a : Action) → IsTrue (is_action a) → IsTrue (is_action (plain_of a))
plain_within (action.Set at id) h = h
plain_within (action.Copy at to) h = h
plain_within (action.Load c) h = h
plain_within (action.Unload c) h = h
plain_within (action.Post c d inner) h = h
plain_within (action.Send id to) h = h
plain_within (action.Arrive e) h = h
plain_within (action.Every p left inner) h =
    let parts = and_parts (list_all is_wrap (every p left ∷ inner.wraps)) (is_plain inner.plain) h in
    let wraps = and_parts (is_wrap (every p left)) (list_all is_wrap inner.wraps) parts.0 in
    within_limits inner.wraps inner.plain (and_from _ _ wraps.1 parts.1)

-- every other action asks for no call
pub not_hosted : (a : Action) → ((c : ChunkPos) → a ≡ action.Load c → ⊥) → ((c : ChunkPos) → a ≡ action.Unload c → ⊥) → is_hosted a ≡ false
not_hosted (action.Set at id) h k = refl
not_hosted (action.Copy at to) h k = refl
not_hosted (action.Load c) h k = absurd (h c refl)
not_hosted (action.Unload c) h k = absurd (k c refl)
not_hosted (action.Post c d inner) h k = refl
not_hosted (action.Send id to) h k = refl
not_hosted (action.Arrive e) h k = refl
not_hosted (action.Every p left inner) h k = refl
