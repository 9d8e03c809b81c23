-- What a region owes is at most 10,000.
use Rattle.std.proofs.Common.{◌≡◌, ℕ, ◌-◌, ◌≤◌, refl, ◌∙◌, ap, arith, inl, inr, List, [], ◌∷◌, ◌||◌}
use Rattle.std.specs.Prelude.{nat_eq, Option, Some, None}
use Rattle.std.proofs.lemmas.Bool.{cases_Bool, cases_eq}
use Rattle.fol_model.specs.declared.places.ChunkPos.{ChunkPos}
use Rattle.fol_model.specs.declared.places.BlockPos.{BlockPos}
use Rattle.fol_model.specs.declared.openings.Opening.{Opening}
use Rattle.fol_model.specs.declared.tasks.Ran.{Ran}
use Rattle.fol_model.specs.declared.tasks.Wish.{Wish}
use Rattle.fol_model.specs.declared.actions.Action.{Action}
use Rattle.fol_model.specs.declared.actions.Action.TheVariants as action
use Rattle.fol_model.specs.declared.events.Event.{Event}
use Rattle.fol_model.specs.declared.events.Event.TheVariants.{Load, Unload, Post, PhaseOpen, Begin, End, PhaseClose, Finish, Stop}
use Rattle.fol_model.specs.declared.events.Entry.{Entry}
use Rattle.fol_model.specs.Add.{is_full, is_near_calm, target, wanted}
use Rattle.fol_model.specs.Release.{is_new_part}
use Rattle.fol_model.specs.Counters.{joins, owed_after_add, owed_after_release}
use Rattle.fol_model.specs.GridState.{GridState}
use Rattle.fol_model.specs.ActionStep.{at_id}
use Rattle.fol_model.specs.World.{World, start}
use Rattle.fol_model.specs.Holds.{loaded, unloaded, posted}
use Rattle.fol_model.specs.QueuedTask.{begun}
use Rattle.fol_model.specs.End.{dropped, ticked, put_back, accepted, all_accepted, released, run_down, ended}
use Rattle.fol_model.specs.Run.{after, after_all, Allowed, Run, RunFrom, world}
use Rattle.fol_laws.proofs.FunctionsChanged.{at_here, at_other}
use Rattle.fol_laws.proofs.GreatestBelow.{greatest-at_most}

-- no region owes more than 10,000
abbrev FewOwed : (ℕ → ℕ) → Type 0
FewOwed owed = (r : ℕ) → owed r ≤ 10000

added : (g : GridState) (c : ChunkPos) (owed : ℕ → ℕ) → FewOwed owed → FewOwed (owed_after_add g c owed)
unfolding owed_after_add
added g c owed h r = elim (cases_Bool (is_full g c || nat_eq (wanted g c) 0)) [
  | inl e ↦ rw e (h r)
  | inr e ↦ elim (cases_Bool (nat_eq r (target g c))) [
    | inl k ↦ rw (e, k) (greatest-at_most (is_near_calm g c) owed g.next 10000 (λ q l m. h q))
    | inr k ↦ rw (e, k) (h r)
  ]
]

few_released : (g : GridState) (t : ℕ) (owed : ℕ → ℕ) → FewOwed owed → FewOwed (owed_after_release g t owed)
unfolding owed_after_release
few_released g t owed h r = elim (cases_Bool (nat_eq r t || is_new_part g t r)) [
  | inl e ↦ rw e (greatest-at_most (joins g t) owed g.next 10000 (λ q l m. h q))
  | inr e ↦ rw e (h r)
]

few_loaded : (w : World) (c : ChunkPos) → FewOwed w.owed → FewOwed (loaded w c).owed
unfolding loaded
few_loaded w c h = elim (cases_Bool (is_full w.grid c)) [ inl f ↦ rw f h | inr f ↦ rw f (added w.grid c w.owed h) ]

few_unloaded : (w : World) (c : ChunkPos) → FewOwed w.owed → FewOwed (unloaded w c).owed
unfolding unloaded
few_unloaded w c h = elim (cases_Bool (nat_eq (w.tickets c) 0)) [ inl f ↦ rw f h | inr f ↦ rw f h ]

few_posted : (w : World) (c : ChunkPos) (d : ℕ) (a : Action) → FewOwed w.owed → FewOwed (posted w c d a).owed
unfolding posted
few_posted w c d a h = elim (cases_Bool (is_full w.grid c)) [ inl f ↦ rw f h | inr f ↦ rw f (added w.grid c w.owed h) ]

few_begun : (w : World) (worker r : ℕ) → FewOwed w.owed → FewOwed (begun w worker r).owed
unfolding begun
few_begun w worker r h q = elim (cases_eq q r) [
  | inl e ↦ let k = h r in let s : at_id w.owed r (w.owed r - 1) q ≡ w.owed r - 1 = ap (at_id w.owed r (w.owed r - 1)) e ∙ at_here w.owed r (w.owed r - 1) in omega arith
  | inr d ↦ let k = h q in let s = at_other w.owed r (w.owed r - 1) q d in omega arith
]

put_back_owed : (w : World) (a : Action) (b : Option BlockPos) → (put_back w a b).owed ≡ w.owed
put_back_owed w (action.Set at id) b = refl
put_back_owed w (action.Copy at to) b = refl
put_back_owed w (action.Load c) b = refl
put_back_owed w (action.Unload c) b = refl
put_back_owed w (action.Post c d inner) b = refl
put_back_owed w (action.Send id to) b = refl
put_back_owed w (action.Arrive e) None = refl
put_back_owed w (action.Arrive e) (Some b) = refl
put_back_owed w (action.Every p l inner) b = refl

few_accepted : (w : World) (x : Wish) → FewOwed w.owed → FewOwed (accepted w x).owed
unfolding accepted
few_accepted w x h = elim (cases_Bool (is_full w.grid x.chunk)) [
  | inl f ↦ rw f (rw (put_back_owed w x.action x.back) h)
  | inr f ↦ rw f (few_posted w x.chunk x.delay x.action h)
]

few_all : (w : World) (xs : List Wish) → FewOwed w.owed → FewOwed (all_accepted w xs).owed
few_all w [] h = h
few_all w (x ∷ xs) h = few_all (accepted w x) xs (few_accepted w x h)

few_ended : (w : World) (r : ℕ) (ran : List Ran) → FewOwed w.owed → FewOwed (ended w r ran).owed
unfolding ended released dropped
few_ended w r ran h = let v = all_accepted (run_down w r ran) (ticked w r ran).wishes in few_released v.grid r v.owed (few_all (run_down w r ran) (ticked w r ran).wishes h)

few_after : (w : World) (e : Event) → Allowed w e → FewOwed w.owed → FewOwed (after w e).owed
few_after w (Load caller c answer) a h = few_loaded w c h
few_after w (Unload caller c answer) a h = few_unloaded w c h
few_after w (Post caller c d x answer) a h = few_posted w c d x h
few_after w (PhaseOpen n) a h = λ r. omega (arith, a.3)
few_after w (Begin worker r) a h = few_begun w worker r h
few_after w (End worker r tick ran accepts) a h = few_ended w r ran h
few_after w PhaseClose a h = h
few_after w Finish a h = h
few_after w (Stop caller) a h = h

few_along : (w : World) (es : List Entry) → RunFrom w es → FewOwed w.owed → FewOwed (after_all w es).owed
few_along w [] run h = h
few_along w (e ∷ es) run h = few_along (after w e.event) es run.2 (few_after w e.event run.1 h)

pub owed_most : (o : Opening) (h : List Entry) → Run o h → (r : ℕ) → (world o h).owed r ≤ 10000
owed_most o h run = few_along (start o) h run (λ r. omega arith)
