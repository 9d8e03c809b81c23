-- The numbers at the Begins are at most the next task number.
use Rattle.std.proofs.Common.{ℕ, ◌≤◌, arith, inl, inr, List, [], ◌∷◌}
use Rattle.std.specs.Prelude.{nat_eq, Option, Some, None}
use Rattle.std.proofs.lemmas.Bool.{cases_Bool}
use Rattle.fol_model.specs.declared.places.BlockPos.{BlockPos}
use Rattle.fol_model.specs.declared.places.ChunkPos.{ChunkPos}
use Rattle.fol_model.specs.declared.openings.Opening.{Opening}
use Rattle.fol_model.specs.declared.tasks.Ran.{Ran}
use Rattle.fol_model.specs.declared.tasks.Wish.{Wish}
use Rattle.fol_model.specs.declared.actions.Action.{Action}
use Rattle.fol_model.specs.declared.actions.Action.TheVariants as action
use Rattle.fol_model.specs.declared.events.Event.{Event}
use Rattle.fol_model.specs.declared.events.Event.TheVariants.{Load, Unload, Post, PhaseOpen, Begin, End, PhaseClose, Finish, Stop}
use Rattle.fol_model.specs.declared.events.Entry.{Entry}
use Rattle.fol_model.specs.Add.{is_full}
use Rattle.fol_model.specs.World.{World, start}
use Rattle.fol_model.specs.Holds.{loaded, unloaded, posted}
use Rattle.fol_model.specs.QueuedTask.{begun}
use Rattle.fol_model.specs.End.{dropped, ticked, put_back, accepted, all_accepted, released, run_down, ended}
use Rattle.fol_model.specs.Run.{after, after_all}
use Rattle.fol_world.specs.Hands.{since, since_after, since_from}

next_loaded : (w : World) (c : ChunkPos) → w.next_job ≤ (loaded w c).next_job
unfolding loaded
next_loaded w c = elim (cases_Bool (is_full w.grid c)) [ inl f ↦ rw f (omega arith) | inr f ↦ rw f (omega arith) ]

next_unloaded : (w : World) (c : ChunkPos) → w.next_job ≤ (unloaded w c).next_job
unfolding unloaded
next_unloaded w c = elim (cases_Bool (nat_eq (w.tickets c) 0)) [ inl f ↦ rw f (omega arith) | inr f ↦ rw f (omega arith) ]

next_posted : (w : World) (c : ChunkPos) (d : ℕ) (a : Action) → w.next_job ≤ (posted w c d a).next_job
unfolding posted
next_posted w c d a = elim (cases_Bool (is_full w.grid c)) [ inl f ↦ rw f (omega arith) | inr f ↦ rw f (omega arith) ]

next_back : (w : World) (a : Action) (b : Option BlockPos) → w.next_job ≤ (put_back w a b).next_job
next_back w (action.Arrive e) (Some b) = omega arith
next_back w (action.Arrive e) None = omega arith
next_back w (action.Set at id) b = omega arith
next_back w (action.Copy at to) b = omega arith
next_back w (action.Load c) b = omega arith
next_back w (action.Unload c) b = omega arith
next_back w (action.Post c d inner) b = omega arith
next_back w (action.Send id to) b = omega arith
next_back w (action.Every p l inner) b = omega arith

next_accepted : (w : World) (x : Wish) → w.next_job ≤ (accepted w x).next_job
unfolding accepted
next_accepted w x = elim (cases_Bool (is_full w.grid x.chunk)) [ inl f ↦ rw f (next_back w x.action x.back) | inr f ↦ rw f (next_posted w x.chunk x.delay x.action) ]

pub next_all : (w : World) (xs : List Wish) → w.next_job ≤ (all_accepted w xs).next_job
next_all w [] = omega arith
next_all w (x ∷ xs) = omega (arith, next_accepted w x, next_all (accepted w x) xs)

next_begun : (w : World) (worker r : ℕ) → w.next_job ≤ (begun w worker r).next_job
unfolding begun
next_begun w worker r = omega arith

next_ended : (w : World) (r : ℕ) (ran : List Ran) → w.next_job ≤ (ended w r ran).next_job
unfolding ended released dropped
next_ended w r ran = next_all (run_down w r ran) (ticked w r ran).wishes

pub next_after : (w : World) (e : Event) → w.next_job ≤ (after w e).next_job
next_after w (Load caller c answer) = next_loaded w c
next_after w (Unload caller c answer) = next_unloaded w c
next_after w (Post caller c d x answer) = next_posted w c d x
next_after w (PhaseOpen n) = omega arith
next_after w (Begin worker r) = next_begun w worker r
next_after w (End worker r tick ran accepts) = next_ended w r ran
next_after w PhaseClose = omega arith
next_after w Finish = omega arith
next_after w (Stop caller) = omega arith

began_below : (f : ℕ → ℕ) (w : World) (r : ℕ) → ((q : ℕ) → f q ≤ w.next_job) → (q : ℕ) → since_after f w (Begin 0 r) q ≤ w.next_job
began_below f w r h q = elim (cases_Bool (nat_eq r q)) [ inl e ↦ rw e (omega arith) | inr e ↦ rw e (h q) ]

pub since_below : (f : ℕ → ℕ) (w : World) (e : Event) → ((q : ℕ) → f q ≤ w.next_job) → (q : ℕ) → since_after f w e q ≤ w.next_job
since_below f w (Load caller c answer) h = h
since_below f w (Unload caller c answer) h = h
since_below f w (Post caller c d x answer) h = h
since_below f w (PhaseOpen n) h = h
since_below f w (Begin worker r) h = began_below f w r h
since_below f w (End worker r tick ran accepts) h = h
since_below f w PhaseClose h = h
since_below f w Finish h = h
since_below f w (Stop caller) h = h

along : (w : World) (f : ℕ → ℕ) (es : List Entry) → ((q : ℕ) → f q ≤ w.next_job) → (q : ℕ) → since_from w f es q ≤ (after_all w es).next_job
along w f [] h q = h q
along w f (e ∷ es) h q = along (after w e.event) (since_after f w e.event) es (λ p. omega (arith, since_below f w e.event h p, next_after w e.event)) q

pub since_most : (o : Opening) (es : List Entry) (q : ℕ) → since o es q ≤ (after_all (start o) es).next_job
since_most o es q = along (start o) (λ r. 0) es (λ r. omega arith) q
