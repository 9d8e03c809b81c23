-- What each event does to a task that has its number already.
use Rattle.std.proofs.Common.{◌≡◌, ℕ, zero, suc, ◌≤◌, ◌<◌, refl, ◌∙◌, arith, inl, inr, List, [], ◌∷◌, append-nil}
use Rattle.std.specs.Prelude.{nat_eq, Option, Some, None}
use Rattle.std.proofs.lemmas.Bool.{cases_Bool, cases_eq}
use Rattle.fol_model.specs.declared.places.ChunkPos.{ChunkPos}
use Rattle.fol_model.specs.Add.{is_full}
use Rattle.fol_model.specs.World.{World, due, due_below}
use Rattle.fol_model.specs.Job.{Job, queued}
use Rattle.fol_model.specs.Holds.{loaded, unloaded, posted}
use Rattle.fol_model.specs.QueuedTask.{begun, counted_down}
use Rattle.fol_model.specs.End.{dropped, left, ticked, put_back, accepted, all_accepted, released, run_down, ended}
use Rattle.fol_model.specs.Run.{after}
use Rattle.fol_laws.proofs.SoundState.{SoundWorld}
use Rattle.fol_model.specs.declared.places.BlockPos.{BlockPos}
use Rattle.fol_model.specs.declared.tasks.Ran.{Ran}
use Rattle.fol_model.specs.declared.tasks.Wish.{Wish}
use Rattle.fol_model.specs.declared.actions.Action.{Action}
use Rattle.fol_model.specs.declared.actions.Action.TheVariants as action
use Rattle.fol_model.specs.declared.events.Event.{Event}
use Rattle.fol_model.specs.declared.events.Event.TheVariants.{Load, Unload, Post, PhaseOpen, Begin, End, PhaseClose, Finish, Stop}
use Rattle.fol_laws.proofs.FunctionsChanged.{at_other}
use Rattle.fol_laws.proofs.TickingKept.{Kept, due_same}

-- the tasks that have their number keep it, and numbers only grow
pub record Older (w v : World) : Type 0 where
  pub next : w.next_job ≤ v.next_job
  pub jobs : (n : ℕ) → n < w.next_job → v.jobs n ≡ w.jobs n

posted_older : (w : World) (c : ChunkPos) (d : ℕ) (a : Action) → Older w (posted w c d a)
unfolding posted
posted_older w c d a = elim (cases_Bool (is_full w.grid c)) [
  | inl f ↦ rw f (record { next = omega arith; jobs = λ n l. refl })
  | inr f ↦ rw f (record { next = omega arith; jobs = λ n l. at_other w.jobs w.next_job (Some (queued c d a)) n (λ e. omega arith) })
]

put_back_older : (w : World) (a : Action) (b : Option BlockPos) → Older w (put_back w a b)
put_back_older w (action.Set at k) b = record { next = omega arith; jobs = λ n l. refl }
put_back_older w (action.Copy at to) b = record { next = omega arith; jobs = λ n l. refl }
put_back_older w (action.Load c) b = record { next = omega arith; jobs = λ n l. refl }
put_back_older w (action.Unload c) b = record { next = omega arith; jobs = λ n l. refl }
put_back_older w (action.Post c d inner) b = record { next = omega arith; jobs = λ n l. refl }
put_back_older w (action.Send k to) b = record { next = omega arith; jobs = λ n l. refl }
put_back_older w (action.Arrive e) None = record { next = omega arith; jobs = λ n l. refl }
put_back_older w (action.Arrive e) (Some b) = record { next = omega arith; jobs = λ n l. refl }
put_back_older w (action.Every p l inner) b = record { next = omega arith; jobs = λ n l. refl }

accepted_older : (w : World) (x : Wish) → Older w (accepted w x)
unfolding accepted
accepted_older w x = elim (cases_Bool (is_full w.grid x.chunk)) [ inl f ↦ rw f (put_back_older w x.action x.back) | inr f ↦ rw f (posted_older w x.chunk x.delay x.action) ]

pub all_older : (w : World) (xs : List Wish) → Older w (all_accepted w xs)
all_older w [] = record { next = omega arith; jobs = λ n l. refl }
all_older w (x ∷ xs) = let a = accepted_older w x in let b = all_older (accepted w x) xs in
    record { next = omega (arith, a.next, b.next); jobs = λ n l. b.jobs n (omega (arith, a.next)) ∙ a.jobs n l }

loaded_older : (w : World) (c : ChunkPos) → Older w (loaded w c)
unfolding loaded
loaded_older w c = elim (cases_Bool (is_full w.grid c)) [ inl f ↦ rw f (record { next = omega arith; jobs = λ n l. refl }) | inr f ↦ rw f (record { next = omega arith; jobs = λ n l. refl }) ]

unloaded_older : (w : World) (c : ChunkPos) → Older w (unloaded w c)
unfolding unloaded
unloaded_older w c = elim (cases_Bool (nat_eq (w.tickets c) 0)) [ inl f ↦ rw f (record { next = omega arith; jobs = λ n l. refl }) | inr f ↦ rw f (record { next = omega arith; jobs = λ n l. refl }) ]

-- what an event does to a task that has its number
abbrev pub next_fate : World → Event → Option Job → Option Job
next_fate w (Begin worker r) o = counted_down w.grid r o
next_fate w (End worker r tick ran accepts) o = left r o
next_fate w _ o = o

pub record Fated (w v : World) (f : Option Job → Option Job) : Type 0 where
  pub next : w.next_job ≤ v.next_job
  pub jobs : (n : ℕ) → n < w.next_job → v.jobs n ≡ f (w.jobs n)

ended_fated : (w : World) (r : ℕ) (ran : List Ran) → Fated w (ended w r ran) (left r)
unfolding ended dropped released
ended_fated w r ran = let a = all_older (run_down w r ran) (ticked w r ran).wishes in record { next = a.next; jobs = a.jobs }

begun_fated : (w : World) (worker r : ℕ) → Fated w (begun w worker r) (counted_down w.grid r)
unfolding begun
begun_fated w worker r = record { next = omega arith; jobs = λ n l. refl }

pub fated : (w : World) (e : Event) → Fated w (after w e) (next_fate w e)
fated w (Load caller c answer) = let a = loaded_older w c in record { next = a.next; jobs = a.jobs }
fated w (Unload caller c answer) = let a = unloaded_older w c in record { next = a.next; jobs = a.jobs }
fated w (Post caller c d x answer) = let a = posted_older w c d x in record { next = a.next; jobs = a.jobs }
fated w (PhaseOpen n) = record { next = omega arith; jobs = λ n l. refl }
fated w (Begin worker r) = begun_fated w worker r
fated w (End worker r tick ran accepts) = ended_fated w r ran
fated w PhaseClose = record { next = omega arith; jobs = λ n l. refl }
fated w Finish = record { next = omega arith; jobs = λ n l. refl }
fated w (Stop caller) = record { next = omega arith; jobs = λ n l. refl }

-- ---- the due tasks of a region that goes on ticking
pub due_more : (w : World) (q m : ℕ) → SoundWorld w → w.next_job ≤ m → due_below w q m ≡ due w q
unfolding due_below
due_more w q zero s l = let e : w.next_job ≡ 0 = omega arith in rw e refl
due_more w q (suc m) s l = elim (cases_eq w.next_job (suc m)) [
  | inl e ↦ rw e refl
  | inr e ↦ let k : w.next_job ≤ m = omega arith in let none : w.jobs m ≡ None = s.numbers m k in rw none (append-nil (due_below w q m) ∙ due_more w q m s k)
]

pub due_kept : (w v : World) (q : ℕ) → SoundWorld w → w.next_job ≤ v.next_job → Kept q w v → due v q ≡ due w q
due_kept w v q s l k = due_same q w v v.next_job k.taken ∙ due_more w q v.next_job s l
