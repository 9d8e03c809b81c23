-- Each event keeps the world sound.
use Rattle.std.proofs.Common.{◌≡◌, ℕ, ◌+◌, ◌<◌, refl, sym, ◌∙◌, ap, arith, true, inl, inr, List, [], ◌∷◌, length, not, ◌&&◌}
use Rattle.std.specs.Prelude.{nat_eq, nat_le, Option, Some, None}
use Rattle.std.proofs.lemmas.Bool.{cases_Bool, cases_eq, and_parts, true≢false}
use Rattle.std.specs.List.{AllByRecursion, list_all}
use Rattle.std.proofs.lemmas.Option.{same_Some}
use Rattle.fol_model.specs.declared.places.ChunkPos.{ChunkPos}
use Rattle.fol_model.specs.declared.regions.State.TheVariants.{Ready, Ticking}
use Rattle.fol_model.specs.Geometry.{is_chunk}
use Rattle.fol_model.specs.GridNumbers.{IsGrid}
use Rattle.fol_model.specs.Add.{is_full}
use Rattle.fol_model.specs.Counting.{count_below}
use Rattle.fol_laws.proofs.AddSections.{ticking_add}
use Rattle.fol_laws.proofs.SmallSteps.{empty_keeps}
use Rattle.fol_model.specs.Limits.{is_action, is_delay, fits, is_post, is_arrival, is_simple, may_post}
use Rattle.fol_model.specs.Deed.{Deed}
use Rattle.fol_model.specs.ActionStep.{Recorded, at_id}
use Rattle.fol_model.specs.FlatTick.{flat_tick}
use Rattle.fol_model.specs.World.{World, start, due}
use Rattle.fol_model.specs.Job.{Job, queued}
use Rattle.fol_model.specs.Holds.{loaded, unloaded, posted}
use Rattle.fol_model.specs.QueuedTask.{begun}
use Rattle.fol_model.specs.End.{dropped, ticked, put_back, accepted, all_accepted, released, run_down, ended}
use Rattle.fol_model.specs.Run.{after, Allowed}
use Rattle.fol_laws.proofs.SoundState.{SoundWorld}
use Rattle.fol_model.specs.declared.places.BlockPos.{BlockPos}
use Rattle.fol_model.specs.declared.openings.Opening.{Opening}
use Rattle.fol_model.specs.declared.tasks.Ran.{Ran}
use Rattle.fol_model.specs.declared.tasks.Wish.{Wish}
use Rattle.fol_model.specs.declared.actions.Action.{Action}
use Rattle.fol_model.specs.declared.actions.Action.TheVariants as action
use Rattle.fol_model.specs.declared.events.Event.{Event}
use Rattle.fol_model.specs.declared.events.Event.TheVariants.{Load, Unload, Post, PhaseOpen, Begin, End, PhaseClose, Finish, Stop}
use Rattle.fol_laws.proofs.FunctionsChanged.{at_here, at_other}
use Rattle.fol_laws.proofs.SoundSteps.{loaded_sound, unloaded_sound, posted_sound, begun_sound, dropped_sound, released_sound, Free, left_was}
use Rattle.fol_laws.proofs.WishLimits.{WishOk, asked_ok, due_ok}

loaded_keeps : (w : World) (c : ChunkPos) → SoundWorld w → is_chunk c ≡ true → SoundWorld (loaded w c)
unfolding loaded
loaded_keeps w c s l = elim (cases_Bool (is_full w.grid c)) [
  | inl f ↦ rw f s
  | inr f ↦ rw f (loaded_sound w.grid w.tickets w.jobs w.next_job s c l f)
]

unloaded_keeps : (w : World) (c : ChunkPos) → SoundWorld w → SoundWorld (unloaded w c)
unfolding unloaded
unloaded_keeps w c s = elim (cases_Bool (nat_eq (w.tickets c) 0)) [
  | inl f ↦ rw f s
  | inr f ↦ rw f (unloaded_sound w.grid w.tickets w.jobs w.next_job s c f)
]

pub posted_keeps : (w : World) (c : ChunkPos) (d : ℕ) (a : Action) → SoundWorld w → is_chunk c ≡ true → is_delay d ≡ true → is_action a ≡ true → fits c a ≡ true → SoundWorld (posted w c d a)
unfolding posted
posted_keeps w c d a s l dl act fit = elim (cases_Bool (is_full w.grid c)) [
  | inl f ↦ rw f s
  | inr f ↦ rw f (posted_sound w.grid w.tickets w.jobs w.next_job s c d a l dl act fit f)
]

begun_keeps : (w : World) (worker r : ℕ) → SoundWorld w → w.grid.state r ≡ Ready → SoundWorld (begun w worker r)
unfolding begun
begun_keeps w worker r s e = begun_sound w.grid w.tickets w.jobs w.next_job r s e

-- ---- the end of a tick: sound, r ticks, and no task is taken by r
pub record Ending (r : ℕ) (w : World) : Type 0 where
  pub sound : SoundWorld w
  pub ticks : w.grid.state r ≡ Ticking
  pub free : Free r w.jobs

posted_free : (w : World) (c : ChunkPos) (d : ℕ) (a : Action) (r : ℕ) → 0 < r → Free r w.jobs → Free r (at_id w.jobs w.next_job (Some (queued c d a)))
posted_free w c d a r p free n j h = elim (cases_eq n w.next_job) [
  | inl e ↦ let here : at_id w.jobs w.next_job (Some (queued c d a)) n ≡ Some (queued c d a) = rw e (at_here w.jobs w.next_job (Some (queued c d a))) in
      let same : queued c d a ≡ j = same_Some (queued c d a) j (sym here ∙ h) in λ z. let t : 0 ≡ j.taker = ap (λ (i : Job). i.taker) same in omega arith
  | inr e ↦ free n j (sym (at_other w.jobs w.next_job (Some (queued c d a)) n e) ∙ h)
]

pub posted_ending : (w : World) (c : ChunkPos) (d : ℕ) (a : Action) (r : ℕ) → Ending r w → is_chunk c ≡ true → is_delay d ≡ true → is_action a ≡ true → fits c a ≡ true → Ending r (posted w c d a)
unfolding posted
posted_ending w c d a r m l dl act fit = elim (cases_Bool (is_full w.grid c)) [
  | inl f ↦ rw f m
  | inr f ↦ rw f (record {
    sound = posted_sound w.grid w.tickets w.jobs w.next_job m.sound c d a l dl act fit f;
    ticks = ticking_add w.grid c m.sound.rules m.sound.grid l r m.ticks;
    free = posted_free w c d a r (m.sound.rules.given r (λ x. let t = m.ticks in cc)) m.free;
  })
]

put_back_ending : (w : World) (a : Action) (b : Option BlockPos) (r : ℕ) → Ending r w → Ending r (put_back w a b)
put_back_ending w (action.Set at id) b r m = m
put_back_ending w (action.Copy at to) b r m = m
put_back_ending w (action.Load c) b r m = m
put_back_ending w (action.Unload c) b r m = m
put_back_ending w (action.Post c d inner) b r m = m
put_back_ending w (action.Send id to) b r m = m
put_back_ending w (action.Arrive e) None r m = m
put_back_ending w (action.Arrive e) (Some b) r m = record { sound = m.sound; ticks = m.ticks; free = m.free }
put_back_ending w (action.Every p l inner) b r m = m

pub accepted_ending : (rec : Recorded) (w : World) (x : Wish) (r : ℕ) → Ending r w → WishOk rec x → Ending r (accepted w x)
unfolding accepted
accepted_ending rec w x r m ok = elim (cases_Bool (is_full w.grid x.chunk)) [
  | inl f ↦ rw f (put_back_ending w x.action x.back r m)
  | inr f ↦ rw f (posted_ending w x.chunk x.delay x.action r m ok.chunk ok.delay ok.action ok.fits)
]

pub all_accepted_ending : (rec : Recorded) (w : World) (xs : List Wish) (r : ℕ) → Ending r w → AllByRecursion (WishOk rec) xs → Ending r (all_accepted w xs)
all_accepted_ending rec w [] r m ok = m
all_accepted_ending rec w (x ∷ xs) r m ok = all_accepted_ending rec (accepted w x) xs r (accepted_ending rec w x r m ok.0) ok.1

released_keeps : (w : World) (r : ℕ) → Ending r w → SoundWorld (released w r)
unfolding released
released_keeps w r m = released_sound w.grid w.tickets w.jobs w.next_job r m.sound m.free m.ticks

dropped_ending : (w : World) (r : ℕ) → SoundWorld w → w.grid.state r ≡ Ticking → Ending r (dropped w r)
unfolding dropped
dropped_ending w r s e = record {
  sound = dropped_sound w.grid w.tickets w.jobs w.next_job r s;
  ticks = e;
  free = λ n j h. (left_was r (w.jobs n) j h).1;
}

pub run_down_ending : (w : World) (r : ℕ) (ran : List Ran) → SoundWorld w → w.grid.state r ≡ Ticking → Ending r (run_down w r ran)
run_down_ending w r ran s e = dropped_ending (record w { flat = (ticked w r ran).flat; tick = at_id w.tick r (w.tick r + 1) }) r s e

pub wishes_ok : (w : World) (r : ℕ) (ran : List Ran) → SoundWorld w → AllByRecursion (WishOk (w.recorded r)) (ticked w r ran).wishes
unfolding flat_tick
wishes_ok w r ran s = asked_ok (w.recorded r) w.flat (due w r) (due_ok w r w.next_job s.each)

ended_keeps : (w : World) (r : ℕ) (ran : List Ran) → SoundWorld w → w.grid.state r ≡ Ticking → SoundWorld (ended w r ran)
unfolding ended
ended_keeps w r ran s e = released_keeps _ r (all_accepted_ending (w.recorded r) (run_down w r ran) (ticked w r ran).wishes r (run_down_ending w r ran s e) (wishes_ok w r ran s))

-- ---- each event, and each run
simple_quiet : (d : Deed) → is_simple d ≡ true → not (is_arrival d.plain) ≡ true
simple_quiet d h = (and_parts (nat_le (length d.wraps) 7) (not (is_arrival d.plain)) (and_parts (list_all is_post d.wraps) (nat_le (length d.wraps) 7 && not (is_arrival d.plain)) h).1).1

pub may_fit : (c : ChunkPos) (a : Action) → may_post a ≡ true → fits c a ≡ true
may_fit c (action.Set at id) h = refl
may_fit c (action.Copy at to) h = refl
may_fit c (action.Load q) h = refl
may_fit c (action.Unload q) h = refl
may_fit c (action.Post q d inner) h = simple_quiet inner (and_parts (nat_le (length inner.wraps) 6) (is_simple inner) h).1
may_fit c (action.Send id to) h = refl
may_fit c (action.Arrive e) h = absurd (true≢false (sym h))
may_fit c (action.Every p l inner) h = simple_quiet inner h

pub after_keeps : (w : World) (e : Event) → SoundWorld w → Allowed w e → SoundWorld (after w e)
after_keeps w (Load caller c answer) s a = loaded_keeps w c s a.0
after_keeps w (Unload caller c answer) s a = unloaded_keeps w c s
after_keeps w (Post caller c d x answer) s a = posted_keeps w c d x s a.0 a.1 a.2 (may_fit c x a.3)
after_keeps w (PhaseOpen n) s a = s
after_keeps w (Begin worker r) s a = begun_keeps w worker r s a.0
after_keeps w (End worker r tick ran accepts) s a = ended_keeps w r ran s a.0
after_keeps w PhaseClose s a = s
after_keeps w Finish s a = s
after_keeps w (Stop caller) s a = s

pub start_sound : (o : Opening) → IsGrid o.grid → SoundWorld (start o)
unfolding count_below
start_sound o ok = record {
  rules = empty_keeps o.grid;
  grid = ok;
  each = λ n j e. absurd (cc);
  holds = λ q. omega arith;
  numbers = λ n h. refl;
}
