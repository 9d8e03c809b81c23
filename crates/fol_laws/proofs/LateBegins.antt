-- A Begin of a region that nothing touched meanwhile.
use Rattle.std.proofs.Common.{◌≡◌, ℕ, ◌-◌, ◌≤◌, ◌<◌, refl, sym, ◌∙◌, ap, arith, Bool, true, false, inl, inr, List, [], ◌∷◌, ◌++◌, ◌&&◌}
use Rattle.std.specs.Prelude.{◌≢◌, nat_eq, nat_le, if◌then◌else◌, Option, Some, None}
use Rattle.std.proofs.lemmas.Bool.{cases_Bool, and_parts, true≢false, eqb-false, ne_eqb, or_parts}
use Rattle.fol_model.specs.declared.places.ChunkPos.{ChunkPos}
use Rattle.fol_model.specs.declared.regions.State.TheVariants.{Ready, Ticking}
use Rattle.fol_model.specs.GridNumbers.{IsGrid}
use Rattle.fol_model.specs.GridState.{GridState, is_loaded}
use Rattle.fol_model.specs.Geometry.{chunk_of}
use Rattle.fol_model.specs.ActionStep.{Standing, Flat, Recorded}
use Rattle.fol_model.specs.World.{World, start, due}
use Rattle.fol_model.specs.Job.{Job, taken_task}
use Rattle.fol_model.specs.Holds.{loaded, unloaded, posted}
use Rattle.fol_model.specs.QueuedTask.{begun, counted_down, queued_in}
use Rattle.fol_model.specs.End.{ticked, run_down}
use Rattle.fol_model.specs.Run.{after, after_all, Allowed, RunFrom}
use Rattle.fol_laws.proofs.SoundState.{SoundWorld}
use Rattle.fol_laws.specs.Contents.{seen, SameOn}
use Rattle.fol_laws.specs.LateBegin.{ground, touches, wishes_touch, is_stop, NoneTouches, SameBegin}
use Rattle.fol_model.specs.declared.openings.Opening.{Opening}
use Rattle.fol_model.specs.declared.tasks.Task.{Task}
use Rattle.fol_model.specs.declared.events.Event.{Event}
use Rattle.fol_model.specs.declared.events.Event.TheVariants.{Load, Unload, Post, PhaseOpen, Begin, End, PhaseClose, Finish, Stop}
use Rattle.fol_model.specs.declared.events.Entry.{Entry}
use Rattle.fol_laws.proofs.FunctionsChanged.{at_here}
use Rattle.fol_laws.proofs.TaskFates.{fated, due_more}
use Rattle.fol_laws.proofs.TickingKept.{due_same}
use Rattle.fol_laws.proofs.SoundRuns.{after_keeps}
use Rattle.fol_laws.proofs.UnseenEnds.{ended_apart}
use Rattle.fol_laws.proofs.OwnedRuns.{same_self, same_then, flat_same, flat_loaded, flat_unloaded, flat_begun, total_most}
use Rattle.fol_laws.proofs.UnseenTicks.{flat_posted}
use Rattle.fol_laws.proofs.Resting.{Resting, rests, rests_same, rest_self, rest_then}
use Rattle.fol_laws.proofs.RestingHolds.{rest_loaded, rest_unloaded, rest_posted, rest_begun}
use Rattle.fol_laws.proofs.RestingEnds.{rest_ended, recorded_off}
use Rattle.fol_laws.proofs.WholeRuns.{Good, good_after, good_start}

-- a Begin of r is allowed
pub record MayBegin (r : ℕ) (w : World) : Type 0 where
  pub ready : w.grid.state r ≡ Ready
  pub owes : 1 ≤ w.owed r
  pub free : w.stopped ≡ false

module _ (o : Opening) (r : ℕ) where
  -- a region that is Ready and owes and owes does so in a phase
  open_phase : (w : World) → Good o w → MayBegin r w → w.in_phase ≡ false → ⊥
  open_phase w g m p = let ready = m.ready in let z = g.owing p r (λ d. cc) in let y = m.owes in omega arith

  rest_after : (w : World) (e : Event) → Good o w → Allowed w e → MayBegin r w → touches w r e ≡ false → is_stop e ≡ false → Resting r w (after w e)
  rest_after w (Load caller c answer) g a m n k = rest_loaded r w g.sound m.ready c a.0 n
  rest_after w (Unload caller c answer) g a m n k = rest_unloaded r w g.sound m.ready c n
  rest_after w (Post caller c d x answer) g a m n k = rest_posted r w g.sound m.ready c d x a.0 n
  rest_after w (PhaseOpen p) g a m n k = absurd (open_phase w g m a.0)
  rest_after w (Begin worker q) g a m n k = rest_begun r w g.sound m.ready worker q (eqb-false q r n)
  rest_after w (End worker q tick ran accepts) g a m n k =
      rest_ended r w q ran g.sound g.recorded m.ready a.0 (or_parts (nat_eq q r) (wishes_touch (run_down w q ran) (ticked w q ran).wishes r) n).1
  rest_after w PhaseClose g a m n k = let ready = m.ready in let x = (a.2 r (λ d. cc)).1 in let y = m.owes in absurd (omega arith)
  rest_after w Finish g a m n k = absurd (open_phase w g m a.0)
  rest_after w (Stop caller) g a m n k = absurd (true≢false k)

  far_flat : (w : World) (e : Event) → Good o w → Allowed w e → MayBegin r w → SameOn (ground w.grid r) w.flat (after w e).flat
  far_flat w (Load caller c answer) g a m = flat_same _ w.flat (loaded w c).flat (flat_loaded w c)
  far_flat w (Unload caller c answer) g a m = flat_same _ w.flat (unloaded w c).flat (flat_unloaded w c)
  far_flat w (Post caller c d x answer) g a m = flat_same _ w.flat (posted w c d x).flat (flat_posted w c d x)
  far_flat w (PhaseOpen k) g a m = same_self _ w.flat
  far_flat w (Begin worker q) g a m = flat_same _ w.flat (begun w worker q).flat (flat_begun w worker q)
  far_flat w (End worker q tick ran accepts) g a m = ended_apart w g.sound g.recorded q a.0 (ground w.grid r) (recorded_off r q w g.sound g.recorded m.ready a.0) ran (total_most o w g.place)
  far_flat w PhaseClose g a m = same_self _ w.flat
  far_flat w Finish g a m = same_self _ w.flat
  far_flat w (Stop caller) g a m = same_self _ w.flat

  -- ---- along entries that do not touch r
  pub record Unmoved (w v : World) : Type 0 where
    pub rest : Resting r w v
    pub flat : SameOn (ground w.grid r) w.flat v.flat
    pub may : MayBegin r v
    pub next : w.next_job ≤ v.next_job
    pub good : Good o v

  may_after : (w v : World) → MayBegin r w → Resting r w v → MayBegin r v
  may_after w v m k = record { ready = k.ready; owes = (let x = k.owed in let y = m.owes in omega arith); free = k.stopped ∙ m.free }

  pub unmoved_along : (w : World) (es rest : List Entry) → Good o w → MayBegin r w → RunFrom w (es ++ rest) → NoneTouches w r es → Unmoved w (after_all w es)
  unmoved_along w [] rest g m run n = record { rest = rest_self r w m.ready; flat = same_self _ w.flat; may = m; next = omega arith; good = g }
  unmoved_along w (e ∷ es) rest g m run n =
      let u = after w e.event in
      let k = rest_after w e.event g run.1 m n.0 n.1 in
      let f = far_flat w e.event g run.1 m in
      let i = unmoved_along u es rest (good_after o w e.event g run.1) (may_after w u m k) run.2 n.2 in
      let h : SameOn (ground w.grid r) u.flat (after_all u es).flat = rw k.same_ground at i.flat in
      record { rest = rest_then r w u _ k i.rest; flat = same_then (ground w.grid r) w.flat u.flat _ f h; may = i.may; next = omega (arith, (fated w e.event).next, i.next); good = i.good }

-- ---- the two Begins
and_false : (a b : Bool) → b ≡ false → (a && b) ≡ false
and_false true b h = h
and_false false b h = refl

seen_sub : (sub big : Recorded) (x : Option Standing) → ((c : ChunkPos) → sub c ≡ true → big c ≡ true) → seen sub x ≡ seen sub (seen big x)
seen_sub sub big None h = refl
seen_sub sub big (Some b) h = elim (cases_Bool (big (chunk_of b.at))) [
  | inl e ↦ rw e refl
  | inr e ↦ elim (cases_Bool (sub (chunk_of b.at))) [ inl k ↦ absurd (true≢false (sym (h (chunk_of b.at) k) ∙ e)) | inr k ↦ rw (e, k) refl ]
]

same_sub : (sub big : Recorded) (f g : Flat) → ((c : ChunkPos) → sub c ≡ true → big c ≡ true) → SameOn big f g → SameOn sub f g
same_sub sub big f g h s = record {
  blocks = λ b k. s.blocks b (h (chunk_of b) k);
  standing = λ id. seen_sub sub big (f.standing id) h ∙ ap (seen sub) (s.standing id) ∙ sym (seen_sub sub big (g.standing id) h);
}

-- what a Begin of r makes of a task on its chunks, as a due task
down_rest : ℕ → ℕ → Option Job → List Task
down_rest r n None = []
down_rest r n (Some j) = taken_task r n (if nat_eq j.taker 0 then Some (record j { rest = j.rest - 1; taker = if nat_le j.rest 1 then r else 0 }) else Some j)

down_is : (g : GridState) (r n : ℕ) (x : Option Job) → ((j : Job) → x ≡ Some j → j.taker ≢ r) → taken_task r n (counted_down g r x) ≡ down_rest r n (rests g r x)
unfolding down_rest
down_is g r n None h = refl
down_is g r n (Some j) h = elim (cases_Bool (ground g r j.chunk)) [
  | inl e ↦ elim (cases_Bool (nat_eq j.taker 0)) [ inl k ↦ rw (e, k) refl | inr k ↦ rw (e, k) refl ]
  | inr e ↦ let z : nat_eq j.taker r ≡ false = ne_eqb _ _ (h j refl) in elim (cases_Bool (nat_eq j.taker 0)) [ inl k ↦ rw (e, k, z) refl | inr k ↦ rw (e, k, z) refl ]
]

-- what a Begin of r leaves queued of a task on its chunks
down_queue : Option Job → Option Job
down_queue None = None
down_queue (Some j) = if nat_eq j.taker 0 then (if nat_le j.rest 1 then None else Some (record j { rest = j.rest - 1; taker = 0 })) else None

queue_is : (g : GridState) (r : ℕ) (x : Option Job) → 0 < r → queued_in g r (counted_down g r x) ≡ down_queue (rests g r x)
unfolding down_queue queued_in
queue_is g r None some = refl
queue_is g r (Some j) some = let z : nat_eq r 0 ≡ false = ne_eqb _ _ (λ e. omega arith) in elim (cases_Bool (ground g r j.chunk)) [
  | inl e ↦ elim (cases_Bool (nat_eq j.taker 0)) [
    | inl k ↦ elim (cases_Bool (nat_le j.rest 1)) [ inl l ↦ rw (e, k, l, z) refl | inr l ↦ rw (e, k, l, e) refl ]
    | inr k ↦ rw (e, k, k) refl
  ]
  | inr e ↦ elim (cases_Bool (nat_eq j.taker 0)) [ inl k ↦ rw (e, k, e, k) refl | inr k ↦ rw (e, k, k) refl ]
]

module _ (o : Opening) (r worker : ℕ) (w v : World) (g : Good o w) (m : MayBegin r w) (u : Unmoved o r w v) where
  begun_recorded : (x : World) → (begun x worker r).recorded r ≡ (λ c. is_loaded x.grid c && ground x.grid r c)
  unfolding begun
  begun_recorded x = at_here x.recorded r (λ c. is_loaded x.grid c && ground x.grid r c)

  recorded_at : (c : ChunkPos) → (is_loaded v.grid c && ground v.grid r c) ≡ (is_loaded w.grid c && ground w.grid r c)
  recorded_at c = let a : ground v.grid r c ≡ ground w.grid r c = ap (λ (f : Recorded). f c) u.rest.same_ground in
      elim (cases_Bool (ground w.grid r c)) [
        | inl e ↦ let h = u.rest.loaded c e in ap (λ (b : Bool). is_loaded v.grid c && b) a ∙ ap (λ (b : Bool). b && ground w.grid r c) h
        | inr e ↦ let d = a ∙ e in and_false (is_loaded v.grid c) (ground v.grid r c) d ∙ sym (and_false (is_loaded w.grid c) (ground w.grid r c) e)
      ]

  same_recorded : (begun v worker r).recorded r ≡ (begun w worker r).recorded r
  same_recorded = begun_recorded v ∙ (λ i c. recorded_at c i) ∙ sym (begun_recorded w)

  not_taken : (x : World) → SoundWorld x → x.grid.state r ≡ Ready → (n : ℕ) (j : Job) → x.jobs n ≡ Some j → j.taker ≢ r
  not_taken x s ready n j e t =
      let p = s.rules.given r (λ d. cc) in
      let k : x.grid.state j.taker ≡ Ticking = (s.each n j e).takes (λ z. omega arith) in
      let l : x.grid.state j.taker ≡ x.grid.state r = ap x.grid.state t in absurd (cc)

  rests_at : (n : ℕ) → rests v.grid r (v.jobs n) ≡ rests w.grid r (w.jobs n)
  rests_at n = rests_same w.grid v.grid r (v.jobs n) u.rest.same_ground ∙ u.rest.jobs n

  begun_jobs : (x : World) (n : ℕ) → (begun x worker r).jobs n ≡ counted_down x.grid r (x.jobs n)
  unfolding begun
  begun_jobs x n = refl

  due_at : (n : ℕ) → taken_task r n ((begun v worker r).jobs n) ≡ taken_task r n ((begun w worker r).jobs n)
  due_at n =
      ap (taken_task r n) (begun_jobs v n) ∙ down_is v.grid r n (v.jobs n) (not_taken v u.good.sound u.may.ready n)
      ∙ ap (down_rest r n) (rests_at n)
      ∙ sym (ap (taken_task r n) (begun_jobs w n) ∙ down_is w.grid r n (w.jobs n) (not_taken w g.sound m.ready n))

  queue_at : (n : ℕ) → queued_in v.grid r ((begun v worker r).jobs n) ≡ queued_in w.grid r ((begun w worker r).jobs n)
  queue_at n =
      let some : 0 < r = g.sound.rules.given r (λ d. let e = m.ready in cc) in
      ap (queued_in v.grid r) (begun_jobs v n) ∙ queue_is v.grid r (v.jobs n) some
      ∙ ap down_queue (rests_at n)
      ∙ sym (ap (queued_in w.grid r) (begun_jobs w n) ∙ queue_is w.grid r (w.jobs n) some)

  begun_next : (x : World) → (begun x worker r).next_job ≡ x.next_job
  unfolding begun
  begun_next x = refl

  begun_sound : SoundWorld (begun w worker r)
  begun_sound = after_keeps w (Begin worker r) g.sound (m.ready, m.owes, m.free)

  same_due : due (begun v worker r) r ≡ due (begun w worker r) r
  same_due = due_same r (begun w worker r) (begun v worker r) (begun v worker r).next_job due_at
      ∙ due_more (begun w worker r) r (begun v worker r).next_job begun_sound (let a = begun_next v in let b = begun_next w in let c = u.next in omega arith)

  recorded_in : (c : ChunkPos) → (begun w worker r).recorded r c ≡ true → ground w.grid r c ≡ true
  recorded_in c h = (and_parts (is_loaded w.grid c) (ground w.grid r c) (sym (ap (λ (f : Recorded). f c) (begun_recorded w)) ∙ h)).1

  same_flat : SameOn ((begun w worker r).recorded r) (begun w worker r).flat (begun v worker r).flat
  same_flat = let s = same_sub ((begun w worker r).recorded r) (ground w.grid r) w.flat v.flat recorded_in u.flat in
      rw (flat_begun w worker r, flat_begun v worker r) s

  same_numbers : ((begun v worker r).tick r ≡ (begun w worker r).tick r) × ((begun v worker r).owed r ≡ (begun w worker r).owed r)
  unfolding begun
  same_numbers = (u.rest.tick, at_here v.owed r (v.owed r - 1) ∙ ap (λ (k : ℕ). k - 1) u.rest.owed ∙ sym (at_here w.owed r (w.owed r - 1)))

  pub same_begin : SameBegin r worker w v
  same_begin = record { sections = u.rest.sections; recorded = same_recorded; due = same_due; flat = same_flat; tick = same_numbers.0; owed = same_numbers.1; queued = queue_at }

-- along a run from the opening
late_from : (o : Opening) (w : World) (es ms rest : List Entry) (r worker : ℕ) → Good o w → RunFrom w (es ++ (ms ++ rest)) → Allowed (after_all w es) (Begin worker r) → NoneTouches (after_all w es) r ms
    → Allowed (after_all (after_all w es) ms) (Begin worker r) × SameBegin r worker (after_all w es) (after_all (after_all w es) ms)
late_from o w [] ms rest r worker g run a n =
    let m : MayBegin r w = record { ready = a.0; owes = a.1; free = a.2 } in
    let u = unmoved_along o r w ms rest g m run n in
    ((u.may.ready, u.may.owes, u.may.free), same_begin o r worker w (after_all w ms) g m u)
late_from o w (e ∷ es) ms rest r worker g run a n = late_from o (after w e.event) es ms rest r worker (good_after o w e.event g run.1) run.2 a n

pub late_begin : (o : Opening) (es ms rest : List Entry) (r worker : ℕ) → IsGrid o.grid → RunFrom (start o) (es ++ (ms ++ rest)) → Allowed (after_all (start o) es) (Begin worker r) → NoneTouches (after_all (start o) es) r ms
    → Allowed (after_all (after_all (start o) es) ms) (Begin worker r) × SameBegin r worker (after_all (start o) es) (after_all (after_all (start o) es) ms)
late_begin o es ms rest r worker ok run a n = late_from o (start o) es ms rest r worker (good_start o ok) run a n
