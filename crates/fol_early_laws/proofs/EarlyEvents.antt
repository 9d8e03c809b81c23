-- Every event that touches no region which has begun early.
use Rattle.std.proofs.Common.{◌≡◌, ◌≢◌, ℕ, ◌+◌, ◌-◌, ◌≤◌, refl, sym, ◌∙◌, ap, arith, Bool, true, false, inl, inr, ◌&&◌, List, []}
use Rattle.std.specs.Prelude.{nat_eq, Option, Some, None}
use Rattle.std.proofs.Math.Path.{fun_ext}
use Rattle.std.proofs.lemmas.List.{append-nil}
use Rattle.std.proofs.lemmas.Bool.{cases_eq, eq-eqb, eqb-false, ne_eqb, false_from_ne_true, or_parts, true≢false}
use Rattle.fol_model.specs.declared.events.Event.{Event}
use Rattle.fol_model.specs.declared.events.Event.TheVariants.{Load, Unload, Post, PhaseOpen, Begin, End, PhaseClose, Finish, Stop}
use Rattle.fol_model.specs.declared.openings.Opening.{Opening}
use Rattle.fol_model.specs.declared.regions.State.TheVariants.{Ticking}
use Rattle.fol_model.specs.declared.tasks.Ran.{Ran}
use Rattle.fol_model.specs.Begin.{begin}
use Rattle.fol_model.specs.ActionStep.{Recorded, at_id}
use Rattle.fol_model.specs.End.{answers, ended, run_down, ticked}
use Rattle.fol_model.specs.FlatTick.{FlatEnd}
use Rattle.fol_model.specs.declared.places.ChunkPos.{ChunkPos}
use Rattle.fol_model.specs.Geometry.{section_of}
use Rattle.fol_model.specs.Holds.{loaded, posted, posting, unloaded}
use Rattle.fol_model.specs.Job.{Job}
use Rattle.fol_model.specs.QueuedTask.{begun}
use Rattle.fol_model.specs.Run.{after, Allowed, load_answer, unload_answer, world}
use Rattle.fol_model.specs.World.{World, due}
use Rattle.fol_laws.specs.LateBegin.{ground, is_stop, wishes_touch}
use Rattle.fol_laws.proofs.FunctionsChanged.{at_here, at_other}
use Rattle.fol_laws.proofs.Resting.{Resting, rest_self, rests as resting_job}
use Rattle.fol_laws.proofs.RestingEnds.{rest_ended}
use Rattle.fol_laws.proofs.RestingHolds.{rest_begun, rest_loaded, rest_posted, rest_unloaded}
use Rattle.fol_laws.proofs.WholeRuns.{Good, good_run}
use Rattle.fol_early_laws.specs.EarlyBegins.{ahead_of, BeginComesEarly, down_all, EarlyBeginIsMet, EventsMeetEarlyBegins, IsAhead, own_event, SparesAll, unhanded}
use Rattle.fol_early_laws.proofs.EarlyEnds.{accepts_ahead, accepts_unhanded, due_ahead, due_unhanded, ended_ahead, ended_unhanded, ran_unhanded, ticked_ahead, ticked_unhanded}
use Rattle.fol_early_laws.proofs.EarlyHolds.{load_answer_ahead, loaded_ahead, loaded_unhanded, posted_ahead, posted_unhanded, posting_ahead, unload_answer_ahead, unloaded_ahead, unloaded_unhanded}
use Rattle.fol_early_laws.proofs.EarlyTasks.{owner_all}
use Rattle.fol_early_laws.proofs.EarlyWorlds.{ahead_less, ahead_more, unhanded_ahead, unhanded_begun}

-- ---- fields that both worlds share
module _ (p : ℕ → Bool) (w x : World) (a : IsAhead p w x) where
  pub stopped_same : x.stopped ≡ w.stopped
  unfolding ahead_of
  stopped_same = ap (λ (v : World). v.stopped) a.same

  pub finished_same : x.finished ≡ w.finished
  unfolding ahead_of
  finished_same = ap (λ (v : World). v.finished) a.same

  pub phase_same : x.in_phase ≡ w.in_phase
  unfolding ahead_of
  phase_same = ap (λ (v : World). v.in_phase) a.same

  pub sum_same : x.sum ≡ w.sum
  unfolding ahead_of
  sum_same = ap (λ (v : World). v.sum) a.same

  pub tick_same : (r : ℕ) → x.tick r ≡ w.tick r
  unfolding ahead_of
  tick_same r = ap (λ (v : World). v.tick r) a.same

  pub state_off : (r : ℕ) → p r ≡ false → x.grid.state r ≡ w.grid.state r
  unfolding ahead_of
  state_off r n = ap (λ (v : World). v.grid.state r) a.same ∙ rw n refl

  pub owed_off : (r : ℕ) → p r ≡ false → x.owed r ≡ w.owed r
  unfolding ahead_of
  owed_off r n = ap (λ (v : World). v.owed r) a.same ∙ rw n refl

-- ---- one more early Begin
pub comes_early : BeginComesEarly
comes_early w x p worker r a n ok = (
  (state_off p w x a r n ∙ ok.0, (let e = owed_off p w x a r n in let b = ok.1 in omega arith), stopped_same p w x a ∙ ok.2),
  record {
    ready = λ q k. elim (cases_eq q r) [ inl e ↦ ap w.grid.state e ∙ ok.0 | inr d ↦ a.ready q (sym (at_other p r true q d) ∙ k) ];
    owes = λ q k. elim (cases_eq q r) [ inl e ↦ (let o : w.owed q ≡ w.owed r = ap w.owed e in let b = ok.1 in omega arith) | inr d ↦ a.owes q (sym (at_other p r true q d) ∙ k) ];
    same = unhanded_begun x worker r ∙ ap (λ v. unhanded (begun v 0 r)) a.same ∙ ap unhanded (ahead_more w p r n) ∙ unhanded_ahead w (at_id p r true);
  },
)

-- ---- an early Begin is recorded
state_kept : (w : World) (worker r q : ℕ) → q ≢ r → (begun w worker r).grid.state q ≡ w.grid.state q
unfolding begun begin
state_kept w worker r q d = let e : nat_eq r q ≡ false = ne_eqb _ _ (λ y. d (sym y)) in rw e refl

owed_kept : (w : World) (worker r q : ℕ) → q ≢ r → (begun w worker r).owed q ≡ w.owed q
unfolding begun
owed_kept w worker r q d = at_other w.owed r (w.owed r - 1) q d

pub is_met : EarlyBeginIsMet
is_met w x p worker r a n = record {
  ready = λ q k. elim (cases_eq q r) [
    | inl e ↦ absurd (true≢false (sym k ∙ ap (at_id p r false) e ∙ at_here p r false))
    | inr d ↦ state_kept w worker r q d ∙ a.ready q (sym (at_other p r false q d) ∙ k)
  ];
  owes = λ q k. elim (cases_eq q r) [
    | inl e ↦ absurd (true≢false (sym k ∙ ap (at_id p r false) e ∙ at_here p r false))
    | inr d ↦ (let o = owed_kept w worker r q d in let b = a.owes q (sym (at_other p r false q d) ∙ k) in omega arith)
  ];
  same = a.same ∙ sym (ahead_less w p worker r n);
}

-- ---- an event
and_false : (b : Bool) → (b && false) ≡ false
and_false true = refl
and_false false = refl

down_none : (v : World) (j : Option Job) → down_all v.grid (λ r. false) j ≡ j
down_none v None = refl
down_none v (Some j) = let b = and_false (nat_eq j.taker 0) in rw b refl

-- where no region has begun early
pub none_ahead : (v : World) → ahead_of v (λ r. false) ≡ unhanded v
unfolding ahead_of
none_ahead v = λ i. record (unhanded v) { jobs = λ n. down_none v (v.jobs n) i }

-- a step that leaves all alone that the early Begins change
finished_ahead : (w : World) (p : ℕ → Bool) → record (ahead_of w p) { finished = true } ≡ ahead_of (record w { finished = true }) p
unfolding ahead_of
finished_ahead w p = refl

stopped_ahead : (w : World) (p : ℕ → Bool) → record (ahead_of w p) { stopped = true } ≡ ahead_of (record w { stopped = true }) p
unfolding ahead_of
stopped_ahead w p = refl

back_again : (p : ℕ → Bool) (q : ℕ) → p q ≡ false → at_id (at_id p q true) q false ≡ p
back_again p q n = fun_ext (λ r. elim (cases_eq r q) [
  | inl e ↦ ap (at_id (at_id p q true) q false) e ∙ at_here (at_id p q true) q false ∙ sym n ∙ ap p (sym e)
  | inr d ↦ at_other (at_id p q true) q false r d ∙ at_other p q true r d
])

module _ (o : Opening) (w x : World) (p : ℕ → Bool) (g : Good o w) (a : IsAhead p w x) where
  -- a step that rests the marked regions, and is the same in both worlds
  rested : (v y : World) → ((r : ℕ) → p r ≡ true → Resting r w v) → unhanded y ≡ ahead_of v p → IsAhead p v y
  rested v y rest e = record {
    ready = λ r k. (rest r k).ready;
    owes = λ r k. (let b = (rest r k).owed in let c = a.owes r k in omega arith);
    same = e;
  }

  -- outside a phase, and where one may be closed, no region is marked
  none_marked : ((r : ℕ) → p r ≡ true → ⊥) → p ≡ (λ r. false)
  none_marked h = fun_ext (λ r. false_from_ne_true (p r) (h r))

  in_phase : (r : ℕ) → p r ≡ true → w.in_phase ≡ false → ⊥
  in_phase r k e = let h = a.ready r k in let z = g.owing e r (λ d. cc) in let y = a.owes r k in omega arith

  unmarked : ((r : ℕ) → p r ≡ true → ⊥) → (v y : World) → unhanded y ≡ unhanded v → IsAhead p v y
  unmarked h v y e = record {
    ready = λ r k. absurd (h r k);
    owes = λ r k. absurd (h r k);
    same = e ∙ sym (ap (ahead_of v) (none_marked h) ∙ none_ahead v);
  }

  plain : ((r : ℕ) → p r ≡ true → ⊥) → unhanded x ≡ unhanded w
  plain h = a.same ∙ ap (ahead_of w) (none_marked h) ∙ none_ahead w

  pub met : (e : Event) → Allowed w e → SparesAll w p e → Allowed x (own_event x e) × IsAhead p (after w e) (after x (own_event x e))
  met (Load caller c answer) ok spares = (
    (ok.0, ok.1 ∙ sym (ap (λ v. load_answer v c) a.same ∙ load_answer_ahead w p c)),
    rested (after w (Load caller c answer)) _ (λ r k. rest_loaded r w g.sound (a.ready r k) c ok.0 (spares r k))
        (sym (loaded_unhanded x c) ∙ ap (λ v. loaded v c) a.same ∙ loaded_ahead w p c g.sound ok.0 a.ready spares),
  )
  met (Unload caller c answer) ok spares = (
    (ok.0, ok.1 ∙ sym (ap (λ v. unload_answer v c) a.same ∙ unload_answer_ahead w p c)),
    rested (after w (Unload caller c answer)) _ (λ r k. rest_unloaded r w g.sound (a.ready r k) c (spares r k))
        (sym (unloaded_unhanded x c) ∙ ap (λ v. unloaded v c) a.same ∙ unloaded_ahead w p c g.sound ok.0 a.ready spares),
  )
  met (Post caller c d action answer) ok spares = (
    (ok.0, ok.1, ok.2, ok.3, ok.4 ∙ sym (ap (λ v. posting v c) a.same ∙ posting_ahead w p c)),
    rested (after w (Post caller c d action answer)) _ (λ r k. rest_posted r w g.sound (a.ready r k) c d action ok.0 (spares r k))
        (sym (posted_unhanded x c d action) ∙ ap (λ v. posted v c d action) a.same ∙ posted_ahead w p c g.sound ok.0 a.ready d action spares),
  )
  met (PhaseOpen n) ok spares = let none : (r : ℕ) → p r ≡ true → ⊥ = λ r k. in_phase r k ok.0 in (
    (phase_same p w x a ∙ ok.0, stopped_same p w x a ∙ ok.1, ok.2, (let e = sum_same p w x a in let b = ok.3 in omega arith)),
    unmarked none (after w (PhaseOpen n)) (after x (PhaseOpen n)) (ap (λ (v : World). record v { in_phase = true; sum = v.sum + n; owed = λ r. n }) (plain none)),
  )
  met (Begin worker q) ok spares =
      let off : p q ≡ false = false_from_ne_true (p q) (λ k. true≢false (sym (eq-eqb q q refl) ∙ spares q k)) in (
        (state_off p w x a q off ∙ ok.0, (let e = owed_off p w x a q off in let b = ok.1 in omega arith), stopped_same p w x a ∙ ok.2),
        rested (begun w worker q) (begun x worker q) (λ r k. rest_begun r w g.sound (a.ready r k) worker q (eqb-false q r (spares r k)))
            (unhanded_begun x worker q ∙ ap (λ v. unhanded (begun v 0 q)) a.same ∙ ap unhanded (ahead_more w p q off) ∙ unhanded_ahead w (at_id p q true)
            ∙ sym (ahead_less w (at_id p q true) worker q (at_here p q true)) ∙ ap (ahead_of (begun w worker q)) (back_again p q off)),
      )
  met (End worker q tick ran accepts) ok spares =
      let off : p q ≡ false = false_from_ne_true (p q) (λ k. let h = a.ready q k in let t = ok.0 in cc) in
      let calm : (r : ℕ) → p r ≡ true → wishes_touch (run_down w q ran) (ticked w q ran).wishes r ≡ false = λ r k. (or_parts (nat_eq q r) (wishes_touch (run_down w q ran) (ticked w q ran).wishes r) (spares r k)).1 in (
        (
          state_off p w x a q off ∙ ok.0,
          refl,
          ok.2 ∙ ap (λ n. n + 1) (sym (tick_same p w x a q)),
          ok.3 ∙ sym (sym (ran_unhanded x q ran) ∙ ap (λ v. (ticked v q ran).ran) a.same ∙ ap (λ (t : FlatEnd). t.ran) (ticked_ahead w p q g.sound g.recorded a.ready ok.0 ran)),
          ok.4 ∙ sym (sym (accepts_unhanded x q ran) ∙ ap (λ v. answers (run_down v q ran) (ticked v q ran).wishes) a.same ∙ accepts_ahead w p q g.sound g.recorded a.ready ok.0 ran calm),
        ),
        rested (after w (End worker q tick ran accepts)) (after x (End (x.worker q) q tick ran accepts)) (λ r k. rest_ended r w q ran g.sound g.recorded (a.ready r k) ok.0 (calm r k))
            (sym (ended_unhanded x q ran) ∙ ap (λ v. ended v q ran) a.same ∙ ended_ahead w p q g.sound g.recorded a.ready ok.0 ran calm),
      )
  met PhaseClose ok spares = let none : (r : ℕ) → p r ≡ true → ⊥ = λ r k. (let h = a.ready r k in let z = (ok.2 r (λ d. cc)).1 in let y = a.owes r k in omega arith) in (
    (
      phase_same p w x a ∙ ok.0,
      stopped_same p w x a ∙ ok.1,
      λ r l.
          let n : p r ≡ false = false_from_ne_true (p r) (none r) in
          let s = state_off p w x a r n in let b = ok.2 r (λ d. l (s ∙ d)) in (s ∙ b.0, owed_off p w x a r n ∙ b.1),
    ),
    unmarked none (after w PhaseClose) (after x PhaseClose) (ap (λ (v : World). record v { in_phase = false }) (plain none)),
  )
  met Finish ok spares = (
    (phase_same p w x a ∙ ok.0, stopped_same p w x a ∙ ok.1),
    record { ready = a.ready; owes = a.owes; same = ap (λ (v : World). record v { finished = true }) a.same ∙ finished_ahead w p },
  )
  met (Stop caller) ok spares = (
    stopped_same p w x a ∙ ok,
    record { ready = a.ready; owes = a.owes; same = ap (λ (v : World). record v { stopped = true }) a.same ∙ stopped_ahead w p },
  )

  -- ---- chunks of the marked regions
  -- what an event leaves to a marked region, but for a Stop, which leaves all
  rests : (e : Event) → Allowed w e → SparesAll w p e → is_stop e ≡ false → (r : ℕ) → p r ≡ true → Resting r w (after w e)
  rests (Load caller c answer) ok spares n r k = rest_loaded r w g.sound (a.ready r k) c ok.0 (spares r k)
  rests (Unload caller c answer) ok spares n r k = rest_unloaded r w g.sound (a.ready r k) c (spares r k)
  rests (Post caller c d action answer) ok spares n r k = rest_posted r w g.sound (a.ready r k) c d action ok.0 (spares r k)
  rests (PhaseOpen m) ok spares n r k = absurd (in_phase r k ok.0)
  rests (Begin worker q) ok spares n r k = rest_begun r w g.sound (a.ready r k) worker q (eqb-false q r (spares r k))
  rests (End worker q tick ran accepts) ok spares n r k = rest_ended r w q ran g.sound g.recorded (a.ready r k) ok.0 ((or_parts (nat_eq q r) (wishes_touch (run_down w q ran) (ticked w q ran).wishes r) (spares r k)).1)
  rests PhaseClose ok spares n r k = let h = a.ready r k in let z = (ok.2 r (λ d. cc)).1 in let y = a.owes r k in absurd (omega arith)
  rests Finish ok spares n r k = absurd (in_phase r k ok.0)
  rests (Stop caller) ok spares n r k = absurd (true≢false n)

  -- a chunk is of a marked region after the event where it was before
  pub chunks_kept : (e : Event) → Allowed w e → SparesAll w p e → (c : ChunkPos) → p (w.grid.owner (section_of w.grid.grid c)) ≡ p ((after w e).grid.owner (section_of (after w e).grid.grid c))
  chunks_kept (Stop caller) ok spares c = refl
  chunks_kept (Load caller d answer) ok spares c = owner_all w _ p (rests (Load caller d answer) ok spares refl) c
  chunks_kept (Unload caller d answer) ok spares c = owner_all w _ p (rests (Unload caller d answer) ok spares refl) c
  chunks_kept (Post caller d n action answer) ok spares c = owner_all w _ p (rests (Post caller d n action answer) ok spares refl) c
  chunks_kept (PhaseOpen n) ok spares c = refl
  chunks_kept (Begin worker q) ok spares c = owner_all w _ p (rests (Begin worker q) ok spares refl) c
  chunks_kept (End worker q tick ran accepts) ok spares c = owner_all w _ p (rests (End worker q tick ran accepts) ok spares refl) c
  chunks_kept PhaseClose ok spares c = refl
  chunks_kept Finish ok spares c = refl

  new_on : (v : World) → ((r : ℕ) → p r ≡ true → Resting r w v) → (n : ℕ) (j : Job) → w.next_job ≤ n → v.jobs n ≡ Some j → p (v.grid.owner (section_of v.grid.grid j.chunk)) ≡ false
  new_on v rest n j new e = false_from_ne_true _ (λ k.
      let r : ℕ = v.grid.owner (section_of v.grid.grid j.chunk) in
      let x = rest r k in
      let on : ground w.grid r j.chunk ≡ true = sym (ap (λ (f : Recorded). f j.chunk) x.same_ground) ∙ eq-eqb r r refl in
      let there : resting_job w.grid r (Some j) ≡ Some j = rw on refl in
      let none : w.jobs n ≡ None = g.sound.numbers n new in
      let both : Some j ≡ None = sym there ∙ ap (resting_job w.grid r) (sym e) ∙ x.jobs n ∙ ap (resting_job w.grid r) none in cc)

  -- a task that comes with the event is on no chunk of a marked region
  pub new_unmarked : (e : Event) → Allowed w e → SparesAll w p e → (n : ℕ) (j : Job) → w.next_job ≤ n → (after w e).jobs n ≡ Some j → p ((after w e).grid.owner (section_of (after w e).grid.grid j.chunk)) ≡ false
  new_unmarked (Stop caller) ok spares n j new h = new_on w (λ r k. rest_self r w (a.ready r k)) n j new h
  new_unmarked (Load caller d answer) ok spares n j new h = new_on _ (rests (Load caller d answer) ok spares refl) n j new h
  new_unmarked (Unload caller d answer) ok spares n j new h = new_on _ (rests (Unload caller d answer) ok spares refl) n j new h
  new_unmarked (Post caller d m action answer) ok spares n j new h = new_on _ (rests (Post caller d m action answer) ok spares refl) n j new h
  new_unmarked (PhaseOpen m) ok spares n j new h = new_on w (λ r k. rest_self r w (a.ready r k)) n j new h
  new_unmarked (Begin worker q) ok spares n j new h = new_on _ (rests (Begin worker q) ok spares refl) n j new h
  new_unmarked (End worker q tick ran accepts) ok spares n j new h = new_on _ (rests (End worker q tick ran accepts) ok spares refl) n j new h
  new_unmarked PhaseClose ok spares n j new h = new_on w (λ r k. rest_self r w (a.ready r k)) n j new h
  new_unmarked Finish ok spares n j new h = new_on w (λ r k. rest_self r w (a.ready r k)) n j new h

  -- ---- a region that ticks in both worlds
  module _ (q : ℕ) (ticks : w.grid.state q ≡ Ticking) where
    pub ticking_off : p q ≡ false
    ticking_off = false_from_ne_true (p q) (λ k. let h = a.ready q k in cc)

    pub ticking_met : x.grid.state q ≡ Ticking
    ticking_met = state_off p w x a q ticking_off ∙ ticks

    pub recorded_met : x.recorded q ≡ w.recorded q
    unfolding ahead_of
    recorded_met = let o = ticking_off in ap (λ (v : World). v.recorded q) a.same ∙ rw o refl

    pub owed_met : x.owed q ≡ w.owed q
    owed_met = owed_off p w x a q ticking_off

    pub counter_met : x.tick q ≡ w.tick q
    counter_met = tick_same p w x a q

    pub due_met : due x q ≡ due w q
    due_met = sym (due_unhanded x q) ∙ ap (λ v. due v q) a.same ∙ due_ahead w p q g.sound g.recorded a.ready ticks

    pub ticked_met : (ran : List Ran) → ticked x q ran ≡ ticked w q ran
    ticked_met ran = sym (ticked_unhanded x q ran) ∙ ap (λ v. ticked v q ran) a.same ∙ ticked_ahead w p q g.sound g.recorded a.ready ticks ran

    pub answers_met : (ran : List Ran) → ((r : ℕ) → p r ≡ true → wishes_touch (run_down w q ran) (ticked w q ran).wishes r ≡ false)
        → answers (run_down x q ran) (ticked x q ran).wishes ≡ answers (run_down w q ran) (ticked w q ran).wishes
    answers_met ran calm = sym (accepts_unhanded x q ran) ∙ ap (λ v. answers (run_down v q ran) (ticked v q ran).wishes) a.same ∙ accepts_ahead w p q g.sound g.recorded a.ready ticks ran calm

pub events_meet : EventsMeetEarlyBegins
events_meet o es p x e ok run a allowed spares = met o (world o es) x p (good_run o es [] ok (rw (append-nil es) run)) a e allowed spares
