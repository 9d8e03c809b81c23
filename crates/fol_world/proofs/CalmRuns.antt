-- Outside a phase no region ticks.
use Rattle.std.proofs.Common.{◌≡◌, ◌≢◌, ℕ, refl, sym, ◌∙◌, arith, false, inl, inr, List, [], ◌∷◌}
use Rattle.std.specs.Prelude.{nat_eq, Option, Some, None}
use Rattle.std.proofs.lemmas.Bool.{cases_Bool, true≢false}
use Rattle.fol_model.specs.declared.places.BlockPos.{BlockPos}
use Rattle.fol_model.specs.declared.places.ChunkPos.{ChunkPos}
use Rattle.fol_model.specs.declared.regions.State.TheVariants.{Ticking}
use Rattle.fol_model.specs.declared.openings.Opening.{Opening}
use Rattle.fol_model.specs.declared.tasks.Ran.{Ran}
use Rattle.fol_model.specs.declared.tasks.Wish.{Wish}
use Rattle.fol_model.specs.declared.actions.Action.{Action}
use Rattle.fol_model.specs.declared.actions.Action.TheVariants as action
use Rattle.fol_model.specs.declared.events.Event.{Event}
use Rattle.fol_model.specs.declared.events.Event.TheVariants.{Load, Unload, Post, PhaseOpen, Begin, End, PhaseClose, Finish, Stop}
use Rattle.fol_model.specs.declared.events.Entry.{Entry}
use Rattle.fol_model.specs.GridNumbers.{IsGrid}
use Rattle.fol_model.specs.Add.{is_full}
use Rattle.fol_model.specs.World.{World, start}
use Rattle.fol_model.specs.Holds.{loaded, unloaded, posted}
use Rattle.fol_model.specs.QueuedTask.{begun}
use Rattle.fol_model.specs.OpenTick.{is_begin}
use Rattle.fol_model.specs.End.{dropped, ticked, put_back, accepted, all_accepted, released, run_down, ended}
use Rattle.fol_model.specs.Run.{Allowed, RunFrom, after, after_all}
use Rattle.fol_laws.proofs.WholeRuns.{Good, good_after, good_start}
use Rattle.fol_laws.proofs.TickedBefore.{ticked_before}

abbrev pub Calm : World → Type 0
Calm w = w.in_phase ≡ false → (r : ℕ) → w.grid.state r ≢ Ticking

phase_loaded : (w : World) (c : ChunkPos) → (loaded w c).in_phase ≡ w.in_phase
unfolding loaded
phase_loaded w c = elim (cases_Bool (is_full w.grid c)) [ inl f ↦ rw f refl | inr f ↦ rw f refl ]

phase_unloaded : (w : World) (c : ChunkPos) → (unloaded w c).in_phase ≡ w.in_phase
unfolding unloaded
phase_unloaded w c = elim (cases_Bool (nat_eq (w.tickets c) 0)) [ inl f ↦ rw f refl | inr f ↦ rw f refl ]

phase_posted : (w : World) (c : ChunkPos) (d : ℕ) (a : Action) → (posted w c d a).in_phase ≡ w.in_phase
unfolding posted
phase_posted w c d a = elim (cases_Bool (is_full w.grid c)) [ inl f ↦ rw f refl | inr f ↦ rw f refl ]

phase_begun : (w : World) (worker r : ℕ) → (begun w worker r).in_phase ≡ w.in_phase
unfolding begun
phase_begun w worker r = refl

phase_back : (w : World) (a : Action) (b : Option BlockPos) → (put_back w a b).in_phase ≡ w.in_phase
phase_back w (action.Arrive e) (Some b) = refl
phase_back w (action.Arrive e) None = refl
phase_back w (action.Set at id) b = refl
phase_back w (action.Copy at to) b = refl
phase_back w (action.Load c) b = refl
phase_back w (action.Unload c) b = refl
phase_back w (action.Post c d inner) b = refl
phase_back w (action.Send id to) b = refl
phase_back w (action.Every p l inner) b = refl

phase_accepted : (w : World) (x : Wish) → (accepted w x).in_phase ≡ w.in_phase
unfolding accepted
phase_accepted w x = elim (cases_Bool (is_full w.grid x.chunk)) [ inl f ↦ rw f (phase_back w x.action x.back) | inr f ↦ rw f (phase_posted w x.chunk x.delay x.action) ]

phase_all : (w : World) (xs : List Wish) → (all_accepted w xs).in_phase ≡ w.in_phase
phase_all w [] = refl
phase_all w (x ∷ xs) = phase_all (accepted w x) xs ∙ phase_accepted w x

phase_ended : (w : World) (r : ℕ) (ran : List Ran) → (ended w r ran).in_phase ≡ w.in_phase
unfolding ended released dropped
phase_ended w r ran = phase_all (run_down w r ran) (ticked w r ran).wishes

module _ (o : Opening) (w : World) (good : Good o w) (calm : Calm w) where
  -- an event that keeps the phase, after which no region ticks that did not tick before
  kept : (v : World) → v.in_phase ≡ w.in_phase → ((r : ℕ) → v.grid.state r ≡ Ticking → w.grid.state r ≡ Ticking) → Calm v
  kept v same back p r t = calm (sym same ∙ p) r (back r t)

  before : (e : Event) → ((r : ℕ) → is_begin r e ≡ false) → (r : ℕ) → (after w e).grid.state r ≡ Ticking → w.grid.state r ≡ Ticking
  before e none r t = elim (ticked_before r w e t) [ inl k ↦ k.0 | inr b ↦ absurd (true≢false (sym b ∙ none r)) ]

  pub calm_after : (e : Event) → Allowed w e → Calm (after w e)
  calm_after (Load caller c answer) a = kept (loaded w c) (phase_loaded w c) (before (Load caller c answer) (λ r. refl))
  calm_after (Unload caller c answer) a = kept (unloaded w c) (phase_unloaded w c) (before (Unload caller c answer) (λ r. refl))
  calm_after (Post caller c d x answer) a = kept (posted w c d x) (phase_posted w c d x) (before (Post caller c d x answer) (λ r. refl))
  calm_after (PhaseOpen n) a = λ p. absurd (true≢false p)
  calm_after (Begin worker r) a = λ p q t.
      let z = good.owing (sym (phase_begun w worker r) ∙ p) r (λ d. let x = a.0 in cc) in
      absurd (omega (arith, a.1))
  calm_after (End worker r tick ran accepts) a = kept (ended w r ran) (phase_ended w r ran) (before (End worker r tick ran accepts) (λ r. refl))
  calm_after PhaseClose a = λ p r t. let x = a.2 r (λ d. cc) in let y = x.0 in cc
  calm_after Finish a = calm
  calm_after (Stop caller) a = calm

calm_all : (o : Opening) (w : World) (es : List Entry) → Good o w → Calm w → RunFrom w es → Calm (after_all w es)
calm_all o w [] g c r = c
calm_all o w (e ∷ es) g c r = calm_all o (after w e.event) es (good_after o w e.event g r.1) (calm_after o w g c e.event r.1) r.2

pub calm_run : (o : Opening) (es : List Entry) → IsGrid o.grid → RunFrom (start o) es → Calm (after_all (start o) es)
calm_run o es ok run = calm_all o (start o) es (good_start o ok) (λ p r t. absurd (cc)) run
