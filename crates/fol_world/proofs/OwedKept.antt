-- What a region owes stays while it ticks.
use Rattle.std.proofs.Common.{◌≡◌, ◌≢◌, ℕ, ◌-◌, refl, sym, ◌∙◌, ap, arith, true, false, not, ◌||◌, inl, inr, List, [], ◌∷◌, ◌++◌}
use Rattle.std.specs.Prelude.{nat_eq, Option, Some, None}
use Rattle.std.specs.List.{AllByRecursion}
use Rattle.std.proofs.lemmas.Bool.{cases_Bool, eqb-false, ne_eqb, and_parts, true≢false}
use Rattle.fol_model.specs.declared.places.BlockPos.{BlockPos}
use Rattle.fol_model.specs.declared.places.ChunkPos.{ChunkPos}
use Rattle.fol_model.specs.declared.regions.State.TheVariants.{Ready, Ticking}
use Rattle.fol_model.specs.declared.openings.Opening.{Opening}
use Rattle.fol_model.specs.declared.tasks.Ran.{Ran}
use Rattle.fol_model.specs.declared.tasks.Wish.{Wish}
use Rattle.fol_model.specs.declared.actions.Action.{Action}
use Rattle.fol_model.specs.declared.actions.Action.TheVariants as action
use Rattle.fol_model.specs.declared.events.Event.{Event}
use Rattle.fol_model.specs.declared.events.Event.TheVariants.{Load, Unload, Post, PhaseOpen, Begin, End, PhaseClose, Finish, Stop}
use Rattle.fol_model.specs.declared.events.Entry.{Entry}
use Rattle.fol_model.specs.Geometry.{is_chunk}
use Rattle.fol_model.specs.GridNumbers.{IsGrid}
use Rattle.fol_model.specs.Counters.{owed_after_add, owed_after_release}
use Rattle.fol_model.specs.GridState.{GridState, is_ticking}
use Rattle.fol_model.specs.Add.{is_full, is_near, target, wanted}
use Rattle.fol_model.specs.Rules.{Rules}
use Rattle.fol_model.specs.World.{World}
use Rattle.fol_model.specs.Holds.{loaded, unloaded, posted}
use Rattle.fol_model.specs.QueuedTask.{begun}
use Rattle.fol_model.specs.OpenTick.{NoEnd, is_end}
use Rattle.fol_model.specs.ActionStep.{Recorded}
use Rattle.fol_model.specs.End.{dropped, ticked, put_back, accepted, all_accepted, released, run_down, ended}
use Rattle.fol_model.specs.Run.{Allowed, RunFrom, after, after_all}
use Rattle.fol_laws.proofs.AddTarget.{target_is}
use Rattle.fol_laws.proofs.FunctionsChanged.{at_other}
use Rattle.fol_laws.proofs.GridFields.{no_new_part}
use Rattle.fol_laws.proofs.SoundState.{SoundWorld}
use Rattle.fol_laws.proofs.SoundRuns.{Ending, accepted_ending, all_accepted_ending, run_down_ending, wishes_ok}
use Rattle.fol_laws.proofs.TickingKept.{kept_accepted, kept_all, kept_after, kept_run_down}
use Rattle.fol_laws.proofs.WholeRuns.{Good, good_after}
use Rattle.fol_laws.proofs.WishLimits.{WishOk}
use Rattle.fol_world.proofs.CalmRuns.{Calm, calm_after}

-- the target of an added hold does not tick
module _ (g : GridState) (c : ChunkPos) (rules : Rules g) (ok : IsGrid g.grid) (limits : is_chunk c ≡ true) (q : ℕ) (ticks : g.state q ≡ Ticking) where
  not_target : q ≢ target g c
  not_target e = elim (target_is g c rules ok limits) [
    | inl k ↦ let p = and_parts (is_near g c (target g c)) (not (is_ticking (g.state (target g c)))) k in
        let z : not (is_ticking (g.state q)) ≡ true = ap (λ (r : ℕ). not (is_ticking (g.state r))) e ∙ p.1 in
        let y : false ≡ true = rw ticks at z in true≢false (sym y)
    | inr k ↦ let b = rules.below_next q (λ d. cc) in let z = k.0 in omega arith
  ]

  add_owes : (owed : ℕ → ℕ) → owed_after_add g c owed q ≡ owed q
  unfolding owed_after_add
  add_owes owed = let n : nat_eq q (target g c) ≡ false = ne_eqb _ _ not_target in elim (cases_Bool (is_full g c || nat_eq (wanted g c) 0)) [ inl e ↦ rw e refl | inr e ↦ rw (e, n) refl ]

module _ (w : World) (rules : Rules w.grid) (ok : IsGrid w.grid.grid) (q : ℕ) (ticks : w.grid.state q ≡ Ticking) (c : ChunkPos) (limits : is_chunk c ≡ true) where
  loaded_owes : (loaded w c).owed q ≡ w.owed q
  unfolding loaded
  loaded_owes = elim (cases_Bool (is_full w.grid c)) [ inl f ↦ rw f refl | inr f ↦ rw f (add_owes w.grid c rules ok limits q ticks w.owed) ]

  posted_owes : (d : ℕ) (a : Action) → (posted w c d a).owed q ≡ w.owed q
  unfolding posted
  posted_owes d a = elim (cases_Bool (is_full w.grid c)) [ inl f ↦ rw f refl | inr f ↦ rw f (add_owes w.grid c rules ok limits q ticks w.owed) ]

unloaded_owes : (w : World) (c : ChunkPos) → (unloaded w c).owed ≡ w.owed
unfolding unloaded
unloaded_owes w c = elim (cases_Bool (nat_eq (w.tickets c) 0)) [ inl f ↦ rw f refl | inr f ↦ rw f refl ]

back_owes : (w : World) (a : Action) (b : Option BlockPos) → (put_back w a b).owed ≡ w.owed
back_owes w (action.Arrive e) (Some b) = refl
back_owes w (action.Arrive e) None = refl
back_owes w (action.Set at id) b = refl
back_owes w (action.Copy at to) b = refl
back_owes w (action.Load c) b = refl
back_owes w (action.Unload c) b = refl
back_owes w (action.Post c d inner) b = refl
back_owes w (action.Send id to) b = refl
back_owes w (action.Every p l inner) b = refl

accepted_owes : (rec : Recorded) (w : World) (x : Wish) (q r : ℕ) → Ending r w → w.grid.state q ≡ Ticking → WishOk rec x → (accepted w x).owed q ≡ w.owed q
unfolding accepted
accepted_owes rec w x q r m t ok = elim (cases_Bool (is_full w.grid x.chunk)) [
  | inl f ↦ rw f (ap (λ (h : ℕ → ℕ). h q) (back_owes w x.action x.back))
  | inr f ↦ rw f (posted_owes w m.sound.rules m.sound.grid q t x.chunk ok.chunk x.delay x.action)
]

pub all_owe : (rec : Recorded) (w : World) (xs : List Wish) (q r : ℕ) → Ending r w → w.grid.state q ≡ Ticking → AllByRecursion (WishOk rec) xs → (all_accepted w xs).owed q ≡ w.owed q
all_owe rec w [] q r m t ok = refl
all_owe rec w (x ∷ xs) q r m t ok =
    let k = kept_accepted rec q w x m.sound t ok.0 in
    all_owe rec (accepted w x) xs q r (accepted_ending rec w x r m ok.0) k.ticks ok.1 ∙ accepted_owes rec w x q r m t ok.0

released_owes : (w : World) (q r : ℕ) → Ending r w → w.grid.state q ≡ Ticking → q ≢ r → (released w r).owed q ≡ w.owed q
unfolding released owed_after_release
released_owes w q r m t d = let n : nat_eq q r ≡ false = ne_eqb q r d in let p = no_new_part w.grid r q m.sound.rules t d in rw (n, p) refl

ended_owes : (w : World) (q r : ℕ) (ran : List Ran) → SoundWorld w → w.grid.state r ≡ Ticking → w.grid.state q ≡ Ticking → q ≢ r → (ended w r ran).owed q ≡ w.owed q
unfolding ended dropped
ended_owes w q r ran s e t d =
    let m = run_down_ending w r ran s e in
    let a = kept_run_down q w r ran t d in
    let ok = wishes_ok w r ran s in
    let b = kept_all (w.recorded r) q (run_down w r ran) (ticked w r ran).wishes r m a.ticks ok in
    let n = all_accepted_ending (w.recorded r) (run_down w r ran) (ticked w r ran).wishes r m ok in
    released_owes _ q r n b.ticks d ∙ all_owe (w.recorded r) (run_down w r ran) (ticked w r ran).wishes q r m a.ticks ok

pub owes_after : (o : Opening) (w : World) (e : Event) (q : ℕ) → Good o w → Calm w → w.grid.state q ≡ Ticking → Allowed w e → is_end q e ≡ false → (after w e).owed q ≡ w.owed q
unfolding begun
owes_after o w (Load caller c answer) q g calm t a n = loaded_owes w g.sound.rules g.sound.grid q t c a.0
owes_after o w (Unload caller c answer) q g calm t a n = ap (λ (h : ℕ → ℕ). h q) (unloaded_owes w c)
owes_after o w (Post caller c d x answer) q g calm t a n = posted_owes w g.sound.rules g.sound.grid q t c a.0 d x
owes_after o w (PhaseOpen k) q g calm t a n = absurd (calm a.0 q t)
owes_after o w (Begin worker r) q g calm t a n = at_other w.owed r (w.owed r - 1) q (λ e. let x : w.grid.state q ≡ Ready = ap w.grid.state e ∙ a.0 in cc)
owes_after o w (End worker r tick ran accepts) q g calm t a n = ended_owes w q r ran g.sound a.0 t (λ x. eqb-false r q n (sym x))
owes_after o w PhaseClose q g calm t a n = refl
owes_after o w Finish q g calm t a n = refl
owes_after o w (Stop caller) q g calm t a n = refl

-- along entries that have no End of q
pub owes_along : (o : Opening) (w : World) (mid rest : List Entry) (q : ℕ) → Good o w → Calm w → w.grid.state q ≡ Ticking → NoEnd q mid → RunFrom w (mid ++ rest) → (after_all w mid).owed q ≡ w.owed q
owes_along o w [] rest q g calm t n run = refl
owes_along o w (e ∷ mid) rest q g calm t n run =
    owes_along o (after w e.event) mid rest q (good_after o w e.event g run.1) (calm_after o w g calm e.event run.1) (kept_after q w e.event g.sound t run.1 n.0).ticks n.1 run.2
    ∙ owes_after o w e.event q g calm t run.1 n.0
