-- The End of another region leaves a Ready region that it does not touch as it was.
use Rattle.std.proofs.Common.{not, ◌-◌, ◌≡◌, ℕ, ◌+◌, refl, sym, ◌∙◌, ap, arith, true, false, inl, inr, List, [], ◌∷◌, ◌&&◌}
use Rattle.std.specs.Prelude.{◌≢◌, nat_eq, nat_lt, Option, Some, None}
use Rattle.std.specs.List.{AllByRecursion}
use Rattle.std.proofs.lemmas.Bool.{cases_Bool, and_right, true≢false, eqb-true, ne_eqb, or_parts}
use Rattle.fol_model.specs.declared.places.ChunkPos.{ChunkPos}
use Rattle.fol_model.specs.declared.regions.State.TheVariants.{Ready, Ticking, Dead}
use Rattle.fol_model.specs.Geometry.{same_chunk}
use Rattle.fol_model.specs.Add.{is_full}
use Rattle.fol_model.specs.Release.{release, must_wait, cleans, is_part_id, is_new_part}
use Rattle.fol_model.specs.Counting.{count_below}
use Rattle.fol_model.specs.Counters.{owed_after_release, tick_after_release}
use Rattle.fol_laws.proofs.SamePlaces.{same_chunk-true}
use Rattle.fol_laws.proofs.ReleaseKeeps.{grid_release, holds_release, release_apart_sections, release_apart_state, apart_part, ready_apart}
use Rattle.fol_model.specs.ActionStep.{Recorded}
use Rattle.fol_model.specs.World.{World}
use Rattle.fol_model.specs.Job.{Job, is_on, is_taken}
use Rattle.fol_model.specs.End.{dropped, left, ticked, put_back, accepted, all_accepted, released, run_down, ended}
use Rattle.fol_laws.proofs.SoundState.{SoundWorld}
use Rattle.fol_model.specs.declared.places.BlockPos.{BlockPos}
use Rattle.fol_model.specs.declared.tasks.Ran.{Ran}
use Rattle.fol_model.specs.declared.tasks.Wish.{Wish}
use Rattle.fol_model.specs.declared.actions.Action.{Action}
use Rattle.fol_model.specs.declared.actions.Action.TheVariants as action
use Rattle.fol_laws.proofs.FunctionsChanged.{at_other}
use Rattle.fol_laws.proofs.UnseenEnds.{recorded_owner}
use Rattle.fol_laws.proofs.RecordedMargins.{RecordedOk}
use Rattle.fol_laws.proofs.WishLimits.{WishOk}
use Rattle.fol_laws.proofs.SoundRuns.{Ending, accepted_ending, all_accepted_ending, run_down_ending, wishes_ok}
use Rattle.fol_laws.specs.LateBegin.{ground, post_touches, wishes_touch}
use Rattle.fol_laws.proofs.Resting.{Resting, rest_self, rest_then, resting, rests}
use Rattle.fol_laws.proofs.RestingHolds.{rest_posted}
use Rattle.fol_laws.proofs.CountBelow.{count_zero}

module _ (r q : ℕ) (w : World) (s : SoundWorld w) (ok : RecordedOk w) (ready : w.grid.state r ≡ Ready) (ticks : w.grid.state q ≡ Ticking) where
  differs : q ≢ r
  differs e = let x : w.grid.state q ≡ w.grid.state r = ap w.grid.state e in absurd (cc)

  pub recorded_off : (c : ChunkPos) → w.recorded q c ≡ true → ground w.grid r c ≡ false
  recorded_off c h = ne_eqb _ _ (λ e. differs (sym (recorded_owner w q c ok.margin ticks h) ∙ e))

  taken_off : (n : ℕ) (j : Job) → w.jobs n ≡ Some j → j.taker ≡ q → ground w.grid r j.chunk ≡ false
  taken_off n j e t = recorded_off j.chunk (ap (λ (i : ℕ). w.recorded i j.chunk) (sym t) ∙ ok.taken n j e (λ z. let p = s.rules.given q (λ d. cc) in omega arith))

  taken_not_on : (c : ChunkPos) → ground w.grid r c ≡ true → (n : ℕ) (o : Option Job) → w.jobs n ≡ o → (is_taken q o && is_on c o) ≡ false
  taken_not_on c h n None e = refl
  taken_not_on c h n (Some j) e = elim (cases_Bool (nat_eq j.taker q)) [
    | inl k ↦ elim (cases_Bool (same_chunk j.chunk c)) [
      | inl m ↦ let x = same_chunk-true j.chunk c m in absurd (true≢false (sym h ∙ ap (ground w.grid r) (sym x) ∙ taken_off n j e (eqb-true _ _ k)))
      | inr m ↦ rw (k, m) refl
    ]
    | inr k ↦ rw k refl
  ]

  left_off : (n : ℕ) (o : Option Job) → w.jobs n ≡ o → rests w.grid r (left q o) ≡ rests w.grid r o
  left_off n None e = refl
  left_off n (Some j) e = elim (cases_Bool (nat_eq j.taker q)) [
    | inl k ↦ let z = taken_off n j e (eqb-true _ _ k) in rw (k, z) refl
    | inr k ↦ rw k refl
  ]

  pub rest_down : (ran : List Ran) → Resting r w (run_down w q ran)
  unfolding dropped
  rest_down ran = record {
    ready = ready;
    same_ground = refl;
    grid = refl;
    sections = λ p. ((λ e. e), (λ e. e));
    loaded = λ c h. let z = count_zero (λ n. is_taken q (w.jobs n) && is_on c (w.jobs n)) w.next_job (λ n. taken_not_on c h n (w.jobs n) refl) in
        let e : w.grid.holds c - count_below (λ n. is_taken q (w.jobs n) && is_on c (w.jobs n)) w.next_job ≡ w.grid.holds c = omega arith in ap (λ (k : ℕ). nat_lt 0 k) e;
    owed = refl;
    tick = at_other w.tick q (w.tick q + 1) r (λ e. differs (sym e));
    jobs = λ n. left_off n (w.jobs n) refl;
    phase = refl;
    stopped = refl;
  }

module _ (r : ℕ) where
  rest_put_back : (w : World) (a : Action) (b : Option BlockPos) → w.grid.state r ≡ Ready → Resting r w (put_back w a b)
  rest_put_back w (action.Set at k) b h = rest_self r w h
  rest_put_back w (action.Copy at to) b h = rest_self r w h
  rest_put_back w (action.Load c) b h = rest_self r w h
  rest_put_back w (action.Unload c) b h = rest_self r w h
  rest_put_back w (action.Post c d inner) b h = rest_self r w h
  rest_put_back w (action.Send k to) b h = rest_self r w h
  rest_put_back w (action.Arrive e) None h = rest_self r w h
  rest_put_back w (action.Arrive e) (Some b) h = record { ready = h; same_ground = refl; grid = refl; sections = λ s. ((λ e. e), (λ e. e)); loaded = λ c h. refl; owed = refl; tick = refl; jobs = λ n. refl; phase = refl; stopped = refl }
  rest_put_back w (action.Every p l inner) b h = rest_self r w h

  rest_accepted : (rec : Recorded) (w : World) (x : Wish) → SoundWorld w → w.grid.state r ≡ Ready → WishOk rec x → post_touches w.grid x.chunk r ≡ false → Resting r w (accepted w x)
  unfolding accepted
  rest_accepted rec w x s h ok n = elim (cases_Bool (is_full w.grid x.chunk)) [
    | inl f ↦ rw f (rest_put_back w x.action x.back h)
    | inr f ↦ rw f (rest_posted r w s h x.chunk x.delay x.action ok.chunk n)
  ]

  rest_all : (rec : Recorded) (w : World) (xs : List Wish) (q : ℕ) → Ending q w → w.grid.state r ≡ Ready → AllByRecursion (WishOk rec) xs → wishes_touch w xs r ≡ false → Resting r w (all_accepted w xs)
  rest_all rec w [] q m h ok n = rest_self r w h
  rest_all rec w (x ∷ xs) q m h ok n =
      let p = or_parts (post_touches w.grid x.chunk r) (wishes_touch (accepted w x) xs r) n in
      let a = rest_accepted rec w x m.sound h ok.0 p.0 in
      let b = rest_all rec (accepted w x) xs q (accepted_ending rec w x q m ok.0) a.ready ok.1 p.1 in
      rest_then r w (accepted w x) _ a b

  owed_apart : (w : World) (q : ℕ) → nat_eq r q ≡ false → is_new_part w.grid q r ≡ false → (owed_after_release w.grid q w.owed r ≡ w.owed r) × (tick_after_release w.grid q w.tick r ≡ w.tick r)
  unfolding owed_after_release tick_after_release
  owed_apart w q a b = (rw (a, b) refl, rw b refl)

  pub rest_released : (w : World) (q : ℕ) → Ending q w → w.grid.state r ≡ Ready → Resting r w (released w q)
  unfolding released
  rest_released w q m h =
      let l : w.grid.state r ≢ Dead = λ d. cc in
      let a = ready_apart w.grid q m.sound.rules m.ticks r h in
      let o = owed_apart w q (ne_eqb _ _ a.differs) (and_right (not (must_wait w.grid q) && cleans w.grid q) (is_part_id w.grid q r) (apart_part w.grid q m.sound.rules m.sound.grid m.ticks r l a)) in
      resting r w (record w { grid = release w.grid q; tick = tick_after_release w.grid q w.tick; owed = owed_after_release w.grid q w.owed })
      (release_apart_state w.grid q m.sound.rules m.sound.grid m.ticks r l a ∙ h) (grid_release w.grid q)
      (release_apart_sections w.grid q m.sound.rules m.sound.grid m.ticks r l a)
      (λ c k. ap (λ (f : ChunkPos → ℕ). nat_lt 0 (f c)) (holds_release w.grid q)) o.0 o.1 (λ n. refl) refl refl

  pub rest_ended : (w : World) (q : ℕ) (ran : List Ran) → SoundWorld w → RecordedOk w → w.grid.state r ≡ Ready → w.grid.state q ≡ Ticking → wishes_touch (run_down w q ran) (ticked w q ran).wishes r ≡ false → Resting r w (ended w q ran)
  unfolding ended
  rest_ended w q ran s ok h t n =
      let xs = (ticked w q ran).wishes in
      let a = rest_down r q w s ok h t ran in
      let m = run_down_ending w q ran s t in
      let k = wishes_ok w q ran s in
      let b = rest_all (w.recorded q) (run_down w q ran) xs q m a.ready k n in
      let v = all_accepted (run_down w q ran) xs in
      let c = rest_released v q (all_accepted_ending (w.recorded q) (run_down w q ran) xs q m k) b.ready in
      rest_then r w v _ (rest_then r w (run_down w q ran) v a b) c
