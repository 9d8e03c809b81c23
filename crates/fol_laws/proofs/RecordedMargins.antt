-- The recorded chunks of a Ticking region have their margin in it, and the tasks that it has taken are on them.
use Rattle.std.proofs.Common.{◌≡◌, ℕ, ◌-◌, ◌≤◌, ◌<◌, refl, sym, ◌∙◌, ap, arith, true, inl, inr, List, [], ◌∷◌, ◌&&◌}
use Rattle.std.specs.Prelude.{◌≢◌, nat_eq, nat_le, if◌then◌else◌, Option, Some, None}
use Rattle.std.proofs.lemmas.Bool.{cases_Bool, and_parts, true≢false, eqb-true, eq-eqb, ltb-true, lt-ltb, and_from}
use Rattle.std.proofs.lemmas.Option.{same_Some}
use Rattle.fol_model.specs.declared.places.ChunkPos.{ChunkPos}
use Rattle.fol_model.specs.declared.places.SectionPos.{SectionPos}
use Rattle.fol_model.specs.declared.regions.State.TheVariants.{Ready, Ticking}
use Rattle.fol_model.specs.Geometry.{section_of, distance}
use Rattle.fol_model.specs.GridState.{GridState, is_loaded}
use Rattle.fol_model.specs.Begin.{begin}
use Rattle.fol_laws.proofs.Consequences.{ready_has_margin}
use Rattle.fol_laws.proofs.CountBelow.{count_some}
use Rattle.fol_model.specs.ActionStep.{Recorded}
use Rattle.fol_model.specs.World.{World}
use Rattle.fol_model.specs.Job.{Job, taken_task, is_on}
use Rattle.fol_model.specs.QueuedTask.{begun, counted_down}
use Rattle.fol_model.specs.Run.{after, Allowed}
use Rattle.fol_laws.proofs.SoundState.{SoundWorld, job_below}
use Rattle.fol_model.specs.OpenTick.{is_begin}
use Rattle.fol_laws.specs.Ownership.{RecordedHasMargin}
use Rattle.fol_model.specs.declared.tasks.Task.{Task}
use Rattle.fol_model.specs.declared.events.Event.{Event}
use Rattle.fol_model.specs.declared.events.Event.TheVariants.{Load, Unload, Post, PhaseOpen, Begin, End, PhaseClose, Finish, Stop}
use Rattle.fol_laws.proofs.FunctionsChanged.{at_here}
use Rattle.fol_laws.proofs.SoundRuns.{after_keeps}
use Rattle.fol_laws.proofs.TickingKept.{Kept, kept_after}
use Rattle.fol_laws.proofs.SamePlaces.{same_chunk-self}
use Rattle.fol_laws.proofs.TickedBefore.{ticked_before}

-- ---- the invariant
pub record RecordedOk (w : World) : Type 0 where
  pub margin : RecordedHasMargin w
  pub taken : (n : ℕ) (j : Job) → w.jobs n ≡ Some j → j.taker ≢ 0 → w.recorded j.taker j.chunk ≡ true

-- a task that ticks on was there before
pub record WasTaken (o : Option Job) (j : Job) : Type 0 where
  pub job : Job
  pub was : o ≡ Some job
  pub taker : job.taker ≡ j.taker
  pub chunk : job.chunk ≡ j.chunk
  pub action : job.action ≡ j.action

taken_here : (n : ℕ) (j : Job) → taken_task j.taker n (Some j) ≡ (record { number = n; chunk = j.chunk; action = j.action }) ∷ []
taken_here n j = let k : nat_eq j.taker j.taker ≡ true = eq-eqb _ _ refl in rw k refl

pub was_taken : (n : ℕ) (o : Option Job) (j : Job) → taken_task j.taker n o ≡ (record { number = n; chunk = j.chunk; action = j.action }) ∷ [] → WasTaken o j
was_taken n None j h = absurd (cc)
was_taken n (Some i) j h = elim (cases_Bool (nat_eq i.taker j.taker)) [
  | inl k ↦ let x : ◌≡◌ {A = List Task} ((record { number = n; chunk = i.chunk; action = i.action }) ∷ []) ((record { number = n; chunk = j.chunk; action = j.action }) ∷ []) = rw k at h in
      let y : ◌≡◌ {A = Task} (record { number = n; chunk = i.chunk; action = i.action }) (record { number = n; chunk = j.chunk; action = j.action }) = cc in
      record { job = i; was = refl; taker = eqb-true _ _ k; chunk = ap (λ (t : Task). t.chunk) y; action = ap (λ (t : Task). t.action) y }
  | inr k ↦ let x : ◌≡◌ {A = List Task} [] ((record { number = n; chunk = j.chunk; action = j.action }) ∷ []) = rw k at h in absurd (cc)
]

-- the chunk of a task is loaded
pub chunk_held : (w : World) (n : ℕ) (j : Job) → SoundWorld w → w.jobs n ≡ Some j → 0 < w.grid.holds j.chunk
chunk_held w n j s e =
    let on : is_on j.chunk (w.jobs n) ≡ true = ap (is_on j.chunk) e ∙ same_chunk-self j.chunk in
    let a = count_some (λ k. is_on j.chunk (w.jobs k)) n w.next_job (job_below n w j s e) on in
    let b = s.holds j.chunk in omega arith

-- what a Begin of r records
abbrev record_of : GridState → ℕ → Recorded
record_of g r = λ c. is_loaded g c && nat_eq (g.owner (section_of g.grid c)) r

begun_margin : (w : World) (r : ℕ) (c : ChunkPos) (s : SectionPos) → SoundWorld w → w.grid.state r ≡ Ready → record_of w.grid r c ≡ true → distance (section_of w.grid.grid c) s ≤ w.grid.grid.create → w.grid.owner s ≡ r
begun_margin w r c s ok ready h d =
    let x = and_parts (is_loaded w.grid c) (nat_eq (w.grid.owner (section_of w.grid.grid c)) r) h in
    let o : w.grid.owner (section_of w.grid.grid c) ≡ r = eqb-true _ _ x.1 in
    ready_has_margin w.grid ok.rules ok.grid c s (ltb-true _ _ x.0) (ap w.grid.state o ∙ ready) d ∙ o

module _ (w : World) (s : SoundWorld w) (ok : RecordedOk w) where
  kept_margin : (v : World) (q : ℕ) → w.grid.state q ≡ Ticking → Kept q w v → (c : ChunkPos) (p : SectionPos) → v.recorded q c ≡ true → distance (section_of v.grid.grid c) p ≤ v.grid.grid.create → v.grid.owner p ≡ q
  kept_margin v q t k c p h d =
      let h2 : w.recorded q c ≡ true = sym (ap (λ (f : Recorded). f c) k.recorded) ∙ h in
      let d2 : distance (section_of w.grid.grid c) p ≤ w.grid.grid.create = rw k.grid at d in
      (k.sections p).0 (ok.margin q c p t h2 d2)

  kept_taken : (v : World) (n : ℕ) (j : Job) → v.jobs n ≡ Some j → w.grid.state j.taker ≡ Ticking → j.taker ≢ 0 → Kept j.taker w v → v.recorded j.taker j.chunk ≡ true
  kept_taken v n j e t z k =
      let x = was_taken n (w.jobs n) j (sym (k.taken n) ∙ ap (taken_task j.taker n) e ∙ taken_here n j) in
      let a : w.recorded x.job.taker x.job.chunk ≡ true = ok.taken n x.job x.was (λ y. z (sym x.taker ∙ y)) in
      let b : w.recorded j.taker j.chunk ≡ true = rw (x.taker, x.chunk) at a in
      ap (λ (f : Recorded). f j.chunk) k.recorded ∙ b

  begun_recorded : (worker r : ℕ) → (begun w worker r).recorded r ≡ record_of w.grid r
  unfolding begun
  begun_recorded worker r = at_here w.recorded r (record_of w.grid r)

  begun_jobs : (worker r n : ℕ) → (begun w worker r).jobs n ≡ counted_down w.grid r (w.jobs n)
  unfolding begun
  begun_jobs worker r n = refl

  begun_grid : (worker r : ℕ) → ((begun w worker r).grid.grid ≡ w.grid.grid) × ((begun w worker r).grid.owner ≡ w.grid.owner)
  unfolding begun begin
  begun_grid worker r = (refl, refl)

  begun_margins : (worker r : ℕ) → w.grid.state r ≡ Ready → (c : ChunkPos) (p : SectionPos) → (begun w worker r).recorded r c ≡ true → distance (section_of (begun w worker r).grid.grid c) p ≤ (begun w worker r).grid.grid.create → (begun w worker r).grid.owner p ≡ r
  begun_margins worker r ready c p h d =
      let h2 : record_of w.grid r c ≡ true = sym (ap (λ (f : Recorded). f c) (begun_recorded worker r)) ∙ h in
      let d2 : distance (section_of w.grid.grid c) p ≤ w.grid.grid.create = rw (begun_grid worker r).0 at d in
      ap (λ (f : SectionPos → ℕ). f p) (begun_grid worker r).1 ∙ begun_margin w r c p s ready h2 d2

  down_taken : (r n : ℕ) (o : Option Job) (j : Job) → w.jobs n ≡ o → w.grid.state r ≡ Ready → counted_down w.grid r o ≡ Some j → j.taker ≡ r → record_of w.grid r j.chunk ≡ true
  down_taken r n None j was ready e t = absurd (cc)
  down_taken r n (Some i) j was ready e t = elim (cases_Bool (nat_eq i.taker 0 && nat_eq (w.grid.owner (section_of w.grid.grid i.chunk)) r)) [
    | inl k ↦ let x : ◌≡◌ {A = Option Job} (Some (record i { rest = i.rest - 1; taker = if nat_le i.rest 1 then r else 0 })) (Some j) = rw k at e in
        let y : i.chunk ≡ j.chunk = ap (λ (a : Job). a.chunk) (same_Some _ j x) in
        let a = and_parts (nat_eq i.taker 0) (nat_eq (w.grid.owner (section_of w.grid.grid i.chunk)) r) k in
        let l : 0 < w.grid.holds i.chunk = chunk_held w n i s was in
        let b : record_of w.grid r i.chunk ≡ true = and_from (is_loaded w.grid i.chunk) _ (lt-ltb _ _ l) a.1 in
        rw y at b
    | inr k ↦ let x : ◌≡◌ {A = Option Job} (Some i) (Some j) = rw k at e in
        let y : i.taker ≡ r = ap (λ (a : Job). a.taker) (same_Some i j x) ∙ t in
        let p = s.rules.given r (λ d. cc) in
        let ticks : w.grid.state i.taker ≡ Ticking = (s.each n i was).takes (λ z. omega arith) in
        let u : w.grid.state i.taker ≡ w.grid.state r = ap w.grid.state y in absurd (cc)
  ]

  begun_taken : (worker r n : ℕ) (j : Job) → w.grid.state r ≡ Ready → (begun w worker r).jobs n ≡ Some j → j.taker ≡ r → (begun w worker r).recorded j.taker j.chunk ≡ true
  begun_taken worker r n j ready e t =
      let a = down_taken r n (w.jobs n) j refl ready (sym (begun_jobs worker r n) ∙ e) t in
      ap (λ (k : ℕ). (begun w worker r).recorded k j.chunk) t ∙ ap (λ (f : Recorded). f j.chunk) (begun_recorded worker r) ∙ a

  -- the event as a Begin of q
  began_margin : (e : Event) (q : ℕ) → Allowed w e → is_begin q e ≡ true → (c : ChunkPos) (p : SectionPos) → (after w e).recorded q c ≡ true → distance (section_of (after w e).grid.grid c) p ≤ (after w e).grid.grid.create → (after w e).grid.owner p ≡ q
  began_margin (Load caller c answer) q a b = absurd (true≢false (sym b))
  began_margin (Unload caller c answer) q a b = absurd (true≢false (sym b))
  began_margin (Post caller c d x answer) q a b = absurd (true≢false (sym b))
  began_margin (PhaseOpen n) q a b = absurd (true≢false (sym b))
  began_margin (Begin worker r) q a b = λ c p h d. let e : r ≡ q = eqb-true _ _ b in
      let h2 : (begun w worker r).recorded r c ≡ true = rw (← e) at h in begun_margins worker r a.0 c p h2 d ∙ e
  began_margin (End worker r tick ran accepts) q a b = absurd (true≢false (sym b))
  began_margin PhaseClose q a b = absurd (true≢false (sym b))
  began_margin Finish q a b = absurd (true≢false (sym b))
  began_margin (Stop caller) q a b = absurd (true≢false (sym b))

  began_taken : (e : Event) (n : ℕ) (j : Job) → Allowed w e → is_begin j.taker e ≡ true → (after w e).jobs n ≡ Some j → (after w e).recorded j.taker j.chunk ≡ true
  began_taken (Load caller c answer) n j a b h = absurd (true≢false (sym b))
  began_taken (Unload caller c answer) n j a b h = absurd (true≢false (sym b))
  began_taken (Post caller c d x answer) n j a b h = absurd (true≢false (sym b))
  began_taken (PhaseOpen k) n j a b h = absurd (true≢false (sym b))
  began_taken (Begin worker r) n j a b h = begun_taken worker r n j a.0 h (sym (eqb-true _ _ b))
  began_taken (End worker r tick ran accepts) n j a b h = absurd (true≢false (sym b))
  began_taken PhaseClose n j a b h = absurd (true≢false (sym b))
  began_taken Finish n j a b h = absurd (true≢false (sym b))
  began_taken (Stop caller) n j a b h = absurd (true≢false (sym b))

  pub recorded_after : (e : Event) → Allowed w e → RecordedOk (after w e)
  recorded_after e a = record {
    margin = λ q c p t h d. elim (ticked_before q w e t) [
      | inl k ↦ kept_margin (after w e) q k.0 (kept_after q w e s k.0 a k.1) c p h d
      | inr b ↦ began_margin e q a b c p h d
    ];
    taken = λ n j h z. elim (ticked_before j.taker w e (((after_keeps w e s a).each n j h).takes z)) [
      | inl k ↦ kept_taken (after w e) n j h k.0 z (kept_after j.taker w e s k.0 a k.1)
      | inr b ↦ began_taken e n j a b h
    ];
  }
