-- The tasks that come back with a tick: those that were queued at the Begin.
use Rattle.std.proofs.Common.{◌≡◌, ℕ, ◌-◌, ◌≤◌, ◌<◌, refl, sym, ◌∙◌, ap, arith, Bool, true, false, not, ◌&&◌, ◌||◌, inl, inr, List, [], ◌∷◌, ◌++◌}
use Rattle.std.specs.Prelude.{nat_eq, nat_lt, nat_le, if◌then◌else◌, Option, Some, None, IsTrue}
use Rattle.std.specs.Option.{ForSome, is_none, option_map}
use Rattle.std.proofs.lemmas.Bool.{cases_Bool, eqb-true, and_parts, lt-ltb, true≢false}
use Rattle.fol_model.specs.declared.places.ChunkPos.{ChunkPos}
use Rattle.fol_model.specs.declared.regions.State.TheVariants.{Ready, Ticking}
use Rattle.fol_model.specs.declared.openings.Opening.{Opening}
use Rattle.fol_model.specs.declared.tasks.Ran.{Ran}
use Rattle.fol_model.specs.declared.events.Event.{Event}
use Rattle.fol_model.specs.declared.events.Event.TheVariants.{Load, Unload, Post, PhaseOpen, Begin, End, PhaseClose, Finish, Stop}
use Rattle.fol_model.specs.declared.events.Entry.{Entry}
use Rattle.fol_model.specs.Geometry.{chunk_of, section_of}
use Rattle.fol_model.specs.GridNumbers.{IsGrid}
use Rattle.fol_model.specs.GridState.{GridState, is_loaded}
use Rattle.fol_model.specs.Outputs.{is_chunk_of}
use Rattle.fol_model.specs.ActionStep.{Flat, Recorded, Standing}
use Rattle.fol_model.specs.Job.{Job}
use Rattle.fol_model.specs.QueuedTask.{counted_down, is_queued_in, queued_in}
use Rattle.fol_model.specs.OpenTick.{NoEnd}
use Rattle.fol_model.specs.World.{World}
use Rattle.fol_model.specs.End.{all_accepted, dropped, run_down, ticked}
use Rattle.fol_model.specs.Run.{Allowed, RunFrom, after, after_all}
use Rattle.fol_laws.proofs.FunctionsChanged.{at_other}
use Rattle.fol_laws.proofs.RecordedMargins.{chunk_held}
use Rattle.fol_laws.proofs.SoundState.{SoundWorld}
use Rattle.fol_laws.proofs.TaskFates.{all_older}
use Rattle.fol_laws.proofs.TickingKept.{Kept, kept_after}
use Rattle.fol_laws.proofs.WholeRuns.{Good, good_after}
use Rattle.fol_end_laws.proofs.KeptQueues.{kept_left, kept_still}
use Rattle.fol_chunks.specs.Contents.{Apart, outside, within, option_filter}
use Rattle.fol_queues.specs.Waiting.{Waiting, dated, job_of, jobs_of}
use Rattle.fol_data.specs.Rests.{IsInTime}
use Rattle.fol_world.specs.Hands.{at_rest, since_after, since_from, went}
use Rattle.fol_model.specs.Rules.{Rules}
use Rattle.fol_world.proofs.ReleasedHands.{ticker_of, went_here}

-- ---- the number of the next task at the last Begin of r
since_kept : (f : ℕ → ℕ) (w : World) (e : Event) (q : ℕ) → w.grid.state q ≡ Ticking → Allowed w e → since_after f w e q ≡ f q
since_kept f w (Load caller c answer) q t a = refl
since_kept f w (Unload caller c answer) q t a = refl
since_kept f w (Post caller c d x answer) q t a = refl
since_kept f w (PhaseOpen n) q t a = refl
since_kept f w (Begin worker r) q t a = at_other f r w.next_job q (λ e. let x : w.grid.state q ≡ Ready = ap w.grid.state e ∙ a.0 in cc)
since_kept f w (End worker r tick ran accepts) q t a = refl
since_kept f w PhaseClose q t a = refl
since_kept f w Finish q t a = refl
since_kept f w (Stop caller) q t a = refl

pub since_along : (o : Opening) (w : World) (f : ℕ → ℕ) (mid : List Entry) (q : ℕ) → Good o w → w.grid.state q ≡ Ticking → NoEnd q mid → RunFrom w mid → since_from w f mid q ≡ f q
since_along o w f [] q g t n run = refl
since_along o w f (e ∷ mid) q g t n run =
    since_along o (after w e.event) (since_after f w e.event) mid q (good_after o w e.event g run.1) (kept_after q w e.event g.sound t run.1 n.0).ticks n.1 run.2
    ∙ since_kept f w e.event q t run.1

pub since_at : (w : World) (f : ℕ → ℕ) (es : List Entry) (e : Entry) (mid : List Entry)
    → since_from w f (es ++ e ∷ mid) ≡ since_from (after (after_all w es) e.event) (since_after (since_from w f es) (after_all w es) e.event) mid
since_at w f [] e mid = refl
since_at w f (x ∷ es) e mid = since_at (after w x.event) (since_after f w x.event) es e mid

-- ---- what the tick has queued, along the steps of its End
module _ (w : World) (sound : SoundWorld w) (r : ℕ) (ran : List Ran) (ticks : w.grid.state r ≡ Ticking) where
  some : 0 < r
  some = sound.rules.given r (λ d. cc)

  down_queue : (n : ℕ) → queued_in (run_down w r ran).grid r ((run_down w r ran).jobs n) ≡ queued_in w.grid r (w.jobs n)
  unfolding dropped
  down_queue n = kept_left r w.grid (run_down w r ran).grid (λ s. ((λ e. e), (λ e. e))) refl r some (w.jobs n)

  pub end_queue : (k : Kept r (run_down w r ran) (all_accepted (run_down w r ran) (ticked w r ran).wishes)) (n : ℕ) → n < (run_down w r ran).next_job
      → queued_in (all_accepted (run_down w r ran) (ticked w r ran).wishes).grid r ((all_accepted (run_down w r ran) (ticked w r ran).wishes).jobs n) ≡ queued_in w.grid r (w.jobs n)
  end_queue k n l =
      let v = run_down w r ran in
      let z = all_accepted v (ticked w r ran).wishes in
      ap (queued_in z.grid r) ((all_older v (ticked w r ran).wishes).jobs n l) ∙ kept_still r v.grid z.grid k.sections k.grid (v.jobs n) ∙ down_queue n

-- ---- they are on the recorded chunks
abbrev pub chunk_in : ChunkPos → Option Job → ChunkPos
chunk_in c None = c
chunk_in c (Some a) = a.chunk

module _ (u : World) (sound : SoundWorld u) (r : ℕ) where
  down_chunk : (o : Option Job) (j : Job) → ((i : Job) → o ≡ Some i → 0 < u.grid.holds i.chunk) → queued_in u.grid r (counted_down u.grid r o) ≡ Some j → is_chunk_of u.grid r j.chunk ≡ true
  unfolding queued_in
  down_chunk None j held h = absurd (cc)
  down_chunk (Some i) j held h =
      let l : is_loaded u.grid i.chunk ≡ true = lt-ltb 0 (u.grid.holds i.chunk) (held i refl) in
      elim (cases_Bool (nat_eq i.taker 0 && nat_eq (u.grid.owner (section_of u.grid.grid i.chunk)) r)) [
        | inl k ↦
            let p = (and_parts (nat_eq i.taker 0) (nat_eq (u.grid.owner (section_of u.grid.grid i.chunk)) r) k).1 in
            elim (cases_Bool (nat_le i.rest 1)) [
              | inl z ↦ elim (cases_Bool (nat_eq r 0)) [
                | inl y ↦ let x : Some (record i { rest = i.rest - 1; taker = r }) ≡ Some j = rw (k, z, y, p) at h in
                    let c : i.chunk ≡ j.chunk = ap (chunk_in i.chunk) x in rw (sym c) (rw (l, p) refl)
                | inr y ↦ let x : None ≡ Some j = rw (k, z, y) at h in absurd (cc)
              ]
              | inr z ↦ let x : Some (record i { rest = i.rest - 1; taker = 0 }) ≡ Some j = rw (k, z, p) at h in
                  let c : i.chunk ≡ j.chunk = ap (chunk_in i.chunk) x in rw (sym c) (rw (l, p) refl)
            ]
        | inr k ↦ let q : is_queued_in u.grid r i ≡ false = k in let x : None ≡ Some j = rw (k, q) at h in absurd (cc)
      ]

zero_or : (b : Bool) → (b || true) ≡ true
zero_or true = refl
zero_or false = refl

one_side : (p q : Recorded) → ((c : ChunkPos) → q c ≡ true → p c ≡ true) → (o : Option Standing)
    → IsTrue (is_none (option_filter (λ (s : Standing). not (p (chunk_of s.at))) o) || is_none (option_filter (λ (s : Standing). q (chunk_of s.at)) o))
one_side p q sub None = refl
one_side p q sub (Some s) = elim (cases_Bool (p (chunk_of s.at))) [
  | inl e ↦ rw e refl
  | inr e ↦ elim (cases_Bool (q (chunk_of s.at))) [
    | inl k ↦ absurd (true≢false (sym (sub (chunk_of s.at) k) ∙ e))
    | inr k ↦ rw (e, k) refl
  ]
]

-- ---- what is outside is apart from what is within
pub apart : (p q : Recorded) (f : Flat) → ((c : ChunkPos) → q c ≡ true → p c ≡ true) → Apart (outside p f) (within q f)
apart p q f sub = record {
  blocks = λ b. elim (cases_Bool (p (chunk_of b))) [
    | inl e ↦ rw e refl
    | inr e ↦ elim (cases_Bool (q (chunk_of b))) [
      | inl k ↦ absurd (true≢false (sym (sub (chunk_of b) k) ∙ e))
      | inr k ↦ rw (e, k) (zero_or (nat_eq (f.blocks b) 0))
    ]
  ];
  standing = λ id. one_side p q sub (f.standing id);
}

-- what is at rest is apart from what went with r
pub tasks_apart : (g : GridState) (r : ℕ) (rules : Rules g) (ok : IsGrid g.grid) (ticks : g.state r ≡ Ticking) (since : ℕ → ℕ) (n : ℕ) (o : Option Job)
    → IsTrue (is_none (at_rest g since n o) || is_none (if nat_lt n (since r) then queued_in g r o else None))
unfolding queued_in
tasks_apart g r rules ok ticks since n None = refl
tasks_apart g r rules ok ticks since n (Some j) = elim (cases_Bool (nat_lt n (since r))) [
  | inr l ↦ rw l (zero_or (is_none (at_rest g since n (Some j))))
  | inl l ↦ elim (cases_Bool (nat_eq j.taker 0)) [
    | inr z ↦ rw (l, z) refl
    | inl z ↦ elim (cases_Bool (nat_eq (g.owner (section_of g.grid j.chunk)) r)) [
      | inr k ↦ rw (l, z, k) (zero_or (is_none (if not (went g since j.chunk n) then Some j else None)))
      | inl k ↦ let w : went g since j.chunk n ≡ true = went_here g r rules ok ticks since j.chunk n (ticker_of g r rules ok ticks j.chunk (eqb-true _ _ k)) ∙ l in rw (l, z, k, w) refl
    ]
  ]
]

-- ---- the tasks are in time
pub in_time : (q : Waiting) (tick n : ℕ) → ((j : Job) → jobs_of q tick n ≡ Some j → (1 ≤ j.rest) × (j.rest ≤ 1000000)) → ForSome (dated q n) (IsInTime tick)
in_time q tick n ok d e = let p = ok (job_of tick d) (ap (option_map (job_of tick)) e) in record { low = omega (arith, p.0); high = omega (arith, p.1) }

-- those of a tick of a history
module _ (u : World) (sound : SoundWorld u) (r n : ℕ) where
  pub on_recorded : (j : Job) → queued_in u.grid r (counted_down u.grid r (u.jobs n)) ≡ Some j → is_chunk_of u.grid r j.chunk ≡ true
  on_recorded j h = down_chunk u sound r (u.jobs n) j (λ i e. chunk_held u n i sound e) h
