-- Loads, unloads, posts and Begins of others leave a Ready region that they do not touch as it was.
use Rattle.std.proofs.Common.{not, ◌-◌, ◌≡◌, ℕ, ◌+◌, ◌<◌, refl, sym, ◌∙◌, ap, arith, true, false, inl, inr, ◌&&◌, ◌||◌}
use Rattle.std.specs.Prelude.{◌≢◌, nat_eq, nat_lt, if◌then◌else◌, Option, Some, None}
use Rattle.std.proofs.lemmas.Bool.{cases_Bool, lt-ltb, ltb-true, cases_eq, and_parts, true≢false, eqb-true, eqb-false, ne_eqb, or_parts}
use Rattle.fol_model.specs.declared.places.ChunkPos.{ChunkPos}
use Rattle.fol_model.specs.declared.regions.State.TheVariants.{Ready, Dead}
use Rattle.fol_model.specs.Geometry.{is_chunk, section_of, same_chunk}
use Rattle.fol_model.specs.GridState.{is_loaded}
use Rattle.fol_model.specs.Add.{is_full, add, wanted, target, is_near}
use Rattle.fol_model.specs.Drop.{drop_hold}
use Rattle.fol_model.specs.Begin.{begin}
use Rattle.fol_model.specs.Counters.{owed_after_add}
use Rattle.fol_laws.specs.Steps.{SameSections}
use Rattle.fol_laws.proofs.SamePlaces.{same_chunk-true}
use Rattle.fol_laws.proofs.AddTarget.{near_from}
use Rattle.fol_laws.proofs.AddSections.{holds_add, grid_add, add_far_sections, add_far_state, far_target}
use Rattle.fol_model.specs.ActionStep.{at_id}
use Rattle.fol_model.specs.World.{World}
use Rattle.fol_model.specs.Job.{Job, queued}
use Rattle.fol_model.specs.Holds.{loaded, unloaded, posted}
use Rattle.fol_model.specs.QueuedTask.{begun, counted_down}
use Rattle.fol_laws.proofs.SoundState.{SoundWorld}
use Rattle.fol_model.specs.declared.actions.Action.{Action}
use Rattle.fol_laws.proofs.FunctionsChanged.{at_here, at_other}
use Rattle.fol_laws.proofs.Distances.{self_distance}
use Rattle.fol_laws.specs.LateBegin.{ground, draws_in, load_touches, post_touches, unload_touches}
use Rattle.fol_laws.proofs.Resting.{Resting, rest_self, resting, rests}
use Rattle.fol_laws.proofs.Tests.{same_answer}

module _ (r : ℕ) (w : World) (s : SoundWorld w) (ready : w.grid.state r ≡ Ready) where
  lives : w.grid.state r ≢ Dead
  lives = λ d. cc

  some : 0 < r
  some = s.rules.given r lives

  not_on : (c : ChunkPos) → is_near w.grid c r ≡ false → is_chunk c ≡ true → ground w.grid r c ≡ false
  not_on c n l = elim (cases_Bool (ground w.grid r c)) [
    | inl e ↦ let o : w.grid.owner (section_of w.grid.grid c) ≡ r = eqb-true _ _ e in
        let p = some in
        let d = self_distance (section_of w.grid.grid c) in
        let k = near_from w.grid c s.rules s.grid l (section_of w.grid.grid c) (omega arith) (omega arith) in
        absurd (true≢false (sym k ∙ ap (is_near w.grid c) o ∙ n))
    | inr e ↦ e
  ]

  -- what an Add leaves to r
  record AddRests (c : ChunkPos) : Type 0 where
    pub stays : (add w.grid c).state r ≡ Ready
    pub sections : SameSections w.grid (add w.grid c) r
    pub loaded : (q : ChunkPos) → ground w.grid r q ≡ true → is_loaded (add w.grid c) q ≡ is_loaded w.grid q
    pub owed : owed_after_add w.grid c w.owed r ≡ w.owed r

  -- an added hold of a chunk that is loaded, or not of r
  still_loaded : (c q : ChunkPos) → is_full w.grid c ≡ false → (ground w.grid r c && not (is_loaded w.grid c)) ≡ false → ground w.grid r q ≡ true → is_loaded (add w.grid c) q ≡ is_loaded w.grid q
  still_loaded c q f n h = ap (λ (k : ℕ). nat_lt 0 k) (holds_add w.grid c q f) ∙ elim (cases_Bool (same_chunk c q)) [
    | inl e ↦ let x = same_chunk-true c q e in
        let g : ground w.grid r c ≡ true = ap (ground w.grid r) x ∙ h in
        let l : is_loaded w.grid c ≡ true = elim (cases_Bool (is_loaded w.grid c)) [ inl m ↦ m | inr m ↦ absurd (true≢false (sym (rw (g, m) refl) ∙ n)) ] in
        let m : nat_lt 0 (w.grid.holds c + 1) ≡ true = lt-ltb _ _ (omega arith) in
        rw e (m ∙ sym l ∙ ap (is_loaded w.grid) x)
    | inr e ↦ rw e refl
  ]

  -- no section is wanted
  add_beside : (c : ChunkPos) → is_full w.grid c ≡ false → nat_eq (wanted w.grid c) 0 ≡ true → (ground w.grid r c && not (is_loaded w.grid c)) ≡ false → AddRests c
  unfolding add owed_after_add
  add_beside c f k n = record {
    stays = rw (f, k) ready;
    sections = rw (f, k) (λ s. ((λ e. e), (λ e. e)));
    loaded = λ q. still_loaded c q f n;
    owed = rw (f, k) refl;
  }

  far_owed : (c : ChunkPos) → is_chunk c ≡ true → is_near w.grid c r ≡ false → owed_after_add w.grid c w.owed r ≡ w.owed r
  unfolding owed_after_add
  far_owed c l n = let z : nat_eq r (target w.grid c) ≡ false = ne_eqb _ _ (far_target w.grid c s.rules s.grid l r lives n) in
      elim (cases_Bool (is_full w.grid c || nat_eq (wanted w.grid c) 0)) [ inl e ↦ rw e refl | inr e ↦ rw (e, z) refl ]

  -- r is not near
  add_far : (c : ChunkPos) → is_chunk c ≡ true → is_full w.grid c ≡ false → is_near w.grid c r ≡ false → AddRests c
  add_far c l f n = let off = not_on c n l in record {
    stays = add_far_state w.grid c s.rules s.grid l r lives n ∙ ready;
    sections = add_far_sections w.grid c s.rules s.grid l r lives n;
    loaded = λ q. still_loaded c q f (rw off refl);
    owed = far_owed c l n;
  }

  add_rests : (c : ChunkPos) → is_chunk c ≡ true → is_full w.grid c ≡ false → load_touches w.grid c r ≡ false → AddRests c
  add_rests c l f n =
      let parts = or_parts (draws_in w.grid c r) (not (is_full w.grid c) && (ground w.grid r c && not (is_loaded w.grid c))) n in
      elim (cases_Bool (nat_eq (wanted w.grid c) 0)) [
        | inl k ↦ add_beside c f k (rw f at parts.1)
        | inr k ↦ add_far c l f (rw (f, k) at parts.0)
      ]

  pub rest_loaded : (c : ChunkPos) → is_chunk c ≡ true → load_touches w.grid c r ≡ false → Resting r w (loaded w c)
  unfolding loaded
  rest_loaded c l n = elim (cases_Bool (is_full w.grid c)) [
    | inl f ↦ rw f (rest_self r w ready)
    | inr f ↦ let a = add_rests c l f n in
        rw f (resting r w (record w { grid = add w.grid c; owed = owed_after_add w.grid c w.owed; tickets = λ q. if same_chunk c q then w.tickets c + 1 else w.tickets q })
        a.stays (grid_add w.grid c) a.sections a.loaded a.owed refl (λ k. refl) refl refl)
  ]

  -- what touches no chunk by a task touches none by a load
  post_touches_more : (c : ChunkPos) → post_touches w.grid c r ≡ false → load_touches w.grid c r ≡ false
  post_touches_more c n =
      let parts = or_parts (draws_in w.grid c r) (not (is_full w.grid c) && ground w.grid r c) n in
      let d = parts.0 in
      elim (cases_Bool (is_full w.grid c)) [
        | inl f ↦ rw (d, f) refl
        | inr f ↦ let g : ground w.grid r c ≡ false = rw f at parts.1 in rw (d, g, f) refl
      ]

  post_off : (c : ChunkPos) → is_full w.grid c ≡ false → post_touches w.grid c r ≡ false → ground w.grid r c ≡ false
  post_off c f n = let p = (or_parts (draws_in w.grid c r) (not (is_full w.grid c) && ground w.grid r c) n).1 in rw f at p

  queued_off : (c : ChunkPos) (d : ℕ) (a : Action) (k : ℕ) → ground w.grid r c ≡ false → rests w.grid r (at_id w.jobs w.next_job (Some (queued c d a)) k) ≡ rests w.grid r (w.jobs k)
  queued_off c d a k n = elim (cases_eq k w.next_job) [
    | inl e ↦ let here : at_id w.jobs w.next_job (Some (queued c d a)) k ≡ Some (queued c d a) = rw e (at_here w.jobs w.next_job (Some (queued c d a))) in
        let none : w.jobs k ≡ None = s.numbers k (omega arith) in
        let z : rests w.grid r (Some (queued c d a)) ≡ None = rw n refl in
        ap (rests w.grid r) here ∙ z ∙ sym (ap (rests w.grid r) none)
    | inr e ↦ ap (rests w.grid r) (at_other w.jobs w.next_job (Some (queued c d a)) k e)
  ]

  pub rest_posted : (c : ChunkPos) (d : ℕ) (a : Action) → is_chunk c ≡ true → post_touches w.grid c r ≡ false → Resting r w (posted w c d a)
  unfolding posted
  rest_posted c d a l n = elim (cases_Bool (is_full w.grid c)) [
    | inl f ↦ rw f (rest_self r w ready)
    | inr f ↦ let m = add_rests c l f (post_touches_more c n) in
        rw f (resting r w (record w { grid = add w.grid c; owed = owed_after_add w.grid c w.owed; jobs = at_id w.jobs w.next_job (Some (queued c d a)); next_job = w.next_job + 1 })
        m.stays (grid_add w.grid c) m.sections m.loaded m.owed refl (λ k. queued_off c d a k (post_off c f n)) refl refl)
  ]

  -- a removed hold: of a chunk that is not of r, that has no ticket, or that has another hold
  pub rest_unloaded : (c : ChunkPos) → unload_touches w c r ≡ false → Resting r w (unloaded w c)
  unfolding unloaded drop_hold
  rest_unloaded c n = elim (cases_Bool (nat_eq (w.tickets c) 0)) [
    | inl f ↦ rw f (rest_self r w ready)
    | inr f ↦ rw f (record {
      ready = ready;
      same_ground = refl;
      grid = refl;
      sections = λ s. ((λ e. e), (λ e. e));
      loaded = λ q h. elim (cases_Bool (same_chunk c q)) [
        | inl e ↦ let x = same_chunk-true c q e in
            let g : ground w.grid r c ≡ true = ap (ground w.grid r) x ∙ h in
            let t : nat_lt 0 (w.tickets c) ≡ true = lt-ltb _ _ (let z = eqb-false _ _ f in omega arith) in
            let one : nat_eq (w.grid.holds c) 1 ≡ false = rw (g, t) at n in
            let k : w.grid.holds c ≢ 1 = eqb-false _ _ one in
            rw e (same_answer (nat_lt 0 (w.grid.holds c - 1)) (nat_lt 0 (w.grid.holds q))
            (λ a. let y = ltb-true _ _ a in let v = ap w.grid.holds x in lt-ltb _ _ (omega arith))
            (λ a. let y = ltb-true _ _ a in let v = ap w.grid.holds x in lt-ltb _ _ (omega arith)))
        | inr e ↦ rw e refl
      ];
      owed = refl;
      tick = refl;
      jobs = λ k. refl;
      phase = refl;
      stopped = refl;
    })
  ]

  down_off : (q : ℕ) → q ≢ r → (o : Option Job) → rests w.grid r (counted_down w.grid q o) ≡ rests w.grid r o
  down_off q d None = refl
  down_off q d (Some j) = elim (cases_Bool (nat_eq j.taker 0 && nat_eq (w.grid.owner (section_of w.grid.grid j.chunk)) q)) [
    | inl k ↦ let o : w.grid.owner (section_of w.grid.grid j.chunk) ≡ q = eqb-true _ _ (and_parts (nat_eq j.taker 0) (nat_eq (w.grid.owner (section_of w.grid.grid j.chunk)) q) k).1 in
        let z : ground w.grid r j.chunk ≡ false = ne_eqb _ _ (λ e. d (sym o ∙ e)) in rw (k, z) refl
    | inr k ↦ rw k refl
  ]

  pub rest_begun : (worker q : ℕ) → q ≢ r → Resting r w (begun w worker q)
  unfolding begun begin
  rest_begun worker q d = let z : nat_eq q r ≡ false = ne_eqb _ _ d in record {
    ready = rw z ready;
    same_ground = refl;
    grid = refl;
    sections = λ s. ((λ e. e), (λ e. e));
    loaded = λ c h. refl;
    owed = rw z refl;
    tick = refl;
    jobs = λ n. down_off q d (w.jobs n);
    phase = refl;
    stopped = refl;
  }
