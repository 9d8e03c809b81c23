-- Loads, unloads and posts that touch no region which has begun early.
use Rattle.std.proofs.Common.{◌≡◌, ◌≢◌, ℕ, ◌+◌, ◌-◌, refl, sym, ◌∙◌, arith, Bool, true, false, inl, inr, not, ◌&&◌}
use Rattle.std.specs.Prelude.{nat_eq, if◌then◌else◌, Some}
use Rattle.std.proofs.lemmas.Bool.{cases_Bool, cases_eq, eq-eqb, ne_eqb, false_from_ne_true, or_parts, true≢false}
use Rattle.fol_model.specs.Counting.{greatest_below}
use Rattle.fol_model.specs.declared.actions.Action.{Action}
use Rattle.fol_model.specs.declared.places.ChunkPos.{ChunkPos}
use Rattle.fol_model.specs.declared.regions.State.TheVariants.{Ready}
use Rattle.fol_model.specs.Geometry.{is_chunk, same_chunk, section_of}
use Rattle.fol_model.specs.GridState.{is_loaded}
use Rattle.fol_model.specs.Add.{add, is_full, is_near, is_near_calm, target, wanted}
use Rattle.fol_model.specs.Drop.{drop_hold}
use Rattle.fol_model.specs.ActionStep.{at_id}
use Rattle.fol_model.specs.Counters.{owed_after_add}
use Rattle.fol_model.specs.Holds.{loaded, posted, posting, unloaded}
use Rattle.fol_model.specs.Job.{queued}
use Rattle.fol_model.specs.Run.{load_answer, unload_answer}
use Rattle.fol_model.specs.World.{World}
use Rattle.fol_laws.specs.LateBegin.{draws_in, ground, load_touches, post_touches, unload_touches}
use Rattle.fol_laws.proofs.AddSections.{far_target}
use Rattle.fol_laws.proofs.GreatestBelow.{greatest-at_least, greatest-at_most}
use Rattle.fol_laws.proofs.Resting.{Resting}
use Rattle.fol_laws.proofs.RestingHolds.{rest_loaded, rest_posted, rest_unloaded}
use Rattle.fol_laws.proofs.SoundState.{SoundWorld}
use Rattle.fol_early_laws.specs.EarlyBegins.{ahead_of, down_all, marked_grid, unhanded}
use Rattle.fol_early_laws.proofs.EarlyTasks.{down_rest, owner_all, recorded_all}
use Rattle.fol_early_laws.proofs.MarkedGrids.{add_same, calm_at, full_same, target_at, wanted_same}

pub greatest_same : (p : ℕ → Bool) (f g : ℕ → ℕ) (n : ℕ) → ((k : ℕ) → p k ≡ true → f k ≡ g k) → greatest_below p f n ≡ greatest_below p g n
greatest_same p f g n e =
    let a = greatest-at_most p f n (greatest_below p g n) (λ k l c. let x = e k c in let y = greatest-at_least p g n k l c in omega arith) in
    let b = greatest-at_most p g n (greatest_below p f n) (λ k l c. let x = e k c in let y = greatest-at_least p f n k l c in omega arith) in omega arith

-- an Add that is not Full and draws no marked region in
module _ (w : World) (p : ℕ → Bool) (c : ChunkPos) (s : SoundWorld w) (limits : is_chunk c ≡ true) (ready : (r : ℕ) → p r ≡ true → w.grid.state r ≡ Ready)
    (f : is_full w.grid c ≡ false) (draws : (r : ℕ) → p r ≡ true → draws_in w.grid c r ≡ false) where
  far : nat_eq (wanted w.grid c) 0 ≡ false → (r : ℕ) → p r ≡ true → is_near w.grid c r ≡ false
  far z r k = let d = draws r k in rw (f, z) at d

  apart : nat_eq (wanted w.grid c) 0 ≡ false → (r : ℕ) → p r ≡ true → target w.grid c ≢ r
  apart z r k e = let q = ready r k in far_target w.grid c s.rules s.grid limits r (λ d. cc) (far z r k) (sym e)

  grid_ahead : add (marked_grid w.grid p) c ≡ marked_grid (add w.grid c) p
  grid_ahead = add_same w.grid c p (λ g z. (far z, apart z))

  owed_at : (q : ℕ) → owed_after_add (marked_grid w.grid p) c (λ r. if p r then w.owed r - 1 else w.owed r) q ≡ (if p q then owed_after_add w.grid c w.owed q - 1 else owed_after_add w.grid c w.owed q)
  unfolding owed_after_add
  owed_at q = let a = full_same w.grid c p in let b = wanted_same w.grid c p in elim (cases_Bool (nat_eq (wanted w.grid c) 0)) [
    | inl z ↦ rw (a, f, b, z) refl
    | inr z ↦ let t = target_at w.grid c p (far z) (apart z) in elim (cases_eq q (target w.grid c)) [
      | inl e ↦ let n : nat_eq q (target w.grid c) ≡ true = eq-eqb _ _ e in
          let off : p q ≡ false = false_from_ne_true (p q) (λ k. apart z q k (sym e)) in
          let near : greatest_below (is_near_calm (marked_grid w.grid p) c) (λ r. if p r then w.owed r - 1 else w.owed r) w.grid.next ≡ greatest_below (is_near_calm w.grid c) w.owed w.grid.next =
          (λ i. greatest_below (λ r. calm_at w.grid c p (far z) (apart z) r i) (λ r. if p r then w.owed r - 1 else w.owed r) w.grid.next)
          ∙ greatest_same (is_near_calm w.grid c) (λ r. if p r then w.owed r - 1 else w.owed r) w.owed w.grid.next
          (λ k m. let o : p k ≡ false = false_from_ne_true (p k) (λ y. let x = far z k y in absurd (true≢false (sym m ∙ rw x refl))) in rw o refl) in
          rw (a, f, b, z, t, n, off) near
      | inr d ↦ let n : nat_eq q (target w.grid c) ≡ false = ne_eqb _ _ d in rw (a, f, b, z, t, n) refl
    ]
  ]

module _ (w : World) (p : ℕ → Bool) (c : ChunkPos) (s : SoundWorld w) (limits : is_chunk c ≡ true) (ready : (r : ℕ) → p r ≡ true → w.grid.state r ≡ Ready) where
  load_draws : ((r : ℕ) → p r ≡ true → load_touches w.grid c r ≡ false) → (r : ℕ) → p r ≡ true → draws_in w.grid c r ≡ false
  load_draws calm r k = (or_parts (draws_in w.grid c r) (not (is_full w.grid c) && (ground w.grid r c && not (is_loaded w.grid c))) (calm r k)).0

  pub loaded_ahead : ((r : ℕ) → p r ≡ true → load_touches w.grid c r ≡ false) → loaded (ahead_of w p) c ≡ ahead_of (loaded w c) p
  unfolding loaded ahead_of
  loaded_ahead calm = let a = full_same w.grid c p in elim (cases_Bool (is_full w.grid c)) [
    | inl f ↦ rw (a, f) refl
    | inr f ↦ let v : World = record w { grid = add w.grid c; owed = owed_after_add w.grid c w.owed; tickets = λ q. if same_chunk c q then w.tickets c + 1 else w.tickets q } in
        let rest : (r : ℕ) → p r ≡ true → Resting r w v = λ r k. rw f at (rest_loaded r w s (ready r k) c limits (calm r k)) in
        rw (a, f) (λ i. record w {
          grid = grid_ahead w p c s limits ready f (load_draws calm) i;
          tickets = λ q. if same_chunk c q then w.tickets c + 1 else w.tickets q;
          jobs = λ n. down_rest w v p rest (w.jobs n) i;
          worker = λ r. 0;
          recorded = λ r. recorded_all w v p rest w.recorded r i;
          owed = λ q. owed_at w p c s limits ready f (load_draws calm) q i;
        })
  ]

  module _ (d : ℕ) (x : Action) (calm : (r : ℕ) → p r ≡ true → post_touches w.grid c r ≡ false) where
    post_parts : (r : ℕ) → p r ≡ true → (draws_in w.grid c r ≡ false) × ((not (is_full w.grid c) && ground w.grid r c) ≡ false)
    post_parts r k = or_parts (draws_in w.grid c r) (not (is_full w.grid c) && ground w.grid r c) (calm r k)

    -- the chunk of the new task is of no marked region
    home_off : is_full w.grid c ≡ false → p (w.grid.owner (section_of w.grid.grid c)) ≡ false
    home_off f = false_from_ne_true (p (w.grid.owner (section_of w.grid.grid c))) (λ k.
        let h = (post_parts (w.grid.owner (section_of w.grid.grid c)) k).1 in
        let e : nat_eq (w.grid.owner (section_of w.grid.grid c)) (w.grid.owner (section_of w.grid.grid c)) ≡ true = eq-eqb _ _ refl in
        true≢false (sym e ∙ (rw f at h)))

    new_down : (v : World) → ((r : ℕ) → p r ≡ true → Resting r w v) → p (w.grid.owner (section_of w.grid.grid c)) ≡ false → (n : ℕ)
        → at_id (λ k. down_all w.grid p (w.jobs k)) w.next_job (Some (queued c d x)) n ≡ down_all v.grid p (at_id w.jobs w.next_job (Some (queued c d x)) n)
    new_down v rest off n = elim (cases_eq n w.next_job) [
      | inl e ↦ let k : nat_eq w.next_job n ≡ true = eq-eqb _ _ (sym e) in
          let z : p (v.grid.owner (section_of v.grid.grid c)) ≡ false = sym (owner_all w v p rest c) ∙ off in rw (k, z) refl
      | inr e ↦ let k : nat_eq w.next_job n ≡ false = ne_eqb _ _ (λ y. e (sym y)) in rw k (down_rest w v p rest (w.jobs n))
    ]

    pub posted_ahead : posted (ahead_of w p) c d x ≡ ahead_of (posted w c d x) p
    unfolding posted ahead_of
    posted_ahead = let a = full_same w.grid c p in elim (cases_Bool (is_full w.grid c)) [
      | inl f ↦ rw (a, f) refl
      | inr f ↦ let v : World = record w { grid = add w.grid c; owed = owed_after_add w.grid c w.owed; jobs = at_id w.jobs w.next_job (Some (queued c d x)); next_job = w.next_job + 1 } in
          let rest : (r : ℕ) → p r ≡ true → Resting r w v = λ r k. rw f at (rest_posted r w s (ready r k) c d x limits (calm r k)) in
          let draws : (r : ℕ) → p r ≡ true → draws_in w.grid c r ≡ false = λ r k. (post_parts r k).0 in
          rw (a, f) (λ i. record w {
            grid = grid_ahead w p c s limits ready f draws i;
            jobs = λ n. new_down v rest (home_off f) n i;
            next_job = w.next_job + 1;
            worker = λ r. 0;
            recorded = λ r. recorded_all w v p rest w.recorded r i;
            owed = λ q. owed_at w p c s limits ready f draws q i;
          })
    ]

  pub unloaded_ahead : ((r : ℕ) → p r ≡ true → unload_touches w c r ≡ false) → unloaded (ahead_of w p) c ≡ ahead_of (unloaded w c) p
  unfolding unloaded ahead_of drop_hold
  unloaded_ahead calm = elim (cases_Bool (nat_eq (w.tickets c) 0)) [
    | inl z ↦ rw z refl
    | inr z ↦ let v : World = record w { grid = drop_hold w.grid c; tickets = λ q. if same_chunk c q then w.tickets c - 1 else w.tickets q } in
        let rest : (r : ℕ) → p r ≡ true → Resting r w v = λ r k. rw z at (rest_unloaded r w s (ready r k) c (calm r k)) in
        rw z (λ i. record w {
          grid = marked_grid (drop_hold w.grid c) p;
          tickets = λ q. if same_chunk c q then w.tickets c - 1 else w.tickets q;
          jobs = λ n. down_rest w v p rest (w.jobs n) i;
          worker = λ r. 0;
          recorded = λ r. recorded_all w v p rest w.recorded r i;
          owed = λ r. if p r then w.owed r - 1 else w.owed r;
        })
  ]

-- ---- who has the open ticks is nothing to them
pub loaded_unhanded : (x : World) (c : ChunkPos) → loaded (unhanded x) c ≡ unhanded (loaded x c)
unfolding loaded
loaded_unhanded x c = elim (cases_Bool (is_full x.grid c)) [ inl f ↦ rw f refl | inr f ↦ rw f refl ]

pub unloaded_unhanded : (x : World) (c : ChunkPos) → unloaded (unhanded x) c ≡ unhanded (unloaded x c)
unfolding unloaded
unloaded_unhanded x c = elim (cases_Bool (nat_eq (x.tickets c) 0)) [ inl f ↦ rw f refl | inr f ↦ rw f refl ]

pub posted_unhanded : (x : World) (c : ChunkPos) (d : ℕ) (a : Action) → posted (unhanded x) c d a ≡ unhanded (posted x c d a)
unfolding posted
posted_unhanded x c d a = elim (cases_Bool (is_full x.grid c)) [ inl f ↦ rw f refl | inr f ↦ rw f refl ]

-- ---- the answers are the same
pub load_answer_ahead : (w : World) (p : ℕ → Bool) (c : ChunkPos) → load_answer (ahead_of w p) c ≡ load_answer w c
unfolding ahead_of is_full wanted
load_answer_ahead w p c = refl

pub unload_answer_ahead : (w : World) (p : ℕ → Bool) (c : ChunkPos) → unload_answer (ahead_of w p) c ≡ unload_answer w c
unfolding ahead_of
unload_answer_ahead w p c = refl

pub posting_ahead : (w : World) (p : ℕ → Bool) (c : ChunkPos) → posting (ahead_of w p) c ≡ posting w c
unfolding ahead_of is_full wanted
posting_ahead w p c = refl
