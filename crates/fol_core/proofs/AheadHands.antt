-- Tasks in hands, after the history and ahead of it: along an event that touches no marked region, the tasks that went with an open tick ahead
-- are those that went with one after the history, and those on the chunks of marked regions.
use Rattle.std.proofs.Common.{◌≡◌, ◌≢◌, ℕ, ◌-◌, ◌≤◌, ◌<◌, refl, sym, ◌∙◌, ap, arith, Bool, true, false, inl, inr, not, ◌&&◌, ◌||◌, List}
use Rattle.std.specs.Prelude.{nat_eq, nat_lt, nat_le, if◌then◌else◌, Option, Some, None}
use Rattle.std.proofs.lemmas.Option.{same_Some}
use Rattle.std.proofs.lemmas.Bool.{cases_Bool, cases_eq, cases_lt, and_right, eqb-true, eqb-false, eq-eqb, ne_eqb, false_from_ne_true, ltb-true, true≢false}
use Rattle.fol_model.specs.declared.places.ChunkPos.{ChunkPos}
use Rattle.fol_model.specs.declared.openings.Opening.{Opening}
use Rattle.fol_model.specs.declared.events.Event.{Event}
use Rattle.fol_model.specs.declared.events.Event.TheVariants.{Load, Unload, Post, PhaseOpen, Begin, End, PhaseClose, Finish, Stop}
use Rattle.fol_model.specs.declared.events.Accept.{Accept}
use Rattle.fol_model.specs.declared.regions.State.TheVariants.{Ready, Ticking}
use Rattle.fol_model.specs.declared.tasks.Ran.{Ran}
use Rattle.fol_model.specs.Geometry.{section_of}
use Rattle.fol_model.specs.GridState.{GridState, is_ticking}
use Rattle.fol_model.specs.Begin.{begin}
use Rattle.fol_model.specs.ActionStep.{at_id}
use Rattle.fol_model.specs.End.{ended, left}
use Rattle.fol_model.specs.Job.{Job}
use Rattle.fol_model.specs.OpenTick.{is_begin, is_end}
use Rattle.fol_model.specs.QueuedTask.{begun, counted_down}
use Rattle.fol_model.specs.World.{World}
use Rattle.fol_model.specs.Run.{Allowed, after}
use Rattle.fol_laws.proofs.AddTarget.{is_ticking-true}
use Rattle.fol_laws.proofs.TaskFates.{fated, next_fate}
use Rattle.fol_laws.proofs.TickedBefore.{ticked_before}
use Rattle.fol_laws.proofs.TickingKept.{Kept, kept_after}
use Rattle.fol_laws.proofs.WholeRuns.{Good}
use Rattle.fol_early_laws.specs.EarlyBegins.{ahead_of, IsAhead, own_event, SparesAll}
use Rattle.fol_early_laws.proofs.EarlyEvents.{chunks_kept, met, new_unmarked}
use Rattle.fol_core.specs.Ahead.{Goes}
use Rattle.fol_world.specs.Hands.{owner_of, since_after, ticker, went}
use Rattle.fol_core.proofs.BegunHands.{went_else, went_here}
use Rattle.fol_world.proofs.GridRuns.{grid_after}
use Rattle.fol_world.proofs.HandSteps.{ticker_off, ticker_on, went_by}
use Rattle.fol_world.proofs.SinceRuns.{since_below}

-- ---- a queued task was queued before, on the same chunk
pub record WasQueued (x : Option Job) (j : Job) : Type 0 where
  pub job : Job
  pub is : x ≡ Some job
  pub queued : job.taker ≡ 0
  pub chunk : job.chunk ≡ j.chunk

pub counted_was : (g : GridState) (r : ℕ) (x : Option Job) (j : Job) → counted_down g r x ≡ Some j → j.taker ≡ 0 → WasQueued x j
counted_was g r None j e t = absurd (cc)
counted_was g r (Some k) j e t = elim (cases_Bool (nat_eq k.taker 0)) [
  | inl z ↦ elim (cases_Bool (nat_eq (g.owner (section_of g.grid k.chunk)) r)) [
    | inl m ↦ let y : Some (record k { rest = k.rest - 1; taker = if nat_le k.rest 1 then r else 0 }) ≡ Some j = rw (z, m) at e in
        record { job = k; is = refl; queued = eqb-true k.taker 0 z; chunk = ap (λ (v : Job). v.chunk) (same_Some _ j y) }
    | inr m ↦ let y : Some k ≡ Some j = rw (z, m) at e in record { job = k; is = refl; queued = eqb-true k.taker 0 z; chunk = ap (λ (v : Job). v.chunk) (same_Some k j y) }
  ]
  | inr z ↦ let y : Some k ≡ Some j = rw z at e in let q : k ≡ j = same_Some k j y in
      record { job = k; is = refl; queued = ap (λ (v : Job). v.taker) q ∙ t; chunk = ap (λ (v : Job). v.chunk) q }
]

left_was : (r : ℕ) (x : Option Job) (j : Job) → left r x ≡ Some j → j.taker ≡ 0 → WasQueued x j
left_was r None j e t = absurd (cc)
left_was r (Some k) j e t = elim (cases_Bool (nat_eq k.taker r)) [
  | inl z ↦ let y : None ≡ Some j = rw z at e in absurd (cc)
  | inr z ↦ let y : Some k ≡ Some j = rw z at e in let q : k ≡ j = same_Some k j y in
      record { job = k; is = refl; queued = ap (λ (v : Job). v.taker) q ∙ t; chunk = ap (λ (v : Job). v.chunk) q }
]

same_was : (x : Option Job) (j : Job) → x ≡ Some j → j.taker ≡ 0 → WasQueued x j
same_was x j e t = record { job = j; is = e; queued = t; chunk = refl }

fate_was : (w : World) (e : Event) (x : Option Job) (j : Job) → next_fate w e x ≡ Some j → j.taker ≡ 0 → WasQueued x j
fate_was w (Load caller c answer) x j h t = same_was x j h t
fate_was w (Unload caller c answer) x j h t = same_was x j h t
fate_was w (Post caller c d action answer) x j h t = same_was x j h t
fate_was w (PhaseOpen n) x j h t = same_was x j h t
fate_was w (Begin worker r) x j h t = counted_was w.grid r x j h t
fate_was w (End worker r tick ran accepts) x j h t = left_was r x j h t
fate_was w PhaseClose x j h t = same_was x j h t
fate_was w Finish x j h t = same_was x j h t
fate_was w (Stop caller) x j h t = same_was x j h t

-- ---- a number that no Begin has seen
went_above : (g : GridState) (f : ℕ → ℕ) (c : ChunkPos) (n m : ℕ) → ((q : ℕ) → f q ≤ m) → m ≤ n → went g f c n ≡ false
unfolding went
went_above g f c n m most new = and_right (nat_lt 0 (ticker g c)) (nat_lt n (f (ticker g c))) (false_from_ne_true _ (λ k. let a = ltb-true n (f (ticker g c)) k in let b = most (ticker g c) in omega arith))

-- ---- an End: the region ticks no more, and every other tick stays where it is
module _ (w : World) (q : ℕ) (given : 0 < q) (tick worker : ℕ) (ran : List Ran) (accepts : List Accept) (grid : (ended w q ran).grid.grid ≡ w.grid.grid)
    (kept : (r : ℕ) → r ≢ q → w.grid.state r ≡ Ticking → Kept r w (ended w q ran)) where
  back : (r : ℕ) → (ended w q ran).grid.state r ≡ Ticking → (w.grid.state r ≡ Ticking) × (r ≢ q)
  back r t = elim (ticked_before r w (End worker q tick ran accepts) t) [
    | inl k ↦ (k.0, λ e. eqb-false q r k.1 (sym e))
    | inr b ↦ absurd (true≢false (sym b))
  ]

  owner_then : (c : ChunkPos) → owner_of (ended w q ran).grid c ≡ (ended w q ran).grid.owner (section_of w.grid.grid c)
  owner_then c = ap (λ g. (ended w q ran).grid.owner (section_of g c)) grid

  ticks_at : (g : GridState) (r : ℕ) → g.state r ≡ Ticking → is_ticking (g.state r) ≡ true
  ticks_at g r h = rw h refl

  -- nothing ticks after the End where nothing but q ticked before
  none_then : (c : ChunkPos) → ((r : ℕ) → r ≢ q → w.grid.state r ≡ Ticking → owner_of w.grid c ≢ r) → ticker (ended w q ran).grid c ≡ 0
  none_then c h = elim (cases_Bool (is_ticking ((ended w q ran).grid.state (owner_of (ended w q ran).grid c)))) [
    | inl x ↦ let b = back (owner_of (ended w q ran).grid c) (is_ticking-true _ x) in
        let o : owner_of w.grid c ≡ owner_of (ended w q ran).grid c = ((kept (owner_of (ended w q ran).grid c) b.1 b.0).sections (section_of w.grid.grid c)).1 (sym (owner_then c)) in
        absurd (h (owner_of (ended w q ran).grid c) b.1 b.0 o)
    | inr x ↦ ticker_off (ended w q ran).grid c x
  ]

  pub ticker_ended : (c : ChunkPos) → ticker (ended w q ran).grid c ≡ (if nat_eq (ticker w.grid c) q then 0 else ticker w.grid c)
  ticker_ended c = elim (cases_Bool (is_ticking (w.grid.state (owner_of w.grid c)))) [
    | inl h ↦ let at = ticker_on w.grid c h in elim (cases_eq (owner_of w.grid c) q) [
      | inl e ↦ let k : nat_eq (ticker w.grid c) q ≡ true = eq-eqb _ _ (at ∙ e) in rw k (none_then c (λ r d t o. d (sym o ∙ e)))
      | inr d ↦ let k : nat_eq (ticker w.grid c) q ≡ false = ne_eqb _ _ (λ e. d (sym at ∙ e)) in
          let s = kept (owner_of w.grid c) d (is_ticking-true _ h) in
          let o : owner_of (ended w q ran).grid c ≡ owner_of w.grid c = owner_then c ∙ (s.sections (section_of w.grid.grid c)).0 refl in
          rw k (ticker_on (ended w q ran).grid c (ap (λ r. is_ticking ((ended w q ran).grid.state r)) o ∙ ticks_at (ended w q ran).grid (owner_of w.grid c) s.ticks) ∙ o ∙ sym at)
    ]
    | inr h ↦ let at = ticker_off w.grid c h in
        let k : nat_eq (ticker w.grid c) q ≡ false = ne_eqb _ _ (λ e. omega arith) in
        rw k (none_then c (λ r d t o. true≢false (sym (ap (λ u. is_ticking (w.grid.state u)) o ∙ ticks_at w.grid r t) ∙ h)) ∙ sym at)
  ]

  pub went_ended : (f : ℕ → ℕ) (c : ChunkPos) (n : ℕ) → went (ended w q ran).grid f c n ≡ (not (nat_eq (ticker w.grid c) q) && went w.grid f c n)
  unfolding went
  went_ended f c n = let e = ticker_ended c in elim (cases_Bool (nat_eq (ticker w.grid c) q)) [ inl k ↦ rw (e, k) refl | inr k ↦ rw (e, k) refl ]

-- ---- one event more
module _ (o : Opening) (w x : World) (p : ℕ → Bool) (gw : Good o w) (gx : Good o x) (a : IsAhead p w x) (h f : ℕ → ℕ) (hb : (q : ℕ) → h q ≤ w.next_job) (fb : (q : ℕ) → f q ≤ x.next_job) (goes : Goes p w x h f) where
  next_same : x.next_job ≡ w.next_job
  unfolding ahead_of
  next_same = ap (λ (v : World). v.next_job) a.same

  owner_ahead : (c : ChunkPos) → owner_of x.grid c ≡ owner_of w.grid c
  unfolding ahead_of
  owner_ahead c = ap (λ (v : World). v.grid.owner (section_of v.grid.grid c)) a.same

  state_ahead : (r : ℕ) → p r ≡ false → x.grid.state r ≡ w.grid.state r
  unfolding ahead_of
  state_ahead r n = ap (λ (v : World). v.grid.state r) a.same ∙ rw n refl

  module _ (e : Event) (ok : Allowed w e) (spares : SparesAll w p e) where
    ok_ahead : Allowed x (own_event x e)
    ok_ahead = (met o w x p gw a e ok spares).0

  -- of a task that was queued before
  abbrev Old : Event → Type 0
  Old e = (n : ℕ) (c : ChunkPos) → n < w.next_job → went x.grid f c n ≡ (went w.grid h c n || p (owner_of w.grid c))
      → went (after x (own_event x e)).grid (since_after f x (own_event x e)) c n ≡ (went (after w e).grid (since_after h w e) c n || p (owner_of (after w e).grid c))

  begun_grid : (v : World) (worker r : ℕ) → (begun v worker r).grid ≡ begin v.grid r
  unfolding begun
  begun_grid v worker r = refl

  old_begin : (worker q : ℕ) → Allowed w (Begin worker q) → SparesAll w p (Begin worker q) → Old (Begin worker q)
  unfolding begin begun
  old_begin worker q ok spares n c l before =
      let off : p q ≡ false = false_from_ne_true (p q) (λ k. true≢false (sym (eq-eqb q q refl) ∙ spares q k)) in
      let given : 0 < q = gw.sound.rules.given q (λ d. let b = ok.0 in cc) in
      let ready : x.grid.state q ≡ Ready = state_ahead q off ∙ ok.0 in
      let bw = begun_grid w worker q in let bx = begun_grid x worker q in
      let mark : p (owner_of (begun w worker q).grid c) ≡ p (owner_of w.grid c) = sym (chunks_kept o w x p gw a (Begin worker q) ok spares c) in
      elim (cases_eq (owner_of w.grid c) q) [
        | inl d ↦ let one : went (begin x.grid q) (at_id f q x.next_job) c n ≡ true = went_here x.grid q ready given f c n x.next_job (owner_ahead c ∙ d) (let s = next_same in omega arith) in
            let two : went (begin w.grid q) (at_id h q w.next_job) c n ≡ true = went_here w.grid q ok.0 given h c n w.next_job d l in
            rw (bw, bx) (one ∙ sym (ap (λ b. b || p (owner_of (begun w worker q).grid c)) two))
        | inr d ↦ let one = went_else x.grid q ready given f c n x.next_job (λ y. d (sym (owner_ahead c) ∙ y)) in
            let two = went_else w.grid q ok.0 given h c n w.next_job d in
            rw (bw, bx) (one ∙ before ∙ (λ i. sym two i || sym mark i))
      ]

  old_else : (e : Event) → Allowed w e → SparesAll w p e → ((r : ℕ) → is_begin r e ≡ false) → ((r : ℕ) → is_end r e ≡ false) → own_event x e ≡ e → since_after h w e ≡ h → since_after f x e ≡ f → Old e
  old_else e ok spares nb ne own sw sx n c l before =
      let okx : Allowed x e = (let b = ok_ahead e ok spares in rw own at b) in
      let mark : p (owner_of (after w e).grid c) ≡ p (owner_of w.grid c) = sym (chunks_kept o w x p gw a e ok spares c) in
      rw (own, sw, sx) (went_by x e gx.sound okx nb ne f c n ∙ before ∙ (λ i. sym (went_by w e gw.sound ok nb ne h c n) i || sym mark i))

  ticker_is : (g : GridState) (c : ChunkPos) (q : ℕ) → 0 < q → ticker g c ≡ q → owner_of g c ≡ q
  ticker_is g c q given e = elim (cases_Bool (is_ticking (g.state (owner_of g c)))) [
    | inl k ↦ sym (ticker_on g c k) ∙ e
    | inr k ↦ let z = ticker_off g c k in absurd (omega arith)
  ]

  ticks_here : (g : GridState) (c : ChunkPos) (q : ℕ) → owner_of g c ≡ q → g.state q ≡ Ticking → ticker g c ≡ q
  ticks_here g c q e t = ticker_on g c (ap (λ r. is_ticking (g.state r)) e ∙ rw t refl) ∙ e

  old_end : (worker q tick : ℕ) (ran : List Ran) (accepts : List Accept) → Allowed w (End worker q tick ran accepts) → SparesAll w p (End worker q tick ran accepts) → Old (End worker q tick ran accepts)
  old_end worker q tick ran accepts ok spares n c l before =
      let given : 0 < q = gw.sound.rules.given q (λ d. let b = ok.0 in cc) in
      let off : p q ≡ false = false_from_ne_true (p q) (λ k. let b = a.ready q k in let t = ok.0 in cc) in
      let okx = ok_ahead (End worker q tick ran accepts) ok spares in
      let ticks : x.grid.state q ≡ Ticking = okx.0 in
      let mark : p (owner_of (ended w q ran).grid c) ≡ p (owner_of w.grid c) = sym (chunks_kept o w x p gw a (End worker q tick ran accepts) ok spares c) in
      let ww = went_ended w q given tick worker ran accepts (grid_after w (End worker q tick ran accepts)) (λ r d t. kept_after r w (End worker q tick ran accepts) gw.sound t ok (ne_eqb q r (λ e. d (sym e)))) h c n in
      let wx = went_ended x q given tick (x.worker q) ran accepts (grid_after x (End (x.worker q) q tick ran accepts)) (λ r d t. kept_after r x (End (x.worker q) q tick ran accepts) gx.sound t okx (ne_eqb q r (λ e. d (sym e)))) f c n in
      elim (cases_eq (ticker w.grid c) q) [
        | inl e ↦ let own : owner_of w.grid c ≡ q = ticker_is w.grid c q given e in
            let k : nat_eq (ticker w.grid c) q ≡ true = eq-eqb _ _ e in
            let kx : nat_eq (ticker x.grid c) q ≡ true = eq-eqb _ _ (ticks_here x.grid c q (owner_ahead c ∙ own) ticks) in
            let none : p (owner_of (ended w q ran).grid c) ≡ false = mark ∙ ap p own ∙ off in
            rw (wx, ww, k, kx, none) refl
        | inr d ↦ let k : nat_eq (ticker w.grid c) q ≡ false = ne_eqb _ _ d in
            let kx : nat_eq (ticker x.grid c) q ≡ false = ne_eqb _ _ (λ e. d (ticks_here w.grid c q (sym (owner_ahead c) ∙ ticker_is x.grid c q given e) ok.0)) in
            rw (wx, ww, k, kx, mark) before
      ]

  old : (e : Event) → Allowed w e → SparesAll w p e → Old e
  old (Load caller c answer) ok spares = old_else (Load caller c answer) ok spares (λ r. refl) (λ r. refl) refl refl refl
  old (Unload caller c answer) ok spares = old_else (Unload caller c answer) ok spares (λ r. refl) (λ r. refl) refl refl refl
  old (Post caller c d action answer) ok spares = old_else (Post caller c d action answer) ok spares (λ r. refl) (λ r. refl) refl refl refl
  old (PhaseOpen n) ok spares = old_else (PhaseOpen n) ok spares (λ r. refl) (λ r. refl) refl refl refl
  old (Begin worker q) ok spares = old_begin worker q ok spares
  old (End worker q tick ran accepts) ok spares = old_end worker q tick ran accepts ok spares
  old PhaseClose ok spares = old_else PhaseClose ok spares (λ r. refl) (λ r. refl) refl refl refl
  old Finish ok spares = old_else Finish ok spares (λ r. refl) (λ r. refl) refl refl refl
  old (Stop caller) ok spares = old_else (Stop caller) ok spares (λ r. refl) (λ r. refl) refl refl refl

  pub goes_after : (e : Event) → Allowed w e → SparesAll w p e → Goes p (after w e) (after x (own_event x e)) (since_after h w e) (since_after f x (own_event x e))
  goes_after e ok spares n j k z = elim (cases_lt n w.next_job) [
    | inl l ↦ let was = fate_was w e (w.jobs n) j (sym ((fated w e).jobs n l) ∙ k) z in
        let c = was.chunk in
        let before : went x.grid f j.chunk n ≡ (went w.grid h j.chunk n || p (owner_of w.grid j.chunk)) = rw c at (goes n was.job was.is was.queued) in
        old e ok spares n j.chunk l before
    | inr new ↦ let one = went_above (after x (own_event x e)).grid (since_after f x (own_event x e)) j.chunk n x.next_job (since_below f x (own_event x e) fb) (let s = next_same in omega arith) in
        let two = went_above (after w e).grid (since_after h w e) j.chunk n w.next_job (since_below h w e hb) new in
        let off : p (owner_of (after w e).grid j.chunk) ≡ false = new_unmarked o w x p gw a e ok spares n j new k in
        rw (one, two, off) refl
  ]
