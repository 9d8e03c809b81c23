-- A region that ticks after an event ticked before it, or the event is its Begin.
use Rattle.std.proofs.Common.{◌≡◌, ℕ, refl, sym, true, false, inl, inr, ◌⊎◌, List, [], ◌∷◌}
use Rattle.std.specs.Prelude.{◌≢◌, nat_eq, Option, Some, None}
use Rattle.std.proofs.lemmas.Bool.{cases_Bool, cases_eq, eqb-false, eq-eqb, ne_eqb}
use Rattle.fol_model.specs.declared.places.ChunkPos.{ChunkPos}
use Rattle.fol_model.specs.declared.regions.State.TheVariants.{Ready, Ticking, Dead, Transient}
use Rattle.fol_model.specs.GridState.{GridState}
use Rattle.fol_model.specs.Add.{is_full, add, wanted, target, target_waits, is_near_calm}
use Rattle.fol_model.specs.Drop.{drop_hold}
use Rattle.fol_model.specs.Begin.{begin}
use Rattle.fol_model.specs.Counting.{some_below}
use Rattle.fol_model.specs.Release.{release, must_wait, cleans, is_part_id, parts}
use Rattle.fol_model.specs.World.{World}
use Rattle.fol_model.specs.Holds.{loaded, unloaded, posted}
use Rattle.fol_model.specs.QueuedTask.{begun}
use Rattle.fol_model.specs.End.{dropped, ticked, put_back, accepted, all_accepted, released, run_down, ended}
use Rattle.fol_model.specs.Run.{after}
use Rattle.fol_model.specs.OpenTick.{is_end, is_begin}
use Rattle.fol_model.specs.declared.places.BlockPos.{BlockPos}
use Rattle.fol_model.specs.declared.tasks.Ran.{Ran}
use Rattle.fol_model.specs.declared.tasks.Wish.{Wish}
use Rattle.fol_model.specs.declared.actions.Action.{Action}
use Rattle.fol_model.specs.declared.actions.Action.TheVariants as action
use Rattle.fol_model.specs.declared.events.Event.{Event}
use Rattle.fol_model.specs.declared.events.Event.TheVariants.{Load, Unload, Post, PhaseOpen, Begin, End, PhaseClose, Finish, Stop}

-- ---- a region that ticks after a step ticked before it
module _ (g : GridState) (q : ℕ) where
  add_back : (c : ChunkPos) → (add g c).state q ≡ Ticking → g.state q ≡ Ticking
  unfolding add
  add_back c h = elim (cases_Bool (is_full g c)) [
    | inl f ↦ rw f at h
    | inr f ↦ elim (cases_Bool (nat_eq (wanted g c) 0)) [
      | inl k ↦ rw (f, k) at h
      | inr k ↦ elim (cases_Bool (nat_eq (target g c) q)) [
        | inl t ↦ elim (cases_Bool (some_below (target_waits g c) g.next)) [
          | inl m ↦ let x : Transient ≡ Ticking = rw (f, k, t, m) at h in absurd (cc)
          | inr m ↦ let x : Ready ≡ Ticking = rw (f, k, t, m) at h in absurd (cc)
        ]
        | inr t ↦ elim (cases_Bool (is_near_calm g c q)) [
          | inl m ↦ let x : Dead ≡ Ticking = rw (f, k, t, m) at h in absurd (cc)
          | inr m ↦ rw (f, k, t, m) at h
        ]
      ]
    ]
  ]

  release_back : (t : ℕ) → (release g t).state q ≡ Ticking → (g.state q ≡ Ticking) × (nat_eq q t ≡ false)
  unfolding release
  release_back t h = elim (cases_Bool (must_wait g t)) [
    | inl w ↦ elim (cases_Bool (nat_eq q t)) [
      | inl n ↦ let x : Transient ≡ Ticking = rw (w, n) at h in absurd (cc)
      | inr n ↦ elim (cases_Bool (g.waits q t)) [
        | inl m ↦ let x : Dead ≡ Ticking = rw (w, n, m) at h in absurd (cc)
        | inr m ↦ (rw (w, n, m) at h, n)
      ]
    ]
    | inr w ↦ elim (cases_Bool (cleans g t)) [
      | inl k ↦ elim (cases_Bool (is_part_id g t q)) [
        | inl p ↦ let x : Ready ≡ Ticking = rw (w, k, p) at h in absurd (cc)
        | inr p ↦ elim (cases_Bool (nat_eq q t)) [
          | inl n ↦ elim (cases_Bool (nat_eq (parts g t) 1)) [
            | inl o ↦ let x : Ready ≡ Ticking = rw (w, k, p, n, o) at h in absurd (cc)
            | inr o ↦ let x : Dead ≡ Ticking = rw (w, k, p, n, o) at h in absurd (cc)
          ]
          | inr n ↦ elim (cases_Bool (g.waits q t)) [
            | inl m ↦ let x : Dead ≡ Ticking = rw (w, k, p, n, m) at h in absurd (cc)
            | inr m ↦ (rw (w, k, p, n, m) at h, n)
          ]
        ]
      ]
      | inr k ↦ elim (cases_Bool (nat_eq q t)) [
        | inl n ↦ let x : Ready ≡ Ticking = rw (w, k, n) at h in absurd (cc)
        | inr n ↦ (rw (w, k, n) at h, n)
      ]
    ]
  ]

  begin_back : (r : ℕ) → r ≢ q → (begin g r).state q ≡ Ticking → g.state q ≡ Ticking
  unfolding begin
  begin_back r d h = let n : nat_eq r q ≡ false = ne_eqb _ _ d in rw n at h

module _ (q : ℕ) where
  posted_back : (w : World) (c : ChunkPos) (d : ℕ) (a : Action) → (posted w c d a).grid.state q ≡ Ticking → w.grid.state q ≡ Ticking
  unfolding posted
  posted_back w c d a h = elim (cases_Bool (is_full w.grid c)) [ inl f ↦ rw f at h | inr f ↦ let x : (add w.grid c).state q ≡ Ticking = rw f at h in add_back w.grid q c x ]

  loaded_back : (w : World) (c : ChunkPos) → (loaded w c).grid.state q ≡ Ticking → w.grid.state q ≡ Ticking
  unfolding loaded
  loaded_back w c h = elim (cases_Bool (is_full w.grid c)) [ inl f ↦ rw f at h | inr f ↦ let x : (add w.grid c).state q ≡ Ticking = rw f at h in add_back w.grid q c x ]

  unloaded_back : (w : World) (c : ChunkPos) → (unloaded w c).grid.state q ≡ Ticking → w.grid.state q ≡ Ticking
  unfolding unloaded drop_hold
  unloaded_back w c h = elim (cases_Bool (nat_eq (w.tickets c) 0)) [ inl f ↦ rw f at h | inr f ↦ rw f at h ]

  put_back_back : (w : World) (a : Action) (b : Option BlockPos) → (put_back w a b).grid.state q ≡ Ticking → w.grid.state q ≡ Ticking
  put_back_back w (action.Set at id) b h = h
  put_back_back w (action.Copy at to) b h = h
  put_back_back w (action.Load c) b h = h
  put_back_back w (action.Unload c) b h = h
  put_back_back w (action.Post c d inner) b h = h
  put_back_back w (action.Send id to) b h = h
  put_back_back w (action.Arrive e) None h = h
  put_back_back w (action.Arrive e) (Some b) h = h
  put_back_back w (action.Every p l inner) b h = h

  accepted_back : (w : World) (x : Wish) → (accepted w x).grid.state q ≡ Ticking → w.grid.state q ≡ Ticking
  unfolding accepted
  accepted_back w x h = elim (cases_Bool (is_full w.grid x.chunk)) [
    | inl f ↦ let y : (put_back w x.action x.back).grid.state q ≡ Ticking = rw f at h in put_back_back w x.action x.back y
    | inr f ↦ let y : (posted w x.chunk x.delay x.action).grid.state q ≡ Ticking = rw f at h in posted_back w x.chunk x.delay x.action y
  ]

  all_back : (w : World) (xs : List Wish) → (all_accepted w xs).grid.state q ≡ Ticking → w.grid.state q ≡ Ticking
  all_back w [] h = h
  all_back w (x ∷ xs) h = accepted_back w x (all_back (accepted w x) xs h)

  released_back : (w : World) (r : ℕ) → (released w r).grid.state q ≡ Ticking → (w.grid.state q ≡ Ticking) × (nat_eq q r ≡ false)
  unfolding released
  released_back w r h = release_back w.grid q r h

  down_back : (w : World) (r : ℕ) (ran : List Ran) → (run_down w r ran).grid.state q ≡ Ticking → w.grid.state q ≡ Ticking
  unfolding dropped
  down_back w r ran h = h

  ended_back : (w : World) (r : ℕ) (ran : List Ran) → (ended w r ran).grid.state q ≡ Ticking → (w.grid.state q ≡ Ticking) × (nat_eq q r ≡ false)
  unfolding ended
  ended_back w r ran h = let a = released_back (all_accepted (run_down w r ran) (ticked w r ran).wishes) r h in
      (down_back w r ran (all_back (run_down w r ran) (ticked w r ran).wishes a.0), a.1)

  begun_back : (w : World) (worker r : ℕ) → r ≢ q → (begun w worker r).grid.state q ≡ Ticking → w.grid.state q ≡ Ticking
  unfolding begun
  begun_back w worker r d h = begin_back w.grid q r d h

swap_false : (a b : ℕ) → nat_eq a b ≡ false → nat_eq b a ≡ false
swap_false a b h = ne_eqb _ _ (λ e. eqb-false a b h (sym e))

-- what ticks after an event ticked before it and the event is not its End, or the event is its Begin
pub ticked_before : (q : ℕ) (w : World) (e : Event) → (after w e).grid.state q ≡ Ticking → ((w.grid.state q ≡ Ticking) × (is_end q e ≡ false)) ⊎ (is_begin q e ≡ true)
ticked_before q w (Load caller c answer) h = inl (loaded_back q w c h, refl)
ticked_before q w (Unload caller c answer) h = inl (unloaded_back q w c h, refl)
ticked_before q w (Post caller c d x answer) h = inl (posted_back q w c d x h, refl)
ticked_before q w (PhaseOpen n) h = inl (h, refl)
ticked_before q w (Begin worker r) h = elim (cases_eq r q) [ inl e ↦ inr (eq-eqb _ _ e) | inr e ↦ inl (begun_back q w worker r e h, refl) ]
ticked_before q w (End worker r tick ran accepts) h = let a = ended_back q w r ran h in inl (a.0, swap_false q r a.1)
ticked_before q w PhaseClose h = inl (h, refl)
ticked_before q w Finish h = inl (h, refl)
ticked_before q w (Stop caller) h = inl (h, refl)
