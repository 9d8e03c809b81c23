-- A region that is not Dead owes nothing while no phase is open.
use Rattle.std.proofs.Common.{◌≡◌, ℕ, refl, sym, ◌∙◌, arith, true, false, inl, inr, List, [], ◌∷◌, ◌||◌}
use Rattle.std.specs.Prelude.{◌≢◌, nat_eq, Option, Some, None}
use Rattle.std.specs.List.{AllByRecursion}
use Rattle.std.proofs.lemmas.Bool.{cases_Bool, cases_eq, or_cases, or_parts, and_parts, eqb-true, eq-eqb, ne_eqb, true≢false}
use Rattle.fol_model.specs.declared.places.ChunkPos.{ChunkPos}
use Rattle.fol_model.specs.declared.places.BlockPos.{BlockPos}
use Rattle.fol_model.specs.declared.regions.State.TheVariants.{Ready, Ticking, Dead}
use Rattle.fol_model.specs.declared.tasks.Ran.{Ran}
use Rattle.fol_model.specs.declared.tasks.Wish.{Wish}
use Rattle.fol_model.specs.declared.actions.Action.{Action}
use Rattle.fol_model.specs.declared.actions.Action.TheVariants as action
use Rattle.fol_model.specs.declared.events.Event.{Event}
use Rattle.fol_model.specs.declared.events.Event.TheVariants.{Load, Unload, Post, PhaseOpen, Begin, End, PhaseClose, Finish, Stop}
use Rattle.fol_model.specs.Geometry.{is_chunk}
use Rattle.fol_model.specs.GridNumbers.{IsGrid}
use Rattle.fol_model.specs.GridState.{GridState}
use Rattle.fol_model.specs.Add.{add, is_full, wanted, target, is_near, is_near_calm}
use Rattle.fol_model.specs.Begin.{begin}
use Rattle.fol_model.specs.Drop.{drop_hold}
use Rattle.fol_model.specs.Release.{release, must_wait, cleans, is_part_id, is_new_part}
use Rattle.fol_model.specs.Counters.{owed_after_add, owed_after_release, joins}
use Rattle.fol_model.specs.Rules.{Rules}
use Rattle.fol_model.specs.ActionStep.{Recorded}
use Rattle.fol_model.specs.World.{World}
use Rattle.fol_model.specs.Holds.{loaded, unloaded, posted}
use Rattle.fol_model.specs.QueuedTask.{begun}
use Rattle.fol_model.specs.End.{dropped, ticked, put_back, accepted, all_accepted, released, run_down, ended}
use Rattle.fol_model.specs.Run.{after, Allowed}
use Rattle.fol_laws.specs.Phases.{OwesInPhase}
use Rattle.fol_laws.proofs.AddTarget.{near_lives}
use Rattle.fol_laws.proofs.AddEffect.{lives_after}
use Rattle.fol_laws.proofs.SoundState.{SoundWorld}
use Rattle.fol_laws.proofs.SoundRuns.{Ending, accepted_ending, all_accepted_ending, run_down_ending, wishes_ok}
use Rattle.fol_laws.proofs.WishLimits.{WishOk}
use Rattle.fol_laws.proofs.GreatestBelow.{greatest_none}

-- what is not Dead owes nothing
abbrev pub NoneOwes : GridState → (ℕ → ℕ) → Type 0
NoneOwes g owed = (r : ℕ) → g.state r ≢ Dead → owed r ≡ 0

add_none : (g : GridState) (c : ChunkPos) (owed : ℕ → ℕ) → Rules g → IsGrid g.grid → is_chunk c ≡ true → NoneOwes g owed → NoneOwes (add g c) (owed_after_add g c owed)
unfolding add owed_after_add
add_none g c owed rules ok l h r = elim (cases_Bool (is_full g c)) [
  | inl f ↦ rw f (h r)
  | inr f ↦ elim (cases_Bool (nat_eq (wanted g c) 0)) [
    | inl k ↦ rw (f, k) (h r)
    | inr k ↦ rw (f, k) (λ lives. elim (cases_eq r (target g c)) [
      | inl e ↦ let z : nat_eq r (target g c) ≡ true = eq-eqb _ _ e in
          rw z (greatest_none (is_near_calm g c) owed g.next (λ q m. h q (near_lives g c rules ok l q (and_parts (is_near g c q) _ m).0)))
      | inr e ↦ let z : nat_eq r (target g c) ≡ false = ne_eqb _ _ e in rw z (elim (lives_after g c rules ok l r lives) [
        | inl x ↦ absurd (e x)
        | inr x ↦ h r x.1
      ])
    ])
  ]
]

-- a region that is not Dead after a release is the released one, a part of it, or was not Dead before
release_lives : (g : GridState) (t r : ℕ) → nat_eq r t ≡ false → is_new_part g t r ≡ false → (release g t).state r ≢ Dead → g.state r ≢ Dead
unfolding release
release_lives g t r n p l = elim (cases_Bool (must_wait g t)) [
  | inl w ↦ elim (cases_Bool (g.waits r t)) [
    | inl m ↦ absurd (l (rw (w, n, m) refl))
    | inr m ↦ rw (w, n, m) at l
  ]
  | inr w ↦ elim (cases_Bool (cleans g t)) [
    | inl k ↦ let q : is_part_id g t r ≡ false = rw (w, k) at p in elim (cases_Bool (g.waits r t)) [
      | inl m ↦ absurd (l (rw (w, k, q, n, m) refl))
      | inr m ↦ rw (w, k, q, n, m) at l
    ]
    | inr k ↦ rw (w, k, n) at l
  ]
]

release_none : (g : GridState) (t : ℕ) (owed : ℕ → ℕ) → Rules g → g.state t ≡ Ticking → NoneOwes g owed → NoneOwes (release g t) (owed_after_release g t owed)
unfolding owed_after_release
release_none g t owed rules ticks h r l = elim (cases_Bool (nat_eq r t || is_new_part g t r)) [
  | inl e ↦ rw e (greatest_none (joins g t) owed g.next (λ u j. h u (elim (or_cases (nat_eq u t) (g.waits u t) j) [
    | inl x ↦ let y : u ≡ t = eqb-true _ _ x in rw y (λ d. cc)
    | inr x ↦ let y = rules.waiting u t x in λ d. cc
  ])))
  | inr e ↦ let p = or_parts (nat_eq r t) (is_new_part g t r) e in rw e (h r (release_lives g t r p.0 p.1 l))
]

-- ---- of a world
abbrev pub Settled : World → Type 0
Settled w = NoneOwes w.grid w.owed

posted_none : (w : World) (c : ChunkPos) (d : ℕ) (a : Action) → SoundWorld w → is_chunk c ≡ true → Settled w → Settled (posted w c d a)
unfolding posted
posted_none w c d a s l h = elim (cases_Bool (is_full w.grid c)) [ inl f ↦ rw f h | inr f ↦ rw f (add_none w.grid c w.owed s.rules s.grid l h) ]

loaded_none : (w : World) (c : ChunkPos) → SoundWorld w → is_chunk c ≡ true → Settled w → Settled (loaded w c)
unfolding loaded
loaded_none w c s l h = elim (cases_Bool (is_full w.grid c)) [ inl f ↦ rw f h | inr f ↦ rw f (add_none w.grid c w.owed s.rules s.grid l h) ]

unloaded_none : (w : World) (c : ChunkPos) → Settled w → Settled (unloaded w c)
unfolding unloaded drop_hold
unloaded_none w c h = elim (cases_Bool (nat_eq (w.tickets c) 0)) [ inl f ↦ rw f h | inr f ↦ rw f h ]

begun_none : (w : World) (worker r : ℕ) → w.grid.state r ≡ Ready → Settled w → Settled (begun w worker r)
unfolding begun begin
begun_none w worker r ready h q l = elim (cases_Bool (nat_eq r q)) [
  | inl e ↦ let z = h r (λ d. cc) in rw e (omega arith)
  | inr e ↦ let k = rw e at l in rw e (h q k)
]

put_back_none : (w : World) (a : Action) (b : Option BlockPos) → Settled w → Settled (put_back w a b)
put_back_none w (action.Set at id) b h = h
put_back_none w (action.Copy at to) b h = h
put_back_none w (action.Load c) b h = h
put_back_none w (action.Unload c) b h = h
put_back_none w (action.Post c d inner) b h = h
put_back_none w (action.Send id to) b h = h
put_back_none w (action.Arrive e) None h = h
put_back_none w (action.Arrive e) (Some b) h = h
put_back_none w (action.Every p l inner) b h = h

accepted_none : (rec : Recorded) (w : World) (x : Wish) → SoundWorld w → WishOk rec x → Settled w → Settled (accepted w x)
unfolding accepted
accepted_none rec w x s ok h = elim (cases_Bool (is_full w.grid x.chunk)) [
  | inl f ↦ rw f (put_back_none w x.action x.back h)
  | inr f ↦ rw f (posted_none w x.chunk x.delay x.action s ok.chunk h)
]

all_none : (rec : Recorded) (w : World) (xs : List Wish) (r : ℕ) → Ending r w → AllByRecursion (WishOk rec) xs → Settled w → Settled (all_accepted w xs)
all_none rec w [] r m ok h = h
all_none rec w (x ∷ xs) r m ok h = all_none rec (accepted w x) xs r (accepted_ending rec w x r m ok.0) ok.1 (accepted_none rec w x m.sound ok.0 h)

down_none : (w : World) (r : ℕ) (ran : List Ran) → Settled w → Settled (run_down w r ran)
unfolding dropped
down_none w r ran h = h

released_none : (w : World) (r : ℕ) → Ending r w → Settled w → Settled (released w r)
unfolding released
released_none w r m h = release_none w.grid r w.owed m.sound.rules m.ticks h

ended_none : (w : World) (r : ℕ) (ran : List Ran) → SoundWorld w → w.grid.state r ≡ Ticking → Settled w → Settled (ended w r ran)
unfolding ended
ended_none w r ran s t h =
    let rec = w.recorded r in
    let xs = (ticked w r ran).wishes in
    let m = run_down_ending w r ran s t in
    released_none (all_accepted (run_down w r ran) xs) r (all_accepted_ending rec (run_down w r ran) xs r m (wishes_ok w r ran s))
    (all_none rec (run_down w r ran) xs r m (wishes_ok w r ran s) (down_none w r ran h))

-- ---- which events leave a phase open or closed
loaded_phase : (w : World) (c : ChunkPos) → (loaded w c).in_phase ≡ w.in_phase
unfolding loaded
loaded_phase w c = elim (cases_Bool (is_full w.grid c)) [ inl f ↦ rw f refl | inr f ↦ rw f refl ]

unloaded_phase : (w : World) (c : ChunkPos) → (unloaded w c).in_phase ≡ w.in_phase
unfolding unloaded
unloaded_phase w c = elim (cases_Bool (nat_eq (w.tickets c) 0)) [ inl f ↦ rw f refl | inr f ↦ rw f refl ]

posted_phase : (w : World) (c : ChunkPos) (d : ℕ) (a : Action) → (posted w c d a).in_phase ≡ w.in_phase
unfolding posted
posted_phase w c d a = elim (cases_Bool (is_full w.grid c)) [ inl f ↦ rw f refl | inr f ↦ rw f refl ]

begun_phase : (w : World) (worker r : ℕ) → (begun w worker r).in_phase ≡ w.in_phase
unfolding begun
begun_phase w worker r = refl

put_back_phase : (w : World) (a : Action) (b : Option BlockPos) → (put_back w a b).in_phase ≡ w.in_phase
put_back_phase w (action.Set at id) b = refl
put_back_phase w (action.Copy at to) b = refl
put_back_phase w (action.Load c) b = refl
put_back_phase w (action.Unload c) b = refl
put_back_phase w (action.Post c d inner) b = refl
put_back_phase w (action.Send id to) b = refl
put_back_phase w (action.Arrive e) None = refl
put_back_phase w (action.Arrive e) (Some b) = refl
put_back_phase w (action.Every p l inner) b = refl

accepted_phase : (w : World) (x : Wish) → (accepted w x).in_phase ≡ w.in_phase
unfolding accepted
accepted_phase w x = elim (cases_Bool (is_full w.grid x.chunk)) [ inl f ↦ rw f (put_back_phase w x.action x.back) | inr f ↦ rw f (posted_phase w x.chunk x.delay x.action) ]

all_phase : (w : World) (xs : List Wish) → (all_accepted w xs).in_phase ≡ w.in_phase
all_phase w [] = refl
all_phase w (x ∷ xs) = all_phase (accepted w x) xs ∙ accepted_phase w x

ended_phase : (w : World) (r : ℕ) (ran : List Ran) → (ended w r ran).in_phase ≡ w.in_phase
unfolding ended released dropped
ended_phase w r ran = all_phase (run_down w r ran) (ticked w r ran).wishes

pub owes_after : (w : World) (e : Event) → SoundWorld w → Allowed w e → OwesInPhase w → OwesInPhase (after w e)
owes_after w (Load caller c answer) s a h p = loaded_none w c s a.0 (h (sym (loaded_phase w c) ∙ p))
owes_after w (Unload caller c answer) s a h p = unloaded_none w c (h (sym (unloaded_phase w c) ∙ p))
owes_after w (Post caller c d x answer) s a h p = posted_none w c d x s a.0 (h (sym (posted_phase w c d x) ∙ p))
owes_after w (PhaseOpen n) s a h p = absurd (true≢false p)
owes_after w (Begin worker r) s a h p = begun_none w worker r a.0 (h (sym (begun_phase w worker r) ∙ p))
owes_after w (End worker r tick ran accepts) s a h p = ended_none w r ran s a.0 (h (sym (ended_phase w r ran) ∙ p))
owes_after w PhaseClose s a h p = λ r l. (a.2 r l).1
owes_after w Finish s a h p = h p
owes_after w (Stop caller) s a h p = h p
