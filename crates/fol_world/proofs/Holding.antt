-- The world in which tasks that ran hold their chunks still: what wishes do there, and what is left when the holds fall.
use Rattle.std.proofs.Common.{◌≡◌, ℕ, ◌+◌, refl, sym, ◌∙◌, ap, arith, true, false, inl, inr, List, [], ◌∷◌, ◌++◌}
use Rattle.std.specs.Prelude.{nat_eq}
use Rattle.std.specs.List.{AllByRecursion}
use Rattle.std.proofs.Math.Path.{fun_ext}
use Rattle.std.proofs.lemmas.Bool.{cases_Bool, true≢false}
use Rattle.fol_model.specs.declared.places.ChunkPos.{ChunkPos}
use Rattle.fol_model.specs.declared.tasks.Task.{Task}
use Rattle.fol_model.specs.declared.tasks.Wish.{Wish}
use Rattle.fol_model.specs.Geometry.{same_chunk}
use Rattle.fol_model.specs.GridState.{GridState, at_chunk}
use Rattle.fol_model.specs.Add.{add, counted, extended, is_full, is_greatest, is_near, target, target_waits, wanted}
use Rattle.fol_model.specs.Counters.{owed_after_add}
use Rattle.fol_model.specs.ActionStep.{Recorded}
use Rattle.fol_model.specs.Holds.{posted, posting}
use Rattle.fol_model.specs.World.{World}
use Rattle.fol_model.specs.End.{accepted}
use Rattle.fol_laws.proofs.SamePlaces.{same_chunk-true}
use Rattle.fol_end_laws.specs.DroppedHolds.{drop_each, on_chunk}
use Rattle.fol_end_laws.proofs.DropsInTurn.{drops, on_both}
use Rattle.fol_world.specs.Underway.{holding}
use Rattle.fol_world.proofs.Accepted.{put_back_is}

-- ---- where none does
pub holding_none : (w : World) → holding [] w ≡ w
holding_none w =
    ap (λ (f : ChunkPos → ℕ). record w { grid = record w.grid { holds = f }; tickets = λ c. w.tickets c + on_chunk c [] }) (fun_ext (λ c. omega arith))
    ∙ ap (λ (f : ChunkPos → ℕ). record w { tickets = f }) (fun_ext (λ c. omega arith))

-- ---- an added hold looks at no hold
abbrev more : GridState → (ChunkPos → ℕ) → GridState
more g p = record g { holds = λ c. g.holds c + p c }

module _ (g : GridState) (p : ChunkPos → ℕ) (c : ChunkPos) where
  one_more : (q : ChunkPos) → at_chunk (λ d. g.holds d + p d) c ((g.holds c + p c) + 1) q ≡ at_chunk g.holds c (g.holds c + 1) q + p q
  one_more q = elim (cases_Bool (same_chunk c q)) [
    | inl e ↦ let s : p c ≡ p q = ap p (same_chunk-true c q e) in rw e (omega (arith, s))
    | inr e ↦ rw e refl
  ]

  pub full_same : is_full (more g p) c ≡ is_full g c
  unfolding is_full wanted
  full_same = refl

  wanted_same : wanted (more g p) c ≡ wanted g c
  unfolding wanted
  wanted_same = refl

  counted_more : counted (more g p) c ≡ more (counted g c) p
  counted_more = ap (λ (f : ChunkPos → ℕ). record g { holds = f }) (fun_ext one_more)

  extended_more : extended (more g p) c ≡ more (extended g c) p
  unfolding target is_greatest is_near target_waits
  extended_more = ap (λ (f : ChunkPos → ℕ). record (extended g c) { holds = f }) (fun_ext one_more)

  add_more : add (more g p) c ≡ more (add g c) p
  unfolding add
  add_more = let full = full_same in let want = wanted_same in elim (cases_Bool (is_full g c)) [
    | inl f ↦ rw (full, f) refl
    | inr f ↦ elim (cases_Bool (nat_eq (wanted g c) 0)) [
      | inl z ↦ rw (full, f, want, z) counted_more
      | inr z ↦ rw (full, f, want, z) extended_more
    ]
  ]

  owed_more : (owed : ℕ → ℕ) → owed_after_add (more g p) c owed ≡ owed_after_add g c owed
  unfolding owed_after_add is_full wanted target is_greatest is_near
  owed_more owed = refl

-- ---- so does a wish
pub recorded_same : (w : World) (x : Wish) → (accepted w x).recorded ≡ w.recorded
unfolding accepted posted
recorded_same w x = elim (cases_Bool (is_full w.grid x.chunk)) [
  | inl f ↦ rw f (ap (λ (v : World). v.recorded) (put_back_is w x.action x.back))
  | inr f ↦ rw f refl
]

pub tickets_same : (w : World) (x : Wish) → (accepted w x).tickets ≡ w.tickets
unfolding accepted posted
tickets_same w x = elim (cases_Bool (is_full w.grid x.chunk)) [
  | inl f ↦ rw f (ap (λ (v : World). v.tickets) (put_back_is w x.action x.back))
  | inr f ↦ rw f refl
]

pub answer_same : (ts : List Task) (w : World) (c : ChunkPos) → posting (holding ts w) c ≡ posting w c
unfolding is_full wanted
answer_same ts w c = refl

pub accepted_holding : (ts : List Task) (w : World) (x : Wish) → accepted (holding ts w) x ≡ holding ts (accepted w x)
unfolding accepted posted
accepted_holding ts w x =
    let p : ChunkPos → ℕ = λ c. on_chunk c ts in
    let full : is_full (holding ts w).grid x.chunk ≡ is_full w.grid x.chunk = full_same w.grid p x.chunk in
    elim (cases_Bool (is_full w.grid x.chunk)) [
      | inl f ↦ rw (full, f) (put_back_is (holding ts w) x.action x.back ∙ sym (ap (holding ts) (put_back_is w x.action x.back)))
      | inr f ↦
          let grid : add (holding ts w).grid x.chunk ≡ more (add w.grid x.chunk) p = add_more w.grid p x.chunk in
          let owed : owed_after_add (holding ts w).grid x.chunk w.owed ≡ owed_after_add w.grid x.chunk w.owed = owed_more w.grid p x.chunk w.owed in
          rw (full, f, grid, owed) refl
    ]

-- ---- holds that fall
pub fewer : (g : GridState) (h : ChunkPos → ℕ) (ds ts : List Task) → drop_each (record g { holds = λ c. h c + on_chunk c (ds ++ ts) }) ds ≡ record g { holds = λ c. h c + on_chunk c ts }
fewer g h ds ts = drops (record g { holds = λ c. h c + on_chunk c (ds ++ ts) }) ds
    ∙ ap (λ (f : ChunkPos → ℕ). record g { holds = f }) (fun_ext (λ c. let b = on_both c ds ts in omega (arith, b)))

pub none_on : (rec : Recorded) (ts : List Task) (c : ChunkPos) → AllByRecursion (λ t. rec t.chunk ≡ true) ts → rec c ≡ false → on_chunk c ts ≡ 0
none_on rec [] c all off = refl
none_on rec (t ∷ ts) c all off = elim (cases_Bool (same_chunk t.chunk c)) [
  | inl e ↦ absurd (true≢false (sym all.0 ∙ ap rec (same_chunk-true t.chunk c e) ∙ off))
  | inr e ↦ rw e (omega (arith, none_on rec ts c all.1 off))
]

pub there_behind : (P : Task → Type 0) (ds ts : List Task) → AllByRecursion P (ds ++ ts) → AllByRecursion P ts
there_behind P [] ts all = all
there_behind P (d ∷ ds) ts all = there_behind P ds ts all.1
