-- Tasks and wishes keep the number of places of an entity: where it stands, and its arrivals.
use Rattle.std.proofs.Common.{◌≡◌, ℕ, zero, suc, ◌+◌, ◌≤◌, refl, sym, ◌∙◌, ap, arith, Bool, true, false, cond, inl, inr, List, [], ◌∷◌, ◌++◌, ◌&&◌, not}
use Rattle.std.specs.Prelude.{◌≢◌, nat_eq, nat_le, if◌then◌else◌, Option, Some, None}
use Rattle.std.specs.List.{AllByRecursion}
use Rattle.std.proofs.lemmas.Bool.{cases_Bool, cases_eq, true≢false, eq-eqb, ne_eqb}
use Rattle.fol_model.specs.declared.places.ChunkPos.{ChunkPos}
use Rattle.fol_model.specs.Geometry.{chunk_of}
use Rattle.fol_model.specs.Counting.{count_below}
use Rattle.fol_model.specs.Deed.{Plain, Wrap, set, copy, load, unload, send, arrive, post, every}
use Rattle.fol_model.specs.Nesting.{action_at}
use Rattle.fol_model.specs.Limits.{fits, is_arrival}
use Rattle.fol_model.specs.ActionStep.{Standing, Flat, Recorded, at_id, act, plain_of, stands, departs, plain_wishes, repeats, wishes_of}
use Rattle.fol_model.specs.FlatTick.{acted, asked, walked, ahead}
use Rattle.fol_model.specs.World.{World, due_below}
use Rattle.fol_model.specs.Job.{Job, taken_task, is_taken}
use Rattle.fol_model.specs.End.{left}
use Rattle.fol_laws.specs.OnePlace.{one}
use Rattle.fol_model.specs.Outputs.{is_arrival_of, brings}
use Rattle.fol_model.specs.declared.places.BlockPos.{BlockPos}
use Rattle.fol_model.specs.declared.tasks.Task.{Task}
use Rattle.fol_model.specs.declared.tasks.Wish.{Wish}
use Rattle.fol_model.specs.declared.actions.Action.{Action}
use Rattle.fol_model.specs.declared.actions.Action.TheVariants as action
use Rattle.fol_laws.proofs.FunctionsChanged.{at_here, at_other}
use Rattle.fol_laws.proofs.WishLimits.{TaskOk, plain_still}

module _ (id : ℕ) where
  -- how many of the tasks, and of the wishes, are arrivals of the entity
  abbrev pub arrivals : List Task → ℕ
  arrivals [] = 0
  arrivals (t ∷ ts) = cond (is_arrival_of id t.action) 1 0 + arrivals ts

  abbrev pub sends : List Wish → ℕ
  sends [] = 0
  sends (x ∷ xs) = cond (is_arrival_of id x.action) 1 0 + sends xs

  sends_append : (xs ys : List Wish) → sends (xs ++ ys) ≡ sends xs + sends ys
  sends_append [] ys = omega arith
  sends_append (x ∷ xs) ys = let i = sends_append xs ys in omega arith

  arrivals_append : (xs ys : List Task) → arrivals (xs ++ ys) ≡ arrivals xs + arrivals ys
  arrivals_append [] ys = omega arith
  arrivals_append (x ∷ xs) ys = let i = arrivals_append xs ys in omega arith

  -- ---- an action with no arrival in it
  plain_quiet : (p : Plain) → not (is_arrival p) ≡ true → is_arrival_of id (action_at [] p) ≡ false
  plain_quiet (set at k) h = refl
  plain_quiet (copy at to) h = refl
  plain_quiet (load q) h = refl
  plain_quiet (unload q) h = refl
  plain_quiet (send k to) h = refl
  plain_quiet (arrive e) h = absurd (true≢false (sym h))

  inner_quiet : (ws : List Wrap) (p : Plain) → not (is_arrival p) ≡ true → is_arrival_of id (action_at ws p) ≡ false
  inner_quiet [] p h = plain_quiet p h
  inner_quiet (post q d ∷ ws) p h = refl
  inner_quiet (every q l ∷ ws) p h = refl

  -- ---- one action keeps the number of an entity
  pub one_here : (f : ℕ → Option Standing) (k : ℕ) (o : Option Standing) → k ≡ id → one (at_id f k o id) ≡ one o
  one_here f k o e = let x : at_id f k o id ≡ o = rw e (at_here f id o) in ap one x

  pub one_other : (f : ℕ → Option Standing) (k : ℕ) (o : Option Standing) → k ≢ id → one (at_id f k o id) ≡ one (f id)
  one_other f k o e = ap one (at_other f k o id (λ x. e (sym x)))

  send_one : (rec : Recorded) (f : Flat) (k : ℕ) (to : BlockPos) (o : Option Standing) → f.standing k ≡ o
      → one ((if stands rec o then at_id f.standing k None else f.standing) id) + sends (departs rec k to o) ≡ one (f.standing id)
  send_one rec f k to None e = omega arith
  send_one rec f k to (Some b) e = elim (cases_Bool (rec (chunk_of b.at))) [
    | inl r ↦ elim (cases_eq k id) [
      | inl s ↦ let a = one_here f.standing k None s in let z : nat_eq k id ≡ true = eq-eqb _ _ s in
          let u : one (f.standing id) ≡ 1 = ap one (ap f.standing (sym s) ∙ e) in rw (r, z) (omega arith)
      | inr s ↦ let a = one_other f.standing k None s in let z : nat_eq k id ≡ false = ne_eqb _ _ s in rw (r, z) (omega arith)
    ]
    | inr r ↦ rw r (omega arith)
  ]

  plain_one : (rec : Recorded) (f : Flat) (c : ChunkPos) (a : Action) → fits c a ≡ true → one (f.standing id) + cond (is_arrival_of id a) 1 0 ≤ 1
      → one ((act rec f a).standing id) + sends (plain_wishes rec f a) ≡ one (f.standing id) + cond (is_arrival_of id a) 1 0
  plain_one rec f c (action.Set at k) h m = omega arith
  plain_one rec f c (action.Copy at to) h m = omega arith
  plain_one rec f c (action.Load q) h m = omega arith
  plain_one rec f c (action.Unload q) h m = omega arith
  plain_one rec f c (action.Post q d inner) h m = let x = inner_quiet inner.wraps inner.plain h in rw x (omega arith)
  plain_one rec f c (action.Send k to) h m = let x = send_one rec f k to (f.standing k) refl in omega arith
  plain_one rec f c (action.Arrive e) h m = elim (cases_eq e.id id) [
    | inl s ↦ let z : nat_eq e.id id ≡ true = eq-eqb _ _ s in
        let a = one_here f.standing e.id (Some (record { at = e.at; vx = e.vx; vz = e.vz })) s in let n = rw z at m in rw z (omega arith)
    | inr s ↦ let z : nat_eq e.id id ≡ false = ne_eqb _ _ s in
        let a = one_other f.standing e.id (Some (record { at = e.at; vx = e.vx; vz = e.vz })) s in rw z (omega arith)
  ]
  plain_one rec f c (action.Every p l inner) h m = omega arith

  repeats_none : (c : ChunkPos) (a : Action) → sends (repeats c a) ≡ 0
  repeats_none c (action.Set at k) = refl
  repeats_none c (action.Copy at to) = refl
  repeats_none c (action.Load q) = refl
  repeats_none c (action.Unload q) = refl
  repeats_none c (action.Post q d inner) = refl
  repeats_none c (action.Send k to) = refl
  repeats_none c (action.Arrive e) = refl
  repeats_none c (action.Every p l inner) = elim (cases_Bool (nat_le 2 l)) [ inl k ↦ rw k refl | inr k ↦ rw k refl ]

  plain_brings : (c : ChunkPos) (a : Action) → fits c a ≡ true → is_arrival_of id (plain_of a) ≡ is_arrival_of id a
  plain_brings c (action.Set at k) h = refl
  plain_brings c (action.Copy at to) h = refl
  plain_brings c (action.Load q) h = refl
  plain_brings c (action.Unload q) h = refl
  plain_brings c (action.Post q d inner) h = refl
  plain_brings c (action.Send k to) h = refl
  plain_brings c (action.Arrive e) h = refl
  plain_brings c (action.Every p l inner) h = inner_quiet inner.wraps inner.plain h

  pub task_one : (rec : Recorded) (f : Flat) (t : Task) → fits t.chunk t.action ≡ true → one (f.standing id) + cond (is_arrival_of id t.action) 1 0 ≤ 1
      → one ((act rec f (plain_of t.action)).standing id) + sends (wishes_of rec f t) ≡ one (f.standing id) + cond (is_arrival_of id t.action) 1 0
  task_one rec f t h m =
      let b : cond {A = ℕ} (is_arrival_of id (plain_of t.action)) 1 0 ≡ cond {A = ℕ} (is_arrival_of id t.action) 1 0 = ap (λ (x : Bool). cond {A = ℕ} x 1 0) (plain_brings t.chunk t.action h) in
      let m2 : one (f.standing id) + cond (is_arrival_of id (plain_of t.action)) 1 0 ≤ 1 = omega arith in
      let a = plain_one rec f t.chunk (plain_of t.action) (plain_still t.chunk t.action h) m2 in
      let c = sends_append (plain_wishes rec f (plain_of t.action)) (repeats t.chunk t.action) in
      let d = repeats_none t.chunk t.action in omega arith

  pub plain_brings_is : (t : Task) → fits t.chunk t.action ≡ true → cond {A = ℕ} (is_arrival_of id (plain_of t.action)) 1 0 ≡ cond {A = ℕ} (is_arrival_of id t.action) 1 0
  plain_brings_is t h = ap (λ (x : Bool). cond {A = ℕ} x 1 0) (plain_brings t.chunk t.action h)

  -- ---- the tasks of a tick
  pub acted_one : (rec : Recorded) (f : Flat) (ts : List Task) → AllByRecursion TaskOk ts → one (f.standing id) + arrivals ts ≤ 1
      → one ((acted rec f ts).standing id) + sends (asked rec f ts) ≡ one (f.standing id) + arrivals ts
  acted_one rec f [] ok m = omega arith
  acted_one rec f (t ∷ ts) ok m =
      let a = task_one rec f t ok.0.fits (omega arith) in
      let g = act rec f (plain_of t.action) in
      let b = acted_one rec g ts ok.1 (omega arith) in
      let c = sends_append (wishes_of rec f t) (asked rec g ts) in omega arith

  pub walked_one : (rec : Recorded) (o : Option Standing) → one (walked rec o) ≡ one o
  walked_one rec None = refl
  walked_one rec (Some b) = elim (cases_Bool (rec (chunk_of b.at) && rec (chunk_of (ahead b.vx b.vz b.at)))) [ inl k ↦ rw k refl | inr k ↦ rw k refl ]

  taken_arrivals : (r n : ℕ) (o : Option Job) → arrivals (taken_task r n o) ≡ cond (is_taken r o && brings id o) 1 0
  taken_arrivals r n None = refl
  taken_arrivals r n (Some j) = elim (cases_Bool (nat_eq j.taker r)) [ inl k ↦ rw k (omega arith) | inr k ↦ rw k refl ]

  pub due_arrivals : (w : World) (r n : ℕ) → arrivals (due_below w r n) ≡ count_below (λ k. is_taken r (w.jobs k) && brings id (w.jobs k)) n
  unfolding due_below count_below
  due_arrivals w r zero = refl
  due_arrivals w r (suc n) = let a = arrivals_append (due_below w r n) (taken_task r n (w.jobs n)) in let b = due_arrivals w r n in let c = taken_arrivals r n (w.jobs n) in omega arith

  pub left_bound : (r : ℕ) (o : Option Job) → brings id (left r o) ≡ (not (is_taken r o) && brings id o)
  left_bound r None = refl
  left_bound r (Some j) = elim (cases_Bool (nat_eq j.taker r)) [ inl e ↦ rw e refl | inr e ↦ rw e refl ]
