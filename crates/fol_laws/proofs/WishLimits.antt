-- What a tick asks for is within the limits.
use Rattle.std.proofs.Common.{◌≡◌, ℕ, zero, suc, ◌-◌, ◌≤◌, refl, sym, ◌∙◌, ap, arith, Bool, true, false, inl, inr, List, [], ◌∷◌, ◌&&◌, not}
use Rattle.std.specs.Prelude.{nat_eq, nat_le, Option, Some, None}
use Rattle.std.specs.List.{AllByRecursion, list_all}
use Rattle.std.proofs.lemmas.Bool.{cases_Bool, and_parts, and_from, leb-true, le-leb, true≢false}
use Rattle.fol_model.specs.declared.places.ChunkPos.{ChunkPos}
use Rattle.fol_model.specs.GridState.{GridState}
use Rattle.fol_model.specs.Geometry.{is_chunk, is_block, chunk_of}
use Rattle.fol_model.specs.Deed.{Deed, Plain, Wrap, set, copy, load, unload, send, arrive, post, every}
use Rattle.fol_model.specs.Nesting.{deed_of, action_of, action_at}
use Rattle.fol_model.specs.Limits.{is_action, is_deed, is_wrap, is_plain, is_delay, is_count, fits, is_arrival}
use Rattle.fol_model.specs.ActionStep.{Standing, Flat, Recorded, act, plain_of, plain_wishes, departs, repeats, wishes_of}
use Rattle.fol_model.specs.FlatTick.{asked}
use Rattle.fol_model.specs.World.{World, due_below}
use Rattle.fol_model.specs.Job.{Job, taken_task}
use Rattle.fol_laws.specs.Tasks.{JobsOk, JobOk}
use Rattle.fol_model.specs.declared.places.BlockPos.{BlockPos}
use Rattle.fol_model.specs.declared.actions.Action.{Action}
use Rattle.fol_model.specs.declared.actions.Action.TheVariants.{Set, Copy, Load, Unload, Post, Send, Arrive, Every}
use Rattle.fol_model.specs.declared.tasks.Task.{Task}
use Rattle.fol_model.specs.declared.tasks.Wish.{Wish}
use Rattle.fol_laws.proofs.SamePlaces.{same_chunk-self}
use Rattle.fol_laws.proofs.SortedRows.{all_append}

pub record TaskOk (t : Task) : Type 0 where
  pub chunk : is_chunk t.chunk ≡ true
  pub action : is_action t.action ≡ true
  pub fits : fits t.chunk t.action ≡ true

-- an entity that is sent left a block of a recorded chunk
abbrev pub comes_back : Recorded → Action → Option BlockPos → Bool
comes_back rec (Arrive e) None = false
comes_back rec (Arrive e) (Some b) = rec (chunk_of b)
comes_back rec _ _ = true

pub record WishOk (rec : Recorded) (x : Wish) : Type 0 where
  pub chunk : is_chunk x.chunk ≡ true
  pub delay : is_delay x.delay ≡ true
  pub action : is_action x.action ≡ true
  pub fits : fits x.chunk x.action ≡ true
  pub back : comes_back rec x.action x.back ≡ true

pub deed_action_at : (ws : List Wrap) (p : Plain) → deed_of (action_at ws p) ≡ record { wraps = ws; plain = p }
deed_action_at [] (set at id) = refl
deed_action_at [] (copy at to) = refl
deed_action_at [] (load c) = refl
deed_action_at [] (unload c) = refl
deed_action_at [] (send id to) = refl
deed_action_at [] (arrive e) = refl
deed_action_at (post c d ∷ ws) p = refl
deed_action_at (every q l ∷ ws) p = refl

pub deed_action : (d : Deed) → deed_of (action_of d) ≡ d
deed_action d = deed_action_at d.wraps d.plain

inner_ok : (d : Deed) → is_deed d ≡ true → is_action (action_of d) ≡ true
inner_ok d h = ap is_deed (deed_action d) ∙ h

-- the parts of a wrapped deed
unwrap : (w : Wrap) (d : Deed) → (list_all is_wrap (w ∷ d.wraps) && is_plain d.plain) ≡ true → (is_wrap w ≡ true) × (is_deed d ≡ true)
unwrap w d h =
    let a = and_parts (list_all is_wrap (w ∷ d.wraps)) (is_plain d.plain) h in
    let b = and_parts (is_wrap w) (list_all is_wrap d.wraps) a.0 in
    (b.0, and_from _ _ b.1 a.1)

block_chunk : (b : BlockPos) → is_block b ≡ true → is_chunk (chunk_of b) ≡ true
unfolding is_block
block_chunk b h = (and_parts (is_chunk (chunk_of b)) _ h).0

plain_ok : (a : Action) → is_action a ≡ true → is_action (plain_of a) ≡ true
plain_ok (Set at id) h = h
plain_ok (Copy at to) h = h
plain_ok (Load c) h = h
plain_ok (Unload c) h = h
plain_ok (Post c d inner) h = h
plain_ok (Send id to) h = h
plain_ok (Arrive e) h = h
plain_ok (Every p l inner) h = inner_ok inner (unwrap (every p l) inner h).1

one_tick : is_delay 1 ≡ true
unfolding is_delay
one_tick = refl

departs_ok : (rec : Recorded) (id : ℕ) (to : BlockPos) (o : Option Standing) → is_block to ≡ true → AllByRecursion (WishOk rec) (departs rec id to o)
departs_ok rec id to None h = tt
departs_ok rec id to (Some b) h = elim (cases_Bool (rec (chunk_of b.at))) [
  | inl e ↦ rw e (record { chunk = block_chunk to h; delay = one_tick; action = h; fits = same_chunk-self (chunk_of to); back = e }, tt)
  | inr e ↦ rw e tt
]

-- an action that has no arrival in it fits any chunk
plain_fits : (p : Plain) (c : ChunkPos) → not (is_arrival p) ≡ true → fits c (action_at [] p) ≡ true
plain_fits (set at id) c h = h
plain_fits (copy at to) c h = h
plain_fits (load q) c h = h
plain_fits (unload q) c h = h
plain_fits (send id to) c h = h
plain_fits (arrive e) c h = absurd (true≢false (sym h))

pub inner_fits : (ws : List Wrap) (p : Plain) (c : ChunkPos) → not (is_arrival p) ≡ true → fits c (action_at ws p) ≡ true
inner_fits [] p c h = plain_fits p c h
inner_fits (post q d ∷ ws) p c h = h
inner_fits (every q l ∷ ws) p c h = h

plain_back : (rec : Recorded) (p : Plain) → not (is_arrival p) ≡ true → comes_back rec (action_at [] p) None ≡ true
plain_back rec (set at id) h = refl
plain_back rec (copy at to) h = refl
plain_back rec (load q) h = refl
plain_back rec (unload q) h = refl
plain_back rec (send id to) h = refl
plain_back rec (arrive e) h = absurd (true≢false (sym h))

inner_back : (rec : Recorded) (ws : List Wrap) (p : Plain) → not (is_arrival p) ≡ true → comes_back rec (action_at ws p) None ≡ true
inner_back rec [] p h = plain_back rec p h
inner_back rec (post q d ∷ ws) p h = refl
inner_back rec (every q l ∷ ws) p h = refl

plain_wishes_ok : (rec : Recorded) (f : Flat) (a : Action) (c : ChunkPos) → is_action a ≡ true → fits c a ≡ true → AllByRecursion (WishOk rec) (plain_wishes rec f a)
plain_wishes_ok rec f (Set at id) c0 h k = tt
plain_wishes_ok rec f (Copy at to) c0 h k = tt
plain_wishes_ok rec f (Load c) c0 h k = tt
plain_wishes_ok rec f (Unload c) c0 h k = tt
plain_wishes_ok rec f (Post c d inner) c0 h k =
    let x = unwrap (post c d) inner h in let y = and_parts (is_chunk c) (is_delay d) x.0 in
    (record { chunk = y.0; delay = y.1; action = inner_ok inner x.1; fits = inner_fits inner.wraps inner.plain c k; back = inner_back rec inner.wraps inner.plain k }, tt)
plain_wishes_ok rec f (Send id to) c0 h k = departs_ok rec id to (f.standing id) h
plain_wishes_ok rec f (Arrive e) c0 h k = tt
plain_wishes_ok rec f (Every p l inner) c0 h k = tt

fewer_ok : (p l : ℕ) (d : Deed) → is_action (Every p l d) ≡ true → nat_le 2 l ≡ true → is_action (Every p (l - 1) d) ≡ true
unfolding is_count
fewer_ok p l d h k =
    let a = and_parts (list_all is_wrap (every p l ∷ d.wraps)) (is_plain d.plain) h in
    let b = and_parts (is_wrap (every p l)) (list_all is_wrap d.wraps) a.0 in
    let c = and_parts (is_delay p) (nat_le 1 l && nat_le l 10000) b.0 in
    let e = and_parts (nat_le 1 l) (nat_le l 10000) c.1 in
    let two : 2 ≤ l = leb-true _ _ k in let high : l ≤ 10000 = leb-true _ _ e.1 in
    let w : is_wrap (every p (l - 1)) ≡ true = and_from (is_delay p) _ c.0 (and_from (nat_le 1 (l - 1)) (nat_le (l - 1) 10000) (le-leb _ _ (omega arith)) (le-leb _ _ (omega arith))) in
    and_from (list_all is_wrap (every p (l - 1) ∷ d.wraps)) (is_plain d.plain) (and_from (is_wrap (every p (l - 1))) (list_all is_wrap d.wraps) w b.1) a.1

period_ok : (p l : ℕ) (d : Deed) → is_action (Every p l d) ≡ true → is_delay p ≡ true
unfolding is_count
period_ok p l d h = (and_parts (is_delay p) (nat_le 1 l && nat_le l 10000) (unwrap (every p l) d h).0).0

repeats_ok : (rec : Recorded) (c : ChunkPos) (a : Action) → is_chunk c ≡ true → is_action a ≡ true → fits c a ≡ true → AllByRecursion (WishOk rec) (repeats c a)
repeats_ok rec c (Set at id) l h m = tt
repeats_ok rec c (Copy at to) l h m = tt
repeats_ok rec c (Load q) l h m = tt
repeats_ok rec c (Unload q) l h m = tt
repeats_ok rec c (Post q d inner) l h m = tt
repeats_ok rec c (Send id to) l h m = tt
repeats_ok rec c (Arrive e) l h m = tt
repeats_ok rec c (Every p n inner) l h m = elim (cases_Bool (nat_le 2 n)) [
  | inl k ↦ rw k (record { chunk = l; delay = period_ok p n inner h; action = fewer_ok p n inner h k; fits = m; back = refl }, tt)
  | inr k ↦ rw k tt
]

pub plain_still : (c : ChunkPos) (a : Action) → fits c a ≡ true → fits c (plain_of a) ≡ true
plain_still c (Set at id) h = h
plain_still c (Copy at to) h = h
plain_still c (Load q) h = h
plain_still c (Unload q) h = h
plain_still c (Post q d inner) h = h
plain_still c (Send id to) h = h
plain_still c (Arrive e) h = h
plain_still c (Every p l inner) h = inner_fits inner.wraps inner.plain c h

pub asked_ok : (rec : Recorded) (f : Flat) (ts : List Task) → AllByRecursion TaskOk ts → AllByRecursion (WishOk rec) (asked rec f ts)
asked_ok rec f [] h = tt
asked_ok rec f (t ∷ ts) h = all_append (WishOk rec) (wishes_of rec f t) _
    (all_append (WishOk rec) (plain_wishes rec f (plain_of t.action)) (repeats t.chunk t.action)
    (plain_wishes_ok rec f (plain_of t.action) t.chunk (plain_ok t.action h.0.action) (plain_still t.chunk t.action h.0.fits))
    (repeats_ok rec t.chunk t.action h.0.chunk h.0.action h.0.fits))
    (asked_ok rec (act rec f (plain_of t.action)) ts h.1)

taken_ok : (g : GridState) (r n : ℕ) (o : Option Job) → ((j : Job) → o ≡ Some j → JobOk g j) → AllByRecursion TaskOk (taken_task r n o)
taken_ok g r n None h = tt
taken_ok g r n (Some j) h = elim (cases_Bool (nat_eq j.taker r)) [
  | inl e ↦ rw e (record { chunk = (h j refl).chunk; action = (h j refl).action; fits = (h j refl).fits }, tt)
  | inr e ↦ rw e tt
]

pub due_ok : (w : World) (r n : ℕ) → JobsOk w → AllByRecursion TaskOk (due_below w r n)
unfolding due_below
due_ok w r zero h = tt
due_ok w r (suc n) h = all_append TaskOk (due_below w r n) (taken_task r n (w.jobs n)) (due_ok w r n h) (taken_ok w.grid r n (w.jobs n) (h n))
