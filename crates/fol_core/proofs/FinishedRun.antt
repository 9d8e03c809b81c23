-- A tick that was given out and is finished, at its End: what it ran on, what it did, and what the End makes of it.
use Rattle.std.proofs.Common.{◌≡◌, ℕ, ◌+◌, ◌-◌, ◌≤◌, refl, sym, ◌∙◌, ap, arith, true, false, not, ◌&&◌, inl, inr, List, [], ◌∷◌, ◌++◌}
use Rattle.std.specs.Prelude.{nat_eq, filter, Option, Some, None}
use Rattle.std.proofs.lemmas.Bool.{cases_Bool, and_parts, eq-eqb, ltb-true}
use Rattle.std.proofs.lemmas.List.{append-nil}
use Rattle.fol_model.specs.declared.places.ChunkPos.{ChunkPos}
use Rattle.fol_model.specs.declared.regions.State.TheVariants.{Ticking}
use Rattle.fol_model.specs.declared.openings.Opening.{Opening}
use Rattle.fol_model.specs.declared.tasks.Outcome.{Outcome}
use Rattle.fol_model.specs.declared.events.Event.TheVariants.{Begin}
use Rattle.fol_model.specs.declared.events.Entry.{Entry}
use Rattle.fol_model.specs.Geometry.{chunk_of, is_chunk, section_of}
use Rattle.fol_model.specs.GridNumbers.{IsGrid}
use Rattle.fol_model.specs.GridState.{is_loaded}
use Rattle.fol_model.specs.Universe.{all_chunks}
use Rattle.fol_model.specs.Outputs.{is_chunk_of}
use Rattle.fol_model.specs.ActionStep.{Flat, Recorded, Standing}
use Rattle.fol_model.specs.FlatTick.{FlatEnd, flat_tick}
use Rattle.fol_model.specs.QueuedTask.{begun}
use Rattle.fol_model.specs.OpenTick.{NoEnd, is_begin}
use Rattle.fol_model.specs.World.{World, due, start}
use Rattle.fol_model.specs.End.{dropped, run_down, ticked}
use Rattle.fol_model.specs.Run.{Allowed, RunFrom, after, after_all}
use Rattle.fol_laws.specs.Contents.{SameOn, seen}
use Rattle.fol_laws.specs.Ownership.{Untouched}
use Rattle.fol_laws.specs.OnePlace.{one}
use Rattle.fol_laws.proofs.EntityCounts.{arrivals}
use Rattle.fol_laws.proofs.EntityTotals.{due_total}
use Rattle.fol_laws.proofs.FunctionsChanged.{at_here}
use Rattle.fol_laws.proofs.LongerRuns.{world_both}
use Rattle.fol_laws.proofs.UnseenTicks.{acted_outside, ticked_unseen}
use Rattle.fol_laws.proofs.OwnedRuns.{began_ticks, owned, total_most}
use Rattle.fol_laws.proofs.WholeRuns.{Good, good_after, good_run}
use Rattle.fol_laws.proofs.WishLimits.{due_ok}
use Rattle.fol_end_laws.specs.FinishedTick.{IsEndIn}
use Rattle.fol_end_laws.specs.KeptQueue.{SameQueue}
use Rattle.fol_end_laws.proofs.FinishedTicks.{due_on_recorded, finished_ends}
use Rattle.fol_end_laws.proofs.KeptQueues.{queue_kept}
use Rattle.fol_chunks.specs.Contents.{is_recorded, option_filter, within}
use Rattle.fol_world.proofs.CalmRuns.{calm_after, calm_run}
use Rattle.fol_world.proofs.ChunkLists.{kept_listed}
use Rattle.fol_world.proofs.Flats.{flat_ext}
use Rattle.fol_world.proofs.OwedKept.{owes_along}

-- ---- the entry in a run
at_entry : (w : World) (es : List Entry) (e : Entry) (rest : List Entry) → RunFrom w (es ++ e ∷ rest) → Allowed (after_all w es) e.event × RunFrom (after (after_all w es) e.event) rest
at_entry w [] e rest run = (run.1, run.2)
at_entry w (x ∷ es) e rest run = at_entry (after w x.event) es e rest run.2

pub before_entry : (w : World) (es rest : List Entry) → RunFrom w (es ++ rest) → RunFrom w es
before_entry w [] rest run = tt
before_entry w (x ∷ es) rest run = (run.0, run.1, before_entry (after w x.event) es rest run.2)

pub world_at : (w : World) (es : List Entry) (e : Entry) (rest : List Entry) → after_all w (es ++ e ∷ rest) ≡ after_all (after (after_all w es) e.event) rest
world_at w es e rest = world_both w es (e ∷ rest)

-- ---- contents within some chunks
seen_is : (rec : Recorded) (o : Option Standing) → seen rec o ≡ option_filter (λ (s : Standing). rec (chunk_of s.at)) o
seen_is rec None = refl
seen_is rec (Some s) = elim (cases_Bool (rec (chunk_of s.at))) [ inl e ↦ rw e refl | inr e ↦ rw e refl ]

pub within_same : (rec : Recorded) (f h : Flat) → SameOn rec f h → within rec f ≡ within rec h
within_same rec f h same = flat_ext (within rec f) (within rec h)
    (λ b. elim (cases_Bool (rec (chunk_of b))) [ inl e ↦ let s = same.blocks b e in rw e s | inr e ↦ rw e refl ])
    (λ id. sym (seen_is rec (f.standing id)) ∙ same.standing id ∙ seen_is rec (h.standing id))

seen_twice : (rec : Recorded) (o : Option Standing) → seen rec (option_filter (λ (s : Standing). rec (chunk_of s.at)) o) ≡ seen rec o
seen_twice rec None = refl
seen_twice rec (Some s) = elim (cases_Bool (rec (chunk_of s.at))) [ inl e ↦ rw (e, e) refl | inr e ↦ rw e refl ]

same_within : (rec : Recorded) (f : Flat) → SameOn rec (within rec f) f
same_within rec f = record { blocks = λ b h. rw h refl; standing = λ id. seen_twice rec (f.standing id) }

none_outside : (rec : Recorded) (o : Option Standing) → seen (λ c. not (rec c)) (option_filter (λ (s : Standing). rec (chunk_of s.at)) o) ≡ None
none_outside rec None = refl
none_outside rec (Some s) = elim (cases_Bool (rec (chunk_of s.at))) [ inl e ↦ rw (e, e) refl | inr e ↦ rw e refl ]

all_inside : (rec : Recorded) (o : Option Standing) → seen (λ c. not (rec c)) o ≡ None → o ≡ option_filter (λ (s : Standing). rec (chunk_of s.at)) o
all_inside rec None h = refl
all_inside rec (Some s) h = elim (cases_Bool (rec (chunk_of s.at))) [
  | inl e ↦ rw e refl
  | inr e ↦ let x : Some s ≡ None = rw e at h in absurd (cc)
]

fewer : (rec : Recorded) (o : Option Standing) → one (option_filter (λ (s : Standing). rec (chunk_of s.at)) o) ≤ one o
fewer rec None = omega arith
fewer rec (Some s) = elim (cases_Bool (rec (chunk_of s.at))) [ inl e ↦ rw e (omega arith) | inr e ↦ rw e (omega arith) ]

-- ---- from a Begin to the End
module _ (o : Opening) (ok : IsGrid o.grid) (es mid : List Entry) (by worker r : ℕ) (none : NoEnd r mid)
    (run : RunFrom (start o) (es ++ (record { by = by; event = Begin worker r }) ∷ mid)) where
  abbrev e : Entry
  e = record { by = by; event = Begin worker r }

  abbrev u : World
  u = after_all (start o) es

  abbrev v : World
  v = begun u worker r

  abbrev w : World
  w = after_all v mid

  begins : is_begin r (Begin worker r) ≡ true
  begins = eq-eqb r r refl

  run_nil : RunFrom (start o) (es ++ e ∷ (mid ++ []))
  run_nil = rw (append-nil mid) run

  pub here : Allowed u (Begin worker r) × RunFrom v mid
  here = at_entry (start o) es e mid run

  pub good_u : Good o u
  good_u = good_run o es (e ∷ mid) ok run

  pub good_v : Good o v
  good_v = good_after o u (Begin worker r) good_u here.0

  pub untouched : Untouched r v w
  untouched = owned o es mid [] e r ok begins none run_nil

  pub recorded : v.recorded r ≡ is_chunk_of u.grid r
  unfolding begun
  recorded = at_here u.recorded r (λ c. is_loaded u.grid c && nat_eq (u.grid.owner (section_of u.grid.grid c)) r)

  pub recorded_now : w.recorded r ≡ is_chunk_of u.grid r
  recorded_now = untouched.recorded ∙ recorded

  within_limits : (c : ChunkPos) → is_chunk_of u.grid r c ≡ true → is_chunk c ≡ true
  within_limits c h = good_u.sound.rules.chunk_limits c (ltb-true 0 (u.grid.holds c) (and_parts (is_loaded u.grid c) (nat_eq (u.grid.owner (section_of u.grid.grid c)) r) h).0)

  pub listed : (chunks : List ChunkPos) → chunks ≡ filter (is_chunk_of u.grid r) all_chunks → is_recorded chunks ≡ w.recorded r
  listed chunks e = ap is_recorded e ∙ kept_listed (is_chunk_of u.grid r) within_limits ∙ sym recorded_now

  pub due_now : due w r ≡ due v r
  due_now = untouched.due

  pub ticks_now : w.grid.state r ≡ Ticking
  ticks_now = untouched.ticks

  pub counter : w.tick r ≡ u.tick r
  unfolding begun
  counter = untouched.tick

  pub ticks_then : v.grid.state r ≡ Ticking
  ticks_then = began_ticks u (Begin worker r) r begins

  pub owes : w.owed r ≡ u.owed r - 1
  unfolding begun
  owes = owes_along o v mid [] r good_v (calm_after o u good_u (calm_run o es ok (before_entry (start o) es (e ∷ mid) run)) (Begin worker r) here.0) ticks_then none (rw (append-nil mid) here.1)
      ∙ at_here u.owed r (u.owed r - 1)

  pub seat : w.worker r ≡ worker
  unfolding begun
  seat = untouched.worker ∙ at_here u.worker r worker

  pub queue : SameQueue r v w
  queue = queue_kept o es mid [] e r ok begins none run_nil

  -- the whole tick on what the Begin recorded
  module _ (given : ℕ → Outcome) where
    abbrev rec : Recorded
    rec = v.recorded r

    abbrev f : Flat
    f = within (v.recorded r) v.flat

    abbrev done : FlatEnd
    done = flat_tick (v.recorded r) given (due v r) (within (v.recorded r) v.flat)

    pub is_end : IsEndIn w r rec done
    is_end = finished_ends o es mid [] e r ok begins none run_nil given f (same_within rec v.flat)

    few_there : (id : ℕ) → one (f.standing id) + arrivals id (due v r) ≤ 1
    few_there id = let a = due_total id v r (total_most o v good_v.place id) in let b = fewer rec (v.flat.standing id) in omega arith

    none_leaves : (id : ℕ) → seen (λ c. not (rec c)) (done.flat.standing id) ≡ None
    unfolding flat_tick
    none_leaves id = ticked_unseen rec (λ c. not (rec c)) (λ c h. rw h refl) f (due v r) id (due_ok v r v.next_job good_v.sound.each) (due_on_recorded o v r good_v ticks_then) (few_there id)
        ∙ none_outside rec (v.flat.standing id)

    blocks_inside : (b : _) → rec (chunk_of b) ≡ false → done.flat.blocks b ≡ 0
    unfolding flat_tick
    blocks_inside b h = acted_outside rec f (due v r) b h ∙ rw h refl

    inside : done.flat ≡ within rec done.flat
    inside = flat_ext done.flat (within rec done.flat)
        (λ b. elim (cases_Bool (rec (chunk_of b))) [ inl h ↦ rw h refl | inr h ↦ rw h (blocks_inside b h) ])
        (λ id. all_inside rec (done.flat.standing id) (none_leaves id))

    -- what the tick has in its hands is what the End makes of these chunks
    pub contents_now : done.flat ≡ within rec (run_down w r done.ran).flat
    unfolding dropped
    contents_now = inside ∙ within_same rec done.flat (ticked w r done.ran).flat is_end.flat
