-- Every block with a number is within the limits, after every run.
use Rattle.std.proofs.Common.{◌≡◌, ℕ, ◌<◌, refl, sym, ◌∙◌, ap, arith, true, inl, inr, List, [], ◌∷◌, ◌&&◌}
use Rattle.std.specs.Prelude.{nat_eq, nat_le}
use Rattle.std.specs.List.{AllByRecursion, list_all}
use Rattle.std.proofs.lemmas.Bool.{cases_Bool, and_parts, and_from}
use Rattle.fol_model.specs.declared.places.ChunkPos.{ChunkPos}
use Rattle.fol_model.specs.declared.places.BlockPos.{BlockPos}
use Rattle.fol_model.specs.declared.openings.BlockAt.{BlockAt}
use Rattle.fol_model.specs.declared.tasks.Ran.{Ran}
use Rattle.fol_model.specs.declared.tasks.Task.{Task}
use Rattle.fol_model.specs.declared.actions.Action.{Action}
use Rattle.fol_model.specs.declared.actions.Action.TheVariants as action
use Rattle.fol_model.specs.declared.events.Entry.{Entry}
use Rattle.fol_model.specs.declared.events.Event.{Event}
use Rattle.fol_model.specs.declared.events.Event.TheVariants.{Load, Unload, Post, PhaseOpen, Begin, End, PhaseClose, Finish, Stop}
use Rattle.fol_model.specs.Geometry.{chunk_of, is_block, same_block}
use Rattle.fol_model.specs.Deed.{every}
use Rattle.fol_model.specs.Limits.{is_action, is_deed, is_wrap, is_plain}
use Rattle.fol_model.specs.Add.{is_full}
use Rattle.fol_model.specs.OpeningParts.{is_block_at}
use Rattle.fol_model.specs.ActionStep.{Flat, Recorded, act, at_block, blocks_after, plain_of}
use Rattle.fol_model.specs.FlatTick.{acted, flat_tick}
use Rattle.fol_model.specs.World.{World, block_in, due}
use Rattle.fol_model.specs.Holds.{loaded, unloaded, posted}
use Rattle.fol_model.specs.QueuedTask.{begun}
use Rattle.fol_model.specs.End.{dropped, ended, released, run_down, ticked}
use Rattle.fol_model.specs.Run.{RunFrom, after, after_all}
use Rattle.fol_laws.proofs.SamePlaces.{same_block-true}
use Rattle.fol_laws.proofs.SoundState.{SoundWorld}
use Rattle.fol_laws.proofs.SoundRuns.{after_keeps}
use Rattle.fol_laws.proofs.UnseenTicks.{wishes_blocks}
use Rattle.fol_laws.proofs.WishLimits.{TaskOk, deed_action, due_ok}

-- each block with a number is within the limits
abbrev pub BlocksWithin : (BlockPos → ℕ) → Type 0
BlocksWithin f = (b : BlockPos) → 0 < f b → is_block b ≡ true

one_block : (f : BlockPos → ℕ) (at : BlockPos) (n : ℕ) → is_block at ≡ true → BlocksWithin f → BlocksWithin (at_block f at n)
one_block f at n ok h b l = elim (cases_Bool (same_block at b)) [
  | inl e ↦ let s : at ≡ b = same_block-true at b e in ap is_block (sym s) ∙ ok
  | inr e ↦ h b (rw e at l)
]

act_within : (rec : Recorded) (f : BlockPos → ℕ) (a : Action) → is_action a ≡ true → BlocksWithin f → BlocksWithin (blocks_after rec f a)
act_within rec f (action.Set at id) ok h = elim (cases_Bool (rec (chunk_of at))) [
  | inl e ↦ rw e (one_block f at id (and_parts (is_block at) (nat_le id 65535) ok).0 h)
  | inr e ↦ rw e h
]
act_within rec f (action.Copy at to) ok h = elim (cases_Bool (rec (chunk_of at) && rec (chunk_of to))) [
  | inl e ↦ rw e (one_block f to (f at) (and_parts (is_block at) (is_block to) ok).1 h)
  | inr e ↦ rw e h
]
act_within rec f (action.Load c) ok h = h
act_within rec f (action.Unload c) ok h = h
act_within rec f (action.Post c d inner) ok h = h
act_within rec f (action.Send id to) ok h = h
act_within rec f (action.Arrive e) ok h = h
act_within rec f (action.Every p l inner) ok h = h

plain_ok : (a : Action) → is_action a ≡ true → is_action (plain_of a) ≡ true
plain_ok (action.Set at id) h = h
plain_ok (action.Copy at to) h = h
plain_ok (action.Load c) h = h
plain_ok (action.Unload c) h = h
plain_ok (action.Post c d inner) h = h
plain_ok (action.Send id to) h = h
plain_ok (action.Arrive e) h = h
plain_ok (action.Every p l inner) h =
    let a = and_parts (list_all is_wrap (every p l ∷ inner.wraps)) (is_plain inner.plain) h in
    let b = and_parts (is_wrap (every p l)) (list_all is_wrap inner.wraps) a.0 in
    ap is_deed (deed_action inner) ∙ and_from (list_all is_wrap inner.wraps) (is_plain inner.plain) b.1 a.1

acted_within : (rec : Recorded) (f : Flat) (ts : List Task) → AllByRecursion TaskOk ts → BlocksWithin f.blocks → BlocksWithin (acted rec f ts).blocks
acted_within rec f [] ok h = h
acted_within rec f (t ∷ ts) ok h = acted_within rec (act rec f (plain_of t.action)) ts ok.1 (act_within rec f.blocks (plain_of t.action) (plain_ok t.action ok.0.action) h)

ticked_within : (w : World) (r : ℕ) (ran : List Ran) → SoundWorld w → BlocksWithin w.flat.blocks → BlocksWithin (ticked w r ran).flat.blocks
unfolding flat_tick
ticked_within w r ran s h = acted_within (w.recorded r) w.flat (due w r) (due_ok w r w.next_job s.each) h

down_within : (w : World) (r : ℕ) (ran : List Ran) → SoundWorld w → BlocksWithin w.flat.blocks → BlocksWithin (run_down w r ran).flat.blocks
unfolding dropped
down_within w r ran s h = ticked_within w r ran s h

blocks_posted : (w : World) (c : ChunkPos) (d : ℕ) (a : Action) → (posted w c d a).flat.blocks ≡ w.flat.blocks
unfolding posted
blocks_posted w c d a = elim (cases_Bool (is_full w.grid c)) [ inl f ↦ rw f refl | inr f ↦ rw f refl ]

blocks_ended : (w : World) (r : ℕ) (ran : List Ran) → (ended w r ran).flat.blocks ≡ (run_down w r ran).flat.blocks
unfolding ended released
blocks_ended w r ran = wishes_blocks (run_down w r ran) (ticked w r ran).wishes

blocks_loaded : (w : World) (c : ChunkPos) → (loaded w c).flat.blocks ≡ w.flat.blocks
unfolding loaded
blocks_loaded w c = elim (cases_Bool (is_full w.grid c)) [ inl f ↦ rw f refl | inr f ↦ rw f refl ]

blocks_unloaded : (w : World) (c : ChunkPos) → (unloaded w c).flat.blocks ≡ w.flat.blocks
unfolding unloaded
blocks_unloaded w c = elim (cases_Bool (nat_eq (w.tickets c) 0)) [ inl f ↦ rw f refl | inr f ↦ rw f refl ]

blocks_begun : (w : World) (worker r : ℕ) → (begun w worker r).flat.blocks ≡ w.flat.blocks
unfolding begun
blocks_begun w worker r = refl

same_within : (f g : BlockPos → ℕ) → g ≡ f → BlocksWithin f → BlocksWithin g
same_within f g e h = rw e h

within_after : (w : World) (e : Event) → SoundWorld w → BlocksWithin w.flat.blocks → BlocksWithin (after w e).flat.blocks
within_after w (Load caller c answer) s h = same_within _ _ (blocks_loaded w c) h
within_after w (Unload caller c answer) s h = same_within _ _ (blocks_unloaded w c) h
within_after w (Post caller c d a answer) s h = same_within _ _ (blocks_posted w c d a) h
within_after w (PhaseOpen n) s h = h
within_after w (Begin worker r) s h = same_within _ _ (blocks_begun w worker r) h
within_after w (End worker r tick ran accepts) s h = same_within _ _ (blocks_ended w r ran) (down_within w r ran s h)
within_after w PhaseClose s h = h
within_after w Finish s h = h
within_after w (Stop caller) s h = h

pub blocks_within : (w : World) (es : List Entry) → SoundWorld w → RunFrom w es → BlocksWithin w.flat.blocks → BlocksWithin (after_all w es).flat.blocks
blocks_within w [] s run h = h
blocks_within w (e ∷ es) s run h = blocks_within (after w e.event) es (after_keeps w e.event s run.1) run.2 (within_after w e.event s h)

pub first_within : (bs : List BlockAt) → list_all is_block_at bs ≡ true → BlocksWithin (block_in bs)
first_within [] h b l = absurd (omega arith)
first_within (x ∷ bs) h b l =
    let p = and_parts (is_block_at x) (list_all is_block_at bs) h in
    elim (cases_Bool (same_block x.at b)) [
      | inl e ↦ let s : x.at ≡ b = same_block-true x.at b e in ap is_block (sym s) ∙ (and_parts (is_block x.at) _ p.0).0
      | inr e ↦ first_within bs p.1 b (rw e at l)
    ]
