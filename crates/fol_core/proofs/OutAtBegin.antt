-- A tick that was made before its Begin is one that could have been made at it.
use Rattle.std.proofs.Common.{◌≡◌, ℕ, ◌-◌, sym, ◌∙◌, ap, subst, true, List, ◌∷◌, ◌++◌, append_assoc}
use Rattle.std.specs.Prelude.{nat_eq, filter}
use Rattle.std.proofs.lemmas.Bool.{and_parts, ltb-true}
use Rattle.std.proofs.Math.Path.{fun_ext}
use Rattle.fol_model.specs.declared.openings.Opening.{Opening}
use Rattle.fol_model.specs.declared.places.ChunkPos.{ChunkPos}
use Rattle.fol_model.specs.declared.tasks.Outcome.{Outcome}
use Rattle.fol_model.specs.declared.events.Event.TheVariants.{Begin}
use Rattle.fol_model.specs.declared.events.Entry.{Entry}
use Rattle.fol_model.specs.Geometry.{is_chunk, section_of}
use Rattle.fol_model.specs.GridNumbers.{IsGrid}
use Rattle.fol_model.specs.GridState.{is_loaded}
use Rattle.fol_model.specs.Universe.{all_chunks}
use Rattle.fol_model.specs.Outputs.{is_chunk_of}
use Rattle.fol_model.specs.ActionStep.{Flat, Recorded}
use Rattle.fol_model.specs.QueuedTask.{begun}
use Rattle.fol_model.specs.OpenTick.{NoEnd}
use Rattle.fol_model.specs.World.{World, start}
use Rattle.fol_model.specs.Run.{Run, after_all, world}
use Rattle.fol_laws.specs.Contents.{SameOn}
use Rattle.fol_laws.specs.LateBegin.{SameBegin}
use Rattle.fol_laws.proofs.FunctionsChanged.{at_here}
use Rattle.fol_laws.proofs.LateLaws.{late_begin_is_the_same}
use Rattle.fol_laws.proofs.LongerRuns.{world_both}
use Rattle.fol_laws.proofs.WholeRuns.{Good, good_run}
use Rattle.fol_chunks.specs.Contents.{is_recorded, within}
use Rattle.fol_data.specs.declared.tick.Tick.{Tick}
use Rattle.fol_core.specs.Meaning.{Meaning}
use Rattle.fol_core.specs.Ticks.{HasRun, IsOut, IsTickOf}
use Rattle.fol_world.proofs.ChunkLists.{kept_listed}
use Rattle.fol_core.proofs.FinishedRun.{within_same}

-- the tick is open in the history and is finished, as if it had been made at its Begin
pub record OutAtBegin (o : Opening) (h : List Entry) (tick : Tick) : Type 0 where
  pub before : List Entry
  pub since : List Entry
  pub by : ℕ
  pub begin : h ≡ before ++ (record { by = by; event = Begin tick.worker tick.region }) ∷ since
  pub runs_on : NoEnd tick.region since
  pub of : IsTickOf (world o before) tick
  pub given : ℕ → Outcome
  pub run : HasRun given (within (is_recorded tick.chunks) (world o before).flat) tick

-- what a Begin in w gives its tick, one in v gives it too, where they are the same
module _ (o : Opening) (w v : World) (tick : Tick) (good : Good o w) (same : SameBegin tick.region tick.worker w v) (of : IsTickOf w tick) where
  recorded_of : (x : World) → (begun x tick.worker tick.region).recorded tick.region ≡ is_chunk_of x.grid tick.region
  unfolding begun
  recorded_of x = at_here x.recorded tick.region (is_chunk_of x.grid tick.region)

  same_chunks : is_chunk_of w.grid tick.region ≡ is_chunk_of v.grid tick.region
  same_chunks = sym (recorded_of w) ∙ sym same.recorded ∙ recorded_of v

  same_counter : w.tick tick.region ≡ v.tick tick.region
  unfolding begun
  same_counter = sym same.tick

  owed_of : (x : World) → (begun x tick.worker tick.region).owed tick.region ≡ x.owed tick.region - 1
  unfolding begun
  owed_of x = at_here x.owed tick.region (x.owed tick.region - 1)

  same_owed : w.owed tick.region - 1 ≡ v.owed tick.region - 1
  same_owed = sym (owed_of w) ∙ sym same.owed ∙ owed_of v

  pub of_later : IsTickOf v tick
  of_later = record {
    chunks = of.chunks ∙ ap (λ (p : Recorded). filter p all_chunks) same_chunks;
    due = of.due ∙ sym same.due;
    counter = of.counter ∙ same_counter;
    owed = of.owed ∙ same_owed;
    queued = of.queued ∙ fun_ext (λ n. sym (same.queued n));
  }

  within_limits : (c : ChunkPos) → is_chunk_of w.grid tick.region c ≡ true → is_chunk c ≡ true
  within_limits c h = good.sound.rules.chunk_limits c (ltb-true 0 (w.grid.holds c) (and_parts (is_loaded w.grid c) (nat_eq (w.grid.owner (section_of w.grid.grid c)) tick.region) h).0)

  listed : is_recorded tick.chunks ≡ (begun w tick.worker tick.region).recorded tick.region
  listed = ap is_recorded of.chunks ∙ kept_listed (is_chunk_of w.grid tick.region) within_limits ∙ sym (recorded_of w)

  same_flat : SameOn ((begun w tick.worker tick.region).recorded tick.region) w.flat v.flat
  unfolding begun
  same_flat = same.flat

  pub flat_later : within (is_recorded tick.chunks) w.flat ≡ within (is_recorded tick.chunks) v.flat
  flat_later = ap (λ (p : Recorded). within p w.flat) listed
      ∙ within_same ((begun w tick.worker tick.region).recorded tick.region) w.flat v.flat same_flat
      ∙ ap (λ (p : Recorded). within p v.flat) (sym listed)

module _ (m : Meaning) (ok : IsGrid m.opening.grid) (run : Run m.opening m.history) (tick : Tick) (out : IsOut m tick) where
  abbrev o : Opening
  o = m.opening

  abbrev h : List Entry
  h = m.history

  abbrev e : Entry
  e = record { by = out.made.by; event = Begin tick.worker tick.region }

  abbrev w : World
  w = world o out.made.before

  run_at : Run o (out.made.before ++ (out.made.between ++ e ∷ out.made.since))
  run_at = rw (out.made.begin, append_assoc) at run

  same : SameBegin tick.region tick.worker w (after_all w out.made.between)
  same = (late_begin_is_the_same o out.made.before out.made.between (e ∷ out.made.since) tick.region tick.worker ok run_at out.made.allowed out.made.calm).1

  good : Good o w
  good = good_run o out.made.before (out.made.between ++ e ∷ out.made.since) ok run_at

  there : after_all w out.made.between ≡ world o (out.made.before ++ out.made.between)
  there = sym (world_both (start o) out.made.before out.made.between)

  flat_is : within (is_recorded tick.chunks) w.flat ≡ within (is_recorded tick.chunks) (world o (out.made.before ++ out.made.between)).flat
  flat_is = flat_later o w (after_all w out.made.between) tick good same out.of ∙ ap (λ (x : World). within (is_recorded tick.chunks) x.flat) there

  pub out_at_begin : OutAtBegin o h tick
  out_at_begin = record {
    before = out.made.before ++ out.made.between;
    since = out.made.since;
    by = out.made.by;
    begin = out.made.begin;
    runs_on = out.made.runs_on;
    of = let P : World → Type 0 = λ x. IsTickOf x tick in subst P there (of_later o w (after_all w out.made.between) tick good same out.of);
    given = out.given;
    run = let P : Flat → Type 0 = λ f. HasRun out.given f tick in subst P flat_is out.run;
  }
