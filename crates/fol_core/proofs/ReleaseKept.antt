-- What a core stands for after a release.
use Rattle.std.proofs.Common.{◌≡◌, ℕ, ◌+◌, ◌≤◌, ◌^◌, refl, sym, ◌∙◌, ap, arith, List, [], ◌∷◌, ◌++◌, length}
use Rattle.fol_model.specs.declared.openings.Opening.{Opening}
use Rattle.fol_model.specs.declared.events.Event.{Event}
use Rattle.fol_model.specs.declared.events.Entry.{Entry}
use Rattle.fol_model.specs.declared.tasks.Wish.{Wish}
use Rattle.fol_model.specs.End.{accepted, answers, ended, run_down, ticked}
use Rattle.fol_model.specs.World.{World}
use Rattle.fol_model.specs.Run.{Allowed, world}
use Rattle.fol_laws.specs.Growth.{answers_in}
use Rattle.fol_data.specs.declared.tick.Tick.{Tick}
use Rattle.fol_world.specs.declared.tables.Course.{Course}
use Rattle.fol_world.specs.declared.tables.Tables.{Tables}
use Rattle.fol_world.specs.AtEnd.{end_event, AtEnd}
use Rattle.fol_world.specs.Hands.{since}
use Rattle.fol_core.specs.Meaning.{Meaning}
use Rattle.fol_world.specs.Stands.{Fits, Stands}
use Rattle.fol_core.specs.Ticks.{IsOut, SameTick}
use Rattle.fol_core.proofs.FinishedRuns.{not_finished}
use Rattle.fol_world.proofs.Longer.{stands_more}

-- a tick whose room for more changed is out as it was
pub out_same : (m : Meaning) (old new : Tick) → SameTick old new → IsOut m old → IsOut m new
out_same m old new same out = let w = same.worker in let r = same.region in record {
  made = record {
    before = out.made.before;
    between = out.made.between;
    since = out.made.since;
    by = out.made.by;
    begin = rw (w, r) out.made.begin;
    allowed = rw r out.made.allowed;
    calm = rw r out.made.calm;
    runs_on = rw r out.made.runs_on;
  };
  place = same.begun ∙ out.place;
  of = let d = same.due in let c = same.chunks in let k = same.counter in let q = same.tasks in record {
    chunks = rw (c, r) out.of.chunks;
    due = rw (d, w, r) out.of.due;
    counter = rw (k, r) out.of.counter;
    owed = rw r (same.owed ∙ out.of.owed);
    queued = rw (k, q, w, r) out.of.queued;
  };
  given = out.given;
  run = let d = same.due in let c = same.chunks in let l = same.log in record {
    contents = rw (c, d) (same.contents ∙ out.run.contents);
    ran = rw (c, d, l) out.run.ran;
    wishes = rw (c, d, l) out.run.wishes;
    moved = same.moved ∙ out.run.moved;
  };
}

answered_each : (w : World) (xs : List Wish) → length (answers w xs) ≡ length xs
answered_each w [] = refl
answered_each w (x ∷ xs) = omega (arith, answered_each (accepted w x) xs)

-- how long the history is, is no part of the world
fits_sized : (t : Tables) (c : Course) (n : ℕ) (w : World) (f : ℕ → ℕ) → c ≡ record t.course { size = n } → Fits t w f → Fits (record t { course = c }) w f
fits_sized t c n w f e s = record {
  grid = s.grid;
  regions = s.regions;
  stored = s.stored;
  tickets = s.tickets;
  agenda = s.agenda;
  course = rw e (record { next_job = s.course.next_job; in_phase = s.course.in_phase; sum = s.course.sum; stopped = s.course.stopped; finished = s.course.finished });
}

module _ (o : Opening) (h : List Entry) (t : Tables) (s : Stands o h t) (tick : Tick) (at : AtEnd (world o h) (since o h) tick) (worker : ℕ) (seat : worker ≡ (world o h).worker tick.region)
    (size : t.course.size + (1 + length tick.log.wishes) ≤ 2 ^ 50) (t' : Tables) (ends : Fits t' (ended (world o h) tick.region tick.log.ran) (since o h)) (same : t'.course.size ≡ t.course.size)
    (by : ℕ) (event : Event) (is : event ≡ end_event (world o h) worker tick.region tick.log.ran) where
  abbrev w : World
  w = world o h

  given : Allowed w (end_event w worker tick.region tick.log.ran)
  given = (at.ticks, seat, refl, sym at.ran, refl)

  listed : answers_in (end_event w worker tick.region tick.log.ran) ≡ length tick.log.wishes
  listed = answered_each (run_down w tick.region tick.log.ran) (ticked w tick.region tick.log.ran).wishes ∙ ap length at.wishes

  pub release_kept : (c : Course) → c ≡ record t'.course { size = t'.course.size + 1 + length tick.log.wishes } → Stands o (h ++ (record { by = by; event = event }) ∷ []) (record t' { course = c })
  release_kept c e =
      let grows : c.size ≡ t.course.size + (1 + answers_in (end_event w worker tick.region tick.log.ran)) = (let z = ap (λ (x : Course). x.size) e in omega (arith, z, same, listed)) in
      rw is (stands_more o h (record { by = by; event = end_event w worker tick.region tick.log.ran }) t (record t' { course = c }) s
      (not_finished o h s.grid s.run tick.region at.ticks) given
      (fits_sized t' c (t'.course.size + 1 + length tick.log.wishes) (ended w tick.region tick.log.ran) (since o h) e ends)
      grows (omega (arith, grows, listed, size)) (λ x. omega (arith, grows, listed, size)))
