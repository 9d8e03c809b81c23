-- What every run keeps.
use Rattle.std.proofs.Common.{refl, arith, List, [], ◌∷◌, ◌++◌}
use Rattle.fol_model.specs.GridNumbers.{IsGrid}
use Rattle.fol_model.specs.Geometry.{section_of}
use Rattle.fol_model.specs.World.{World, start}
use Rattle.fol_model.specs.Run.{after, after_all, Allowed, RunFrom}
use Rattle.fol_laws.proofs.SoundState.{SoundWorld}
use Rattle.fol_laws.specs.HoldCounts.{TasksAreOwned}
use Rattle.fol_laws.specs.OnePlace.{OnePlace}
use Rattle.fol_laws.specs.Growth.{ends, CountersAtMost}
use Rattle.fol_model.specs.declared.openings.Opening.{Opening}
use Rattle.fol_model.specs.declared.events.Event.{Event}
use Rattle.fol_model.specs.declared.events.Entry.{Entry}
use Rattle.fol_laws.specs.Phases.{OwesInPhase}
use Rattle.fol_laws.proofs.OwedNone.{owes_after}
use Rattle.fol_laws.proofs.SoundRuns.{after_keeps, start_sound}
use Rattle.fol_laws.proofs.RecordedMargins.{RecordedOk, recorded_after, chunk_held}
use Rattle.fol_laws.proofs.Distances.{self_distance}
use Rattle.fol_laws.proofs.EntityTotals.{place_after, place_start}
use Rattle.fol_laws.proofs.CounterGrowth.{all_most}

pub record Good (o : Opening) (w : World) : Type 0 where
  pub sound : SoundWorld w
  pub recorded : RecordedOk w
  pub place : OnePlace o w
  pub owing : OwesInPhase w

pub good_after : (o : Opening) (w : World) (e : Event) → Good o w → Allowed w e → Good o (after w e)
good_after o w e g a = record {
  sound = after_keeps w e g.sound a;
  recorded = recorded_after w g.sound g.recorded e a;
  place = place_after o w e g.sound g.place a;
  owing = owes_after w e g.sound a g.owing;
}

pub good_start : (o : Opening) → IsGrid o.grid → Good o (start o)
good_start o ok = record {
  sound = start_sound o ok;
  recorded = record { margin = λ r c s t. absurd (cc); taken = λ n j e. absurd (cc) };
  place = place_start o;
  owing = λ p r l. refl;
}

pub good_prefix : (o : Opening) (w : World) (es rest : List Entry) → Good o w → RunFrom w (es ++ rest) → Good o (after_all w es)
good_prefix o w [] rest g r = g
good_prefix o w (e ∷ es) rest g r = good_prefix o (after w e.event) es rest (good_after o w e.event g r.1) r.2

pub good_run : (o : Opening) (es rest : List Entry) → IsGrid o.grid → RunFrom (start o) (es ++ rest) → Good o (after_all (start o) es)
good_run o es rest ok r = good_prefix o (start o) es rest (good_start o ok) r

pub counters_most : (o : Opening) (es : List Entry) → CountersAtMost (after_all (start o) es) (ends es)
counters_most o es r = omega (arith, all_most (start o) es 0 (λ q. omega arith) r)

pub tasks_owned : (w : World) → SoundWorld w → TasksAreOwned w
tasks_owned w s n j e = s.rules.margin j.chunk (section_of w.grid.grid j.chunk) (chunk_held w n j s e) (omega (arith, self_distance (section_of w.grid.grid j.chunk)))
