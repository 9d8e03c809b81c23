-- The End of a tick, from what the core with its offers did.
use Rattle.std.proofs.Common.{◌≡◌, ◌≤◌, ℕ, refl, sym, ◌∙◌, ap, inl, inr, List, [], ◌∷◌, ◌++◌, append_assoc, Bool}
use Rattle.std.specs.Prelude.{Result, Ok, Err, OnErr, OnOk, nat_eq}
use Rattle.std.specs.List.{AllByRecursion}
use Rattle.std.proofs.lemmas.Bool.{cases_Bool}
use Rattle.std.proofs.lemmas.List.{append-nil}
use Rattle.fol_laws.proofs.SortedRows.{all_append}
use Rattle.fol_model.specs.declared.events.Entry.{Entry}
use Rattle.fol_model.specs.declared.events.Event.TheVariants.{Begin}
use Rattle.fol_model.specs.World.{World}
use Rattle.fol_data.specs.declared.tick.Tick.{Tick}
use Rattle.fol_core.specs.Meaning.{Meaning, Records, Stays, is_prepared, world_of}
use Rattle.fol_world.specs.AtEnd.{end_event}
use Rattle.fol_offers.specs.Ends.{Meets, wishes_may_touch}
use Rattle.fol_offers.specs.Ends as offers_ends
use Rattle.fol_offers.specs.PassedTicks.{quiet_entries}
use Rattle.fol_offers.specs.Shown as offers
use Rattle.fol_live.specs.Kept.{IsKept}
use Rattle.fol_live.specs.Shown.{shown}
use Rattle.fol_live.specs.Turns.{Ends, IsLate, Learns, PassesOn, SameWorld}
use Rattle.fol_live.proofs.Answering.{Grows, Tells, grows_one, grows_same, late_of, learns_back, learns_by}
use Rattle.fol_live.proofs.QuietEntries.{quiet_signed}
use Rattle.fol_live.proofs.Bare.{bare, bare_records, bare_stays, err_map, on_ok_map}

-- the Begins that were recorded up to some point, by one seat
pub record Late (old new : offers.Shown) (by : ℕ) : Type 0 where
  pub same : SameWorld (shown old) (shown new)
  pub learnt : List Entry
  pub history : new.core.history ≡ old.core.history ++ learnt
  pub late : AllByRecursion (IsLate by) learnt

-- a worker that is met records its Begin, or none
pub met_late : (old new : offers.Shown) (worker region : ℕ) → Meets old new worker region → Late old new worker
met_late old new worker region met = elim (cases_Bool (is_prepared old.core region)) [
  | inl waits ↦
      let did = met.learnt waits in
      record {
        same = record { opening = did.opening; slots = met.slots; workers = met.workers };
        learnt = (record { by = worker; event = Begin worker region }) ∷ [];
        history = did.history;
        late = (record { own = refl; begins = refl }, tt);
      }
  | inr known ↦
      let same = met.known known in
      record {
        same = record { opening = ap (λ (m : Meaning). m.opening) same; slots = met.slots; workers = met.workers };
        learnt = [];
        history = ap (λ (m : Meaning). m.history) same ∙ sym (append-nil old.core.history);
        late = tt;
      }
]

late_both : (a b c : offers.Shown) (by : ℕ) → Late a b by → Late b c by → Late a c by
late_both a b c by p q = record {
  same = record { opening = q.same.opening ∙ p.same.opening; slots = q.same.slots ∙ p.same.slots; workers = q.same.workers ∙ p.same.workers };
  learnt = p.learnt ++ q.learnt;
  history = q.history ∙ ap (λ (es : List Entry). es ++ q.learnt) p.history ∙ append_assoc a.core.history p.learnt q.learnt;
  late = all_append (IsLate by) p.learnt q.learnt p.late q.late;
}

back_late : (old new : offers.Shown) (by : ℕ) (called : ℕ → Bool) → offers.CallsBack old new by called → Late old new by
back_late old new by called back = record {
  same = record { opening = back.opening; slots = back.slots; workers = back.workers };
  learnt = back.learnt;
  history = back.history;
  late = late_of old.core called by back.learnt back.begins;
}

-- the worker learnt of that, and the whole keeps what a world keeps
pub met_learns : (old new : offers.Shown) (worker region : ℕ) → IsKept (shown old) → Tells new → Meets old new worker region → Learns (shown old) (shown new) worker
met_learns old new worker region kept tells met =
    let l = met_late old new worker region met in
    (learns_by old new new worker kept tells met.workers (grows_same new.core new.core (record { opening = refl; history = refl; prepared = refl })) l.same l.learnt l.history l.late).0

pub ends : {E : Type 0} (old new : offers.Shown) (tick : Tick) (r : Result ℕ E) → IsKept (shown old) → Tells new → offers_ends.Ends old new tick r → Ends (shown old) (shown new) tick r
ends {E} old new tick r kept tells did =
    let by = tick.worker in
    let c = did.cleared in
    let event = end_event (world_of c.core) tick.worker tick.region tick.log.ran in
    let l = late_both old did.met c by (met_late old did.met by tick.region did.meets) (back_late did.met c by _ did.clears.clears) in
    let grows : Grows c.core new.core = grown c.core new.core (world_of c.core) r did.recorded did.refused in
    let learns = learns_by old c new by kept tells did.workers grows l.same l.learnt l.history l.late in
    record {
      now = shown c;
      learns = learns.0;
      told = did.told;
      recorded = on_ok_map (Records c.core new.core by event) (Records (bare c.core) (bare new.core) by event) r (bare_records c.core new.core by event) did.recorded;
      refused = err_map (Stays c.core new.core) (Stays (bare c.core) (bare new.core)) r (bare_stays c.core new.core) did.refused;
      same = record { opening = grows.opening; slots = did.slots ∙ sym l.same.slots; workers = did.workers ∙ sym l.same.workers };
      keeps = learns.1;
    }
  where
    grown : (m n : Meaning) (w : World) (x : Result ℕ E) → OnOk x (Records m n tick.worker (end_event w tick.worker tick.region tick.log.ran)) → OnErr x (Stays m n) → Grows m n
    grown m n w (Ok k) recorded refused = grows_one m n tick.worker (end_event w tick.worker tick.region tick.log.ran) (λ named. refl) recorded
    grown m n w (Err e) recorded refused = grows_same m n refused

-- ticks that were passed over
pub passes_on : (old new : offers.Shown) (by region count most : ℕ) → IsKept (shown old) → Tells new → count ≤ most → offers.PassesOver old new by region count → PassesOn (shown old) (shown new) by most
passes_on old new by region count most kept tells few did =
    let c = did.cleared in
    let grows : Grows c.core new.core = record {
      opening = did.passes.opening;
      added = quiet_entries by did.passes.ticks;
      history = did.passes.history;
      signed = quiet_signed by did.passes.ticks;
    } in
    let learns = learns_back old c new by (nat_eq region) kept tells (did.workers) grows did.clears in
    record {
      now = shown c;
      learns = learns.0;
      count = count;
      few = few;
      passes = record { ticks = did.passes.ticks; count = did.passes.count; opening = did.passes.opening; history = did.passes.history; prepared = refl };
      same = record { opening = grows.opening; slots = did.slots ∙ sym did.clears.slots; workers = did.workers ∙ sym did.clears.workers };
      keeps = learns.1;
    }
