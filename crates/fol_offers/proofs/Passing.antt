-- What leaves the tick of a region where it is.
use Rattle.std.proofs.Common.{◌≡◌, ℕ, List, [], ◌∷◌, ◌++◌, sym, refl, ap, ◌∙◌, true, false, append_assoc}
use Rattle.fol_model.specs.declared.events.Entry.{Entry}
use Rattle.fol_model.specs.OpenTick.{is_end}
use Rattle.fol_model.specs.World.{World, start}
use Rattle.fol_model.specs.Run.{after, after_all, world}
use Rattle.fol_laws.specs.LateBegin.{NoneTouches, is_stop, touches}
use Rattle.fol_laws.proofs.LongerRuns.{world_both}
use Rattle.fol_data.specs.declared.tick.Tick.{Tick}
use Rattle.fol_core.specs.Meaning.{Meaning, Records, is_prepared, world_of}
use Rattle.fol_tick_laws.proofs.OpenTicks.{open_more, open_same}
use Rattle.fol_slots.specs.declared.view.Place.{Place}
use Rattle.fol_offers.specs.Offered.{Offered}
use Rattle.fol_offers.specs.Tied.{InUse, Runs, Waits}

-- the tick of region q is in n where it is in m, whether it waits or runs
pub record Passes (m n : Meaning) (q : ℕ) : Type 0 where
  pub waits : (t : Tick) → Waits m q t → Waits n q t
  pub runs : (k : ℕ) (t : Tick) → Runs m q k t → Runs n q k t

pub in_use_passes : (m n : Meaning) (q : ℕ) (p : Place Offered) → Passes m n q → InUse m q p → InUse n q p
in_use_passes m n q p by u = record {
  kept = u.kept;
  tick = u.tick;
  offered = u.offered;
  waits = λ e. by.waits u.tick (u.waits e);
  runs = λ k e. by.runs k u.tick (u.runs k e);
}

-- the history is the same
pub passes_same : (m n : Meaning) (q : ℕ) → n.opening ≡ m.opening → n.history ≡ m.history → is_prepared n q ≡ is_prepared m q → Passes m n q
passes_same m n q opening history prepared = record {
  waits = λ t w. record {
    prepared = prepared ∙ w.prepared;
    before = w.before;
    between = w.between;
    history = history ∙ w.history;
    calm = rw opening w.calm;
    allowed = rw opening w.allowed;
    is = rw opening w.is;
    room = w.room;
  };
  runs = λ k t r. record { of = r.of; unprepared = prepared ∙ r.unprepared; opened = open_same m n opening history (record t { worker = k }) r.opened };
}

-- one more entry behind entries none of which touches the region
none_more : (w : World) (r : ℕ) (es : List Entry) (e : Entry) → NoneTouches w r es → touches (after_all w es) r e.event ≡ false → is_stop e.event ≡ false → NoneTouches w r (es ++ e ∷ [])
none_more w r [] e none calm on = (calm, on, tt)
none_more w r (x ∷ xs) e none calm on = (none.0, none.1, none_more (after w x.event) r xs e none.2 calm on)

-- there is one entry more, which touches the region no more than an End of it or a Stop would
pub passes_one : (m n : Meaning) (q : ℕ) (e : Entry) → n.opening ≡ m.opening → n.history ≡ m.history ++ e ∷ [] → is_prepared n q ≡ is_prepared m q
    → (is_prepared m q ≡ true → (touches (world_of m) q e.event ≡ false) × (is_stop e.event ≡ false)) → is_end q e.event ≡ false → Passes m n q
passes_one m n q e opening history prepared spares other = record {
  waits = λ t w.
      let there : after_all (world m.opening w.before) w.between ≡ world_of m = sym (world_both (start m.opening) w.before w.between) ∙ ap (world m.opening) (sym w.history) in
      let calm : touches (after_all (world m.opening w.before) w.between) q e.event ≡ false = ap (λ (x : World). touches x q e.event) there ∙ (spares w.prepared).0 in
      record {
        prepared = prepared ∙ w.prepared;
        before = w.before;
        between = w.between ++ e ∷ [];
        history = history ∙ ap (λ (h : List Entry). h ++ e ∷ []) w.history ∙ append_assoc w.before w.between (e ∷ []);
        calm = rw opening (none_more (world m.opening w.before) q w.between e w.calm calm (spares w.prepared).1);
        allowed = rw opening w.allowed;
        is = rw opening w.is;
        room = w.room;
      };
  runs = λ k t r.
      let after_it : Meaning = record m { history = n.history } in
      let records : Records m after_it e.by e.event = record { opening = refl; history = history; prepared = refl } in
      let u : Tick = record t { worker = k } in
      let another : is_end u.region e.event ≡ false = rw r.of other in
      record { of = r.of; unprepared = prepared ∙ r.unprepared; opened = open_same after_it n opening refl u (open_more m after_it e.by e.event u records another r.opened) };
}
