-- Quiet ticks pass, one after another, while regions are prepared.
use Rattle.std.proofs.Common.{◌≡◌, ℕ, zero, suc, ◌+◌, ◌*◌, ◌≤◌, ◌^◌, refl, sym, ◌∙◌, ap, subst, arith, append_assoc, Bool, false, List, [], ◌++◌, ◌||◌}
use Rattle.fol_model.specs.declared.events.Entry.{Entry}
use Rattle.fol_model.specs.declared.openings.Opening.{Opening}
use Rattle.fol_model.specs.GridState.{GridState}
use Rattle.fol_model.specs.Run.{world}
use Rattle.fol_regions.specs.Table.{grid_state}
use Rattle.fol_sections.specs.Places.{count_at}
use Rattle.fol_store.specs.Stock.{bag_of}
use Rattle.fol_world.specs.declared.tables.Course.{Course}
use Rattle.fol_world.specs.declared.tables.Tables.{Tables}
use Rattle.fol_world.specs.Agenda.{GrowsBy, IsAgenda}
use Rattle.fol_world.specs.Hands.{since}
use Rattle.fol_world.specs.Quiet.{CanPass, OnlyTidies, PassesTick, PassesTicks}
use Rattle.fol_world.specs.Stands.{IsCourse, IsSize}
use Rattle.fol_core.specs.Ahead.{StandsAhead}
use Rattle.fol_core.specs.Quiet.{quiet_tick, quiet_ticks}
use Rattle.fol_core.proofs.AheadQuiet.{counter_now, quiet_ahead, quiet_history, quiet_then}
use Rattle.fol_core.proofs.QuietRuns.{no_ticks, ticks_after}
use Rattle.fol_core.proofs.SameKept.{same_stored}

-- ---- nothing in what passed asks for the course but that it stays
other_course : (id n : ℕ) (t u : Tables) (c : Course) → PassesTicks id n t u → PassesTicks id n (record t { course = c }) (record u { course = c })
other_course id zero t u c p = record { store = p.store; regions = p.regions; agenda = p.agenda; stack = p.stack; grid = p.grid; tickets = p.tickets; course = refl }
other_course id (suc n) t u c p = (
  record p.0 { course = c },
  p.1,
  record {
    bags = p.2.bags;
    flat = p.2.flat;
    jobs = p.2.jobs;
    later = p.2.later;
    next = p.2.next;
    regions = p.2.regions;
    agenda = p.2.agenda;
    stack = p.2.stack;
    grid = p.2.grid;
    tickets = p.2.tickets;
    course = refl;
  },
  other_course id n p.0 u c p.3,
)

pub course_stays : (id n : ℕ) (t u : Tables) → PassesTicks id n t u → u.course ≡ t.course
course_stays id zero t u p = p.course
course_stays id (suc n) t u p = course_stays id n p.0 u p.3 ∙ p.2.course

pub stack_stays : (id n : ℕ) (t u : Tables) → PassesTicks id n t u → GrowsBy 0 t.agenda u.agenda
stack_stays id zero t u p = p.stack
stack_stays id (suc n) t u p =
    let rest = stack_stays id n p.0 u p.3 in
    record { len = omega (arith, rest.len, p.2.stack.len); capacity = rest.capacity ∙ p.2.stack.capacity }

-- ---- no tick
tidied_ahead : (o : Opening) (h : List Entry) (p : ℕ → Bool) (t u : Tables) → OnlyTidies t u → StandsAhead o h p t → StandsAhead o h p u
tidied_ahead o h p t u e s =
    let f = s.stands.fits in
    let w = world o s.runs.ahead.entries in
    let regions' : grid_state u.regions ≡ w.grid = ap grid_state e.regions ∙ f.regions in
    record {
      runs = s.runs;
      stands = record {
        grid = s.stands.grid;
        run = s.stands.run;
        fits = record {
          grid = e.grid ∙ f.grid;
          regions = regions';
          stored = same_stored t.store u.store w (since o s.runs.ahead.entries) (record { flat = e.store.contents; jobs = e.store.tasks; bags = e.store.bags; next = e.store.next }) f.stored;
          tickets = λ q. ap (λ x. count_at x.entries q) e.tickets ∙ f.tickets q;
          agenda = let P : GridState → Type 0 = λ g. IsAgenda u.agenda.items g (bag_of u.store) in subst P regions' e.agenda;
          course = let P : Course → Type 0 = λ c. IsCourse c w in subst P (sym e.course) f.course;
        };
        size = let P : Course → Type 0 = λ c. IsSize c s.runs.ahead.entries in subst P (sym e.course) s.stands.size;
      };
    }

-- the tables stand for the world after a history that is so many ticks of a region longer, whose counter is as much higher
abbrev LaterBy : Opening → (ℕ → Bool) → ℕ → ℕ → List Entry → List Entry → Tables → Type 0
LaterBy o p id n h es u = StandsAhead o es p u × ((world o es).tick id ≡ (world o h).tick id + n)

-- ---- one
module _ (o : Opening) (h : List Entry) (p : ℕ → Bool) (t : Tables) (s : StandsAhead o h p t) (id : ℕ) (can : CanPass (grid_state t.regions) t.store id) (u : Tables) (passes : PassesTick t u id) (worker : ℕ)
    (on : (t.course.finished || t.course.stopped) ≡ false) (few : t.course.size + 2 ≤ 2 ^ 50) where
  abbrev counter : ℕ
  counter = (bag_of t.store id).tick + 1

  abbrev course_then : Course
  course_then = record u.course { size = u.course.size + 1 + 1 }

  tick_ahead : LaterBy o p id 1 h (h ++ quiet_tick worker id ((world o h).tick id + 1)) (record u { course = course_then })
  tick_ahead =
      let P : List Entry → Type 0 = λ es. LaterBy o p id 1 h es (record u { course = course_then }) in
      subst P (quiet_history o h p t s id can u passes worker on few counter [] [] refl refl refl) (
        quiet_ahead o h p t s id can u passes worker on few counter [] [] refl refl refl (record u.course { size = u.course.size + 1 }) course_then refl refl,
        quiet_then o h p t s id can u passes worker on few counter [] [] refl refl refl,
      )

-- ---- some
module _ (o : Opening) (p : ℕ → Bool) (worker id : ℕ) where
  abbrev longer : ℕ → List Entry → List Entry
  longer n h = h ++ quiet_ticks worker id ((world o h).tick id) n

  -- after the first, those that are left are as many more
  longer_after : (n : ℕ) (h : List Entry) → let h' = h ++ quiet_tick worker id ((world o h).tick id + 1) in
      (world o h').tick id ≡ (world o h).tick id + 1 → longer n h' ≡ longer (suc n) h
  longer_after n h now =
      let h' : List Entry = h ++ quiet_tick worker id ((world o h).tick id + 1) in
      ap (λ k. h' ++ quiet_ticks worker id k n) now
      ∙ append_assoc h (quiet_tick worker id ((world o h).tick id + 1)) (quiet_ticks worker id ((world o h).tick id + 1) n)
      ∙ ap (λ es. h ++ es) (sym (ticks_after worker id ((world o h).tick id) n))

  pub ticks_ahead : (n : ℕ) (h : List Entry) (t u : Tables) → StandsAhead o h p t → PassesTicks id n t u → (t.course.finished || t.course.stopped) ≡ false → t.course.size + 2 * n ≤ 2 ^ 50
      → (d : Course) → d ≡ record t.course { size = t.course.size + 2 * n } → LaterBy o p id n h (longer n h) (record u { course = d })
  ticks_ahead zero h t u s passes on few d grows =
      let size : t.course.size + 2 * 0 ≡ t.course.size = omega arith in
      let same : d ≡ u.course = grows ∙ ap (λ k. let c : Course = record t.course { size = k } in c) size ∙ sym passes.course in
      let P : Course → Type 0 = λ c. StandsAhead o h p (record u { course = c }) in
      let Q : List Entry → Type 0 = λ es. LaterBy o p id 0 h es (record u { course = d }) in
      subst Q (no_ticks h worker id ((world o h).tick id)) (subst P (sym same) (tidied_ahead o h p t u passes s), omega arith)
  ticks_ahead (suc n) h t u s passes on few d grows =
      let mid : Tables = passes.0 in
      let stays : mid.course ≡ t.course = passes.2.course in
      let c : Course = record mid.course { size = mid.course.size + 1 + 1 } in
      let one : LaterBy o p id 1 h (h ++ quiet_tick worker id ((world o h).tick id + 1)) (record mid { course = c }) = tick_ahead o h p t s id passes.1 mid passes.2 worker on (omega (arith, few)) in
      let size_then : mid.course.size ≡ t.course.size = ap (λ (x : Course). x.size) stays in
      let few_then : mid.course.size + 1 + 1 + 2 * n ≤ 2 ^ 50 = omega (arith, few, size_then) in
      let sum : mid.course.size + 2 * suc n ≡ mid.course.size + 1 + 1 + 2 * n = omega arith in
      let grows_then : d ≡ record c { size = c.size + 2 * n } = grows ∙ ap (λ (x : Course). record x { size = x.size + 2 * suc n }) (sym stays) ∙ ap (λ k. let x : Course = record mid.course { size = k } in x) sum in
      let rest : LaterBy o p id n (h ++ quiet_tick worker id ((world o h).tick id + 1)) (longer n (h ++ quiet_tick worker id ((world o h).tick id + 1))) (record u { course = d }) =
      ticks_ahead n (h ++ quiet_tick worker id ((world o h).tick id + 1)) (record mid { course = c }) (record u { course = c }) one.0 (other_course id n mid u c passes.3)
      (ap (λ (x : Course). x.finished || x.stopped) stays ∙ on) few_then d grows_then in
      let Q : List Entry → Type 0 = λ es. LaterBy o p id (suc n) h es (record u { course = d }) in
      subst Q (longer_after n h one.1) (rest.0, omega (arith, rest.1, one.1))

-- ---- what was recorded of them, with the counter that was told
module _ (o : Opening) (h : List Entry) (p : ℕ → Bool) (t : Tables) (s : StandsAhead o h p t) (id n : ℕ) (can : CanPass (grid_state t.regions) t.store id) (u : Tables) (passes : PassesTicks id n t u) (worker : ℕ)
    (on : (t.course.finished || t.course.stopped) ≡ false) (few : t.course.size + 2 * n ≤ 2 ^ 50)
    (before : ℕ) (told : before ≡ (bag_of t.store id).tick) (es : List Entry) (recorded : es ≡ h ++ quiet_ticks worker id before n) where
  pub ticks_recorded : es ≡ h ++ quiet_ticks worker id ((world o h).tick id) n
  ticks_recorded = recorded ∙ ap (λ k. h ++ quiet_ticks worker id k n) (told ∙ counter_now o h p t s id can.owing)

  course_now : Course
  course_now = record u.course { size = u.course.size + 2 * n }

  grows : course_now ≡ record t.course { size = t.course.size + 2 * n }
  unfolding course_now
  grows = ap (λ (c : Course). record c { size = c.size + 2 * n }) (course_stays id n t u passes)

  later : LaterBy o p id n h es (record u { course = record u.course { size = u.course.size + 2 * n } })
  unfolding course_now
  later =
      let P : List Entry → Type 0 = λ xs. LaterBy o p id n h xs (record u { course = course_now }) in
      subst P (sym ticks_recorded) (ticks_ahead o p worker id n h t u s passes on few course_now grows)

  pub recorded_ahead : StandsAhead o es p (record u { course = record u.course { size = u.course.size + 2 * n } })
  recorded_ahead = later.0

  pub recorded_counter : (world o es).tick id ≡ (world o h).tick id + n
  recorded_counter = later.1
