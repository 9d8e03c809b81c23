-- The tables when quiet ticks of a region pass, one after another.
use Rattle.std.proofs.Common.{◌≡◌, ℕ, zero, suc, refl, arith}
use Rattle.std.specs.Prelude.{nat_lt}
use Rattle.std.proofs.lemmas.Bool.{and_from, and_parts, lt-ltb}
use Rattle.fol_model.specs.GridState.{GridState, is_ready}
use Rattle.fol_regions.specs.Table.{grid_state}
use Rattle.fol_store.specs.Passing.{PassesOnce, PassesTimes}
use Rattle.fol_store.specs.Stock.{Stock, bag_of}
use Rattle.fol_world.specs.declared.tables.Tables.{Tables}
use Rattle.fol_world.specs.Agenda.{GrowsBy, IsAgenda}
use Rattle.fol_world.specs.Quiet.{CanPass, PassesTicks}
use Rattle.fol_world.proofs.QuietBags.{passed_agenda}

module _ (id : ℕ) (t u : Tables) (quiet : CanPass (grid_state t.regions) t.store id)
    (regions : u.regions ≡ t.regions) (agenda : IsAgenda u.agenda.items (grid_state u.regions) (bag_of u.store)) (stack : GrowsBy 0 t.agenda u.agenda)
    (grid : u.grid ≡ t.grid) (tickets : u.tickets ≡ t.tickets) (course : u.course ≡ t.course) where
  abbrev g : GridState
  g = grid_state t.regions

  can_pass : (k l : Stock) → PassesOnce id k l → CanPass g k id
  can_pass k l once = record {
    owing = and_from (is_ready (g.state id)) (nat_lt 0 (bag_of k id).owed) (and_parts (is_ready (g.state id)) (nat_lt 0 (bag_of t.store id).owed) quiet.owing).0 (lt-ltb 0 (bag_of k id).owed once.owes);
    whole = once.whole;
    rests = quiet.rests;
    counters = quiet.counters;
    owed = quiet.owed;
  }

  -- the stack that stands at the end
  agenda_last : IsAgenda u.agenda.items g (bag_of u.store)
  agenda_last = rw (← regions) agenda

  pub passes_ticks : (n : ℕ) (k : Stock) → IsAgenda t.agenda.items g (bag_of k) → PassesTimes id n k u.store → PassesTicks id n (record t { store = k }) u
  passes_ticks zero k now p = record {
    store = p;
    regions = regions;
    agenda = agenda;
    stack = stack;
    grid = grid;
    tickets = tickets;
    course = course;
  }
  passes_ticks (suc zero) k now p = (
    record t { store = p.0; agenda = u.agenda },
    can_pass k p.0 p.1,
    record {
      bags = p.1.bags;
      flat = p.1.contents;
      jobs = p.1.tasks;
      later = p.1.later;
      next = p.1.next;
      regions = refl;
      agenda = rw (← p.2.bags) agenda_last;
      stack = stack;
      grid = refl;
      tickets = refl;
      course = refl;
    },
    record {
      store = p.2;
      regions = regions;
      agenda = agenda;
      stack = record { len = omega arith; capacity = refl };
      grid = grid;
      tickets = tickets;
      course = course;
    },
  )
  passes_ticks (suc (suc n)) k now p =
      let then : IsAgenda t.agenda.items g (bag_of p.0) = passed_agenda t.agenda.items g (bag_of k) (bag_of p.0) id p.1.bags p.2.1.owes now in (
        record t { store = p.0 },
        can_pass k p.0 p.1,
        record {
          bags = p.1.bags;
          flat = p.1.contents;
          jobs = p.1.tasks;
          later = p.1.later;
          next = p.1.next;
          regions = refl;
          agenda = then;
          stack = record { len = omega arith; capacity = refl };
          grid = refl;
          tickets = refl;
          course = refl;
        },
        passes_ticks (suc n) p.0 then p.2,
      )
