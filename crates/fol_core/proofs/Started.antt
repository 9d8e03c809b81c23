-- The tables before any event.
use Rattle.std.proofs.Common.{◌≡◌, ℕ, ◌+◌, refl, sym, ◌∙◌, ap, arith, false, List, [], ◌∷◌, ◌++◌, length, length-append}
use Rattle.std.specs.Prelude.{ℤ, None, Result, Ok, Err, IfOk}
use Rattle.std.specs.declared.alloc.AllocError.{AllocError}
use Rattle.fol_model.specs.declared.places.ChunkPos.{ChunkPos}
use Rattle.fol_model.specs.declared.openings.Opening.{Opening}
use Rattle.fol_model.specs.declared.grids.Grid.{Grid}
use Rattle.fol_model.specs.GridNumbers.{IsGrid}
use Rattle.fol_model.specs.GridState.{GridState, empty}
use Rattle.fol_model.specs.World.{start}
use Rattle.fol_regions.specs.Table.{grid_state}
use Rattle.fol_sections.specs.Places.{count_at, number_at}
use Rattle.fol_store.specs.Bag.{Bag, no_bag}
use Rattle.fol_store.specs.Stock.{Stock, flat_of, jobs_of, bag_of, next_of}
use Rattle.fol_world.specs.declared.tables.Tables.{Tables}
use Rattle.fol_world.specs.Hands.{in_hands, ticker}
use Rattle.fol_world.specs.Bags.{IsBagOf, StoredIn}
use Rattle.fol_world.specs.Agenda.{IsAgenda, TopOwes}
use Rattle.fol_core.specs.First.{AreFirst, untouched}
use Rattle.fol_world.specs.Stands.{AreTickets, Stands}
use Rattle.fol_world.proofs.Flats.{outside_none}

none_in_hands : (o : Opening) (c : ChunkPos) → in_hands (start o).grid (start o).recorded c ≡ false
unfolding in_hands ticker
none_in_hands o c = refl

no_bag_of : (o : Opening) (r : ℕ) (b : Bag) → b ≡ no_bag → IsBagOf (start o).grid (start o).tick (start o).owed (start o).recorded r b
no_bag_of o r b e = record {
  here = ap (λ (x : Bag). x.here) e;
  taken = ap (λ (x : Bag). x.taken) e;
  counter = λ h. absurd (cc);
  owes = λ h. absurd (cc);
  listed = λ d. absurd (d refl);
  since = λ h. absurd (cc);
  out = λ h. absurd (cc);
}

pub started : (o : Opening) (k : Stock) → flat_of k ≡ (start o).flat → jobs_of k ≡ (λ n. None) → bag_of k ≡ (λ id. no_bag) → next_of k ≡ 1 → StoredIn k (start o) (λ r. 0)
started o k f j b n = record {
  flat = f ∙ sym (outside_none (in_hands (start o).grid (start o).recorded) (start o).flat (none_in_hands o));
  jobs = j;
  next = n;
  bags = λ r. no_bag_of o r (bag_of k r) (ap (λ (g : ℕ → Bag). g r) b);
}

pub no_top : (xs : List ℕ) (g : GridState) (f : ℕ → Bag) → xs ≡ [] → TopOwes xs g f
no_top xs g f e ys r h = let l : length (ys ++ r ∷ []) ≡ length ys + 1 = length-append ys (r ∷ []) in let m = ap length (sym e ∙ h) in absurd (omega arith)

pub no_agenda : (o : Opening) (xs : List ℕ) (f : ℕ → Bag) → xs ≡ [] → IsAgenda xs (start o).grid f
no_agenda o xs f e = record { covers = λ r h. absurd (cc); top = no_top xs (start o).grid f e }

pub no_tickets : (o : Opening) (entries : List ((ℤ × ℤ) × ℕ)) → entries ≡ [] → AreTickets entries (start o).tickets
unfolding count_at number_at
no_tickets o entries e c = rw e refl

-- tables without a region, where they could be made
pub are_first : (o : Opening) (grid : Grid) (k : Stock) (r : Result Tables AllocError) → IsGrid o.grid → grid ≡ o.grid → flat_of k ≡ (start o).flat → jobs_of k ≡ (λ n. None) → bag_of k ≡ (λ id. no_bag) → next_of k ≡ 1
    → IfOk r (λ t. t.grid ≡ grid) → IfOk r (λ t. grid_state t.regions ≡ empty grid) → IfOk r (λ t. t.store ≡ k) → IfOk r (λ t. t.tickets.entries ≡ []) → IfOk r (λ t. t.agenda.items ≡ []) → IfOk r (λ t. t.course ≡ untouched)
    → IfOk r (AreFirst o)
are_first o grid k (Ok t) limits same flat jobs bags next g regions store tickets agenda course = record {
  limits = limits;
  grid = g ∙ same;
  regions = regions ∙ ap empty same;
  flat = rw store flat;
  jobs = rw store jobs;
  bags = rw store bags;
  next = rw store next;
  tickets = tickets;
  agenda = agenda;
  course = course;
}
are_first o grid k (Err e) limits same flat jobs bags next g regions store tickets agenda course = tt

-- a core begins with them
pub first_stands : (o : Opening) (t : Tables) → AreFirst o t → Stands o [] t
first_stands o t f = let e = f.course in record {
  grid = f.limits;
  run = tt;
  fits = record {
    grid = f.grid;
    regions = f.regions;
    stored = started o t.store f.flat f.jobs f.bags f.next;
    tickets = no_tickets o t.tickets.entries f.tickets;
    agenda = no_agenda o t.agenda.items (bag_of t.store) f.agenda;
    course = rw e (record { next_job = refl; in_phase = refl; sum = refl; stopped = refl; finished = refl });
  };
  size = rw e (record { size = omega arith; most = omega arith; before = λ e. omega arith });
}
