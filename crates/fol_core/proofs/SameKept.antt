-- Tables that stand for the same stand for the same world.
use Rattle.std.proofs.Common.{ℕ, sym, ◌∙◌, ap, subst, List}
use Rattle.std.specs.Option.{unwrap_or}
use Rattle.fol_model.specs.declared.openings.Opening.{Opening}
use Rattle.fol_model.specs.declared.events.Entry.{Entry}
use Rattle.fol_model.specs.World.{World}
use Rattle.fol_model.specs.Run.{world}
use Rattle.fol_sections.specs.Places.{count_at}
use Rattle.fol_store.specs.Bag.{Bag}
use Rattle.fol_store.specs.Stock.{Stock, bag_of}
use Rattle.fol_world.specs.declared.tables.Course.{Course}
use Rattle.fol_world.specs.declared.tables.Tables.{Tables}
use Rattle.fol_world.specs.Hands.{since}
use Rattle.fol_world.specs.Bags.{IsBagOf, StoredIn}
use Rattle.fol_world.specs.Agenda.{IsAgenda}
use Rattle.fol_world.specs.Same.{SameStock, SameTables}
use Rattle.fol_world.specs.Stands.{Fits, IsCourse, IsSize, Stands}

pub same_stored : (k l : Stock) (w : World) (f : ℕ → ℕ) → SameStock k l → StoredIn k w f → StoredIn l w f
same_stored k l w f e s = record {
  flat = e.flat ∙ s.flat;
  jobs = e.jobs ∙ s.jobs;
  next = e.next ∙ s.next;
  bags = λ r. let P : (ℕ → Bag) → Type 0 = λ b. IsBagOf w.grid w.tick w.owed w.recorded r (b r) in subst P (sym e.bags) (s.bags r);
}

pub same_fits : (t u : Tables) (w : World) (f : ℕ → ℕ) → SameTables t u → Fits t w f → Fits u w f
unfolding count_at
same_fits t u w f e s = record {
  grid = e.grid ∙ s.grid;
  regions = e.regions ∙ s.regions;
  stored = same_stored t.store u.store w f e.store s.stored;
  tickets = λ c. ap (λ o. unwrap_or o 0) (e.tickets c.x c.z) ∙ s.tickets c;
  agenda = let P : (ℕ → Bag) → Type 0 = λ b. IsAgenda u.agenda.items w.grid b in subst P (sym e.store.bags)
      (let Q : List ℕ → Type 0 = λ xs. IsAgenda xs w.grid (bag_of t.store) in subst Q (sym e.agenda) s.agenda);
  course = let P : Course → Type 0 = λ c. IsCourse c w in subst P (sym e.course) s.course;
}

pub same_stands : (o : Opening) (h : List Entry) (t u : Tables) → SameTables t u → Stands o h t → Stands o h u
same_stands o h t u e s = record {
  grid = s.grid;
  run = s.run;
  fits = same_fits t u (world o h) (since o h) e s.fits;
  size = let P : Course → Type 0 = λ c. IsSize c h in subst P (sym e.course) s.size;
}
