use Rattle.std.proofs.Common.{Bool, sym, subst, ap, ◌∙◌}
use Rattle.fol_core.specs.Ahead.{NonePrepared}
use Rattle.fol_core.specs.Answers.{StopRecords, is_over}
use Rattle.fol_core.specs.Meaning.{world_of}
use Rattle.fol_offers.specs.Shown.{Shown, every}
use Rattle.fol_offers.proofs.CalledBack.{back_over}
use Rattle.fol_offers.proofs.EventsKept.{tied_stops}
use Rattle.fol_offers.proofs.offers.Offers.stop.Goals as goal

pub invariant_of-self : goal.invariant_of-self
invariant_of-self c =
    let none : NonePrepared c.self.inside.core = subst (λ (v : Shown). NonePrepared v.core) (sym c.self.view_is) c.recall.ensures.none in
    tied_stops c.self.inside.core c.stop.new.self c.self.inside.keeper c.self.inside.places c.args.by c.self.invariant (is_over (world_of c.self.inside.core)) none c.stop.ensures

pub returns : goal.returns
returns c =
    let old : Shown = c.args.self.now in
    let mid : Shown = c.recall.new.self in
    let back = c.recall.ensures.back in
    record {
      recalled = mid;
      recalls = back;
      slots = ap (λ (v : Shown). v.slots) c.self.view_is ∙ back.slots;
      workers = ap (λ (v : Shown). v.workers) c.self.view_is ∙ back.workers;
      recorded = subst (λ (b : Bool). StopRecords mid.core c.stop.new.self c.args.by b) (back_over old mid c.args.by every back)
          (subst (λ (v : Shown). StopRecords v.core c.stop.new.self c.args.by (is_over (world_of v.core))) c.self.view_is c.stop.ensures);
    }
