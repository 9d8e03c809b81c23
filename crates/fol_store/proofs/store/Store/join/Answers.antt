use Rattle.std.proofs.Common.{◌≡◌, ◌<◌, true, false, [], sym, ◌∙◌, ap, arith}
use Rattle.fol_store.specs.contracts.store.Store.{the_view}
use Rattle.fol_store.specs.Bag.{Bag}
use Rattle.fol_store.specs.Stock.{slot, bag_of, next_of}
use Rattle.fol_store.specs.Steps.{SameWorld}
use Rattle.fol_store.proofs.BagSteps.{bag_slot, here_below}
use Rattle.fol_store.proofs.Joining.{not_relisted}
use Rattle.fol_store.proofs.Releasing.{world_kept, world_trans}
use Rattle.fol_store.proofs.Stepping.{here_not_taken}
use Rattle.fol_store.proofs.store.Store.join.Goals as goal

pub release-requires : goal.release-requires
unfolding next_of
release-requires c =
    let l : c.args.from < next_of c.args.self.now = here_below c.args.self.now c.args.from c.requires.from in
    omega (arith, c.make_both_whole.ensures.same.next, c.pour.ensures.same.next)

pub returns-in-Ok-clause-same : goal.returns-in-Ok-clause-same
returns-in-Ok-clause-same c =
    let both : SameWorld c.args.self.now c.pour.new.self = world_trans _ _ _ c.make_both_whole.ensures.same c.pour.ensures.same in
    world_kept _ _ _ both (c.release.ensures.draws c.args.from []).same

pub returns-in-Err-clause-joined : goal.returns-in-Err-clause-joined
returns-in-Err-clause-joined c =
    let here : (slot (the_view c.self.inside) c.args.into).here ≡ true = sym (ap (λ (b : Bag). b.here) (bag_slot (the_view c.self.inside) c.args.into)) ∙ (rw (← c.self.view_is) at c.requires.into) in
    let free : (bag_of (the_view c.self.inside) c.args.into).taken ≡ false = ap (λ (b : Bag). b.taken) (bag_slot (the_view c.self.inside) c.args.into) ∙ here_not_taken c.args.into (the_view c.self.inside) c.self.invariant here in
    record {
      gone = c.dissolve.ensures.gone;
      own = not_relisted _ _ _ _ c.make_both_whole.ensures.into_stays c.dissolve.ensures.own (rw c.self.view_is at free);
      both = λ o. c.requires.from_listed;
      others = λ u a b. c.dissolve.ensures.others u a b ∙ c.make_both_whole.ensures.others u a b;
    }
