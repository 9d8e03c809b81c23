use Rattle.std.proofs.Common.{◌≡◌, ◌∙◌, sym, ap, subst, ℕ, List}
use Rattle.fol_regions.specs.Table.{grid_state}
use Rattle.fol_model.specs.ActionStep.{at_id}
use Rattle.fol_store.specs.Bag.{Bag, no_bag}
use Rattle.fol_store.specs.Stock.{bag_of, next_of}
use Rattle.fol_store.proofs.BagSteps.{here_below}
use Rattle.fol_world.specs.Follows.{Settle}
use Rattle.fol_world.specs.Released.{AreFresh, HasChunksOfAll, opened_parts}
use Rattle.fol_world.proofs.PartedBags.{are_fresh, parted_settles, same_r}
use Rattle.fol_world.proofs.parts.part.Goals as goal

-- the bags once those of the parts were opened
opened : (f h : ℕ → Bag) (r : ℕ) (ids : List ℕ) (tick owed : ℕ) → h ≡ opened_parts tick owed ids f → tick ≡ (f r).tick → owed ≡ (f r).owed → h ≡ opened_parts (f r).tick (f r).owed ids f
opened f h r ids tick owed e t o = e ∙ ap (λ n. opened_parts n owed ids f) t ∙ ap (λ n. opened_parts (f r).tick n ids f) o

pub share_out-requires-clause-fresh : goal.share_out-requires-clause-fresh
share_out-requires-clause-fresh c =
    let f = bag_of c.args.store.now in
    let e = opened f (bag_of c.open_parts.new.store) c.args.region c.args.parts.now c.tick-tick.result c.owed-owed.result c.open_parts.ensures.bags c.tick-tick.ensures.value c.owed-owed.ensures in
    subst (AreFresh c.args.region c.args.parts.now) (sym e)
    (are_fresh (next_of c.args.store.now) c.args.parts.now c.args.region f c.requires.here c.requires.follow (here_below c.args.store.now c.args.region c.requires.here))

pub share_out-requires-clause-chunks : goal.share_out-requires-clause-chunks
share_out-requires-clause-chunks c =
    let f = bag_of c.args.store.now in
    let e = opened f (bag_of c.open_parts.new.store) c.args.region c.args.parts.now c.tick-tick.result c.owed-owed.result c.open_parts.ensures.bags c.tick-tick.ensures.value c.owed-owed.ensures in
    let same = same_r (next_of c.args.store.now) c.args.parts.now c.args.region f c.requires.here c.requires.follow (here_below c.args.store.now c.args.region c.requires.here) in
    subst (HasChunksOfAll (grid_state c.args.regions.now) c.args.parts.now) (sym (ap (λ (h : ℕ → Bag). h c.args.region) e ∙ same)) c.requires.chunks

pub returns-clause-bags : goal.returns-clause-bags
returns-clause-bags c =
    let f = bag_of c.args.store.now in
    let g = grid_state c.args.regions.now in
    let e = opened f (bag_of c.open_parts.new.store) c.args.region c.args.parts.now c.tick-tick.result c.owed-owed.result c.open_parts.ensures.bags c.tick-tick.ensures.value c.owed-owed.ensures in
    let s : Settle g (at_id (opened_parts (f c.args.region).tick (f c.args.region).owed c.args.parts.now f) c.args.region no_bag) (bag_of c.share_out.new.store)
    = subst (λ (h : ℕ → Bag). Settle g (at_id h c.args.region no_bag) (bag_of c.share_out.new.store)) e c.share_out.ensures.bags in
    parted_settles (next_of c.args.store.now) c.args.parts.now c.args.region f c.requires.here c.requires.follow (here_below c.args.store.now c.args.region c.requires.here) g (bag_of c.share_out.new.store) s
