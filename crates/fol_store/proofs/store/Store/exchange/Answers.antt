use Rattle.std.proofs.Common.{◌-◌, arith, vec_len}
use Rattle.std.specs.Vec.{vec_capacity}
use Rattle.fol_store.specs.contracts.store.Store.{the_view}
use Rattle.fol_bags.proofs.OpenBags.{here_range}
use Rattle.fol_store.proofs.GoingOver.{a_pair}
use Rattle.fol_store.proofs.Exchanging.{Exchanged, bags_exchanged, same_numbers}
use Rattle.fol_store.proofs.store.Store.exchange.Goals as goal

pub exchange-requires-clause-there : goal.exchange-requires-clause-there
exchange-requires-clause-there c =
    let p = a_pair _ c.args.self.now c.args.from c.args.to c.self.view_is c.requires.here c.requires.fresh c.requires.differ in
    here_range c.self.inside.bags.items c.args.from p.here

pub exchange-requires-clause-other_there : goal.exchange-requires-clause-other_there
exchange-requires-clause-other_there c =
    let p = a_pair _ c.args.self.now c.args.from c.args.to c.self.view_is c.requires.here c.requires.fresh c.requires.differ in
    here_range c.self.inside.bags.items c.args.to p.id_here

done : (c : goal.After-exchange-2) → Exchanged (the_view c.self.inside) c.exchange.new.bags.items c.exchange-2.new.self (vec_capacity c.self.inside.arrivals - vec_len c.self.inside.arrivals) c.exchange.new.bags.free c.args.from c.args.to
done c =
    let s = the_view c.self.inside in
    let p = a_pair s c.args.self.now c.args.from c.args.to c.self.view_is c.requires.here c.requires.fresh c.requires.differ in
    bags_exchanged s c.exchange.new.bags.items c.exchange-2.new.self _ _ c.args.from c.args.to
    (record {
      each = c.exchange.ensures.sets.slots;
      homes = c.exchange-2.ensures;
      pair = p;
      numbers = same_numbers s c.args.self.now c.args.from c.args.to c.self.view_is p c.requires.tick c.requires.owed;
      long = c.exchange.ensures.sets.len;
      there = here_range c.self.inside.bags.items c.args.to p.id_here;
      more_spare = omega arith;
      more_slots = omega (arith, c.exchange.ensures.sets.len, c.exchange.ensures.sets.free);
    })
    c.self.invariant

pub invariant_of-self : goal.invariant_of-self
invariant_of-self c = (done c).sound

pub returns-clause-from : goal.returns-clause-from
returns-clause-from c = rw (← c.self.view_is) (done c).from

pub returns-clause-to : goal.returns-clause-to
returns-clause-to c = rw (← c.self.view_is) (done c).to

pub returns-clause-others : goal.returns-clause-others
returns-clause-others c = rw (← c.self.view_is) (done c).others

pub returns-clause-same : goal.returns-clause-same
returns-clause-same c = rw (← c.self.view_is) (done c).same
