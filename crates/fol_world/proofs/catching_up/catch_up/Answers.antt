use Rattle.std.proofs.Common.{◌≡◌, ℕ, ◌+◌, ◌∙◌, ◌∷◌, [], refl, sym, ap, arith, length, length-append}
use Rattle.fol_model.specs.ActionStep.{at_id}
use Rattle.fol_model.specs.Outputs.{is_chunk_of}
use Rattle.fol_laws.proofs.FunctionsChanged.{at_here}
use Rattle.fol_regions.specs.Table.{grid_state}
use Rattle.fol_store.specs.Bag.{Bag}
use Rattle.fol_store.specs.Stock.{bag_of}
use Rattle.fol_world.proofs.CatchingUp.{place_twice, popped}
use Rattle.fol_world.proofs.KeptUp.{exact}
use Rattle.fol_world.proofs.catching_up.catch_up.Goals as goal

pub follow_chunk-requires-clause-here : goal.follow_chunk-requires-clause-here
follow_chunk-requires-clause-here c = let e = ap (λ (f : ℕ → Bag). f c.args.region) c.next_change.ensures.bags ∙ at_here (bag_of c.loop-c.store) c.args.region _ in
    ap (λ (b : Bag). b.here) e ∙ c.loop-c.invariant.here

pub follow_chunk-requires-clause-home : goal.follow_chunk-requires-clause-home
follow_chunk-requires-clause-home c = let e = ap (λ (f : ℕ → Bag). f c.args.region) c.next_change.ensures.bags ∙ at_here (bag_of c.loop-c.store) c.args.region _ in
    ap (λ (b : Bag). b.taken) e ∙ c.loop-c.invariant.home

pub follow_chunk-requires-clause-follows : goal.follow_chunk-requires-clause-follows
follow_chunk-requires-clause-follows c = let e = ap (λ (f : ℕ → Bag). f c.args.region) c.next_change.ensures.bags ∙ at_here (bag_of c.loop-c.store) c.args.region _ in
    popped (bag_of c.loop-c.store c.args.region) (bag_of c.next_change.new.self c.args.region) c.in-Some.c _ e (c.in-Some.ensures.some c.in-Some.c refl) c.loop-c.invariant.follows

pub follow_chunk-requires-clause-tasks : goal.follow_chunk-requires-clause-tasks
follow_chunk-requires-clause-tasks c = let e = c.next_change.ensures.tasks ∙ c.loop-c.invariant.things.jobs in rw e c.requires.tasks

pub loop-c-smaller : goal.loop-c-smaller
loop-c-smaller c =
    let same : (bag_of c.follow_chunk.new.store c.args.region).since ≡ (bag_of c.next_change.new.self c.args.region).since = ap (λ (b : Bag). b.since) c.follow_chunk.ensures.own.same in
    let long : length (bag_of c.loop-c.store c.args.region).since ≡ length (bag_of c.next_change.new.self c.args.region).since + 1
    = ap length (c.in-Some.ensures.some c.in-Some.c refl) ∙ length-append (bag_of c.next_change.new.self c.args.region).since (c.in-Some.c ∷ []) in
    let few : length (bag_of c.follow_chunk.new.store c.args.region).since ≡ length (bag_of c.next_change.new.self c.args.region).since = ap length same in
    omega (arith, long, few)

pub loop-c-preserved : goal.loop-c-preserved
loop-c-preserved c =
    let e = ap (λ (f : ℕ → Bag). f c.args.region) c.next_change.ensures.bags ∙ at_here (bag_of c.loop-c.store) c.args.region _ in
    let own = c.follow_chunk.ensures.own in
    let inv = c.loop-c.invariant in
    let r = c.args.region in
    record {
      here = ap (λ (b : Bag). b.here) own.same ∙ ap (λ (b : Bag). b.here) e ∙ inv.here;
      home = ap (λ (b : Bag). b.taken) own.same ∙ ap (λ (b : Bag). b.taken) e ∙ inv.home;
      counter = ap (λ (b : Bag). b.tick) own.same ∙ ap (λ (b : Bag). b.tick) e ∙ inv.counter;
      owes = ap (λ (b : Bag). b.owed) own.same ∙ ap (λ (b : Bag). b.owed) e ∙ inv.owes;
      follows = own.listed;
      bags = place_twice (bag_of c.args.store.now) (bag_of c.next_change.new.self) (bag_of c.follow_chunk.new.store) r
          (place_twice (bag_of c.args.store.now) (bag_of c.loop-c.store) (bag_of c.next_change.new.self) r inv.bags (c.next_change.ensures.bags ∙ ap (λ (b : Bag). at_id (bag_of c.loop-c.store) r b) (sym e)))
          c.follow_chunk.ensures.bags;
      things = record {
        flat = c.follow_chunk.ensures.things.flat ∙ c.next_change.ensures.contents ∙ inv.things.flat;
        jobs = c.follow_chunk.ensures.things.jobs ∙ c.next_change.ensures.tasks ∙ inv.things.jobs;
      };
      next = c.follow_chunk.ensures.next ∙ c.next_change.ensures.next ∙ inv.next;
      slots = omega (arith, inv.slots, c.next_change.ensures.slots, c.follow_chunk.ensures.slots);
    }

pub returns-clause-own : goal.returns-clause-own
returns-clause-own c =
    let e = ap (λ (f : ℕ → Bag). f c.args.region) c.next_change.ensures.bags ∙ at_here (bag_of c.loop-c.store) c.args.region _ in
    let inv = c.loop-c.invariant in
    let none = c.in_default.ensures in
    let w : (bag_of c.next_change.new.self c.args.region).listed ≡ (bag_of c.loop-c.store c.args.region).listed = ap (λ (b : Bag). b.listed) e in
    record {
      here = ap (λ (b : Bag). b.here) e ∙ inv.here;
      taken = ap (λ (b : Bag). b.taken) e ∙ inv.home;
      counter = ap (λ (b : Bag). b.tick) e ∙ inv.counter;
      owes = ap (λ (b : Bag). b.owed) e ∙ inv.owes;
      listed = λ x. ap (λ (b : Bag). b.chunks) e
          ∙ exact (bag_of c.loop-c.store c.args.region).since (bag_of c.loop-c.store c.args.region).chunks (is_chunk_of (grid_state c.args.regions.now) c.args.region) (inv.follows (sym w ∙ x)) (none.none refl);
      since = none.left refl;
    }

pub returns-clause-bags : goal.returns-clause-bags
returns-clause-bags c =
    let e = ap (λ (f : ℕ → Bag). f c.args.region) c.next_change.ensures.bags ∙ at_here (bag_of c.loop-c.store) c.args.region _ in
    place_twice (bag_of c.args.store.now) (bag_of c.loop-c.store) (bag_of c.next_change.new.self) c.args.region c.loop-c.invariant.bags
    (c.next_change.ensures.bags ∙ ap (λ (b : Bag). at_id (bag_of c.loop-c.store) c.args.region b) (sym e))

pub returns-clause-things : goal.returns-clause-things
returns-clause-things c = record {
  flat = c.next_change.ensures.contents ∙ c.loop-c.invariant.things.flat;
  jobs = c.next_change.ensures.tasks ∙ c.loop-c.invariant.things.jobs;
}
