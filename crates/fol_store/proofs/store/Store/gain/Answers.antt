use Rattle.std.proofs.Common.{◌≡◌, ◌&&◌, true, [], sym, ◌∙◌}
use Rattle.std.proofs.lemmas.Bool.{and_parts}
use Rattle.fol_model.specs.Geometry.{same_chunk}
use Rattle.fol_chunks.specs.Contents.{is_recorded}
use Rattle.fol_store.specs.contracts.store.Store.{the_view}
use Rattle.fol_bags.specs.Places.{is_bag}
use Rattle.fol_store.specs.Stock.{slot, place, bag_of, next_of}
use Rattle.fol_store.proofs.Filling.{own_at}
use Rattle.fol_keyed.proofs.OneMore.{recorded_there}
use Rattle.fol_store.proofs.Relisting.{has_chunk, more_elsewhere, noted_bag, same_chunks}
use Rattle.fol_store.proofs.Totals.{same_flat, same_jobs}
use Rattle.fol_store.proofs.store.Store.gain.Goals as goal

pub is_ready-requires : goal.is_ready-requires
unfolding bag_of
is_ready-requires c =
    rw (← c.self.view_is) at c.requires.known

pub note_change-requires-clause-away : goal.note_change-requires-clause-away
unfolding bag_of
note_change-requires-clause-away c = rw (← c.self.view_is) (sym c.is_ready.ensures ∙ c.if-not-is_ready.true)

pub admit-requires-clause-here : goal.admit-requires-clause-here
unfolding bag_of
admit-requires-clause-here c = rw (← c.self.view_is) (and_parts (slot (the_view c.self.inside) c.args.id).here (slot (the_view c.self.inside) c.args.id).listed (sym c.is_ready.ensures ∙ c.if-not-is_ready.false)).0

pub admit-requires-clause-listed : goal.admit-requires-clause-listed
unfolding bag_of
admit-requires-clause-listed c = rw (← c.self.view_is) (and_parts (slot (the_view c.self.inside) c.args.id).here (slot (the_view c.self.inside) c.args.id).listed (sym c.is_ready.ensures ∙ c.if-not-is_ready.false)).1

pub admit-requires-clause-order : goal.admit-requires-clause-order
unfolding bag_of
admit-requires-clause-order c = c.requires.order (rw (← c.self.view_is) (and_parts (slot (the_view c.self.inside) c.args.id).here (slot (the_view c.self.inside) c.args.id).listed (sym c.is_ready.ensures ∙ c.if-not-is_ready.false)).1)

pub returns-then-not-is_ready-clause-own : goal.returns-then-not-is_ready-clause-own
returns-then-not-is_ready-clause-own c =
    noted_bag _ c.args.c (bag_of c.args.self.now c.args.id) (bag_of c.note_change.new.self c.args.id) (own_at c.args.id [] (bag_of c.args.self.now) (bag_of c.note_change.new.self) _ c.note_change.ensures.bags)
    c.note_change.ensures.noted c.note_change.ensures.here c.requires.order (λ q n. more_elsewhere (is_recorded (bag_of c.args.self.now c.args.id).chunks q) (same_chunk c.args.c q) n)

pub returns-then-is_none-clause-next : goal.returns-then-is_none-clause-next
unfolding next_of
returns-then-is_none-clause-next c = c.admit.ensures.same.bags

pub returns-then-is_none-clause-contents : goal.returns-then-is_none-clause-contents
returns-then-is_none-clause-contents c = same_flat _ _ c.admit.ensures.same.found

pub returns-then-is_none-clause-tasks : goal.returns-then-is_none-clause-tasks
returns-then-is_none-clause-tasks c = same_jobs _ _ c.admit.ensures.same.found

pub returns-else-not-has_bag-clause-own : goal.returns-else-not-has_bag-clause-own
unfolding bag_of
returns-else-not-has_bag-clause-own c =
    let ready : ((slot (the_view c.self.inside) c.args.id).here && (slot (the_view c.self.inside) c.args.id).listed) ≡ true = sym c.is_ready.ensures ∙ c.if-not-is_ready.false in
    let home : is_bag c.args.id (place (the_view c.self.inside) c.args.c) ≡ true = rw c.at-place.ensures at (sym c.has_bag.ensures ∙ c.if-not-has_bag.false) in
    let has : is_recorded (bag_of c.args.self.now c.args.id).chunks c.args.c ≡ true = rw (← c.self.view_is) (has_chunk (the_view c.self.inside) c.args.id c.args.c c.self.invariant ready home) in
    same_chunks _ (bag_of c.args.self.now c.args.id) c.requires.order (λ q. recorded_there (bag_of c.args.self.now c.args.id).chunks c.args.c q has)
