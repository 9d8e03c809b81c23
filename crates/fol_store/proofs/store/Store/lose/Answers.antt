use Rattle.std.proofs.Common.{◌≡◌, ◌&&◌, true, false, [], List, sym, ◌∙◌, ap}
use Rattle.std.proofs.lemmas.Bool.{and_parts, true≢false}
use Rattle.fol_model.specs.declared.places.ChunkPos.{ChunkPos}
use Rattle.fol_model.specs.Geometry.{same_chunk}
use Rattle.fol_chunks.specs.Contents.{is_recorded}
use Rattle.fol_store.specs.contracts.store.Store.{the_view}
use Rattle.fol_bags.specs.Places.{is_bag}
use Rattle.fol_store.specs.Stock.{slot, place, bag_of}
use Rattle.fol_store.proofs.Filling.{own_at}
use Rattle.fol_keyed.proofs.Recorded.{recorded_last}
use Rattle.fol_keyed.proofs.OneMore.{recorded_away}
use Rattle.fol_store.proofs.Stepping.{here_not_taken}
use Rattle.fol_store.proofs.Relisting.{lacks_chunk, less_elsewhere, noted_bag, same_chunks}
use Rattle.fol_store.proofs.store.Store.lose.Goals as goal

pub is_ready-requires : goal.is_ready-requires
unfolding bag_of
is_ready-requires c =
    rw (← c.self.view_is) at c.requires.known

pub note_change-requires-clause-away : goal.note_change-requires-clause-away
unfolding bag_of
note_change-requires-clause-away c = rw (← c.self.view_is) (sym c.is_ready.ensures ∙ c.if-not-is_ready.true)

pub expel-requires-clause-here : goal.expel-requires-clause-here
unfolding bag_of
expel-requires-clause-here c = rw (← c.self.view_is) (and_parts (slot (the_view c.self.inside) c.args.id).here (slot (the_view c.self.inside) c.args.id).listed (sym c.is_ready.ensures ∙ c.if-not-is_ready.false)).0

pub expel-requires-clause-listed : goal.expel-requires-clause-listed
unfolding bag_of
expel-requires-clause-listed c = rw (← c.self.view_is) (and_parts (slot (the_view c.self.inside) c.args.id).here (slot (the_view c.self.inside) c.args.id).listed (sym c.is_ready.ensures ∙ c.if-not-is_ready.false)).1

pub expel-requires-clause-order : goal.expel-requires-clause-order
unfolding bag_of
expel-requires-clause-order c = c.requires.order (rw (← c.self.view_is) (and_parts (slot (the_view c.self.inside) c.args.id).here (slot (the_view c.self.inside) c.args.id).listed (sym c.is_ready.ensures ∙ c.if-not-is_ready.false)).1)

pub expel-requires-clause-no_task : goal.expel-requires-clause-no_task
unfolding bag_of
expel-requires-clause-no_task c =
    let here : (slot (the_view c.self.inside) c.args.id).here ≡ true = (and_parts (slot (the_view c.self.inside) c.args.id).here (slot (the_view c.self.inside) c.args.id).listed (sym c.is_ready.ensures ∙ c.if-not-is_ready.false)).0 in
    c.requires.no_task (rw (← c.self.view_is) (here_not_taken c.args.id (the_view c.self.inside) c.self.invariant here))

pub returns-then-not-is_ready-clause-own : goal.returns-then-not-is_ready-clause-own
returns-then-not-is_ready-clause-own c =
    noted_bag _ c.args.c (bag_of c.args.self.now c.args.id) (bag_of c.note_change.new.self c.args.id) (own_at c.args.id [] (bag_of c.args.self.now) (bag_of c.note_change.new.self) _ c.note_change.ensures.bags)
    c.note_change.ensures.noted c.note_change.ensures.here c.requires.order (λ q n. less_elsewhere (is_recorded (bag_of c.args.self.now c.args.id).chunks q) (same_chunk c.args.c q) n)

pub returns-else-has_bag-clause-own : goal.returns-else-has_bag-clause-own
unfolding bag_of
returns-else-has_bag-clause-own c =
    let ready : ((slot (the_view c.self.inside) c.args.id).here && (slot (the_view c.self.inside) c.args.id).listed) ≡ true = sym c.is_ready.ensures ∙ c.if-not-is_ready.false in
    let home : is_bag c.args.id (place (the_view c.self.inside) c.args.c) ≡ false = rw c.at.ensures at (sym c.has_bag.ensures ∙ c.if-has_bag.false) in
    let lacks : is_recorded (bag_of c.args.self.now c.args.id).chunks c.args.c ≡ false = rw (← c.self.view_is) (lacks_chunk (the_view c.self.inside) c.args.id c.args.c c.self.invariant ready home) in
    same_chunks _ (bag_of c.args.self.now c.args.id) c.requires.order (λ q. recorded_away (bag_of c.args.self.now c.args.id).chunks c.args.c q lacks)

pub returns-then-not-is_ready-clause-away : goal.returns-then-not-is_ready-clause-away
returns-then-not-is_ready-clause-away c t w =
    let e = (c.note_change.ensures.noted w).1 in
    ap (λ (xs : List ChunkPos). is_recorded xs c.args.c) e ∙ recorded_last (bag_of c.args.self.now c.args.id).since c.args.c

pub returns-then-has_bag-clause-away : goal.returns-then-has_bag-clause-away
unfolding bag_of
returns-then-has_bag-clause-away c t w =
    let ready : ((slot (the_view c.self.inside) c.args.id).here && (slot (the_view c.self.inside) c.args.id).listed) ≡ true = sym c.is_ready.ensures ∙ c.if-not-is_ready.false in
    let home = here_not_taken c.args.id (the_view c.self.inside) c.self.invariant (and_parts (slot (the_view c.self.inside) c.args.id).here (slot (the_view c.self.inside) c.args.id).listed ready).0 in
    absurd (true≢false (sym (rw (← c.self.view_is) at t) ∙ home))

pub returns-else-has_bag-clause-away : goal.returns-else-has_bag-clause-away
unfolding bag_of
returns-else-has_bag-clause-away c t w =
    let ready : ((slot (the_view c.self.inside) c.args.id).here && (slot (the_view c.self.inside) c.args.id).listed) ≡ true = sym c.is_ready.ensures ∙ c.if-not-is_ready.false in
    let home = here_not_taken c.args.id (the_view c.self.inside) c.self.invariant (and_parts (slot (the_view c.self.inside) c.args.id).here (slot (the_view c.self.inside) c.args.id).listed ready).0 in
    absurd (true≢false (sym (rw (← c.self.view_is) at t) ∙ home))
