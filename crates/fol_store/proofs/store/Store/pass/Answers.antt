use Rattle.std.proofs.Common.{◌≡◌, ℕ, ◌+◌, ◌≤◌, ◌^◌, ◌&&◌, true, All, IsTrue, List, length, refl, sym, ◌∙◌, ap, subst, arith}
use Rattle.std.specs.Fn.{iterate}
use Rattle.std.proofs.lemmas.Bool.{and_parts}
use Rattle.std.specs.List.Sorted.{IsStrictlySortedBy}
use Rattle.fol_model.specs.declared.places.ChunkPos.{ChunkPos}
use Rattle.fol_model.specs.FlatTick.{moved}
use Rattle.fol_model.specs.Geometry.{is_chunk}
use Rattle.fol_chunks.specs.Order.{chunk_cmp}
use Rattle.fol_chunks.specs.Contents.{Contents, flat_of as contents_of, is_recorded}
use Rattle.fol_queues.specs.Waiting.{due_count}
use Rattle.fol_store.specs.contracts.store.Store.{the_view}
use Rattle.fol_bags.specs.declared.slot.Slot.{Slot}
use Rattle.fol_store.specs.Bag.{Bag}
use Rattle.fol_store.specs.Stock.{slot, shown, bag_of, due_by}
use Rattle.fol_bags.specs.Slots.{slot_in}
use Rattle.fol_bags.proofs.OpenBags.{here_open}
use Rattle.fol_store.proofs.BagSteps.{with_bags, bag_slot}
use Rattle.fol_store.proofs.ManyTicks.{Passable, HavePassed, passes}
use Rattle.fol_store.proofs.Stepping.{listed_here}
use Rattle.fol_store.proofs.store.Store.pass.Goals as goal

-- what contracts see of the counters of a bag that is here
shown_tick : (b : Slot) → b.here ≡ true → (shown b).tick ≡ b.body.tick
shown_tick b e = rw e refl

shown_owed : (b : Slot) → b.here ≡ true → (shown b).owed ≡ b.body.owed
shown_owed b e = rw e refl

pub count_ticks-requires-clause-open : goal.count_ticks-requires-clause-open
count_ticks-requires-clause-open c =
    let h : (slot (the_view c.self.inside) c.args.id).here ≡ true = sym (ap (λ (b : Bag). b.here) (bag_slot (the_view c.self.inside) c.args.id)) ∙ (rw (← c.self.view_is) at c.requires.here) in
    here_open c.self.inside.bags.items c.args.id h

pub count_ticks-requires-clause-owes : goal.count_ticks-requires-clause-owes
count_ticks-requires-clause-owes c =
    let h : (slot (the_view c.self.inside) c.args.id).here ≡ true = sym (ap (λ (b : Bag). b.here) (bag_slot (the_view c.self.inside) c.args.id)) ∙ (rw (← c.self.view_is) at c.requires.here) in
    let owes : c.args.ticks ≤ (bag_of (the_view c.self.inside) c.args.id).owed = rw (← c.self.view_is) at c.requires.owes in
    omega (arith, owes, ap (λ (b : Bag). b.owed) (bag_slot (the_view c.self.inside) c.args.id), shown_owed (slot (the_view c.self.inside) c.args.id) h)

pub count_ticks-requires-clause-early : goal.count_ticks-requires-clause-early
count_ticks-requires-clause-early c =
    let h : (slot (the_view c.self.inside) c.args.id).here ≡ true = sym (ap (λ (b : Bag). b.here) (bag_slot (the_view c.self.inside) c.args.id)) ∙ (rw (← c.self.view_is) at c.requires.here) in
    let early : (bag_of (the_view c.self.inside) c.args.id).tick + c.args.ticks ≤ 2 ^ 62 = rw (← c.self.view_is) at c.requires.early in
    omega (arith, early, ap (λ (b : Bag). b.tick) (bag_slot (the_view c.self.inside) c.args.id), shown_tick (slot (the_view c.self.inside) c.args.id) h)

pub count_ticks-requires-clause-order : goal.count_ticks-requires-clause-order
count_ticks-requires-clause-order c =
    let h : (slot (the_view c.self.inside) c.args.id).here ≡ true = sym (ap (λ (b : Bag). b.here) (bag_slot (the_view c.self.inside) c.args.id)) ∙ (rw (← c.self.view_is) at c.requires.here) in
    let same : (bag_of (the_view c.self.inside) c.args.id).chunks ≡ (slot (the_view c.self.inside) c.args.id).list = ap (λ (b : Bag). b.chunks) (bag_slot (the_view c.self.inside) c.args.id) ∙ sym (listed_here c.args.id (the_view c.self.inside) c.self.invariant h) in
    let P : List ChunkPos → Type 0 = λ l. IsStrictlySortedBy chunk_cmp l in subst P same (rw (← c.self.view_is) at c.requires.order)

pub count_ticks-requires-clause-places : goal.count_ticks-requires-clause-places
count_ticks-requires-clause-places c =
    let h : (slot (the_view c.self.inside) c.args.id).here ≡ true = sym (ap (λ (b : Bag). b.here) (bag_slot (the_view c.self.inside) c.args.id)) ∙ (rw (← c.self.view_is) at c.requires.here) in
    let same : (bag_of (the_view c.self.inside) c.args.id).chunks ≡ (slot (the_view c.self.inside) c.args.id).list = ap (λ (b : Bag). b.chunks) (bag_slot (the_view c.self.inside) c.args.id) ∙ sym (listed_here c.args.id (the_view c.self.inside) c.self.invariant h) in
    let P : List ChunkPos → Type 0 = λ l. All (λ c. IsTrue (is_chunk c)) l in subst P same (rw (← c.self.view_is) at c.requires.places)

here : (c : goal.After-count_ticks) → (slot (the_view c.self.inside) c.args.id).here ≡ true
here c = sym (ap (λ (b : Bag). b.here) (bag_slot (the_view c.self.inside) c.args.id)) ∙ (rw (← c.self.view_is) at c.requires.here)

whole : (c : goal.After-count_ticks) → ((slot (the_view c.self.inside) c.args.id).listed && (slot (the_view c.self.inside) c.args.id).calm) ≡ true
unfolding bag_of
whole c = rw (← c.self.view_is) at c.requires.whole

listed : (c : goal.After-count_ticks) → (slot (the_view c.self.inside) c.args.id).listed ≡ true
listed c = (and_parts (slot (the_view c.self.inside) c.args.id).listed (slot (the_view c.self.inside) c.args.id).calm (whole c)).0

calm : (c : goal.After-count_ticks) → (slot (the_view c.self.inside) c.args.id).calm ≡ true
calm c = (and_parts (slot (the_view c.self.inside) c.args.id).listed (slot (the_view c.self.inside) c.args.id).calm (whole c)).1

abbrev here_slot : goal.After-count_ticks → Slot
here_slot c = slot (the_view c.self.inside) c.args.id

none_due : (c : goal.After-count_ticks) → due_count ((here_slot c).body.tick + c.args.ticks) (here_slot c).body.queues ≡ 0
unfolding due_by
none_due c = rw (← c.self.view_is) at c.requires.none_due

owes : (c : goal.After-count_ticks) → c.args.ticks ≤ (here_slot c).body.owed
owes c =
    let l : c.args.ticks ≤ (bag_of (the_view c.self.inside) c.args.id).owed = rw (← c.self.view_is) at c.requires.owes in
    omega (arith, l, ap (λ (b : Bag). b.owed) (bag_slot (the_view c.self.inside) c.args.id), shown_owed (here_slot c) (here c))

early : (c : goal.After-count_ticks) → (here_slot c).body.tick + c.args.ticks ≤ 2 ^ 62
early c =
    let l : (bag_of (the_view c.self.inside) c.args.id).tick + c.args.ticks ≤ 2 ^ 62 = rw (← c.self.view_is) at c.requires.early in
    omega (arith, l, ap (λ (b : Bag). b.tick) (bag_slot (the_view c.self.inside) c.args.id), shown_tick (here_slot c) (here c))

-- what lies in the bag now
abbrev chunks : goal.After-count_ticks → Contents
chunks c = (slot_in c.count_ticks.new.bags.items c.args.id).body.chunks

passable : (c : goal.After-count_ticks) → Passable c.args.ticks (here_slot c) (chunks c)
passable c = record {
  here = here c;
  listed = listed c;
  calm = calm c;
  none_due = none_due c;
  owes = owes c;
  early = early c;
  walk = c.count_ticks.ensures.contents ∙ ap (λ l. iterate (moved (is_recorded l)) c.args.ticks (contents_of (here_slot c).body.chunks)) (listed_here c.args.id (the_view c.self.inside) c.self.invariant (here c));
}

all_pass : (c : goal.After-count_ticks) (spare slots : ℕ) → HavePassed c.args.id c.args.ticks (the_view c.self.inside) (with_bags (the_view c.self.inside) c.count_ticks.new.bags.items spare slots)
all_pass c spare slots =
    let long : length c.count_ticks.new.bags.items ≡ length c.self.inside.bags.items = omega arith in
    passes c.args.ticks (the_view c.self.inside) c.args.id c.count_ticks.new.bags.items spare slots (chunks c) c.self.invariant (passable c) c.count_ticks.ensures.sets.slots long

pub invariant_of-self : goal.invariant_of-self
invariant_of-self c = (all_pass c _ _).sound

pub returns-clause-passes : goal.returns-clause-passes
returns-clause-passes c = rw (← c.self.view_is) ((all_pass c _ _).times)
