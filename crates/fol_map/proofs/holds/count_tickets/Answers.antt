use Rattle.std.proofs.Common.{◌≡◌, ℕ, ◌+◌, ◌∙◌, ◌++◌, ◌∷◌, [], List, take, sym, ap, arith}
use Rattle.std.proofs.lemmas.Grind.{common_steps}
use Rattle.fol_model.specs.declared.places.ChunkPos.{ChunkPos}
use Rattle.fol_model.specs.declared.events.Entry.{Entry}
use Rattle.fol_model.specs.declared.events.Event.{Event}
use Rattle.fol_map.specs.Counts.{count_in}
use Rattle.fol_map.specs.Holds.{ticketed, tickets}
use Rattle.fol_map.proofs.Tickets.{ticketed_same, ticketed_small, tickets_more}
use Rattle.fol_map.proofs.holds.count_tickets.Goals as goal

pub loop-entry-preserved : goal.loop-entry-preserved
loop-entry-preserved c =
    let inv = c.loop-entry.invariant in
    let h = c.args.history.now in
    let i = c.loop-entry.entry-index in
    let old : ChunkPos → ℕ = count_in c.loop-entry.counts in
    let e : Entry = c.entry-item.result in
    let after = λ (q : ChunkPos). c.in_ok-count_event.ensures.tickets q ∙ ap (λ (v : Event). ticketed old v q) c.event.ensures in
    let t : take (i + 1) h ≡ take i h ++ e ∷ [] = grind (arith, common_steps) in
    record {
      counted = c.in_ok-count_event.ensures.counted;
      same = λ q. after q ∙ ticketed_same old (tickets (take i h)) inv.same e.event q ∙ ap (λ (f : ChunkPos → ℕ). f q) (sym (tickets_more (λ c. 0) (take i h) e)) ∙ ap (λ (es : List Entry). tickets es q) (sym t);
      small = λ q. omega (arith, after q, ticketed_small old e.event q, inv.small q);
    }

pub count_event-requires-clause-room : goal.count_event-requires-clause-room
count_event-requires-clause-room c = λ q. omega (arith, c.loop-entry.invariant.small q)

pub count_event-requires-clause-counted : goal.count_event-requires-clause-counted
count_event-requires-clause-counted c = c.loop-entry.invariant.counted
