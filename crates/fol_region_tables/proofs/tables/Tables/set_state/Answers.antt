use Rattle.fol_region_tables.specs.Book.{Book}
use Rattle.fol_region_tables.proofs.BookFacts.{live_slot}
use Rattle.fol_region_tables.proofs.StateSteps.{moved_book, moved_is}
use Rattle.fol_region_tables.proofs.tables.Tables.set_state.Goals as goal

pub set_state-requires : goal.set_state-requires
set_state-requires c =
    let b : Book = record { owned = c.self.inside.owners.pages; free = c.self.inside.owners.free; slots = c.self.inside.slots; rows = c.self.inside.rows; ahead = c.self.inside.ahead; behind = c.self.inside.behind; next = c.self.inside.next } in
    live_slot b c.args.id (rw (← c.self.view_is) at c.requires)

pub invariant_of-self : goal.invariant_of-self
invariant_of-self c =
    let b : Book = record { owned = c.self.inside.owners.pages; free = c.self.inside.owners.free; slots = c.self.inside.slots; rows = c.self.inside.rows; ahead = c.self.inside.ahead; behind = c.self.inside.behind; next = c.self.inside.next } in
    moved_book b c.self.invariant c.set_state.new.self c.set_state.ensures.slots c.set_state.ensures.room

pub returns : goal.returns
returns c =
    let b : Book = record { owned = c.self.inside.owners.pages; free = c.self.inside.owners.free; slots = c.self.inside.slots; rows = c.self.inside.rows; ahead = c.self.inside.ahead; behind = c.self.inside.behind; next = c.self.inside.next } in
    rw (← c.self.view_is) (moved_is b c.self.invariant c.set_state.new.self c.set_state.ensures.slots c.set_state.ensures.room c.args.id c.args.state c.set_state.ensures.states)
