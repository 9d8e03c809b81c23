use Rattle.std.proofs.Common.{refl, not}
use Rattle.fol_model.specs.declared.places.SectionPos.{SectionPos}
use Rattle.fol_region_tables.specs.Book.{Book, owner_of}
use Rattle.fol_model.specs.Geometry.{is_among}
use Rattle.fol_region_tables.proofs.PartedBooks.{slot_listed, kept_room, kept_book, kept_is}
use Rattle.fol_region_tables.proofs.tables.Tables.keep.Goals as goal

pub put-requires-clause-number : goal.put-requires-clause-number
put-requires-clause-number c =
    let live = rw (← c.self.view_is) at c.requires.region in
    slot_listed _ c.args.id _ c.self.invariant live c.find-slot.ensures

pub put-requires-clause-room : goal.put-requires-clause-room
put-requires-clause-room c =
    let live = rw (← c.self.view_is) at c.requires.region in
    let few = rw (← c.self.view_is) at c.requires.few in
    let living = rw (← c.self.view_is) at c.requires.living in
    kept_room _ c.args.id _ (λ (s : SectionPos). not (is_among c.args.dead.now s)) _ c.self.invariant live c.find-slot.ensures few living

pub invariant_of-self : goal.invariant_of-self
unfolding owner_of
invariant_of-self c =
    let live = rw (← c.self.view_is) at c.requires.region in
    let dead = rw (← c.self.view_is) at c.requires.dead in
    let living = rw (← c.self.view_is) at c.requires.living in
    let m : Book = record { owned = c.take_all_out.new.self.pages; free = c.take_all_out.new.self.free; slots = c.self.inside.slots; rows = c.self.inside.rows; ahead = c.self.inside.ahead; behind = c.self.inside.behind; next = c.self.inside.next } in
    let rows = rw c.find-slot.ensures at c.put.ensures in
    kept_book _ m _ c.args.id c.self.invariant live c.args.living.now c.args.dead.now c.requires.some dead living c.take_all_out.ensures.owner refl refl refl refl refl
    (λ s. refl) refl rows refl refl refl c.take_all_out.ensures.room

pub returns : goal.returns
unfolding owner_of
returns c =
    let live = rw (← c.self.view_is) at c.requires.region in
    let dead = rw (← c.self.view_is) at c.requires.dead in
    let living = rw (← c.self.view_is) at c.requires.living in
    let m : Book = record { owned = c.take_all_out.new.self.pages; free = c.take_all_out.new.self.free; slots = c.self.inside.slots; rows = c.self.inside.rows; ahead = c.self.inside.ahead; behind = c.self.inside.behind; next = c.self.inside.next } in
    let rows = rw c.find-slot.ensures at c.put.ensures in
    rw (← c.self.view_is)
    (kept_is _ m _ c.args.id c.self.invariant live c.args.living.now c.args.dead.now c.requires.some dead living c.take_all_out.ensures.owner refl refl refl refl refl
    (λ s. refl) refl rows refl refl refl c.take_all_out.ensures.room)
