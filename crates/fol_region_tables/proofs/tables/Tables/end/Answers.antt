use Rattle.std.proofs.Common.{refl}
use Rattle.fol_region_tables.specs.Book.{Book, owner_of, rows_of}
use Rattle.fol_region_tables.proofs.PartedBooks.{slot_listed, ended_book, ended_is}
use Rattle.fol_region_tables.proofs.tables.Tables.end.Goals as goal

pub get-requires : goal.get-requires
get-requires c =
    let live = rw (← c.self.view_is) at c.requires.region in
    slot_listed _ c.args.id _ c.self.invariant live c.find-slot.ensures

pub clear-requires : goal.clear-requires
clear-requires c =
    let live = rw (← c.self.view_is) at c.requires.region in
    slot_listed _ c.args.id _ c.self.invariant live c.find-slot.ensures

pub invariant_of-self : goal.invariant_of-self
unfolding owner_of rows_of
invariant_of-self c =
    let live = rw (← c.self.view_is) at c.requires.region in
    let first = rw (← c.self.view_is) at c.requires.first in
    let last = rw (← c.self.view_is) at c.requires.last in
    let m : Book = record { owned = c.take_all_out.new.self.pages; free = c.take_all_out.new.self.free; slots = c.self.inside.slots; rows = c.self.inside.rows; ahead = c.self.inside.ahead; behind = c.self.inside.behind; next = c.self.inside.next } in
    let n : Book = record { owned = c.take_all_out.new.self.pages; free = c.take_all_out.new.self.free; slots = c.self.inside.slots; rows = c.clear.new.self; ahead = c.self.inside.ahead; behind = c.self.inside.behind; next = c.self.inside.next } in
    let rows = rw c.find-slot.ensures at c.clear.ensures in
    let out = rw (c.get.ensures, c.find-slot.ensures) at c.take_all_out.ensures.owner in
    ended_book _ m n _ c.args.id c.self.invariant live first last out refl refl refl refl refl
    (λ s. refl) refl rows refl refl refl (λ s. refl) c.remove.ensures.slots c.remove.ensures.states c.remove.ensures.room refl refl refl refl c.take_all_out.ensures.room

pub returns : goal.returns
unfolding owner_of rows_of
returns c =
    let live = rw (← c.self.view_is) at c.requires.region in
    let first = rw (← c.self.view_is) at c.requires.first in
    let last = rw (← c.self.view_is) at c.requires.last in
    let m : Book = record { owned = c.take_all_out.new.self.pages; free = c.take_all_out.new.self.free; slots = c.self.inside.slots; rows = c.self.inside.rows; ahead = c.self.inside.ahead; behind = c.self.inside.behind; next = c.self.inside.next } in
    let n : Book = record { owned = c.take_all_out.new.self.pages; free = c.take_all_out.new.self.free; slots = c.self.inside.slots; rows = c.clear.new.self; ahead = c.self.inside.ahead; behind = c.self.inside.behind; next = c.self.inside.next } in
    let rows = rw c.find-slot.ensures at c.clear.ensures in
    let out = rw (c.get.ensures, c.find-slot.ensures) at c.take_all_out.ensures.owner in
    rw (← c.self.view_is)
    (ended_is _ m n _ c.args.id c.self.invariant live first last out refl refl refl refl refl
    (λ s. refl) refl rows refl refl refl (λ s. refl) c.remove.ensures.slots c.remove.ensures.states c.remove.ensures.room refl refl refl refl c.take_all_out.ensures.room)
