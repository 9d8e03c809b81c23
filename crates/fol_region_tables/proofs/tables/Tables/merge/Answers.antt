use Rattle.std.proofs.Common.{◌≡◌, ℕ, sym, ◌∙◌, ap, arith, false, Bool, not, cond, [], ◌&&◌}
use Rattle.std.specs.Prelude.{nat_eq}
use Rattle.std.proofs.lemmas.Bool.{eqb-true}
use Rattle.fol_lists.specs.Numbered.{list_at, with_list}
use Rattle.fol_model.specs.declared.places.SectionPos.{SectionPos}
use Rattle.fol_model.specs.declared.regions.State.{State}
use Rattle.fol_model.specs.declared.regions.State.TheVariants.{Dead}
use Rattle.fol_model.specs.GridState.{with_state}
use Rattle.fol_region_tables.specs.Owners.{owner_in}
use Rattle.fol_region_tables.specs.Rows.{united}
use Rattle.fol_model.specs.Geometry.{is_among}
use Rattle.fol_region_tables.specs.Book.{Book, owner_of, state_of, rows_of, waits_of}
use Rattle.fol_region_tables.proofs.BookFacts.{live_slot}
use Rattle.fol_region_tables.proofs.Chosen.{row_chosen}
use Rattle.fol_region_tables.proofs.SlotSteps.{slot_tells}
use Rattle.fol_region_tables.proofs.MergeBook as book
use Rattle.fol_region_tables.proofs.HandSteps.{merged_none, merged_nobody}
use Rattle.fol_region_tables.proofs.NewOwners.{none_new}
use Rattle.fol_region_tables.proofs.tables.Tables.merge.Goals as goal

pub get-requires : goal.get-requires
get-requires c =
    let b : Book = record { owned = c.self.inside.owners.pages; free = c.self.inside.owners.free; slots = c.self.inside.slots; rows = c.self.inside.rows; ahead = c.self.inside.ahead; behind = c.self.inside.behind; next = c.self.inside.next } in
    let lu = rw (← c.self.view_is) at (ap (λ (f : ℕ → Bool). f c.args.id) c.hand_on.ensures.live ∙ c.requires.region) in
    omega (arith, live_slot b c.args.id lu, c.find-slot.ensures, c.self.invariant.row_numbers)

pub join-requires-clause-other : goal.join-requires-clause-other
join-requires-clause-other c =
    let b : Book = record { owned = c.self.inside.owners.pages; free = c.self.inside.owners.free; slots = c.self.inside.slots; rows = c.self.inside.rows; ahead = c.self.inside.ahead; behind = c.self.inside.behind; next = c.self.inside.next } in
    let lu = rw (← c.self.view_is) at (ap (λ (f : ℕ → Bool). f c.args.id) c.hand_on.ensures.live ∙ c.requires.region) in
    omega (arith, live_slot b c.args.id lu, c.find-slot.ensures, c.self.invariant.row_numbers)

pub join-requires-clause-number : goal.join-requires-clause-number
join-requires-clause-number c =
    let b : Book = record { owned = c.self.inside.owners.pages; free = c.self.inside.owners.free; slots = c.self.inside.slots; rows = c.self.inside.rows; ahead = c.self.inside.ahead; behind = c.self.inside.behind; next = c.self.inside.next } in
    let lt = rw (← c.self.view_is) at (ap (λ (f : ℕ → Bool). f c.args.into) c.hand_on.ensures.live ∙ c.requires.into) in
    omega (arith, live_slot b c.args.into lt, c.find-to.ensures, c.self.invariant.row_numbers)

pub join-requires-clause-lists : goal.join-requires-clause-lists
join-requires-clause-lists c =
    let b : Book = record { owned = c.self.inside.owners.pages; free = c.self.inside.owners.free; slots = c.self.inside.slots; rows = c.self.inside.rows; ahead = c.self.inside.ahead; behind = c.self.inside.behind; next = c.self.inside.next } in
    let lt = rw (← c.self.view_is) at (ap (λ (f : ℕ → Bool). f c.args.into) c.hand_on.ensures.live ∙ c.requires.into) in
    λ e. c.requires.apart (sym (slot_tells b.slots c.args.into c.args.id (live_slot b c.args.into lt) (sym c.find-to.ensures ∙ e ∙ c.find-slot.ensures)))

pub join-requires-clause-apart : goal.join-requires-clause-apart
unfolding rows_of
join-requires-clause-apart c =
    let b : Book = record { owned = c.self.inside.owners.pages; free = c.self.inside.owners.free; slots = c.self.inside.slots; rows = c.self.inside.rows; ahead = c.self.inside.ahead; behind = c.self.inside.behind; next = c.self.inside.next } in
    let lu = rw (← c.self.view_is) at (ap (λ (f : ℕ → Bool). f c.args.id) c.hand_on.ensures.live ∙ c.requires.region) in
    let lt = rw (← c.self.view_is) at (ap (λ (f : ℕ → Bool). f c.args.into) c.hand_on.ensures.live ∙ c.requires.into) in
    let here = ap (list_at b.rows) c.find-to.ensures in
    let there = ap (list_at b.rows) c.find-slot.ensures in
    rw (here, there) (book.apart_rows b c.self.invariant c.args.into c.args.id (c.self.invariant.given c.args.into lt).0 (c.self.invariant.given c.args.id lu).0 c.requires.apart)

pub join-requires-clause-row : goal.join-requires-clause-row
unfolding rows_of
join-requires-clause-row c =
    let b : Book = record { owned = c.self.inside.owners.pages; free = c.self.inside.owners.free; slots = c.self.inside.slots; rows = c.self.inside.rows; ahead = c.self.inside.ahead; behind = c.self.inside.behind; next = c.self.inside.next } in
    let lt = rw (← c.self.view_is) at (ap (λ (f : ℕ → Bool). f c.args.into) c.hand_on.ensures.live ∙ c.requires.into) in
    let e = ap (list_at b.rows) c.find-to.ensures ∙ c.self.invariant.rows c.args.into (c.self.invariant.given c.args.into lt).0 in
    rw e (row_chosen _)

pub join-requires-clause-other_row : goal.join-requires-clause-other_row
unfolding rows_of
join-requires-clause-other_row c =
    let b : Book = record { owned = c.self.inside.owners.pages; free = c.self.inside.owners.free; slots = c.self.inside.slots; rows = c.self.inside.rows; ahead = c.self.inside.ahead; behind = c.self.inside.behind; next = c.self.inside.next } in
    let lu = rw (← c.self.view_is) at (ap (λ (f : ℕ → Bool). f c.args.id) c.hand_on.ensures.live ∙ c.requires.region) in
    let e = ap (list_at b.rows) c.find-slot.ensures ∙ c.self.invariant.rows c.args.id (c.self.invariant.given c.args.id lu).0 in
    rw e (row_chosen _)

pub give_all-requires : goal.give_all-requires
unfolding rows_of owner_of
give_all-requires c =
    let b : Book = record { owned = c.self.inside.owners.pages; free = c.self.inside.owners.free; slots = c.self.inside.slots; rows = c.self.inside.rows; ahead = c.self.inside.ahead; behind = c.self.inside.behind; next = c.self.inside.next } in
    let lu = rw (← c.self.view_is) at (ap (λ (f : ℕ → Bool). f c.args.id) c.hand_on.ensures.live ∙ c.requires.region) in
    let lt = rw (← c.self.view_is) at (ap (λ (f : ℕ → Bool). f c.args.into) c.hand_on.ensures.live ∙ c.requires.into) in
    let is = c.get.ensures ∙ ap (list_at b.rows) c.find-slot.ensures in
    record {
      room = none_new _ _ _ (λ q h.
          let own = eqb-true (owner_of b q) c.args.id (sym (book.among_rows b c.self.invariant c.args.id (c.self.invariant.given c.args.id lu).0 q) ∙ ap (λ xs. is_among xs q) (sym is) ∙ h) in
          omega (arith, own, (c.self.invariant.given c.args.id lu).0));
    }

pub invariant_of-self : goal.invariant_of-self
unfolding rows_of owner_of
invariant_of-self c =
    let b : Book = record { owned = c.self.inside.owners.pages; free = c.self.inside.owners.free; slots = c.self.inside.slots; rows = c.self.inside.rows; ahead = c.self.inside.ahead; behind = c.self.inside.behind; next = c.self.inside.next } in
    let lu = rw (← c.self.view_is) at (ap (λ (f : ℕ → Bool). f c.args.id) c.hand_on.ensures.live ∙ c.requires.region) in
    let lt = rw (← c.self.view_is) at (ap (λ (f : ℕ → Bool). f c.args.into) c.hand_on.ensures.live ∙ c.requires.into) in
    let none : (k : ℕ) → waits_of b c.args.id k ≡ false = λ k. rw (← c.self.view_is) at (ap (λ (w : ℕ → ℕ → Bool). w c.args.id k) c.hand_on.ensures.waits ∙ merged_none (waits_of c.args.self.now) c.args.id c.args.into c.requires.apart k) in
    let nobody : (a : ℕ) → waits_of b a c.args.id ≡ false = λ a. rw (← c.self.view_is) at (ap (λ (w : ℕ → ℕ → Bool). w a c.args.id) c.hand_on.ensures.waits ∙ merged_nobody (waits_of c.args.self.now) c.args.id c.args.into c.requires.last a) in
    let is = c.get.ensures ∙ ap (list_at b.rows) c.find-slot.ensures in
    let set : (q : SectionPos) → owner_in c.give_all.new.self.pages q ≡ cond (is_among (rows_of b c.args.id) q) c.args.into (owner_of b q) = λ q. c.give_all.ensures.owner q ∙ ap (λ xs. cond (is_among xs q) c.args.into (owner_in b.owned q)) is in
    let joined = c.join.ensures ∙ (λ i. with_list (with_list b.rows (c.find-slot.ensures i) []) (c.find-to.ensures i) (united (list_at b.rows (c.find-to.ensures i)) (list_at b.rows (c.find-slot.ensures i)))) in
    rw joined (book.merged_book b c.self.invariant c.args.id c.args.into lu lt c.requires.apart none nobody c.give_all.new.self.pages (c.give_all.new.self.free) set c.remove.new.self c.remove.ensures.slots c.remove.ensures.room)

pub returns : goal.returns
unfolding rows_of owner_of state_of
returns c =
    let b : Book = record { owned = c.self.inside.owners.pages; free = c.self.inside.owners.free; slots = c.self.inside.slots; rows = c.self.inside.rows; ahead = c.self.inside.ahead; behind = c.self.inside.behind; next = c.self.inside.next } in
    let lu = rw (← c.self.view_is) at (ap (λ (f : ℕ → Bool). f c.args.id) c.hand_on.ensures.live ∙ c.requires.region) in
    let lt = rw (← c.self.view_is) at (ap (λ (f : ℕ → Bool). f c.args.into) c.hand_on.ensures.live ∙ c.requires.into) in
    let none : (k : ℕ) → waits_of b c.args.id k ≡ false = λ k. rw (← c.self.view_is) at (ap (λ (w : ℕ → ℕ → Bool). w c.args.id k) c.hand_on.ensures.waits ∙ merged_none (waits_of c.args.self.now) c.args.id c.args.into c.requires.apart k) in
    let nobody : (a : ℕ) → waits_of b a c.args.id ≡ false = λ a. rw (← c.self.view_is) at (ap (λ (w : ℕ → ℕ → Bool). w a c.args.id) c.hand_on.ensures.waits ∙ merged_nobody (waits_of c.args.self.now) c.args.id c.args.into c.requires.last a) in
    let is = c.get.ensures ∙ ap (list_at b.rows) c.find-slot.ensures in
    let set : (q : SectionPos) → owner_in c.give_all.new.self.pages q ≡ cond (is_among (rows_of b c.args.id) q) c.args.into (owner_of b q) = λ q. c.give_all.ensures.owner q ∙ ap (λ xs. cond (is_among xs q) c.args.into (owner_in b.owned q)) is in
    let joined = c.join.ensures ∙ (λ i. with_list (with_list b.rows (c.find-slot.ensures i) []) (c.find-to.ensures i) (united (list_at b.rows (c.find-to.ensures i)) (list_at b.rows (c.find-slot.ensures i)))) in
    let owner = rw (← c.self.view_is) at c.hand_on.ensures.owner in
    let state = rw (← c.self.view_is) at c.hand_on.ensures.state in
    let waits = rw (← c.self.view_is) at c.hand_on.ensures.waits in
    let live = rw (← c.self.view_is) at c.hand_on.ensures.live in
    let next = rw (← c.self.view_is) at c.hand_on.ensures.next in
    let rooms = rw (← c.self.view_is) at c.hand_on.ensures.rooms in
    let room = c.give_all.ensures.room 0 (none_new _ _ _ (λ q h.
    let own = eqb-true (owner_of b q) c.args.id (sym (book.among_rows b c.self.invariant c.args.id (c.self.invariant.given c.args.id lu).0 q) ∙ ap (λ xs. is_among xs q) (sym is) ∙ h) in
    omega (arith, own, (c.self.invariant.given c.args.id lu).0))) in
    rw joined (record {
      owner = book.merged_owner b c.self.invariant c.args.id c.args.into lu lt c.requires.apart none nobody c.give_all.new.self.pages (c.give_all.new.self.free) set c.remove.new.self c.remove.ensures.slots c.remove.ensures.room
          ∙ ap {B = SectionPos → ℕ} (λ (f : SectionPos → ℕ). λ s. cond (nat_eq (f s) c.args.id) c.args.into (f s)) owner;
      state = c.remove.ensures.states ∙ ap {B = ℕ → State} (λ (f : ℕ → State). with_state f c.args.id Dead) state;
      waits = book.merged_waits b c.self.invariant c.args.id c.args.into lu lt c.requires.apart none nobody c.give_all.new.self.pages (c.give_all.new.self.free) set c.remove.new.self c.remove.ensures.slots c.remove.ensures.room ∙ waits;
      live = book.merged_live b c.self.invariant c.args.id c.args.into lu lt c.requires.apart none nobody c.give_all.new.self.pages (c.give_all.new.self.free) set c.remove.new.self c.remove.ensures.slots c.remove.ensures.room
          ∙ ap {B = ℕ → Bool} (λ (f : ℕ → Bool). λ r. not (nat_eq r c.args.id) && f r) live;
      next = next;
      rooms = record {
        free = omega (arith, rooms.free, room);
        ahead = rooms.ahead;
        behind = rooms.behind;
        ahead_room = rooms.ahead_room;
        behind_room = rooms.behind_room;
      };
    })
