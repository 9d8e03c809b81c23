-- The memory that a Stop and the Begins of prepared regions need stays.
use Rattle.std.proofs.Common.{◌≡◌, ℕ, Bool, ◌+◌, ◌≤◌, ◌<◌, refl, sym, ◌∙◌, ap, arith, false, inl, inr, ◌||◌}
use Rattle.std.specs.Prelude.{Option, Some, None, vec_len, vec_capacity}
use Rattle.std.specs.Global.{Vec}
use Rattle.fol_model.specs.declared.events.Accept.{Accept}
use Rattle.fol_model.specs.declared.events.Entry.{Entry}
use Rattle.fol_model.specs.declared.openings.Opening.{Opening}
use Rattle.fol_chunks.specs.Contents.{Contents}
use Rattle.fol_core.specs.declared.machine.Room.{Room}
use Rattle.fol_core.specs.declared.machine.Room.TheVariants.{Begin, End}
use Rattle.fol_world.specs.declared.tables.Course.{Course}
use Rattle.fol_world.specs.declared.tables.Tables.{Tables}
use Rattle.fol_world.specs.Agenda.{GrowsBy, IsTop}
use Rattle.fol_core.specs.Ahead.{StandsAhead}
use Rattle.fol_core.specs.Room.{AgendaRoom, EndRoom, EntryRoom, HasEndRoom, HasPlace, HasRoom}
use Rattle.fol_world.specs.Same.{SameTables}
use Rattle.fol_world.specs.Underway.{HasRoomFor}

-- over the lengths and the capacities of two histories
pub same_room : (c d : Course) (l m a b k : ℕ) → d ≡ c → m ≡ l → a ≤ b → ((c.finished || c.stopped) ≡ false → l + k < a) → (d.finished || d.stopped) ≡ false → m + k < b
same_room c d l m a b k e s n r x = let y = r (sym (ap (λ (z : Course). z.finished || z.stopped) e) ∙ x) in omega arith

-- a core stands for what it stood for where its history could not grow; it is ready for nothing
pub not_grown : (o : Opening) (h g : Vec Entry) (p : ℕ → Bool) (t : Tables) (room : Option Room) (early marks : ℕ) → g.items ≡ h.items → vec_len g ≡ vec_len h → vec_capacity h ≤ vec_capacity g
    → StandsAhead o h.items p t × HasRoom room t h early marks × EntryRoom t.course h early × AgendaRoom t.agenda early
    → StandsAhead o g.items p t × HasRoom None t g early marks × EntryRoom t.course g early × AgendaRoom t.agenda early
not_grown o h g p t room early marks items len capacity kept =
    (rw items kept.0, tt, same_room t.course t.course (vec_len h) (vec_len g) (vec_capacity h) (vec_capacity g) early refl len capacity kept.2, kept.3)

pub room_left : (d : Course) (l m a b k e : ℕ) → k ≡ e → l + 2 + k ≤ a → m ≡ l + 1 → b ≡ a → (d.finished || d.stopped) ≡ false → m + e < b
room_left d l m a b k e q r s n x = omega arith

-- the same after so many entries
pub room_left_by : (d : Course) (n l m a b k e : ℕ) → k ≡ e → l + n + 1 + k ≤ a → m ≡ l + n → b ≡ a → (d.finished || d.stopped) ≡ false → m + e < b
room_left_by d n l m a b k e q r more same x = omega arith

-- ---- the places of the stack

pub same_places : (t u : Tables) (k : ℕ) → SameTables t u → AgendaRoom t.agenda k → AgendaRoom u.agenda k
same_places t u k same room = omega (arith, same.agenda_len, same.agenda_capacity, room)

-- a stack that had memory for n regions more than those that may come back
pub places_left : (n : ℕ) (a b : Vec ℕ) (k early : ℕ) → k ≡ early → vec_len a + n + k ≤ vec_capacity a → GrowsBy n a b → AgendaRoom b early
places_left n a b k early e room grows = omega (arith, e, room, grows.len, grows.capacity)

-- once the region is prepared for which there was a place
pub place_taken : (a b : Vec ℕ) (id k early : ℕ) → AgendaRoom a k → HasPlace a id k → vec_len b ≤ vec_len a → vec_capacity b ≡ vec_capacity a → (IsTop a.items id → vec_len b < vec_len a) → early ≡ k + 1 → AgendaRoom b early
place_taken a b id k early room place len capacity top e = elim place [
  | inl l ↦ omega (arith, l, len, capacity, e)
  | inr is ↦ omega (arith, room, top is, capacity, e)
]

-- where the Begin of a prepared region is recorded, what the next Begin needs stays
pub learnt_room : (room : Option Room) (t : Tables) (v w : Vec Entry) (early rest marks : ℕ) → HasRoom room t v early marks → vec_len w ≡ vec_len v + 1 → vec_capacity w ≡ vec_capacity v → early ≡ rest + 1 → HasRoom room t w rest marks
learnt_room None t v w early rest marks r l c e = tt
learnt_room (Some (Begin id due)) t v w early rest marks r l c e = record {
  given = r.given;
  size = r.size;
  history = omega (arith, r.history, l, c, e);
  mark = r.mark;
  place = elim r.place [ inl l ↦ inl (omega (arith, l, e)) | inr top ↦ inr top ];
  empty = r.empty;
  whole = r.whole;
  due = r.due;
}
learnt_room (Some (End wishes accepts)) t v w early rest marks r l c e = record {
  size = r.size;
  history = omega (arith, r.history, l, c, e);
  regions = r.regions;
  tasks = r.tasks;
  slots = r.slots;
  tickets = r.tickets;
  places = omega (arith, r.places, e);
  empty = r.empty;
  answers = r.answers;
}

-- ---- the memory for an End

-- what was taken for an End is there
pub end_room : (room : Option Room) (t : Tables) (h : Vec Entry) (early marks : ℕ) → HasRoom room t h early marks → HasEndRoom room t h early
end_room None t h early marks r = tt
end_room (Some (Begin id due)) t h early marks r = tt
end_room (Some (End wishes accepts)) t h early marks r = r

-- with it the wishes of a tick that can take in as many things can be accepted
pub room_to_accept : (n : ℕ) (accepts : Vec Accept) (t : Tables) (h : Vec Entry) (early : ℕ) (v : Contents) → EndRoom n accepts t h early → n ≤ v.spare → HasRoomFor t v n
room_to_accept n accepts t h early v r things = record {
  regions = r.regions;
  tasks = r.tasks;
  slots = r.slots;
  tickets = r.tickets;
  agenda = omega (arith, r.places);
  entities = things;
}
