-- A turn, from what the lock and the world say of it.
use Rattle.std.proofs.Common.{◌≡◌, ℕ, refl, sym, ◌∙◌, ap, subst, List, [], ◌∷◌, ◌++◌, length, length-append, arith, append_assoc, true}
use Rattle.std.specs.Prelude.{All, None, Some, Option, nat_eq}
use Rattle.std.specs.Option.{unwrap_or}
use Rattle.std.specs.List.{AllByRecursion}
use Rattle.std.proofs.lemmas.Bool.{eq-eqb}
use Rattle.std.proofs.lemmas.List.Elements.{All-append, All-cons, All-nil}
use Rattle.fol_model.specs.declared.events.Entry.{Entry}
use Rattle.fol_data.specs.declared.tick.Tick.{Tick}
use Rattle.fol_lock.specs.Log.{Extends}
use Rattle.atomic_table.specs.Seated.{TableId}
use Rattle.fol_model.specs.declared.openings.Opening.{Opening}
use Rattle.fol_core.specs.Meaning.{Meaning, Nothing}
use Rattle.fol_lock.specs.Seat.{Continues, IsIdle, LockId, at_turn}
use Rattle.fol_lock.specs.Seat as locks
use Rattle.fol_lock.proofs.Logs.{given_by-append, given_by-own}
use Rattle.fol_seat_laws.specs.Signed.{own_of}
use Rattle.fol_slots.specs.Shown.{Worker}
use Rattle.fol_offers.specs.Offered.{Offered}
use Rattle.fol_tick_laws.specs.OpenTicks.{IsOpen}
use Rattle.fol_live.specs.declared.origin.Origin.{Origin}
use Rattle.fol_live.specs.Kept.{IsKept, Keeps}
use Rattle.fol_live.specs.Shown as worlds
use Rattle.fol_live.specs.Turns.{IsLate, Learns}
use Rattle.fol_live.proofs.LateBegins.{late_keep_open, learns_both}
use Rattle.fol_live.specs.Calls.{Turn}
use Rattle.fol_live.specs.declared.sight.Sight.{Sight}
use Rattle.fol_live.specs.Seat.{HasHand, HasSight, IsSeat, LiveId, Shown, held_in, meaning_of, origin_of, shown}
use Rattle.fol_live.specs.Sights.{IsSight}
use Rattle.fol_live.specs.Turned.{Adds, Looks, Meets}
use Rattle.fol_live.proofs.Holding.{held_open}

abbrev pub by_of : Entry → ℕ
by_of e = e.by

abbrev pub log_of : worlds.Shown → List Entry
log_of z = z.history

abbrev pub began : worlds.Shown → Origin
began z = record { opening = z.opening; slots = z.slots; workers = z.workers }

abbrev pub SeatOfLock : Type 0
SeatOfLock = locks.Shown Origin Entry

abbrev pub Hand : Type 0
Hand = Option (Worker Offered)

abbrev pub view : SeatOfLock → Hand → Shown
view s hand = shown (origin_of s.origin) s hand

abbrev pub IsIdleSeat : SeatOfLock → Type 0
IsIdleSeat s = IsSeat (origin_of s.origin) s

-- which world a seat of the lock is of
abbrev pub id_of : LockId → Origin → LiveId
id_of lock o = record { lock = lock; slots = o.slots; workers = o.workers }

-- the same world, whose history went on by entries of the seat k, or by none
pub record Grew (m n : worlds.Shown) (k : ℕ) : Type 0 where
  pub opening : n.opening ≡ m.opening
  pub slots : n.slots ≡ m.slots
  pub workers : n.workers ≡ m.workers
  pub added : List Entry
  pub history : n.history ≡ m.history ++ added
  pub own : All (λ (e : Entry). e.by ≡ k) added

-- the seat s took its turn, and was then t; the world was z, became m by Begins that the seat learnt of, and n by its call
pub record Visit (s t : SeatOfLock) (hand : Hand) (z m n : worlds.Shown) (by : ℕ) : Type 0 where
  pub is : IsIdleSeat s
  pub continues : Continues log_of began by_of s z
  pub taken : t ≡ at_turn s z.history
  pub number : by ≡ s.number
  pub learns : Learns z m by
  pub opened : (tick : Tick) → held_in hand ≡ Some tick → IsOpen (worlds.meaning_of m) (record tick { worker = by })
  pub grew : Grew m n by
  pub keeps : IsKept n

-- what the seat learnt of before its call, and in it
pub record Learnt (hand : Hand) (z m : worlds.Shown) (by : ℕ) : Type 0 where
  pub learns : Learns z m by
  pub opened : (tick : Tick) → held_in hand ≡ Some tick → IsOpen (worlds.meaning_of m) (record tick { worker = by })

pub learnt : (o : Origin) (hand : Hand) (z y m : worlds.Shown) (by : ℕ) → HasHand o by hand → Meets z y hand → Learns y m by → Learnt hand z m by
learnt o None z y m by has met later = record {
  learns = let same = met.0 in subst (λ (x : worlds.Shown). Learns x m by) same later;
  opened = λ tick none. absurd (cc);
}
learnt o (Some w) z y m by has met later = record {
  learns = learns_both z y m by (subst (λ (k : ℕ). Learns z y k) has.number_is met.0) later;
  opened = λ tick is. subst (λ (k : ℕ). IsOpen (worlds.meaning_of m) (record tick { worker = k })) has.number_is
      (late_keep_open y m by later (record tick { worker = w.number }) (held_open y w met.1 tick is));
}

-- nothing is left of a list that goes on by nothing
no_more : {X : Type 0} (xs ys : List X) → xs ++ ys ≡ xs → ys ≡ []
no_more xs [] e = refl
no_more xs (y ∷ ys) e = let l = ap length e in absurd (omega (arith, l, length-append xs (y ∷ ys)))

some_is : (x y : Origin) → Some x ≡ Some y → x ≡ y
some_is x y e = ap (λ (p : Option Origin). unwrap_or p x) e

pub late_by : (k : ℕ) (es : List Entry) → AllByRecursion (IsLate k) es → All (λ (e : Entry). e.by ≡ k) es
late_by k [] all = All-nil (λ (e : Entry). e.by ≡ k)
late_by k (e ∷ es) all = All-cons (λ (e : Entry). e.by ≡ k) e es all.0.own (late_by k es all.1)

late_own : (k : ℕ) (es : List Entry) → AllByRecursion (IsLate k) es → own_of k es ≡ es
late_own k [] all = refl
late_own k (e ∷ es) all = let test : nat_eq e.by k ≡ true = eq-eqb e.by k all.0.own in rw test (ap (λ (xs : List Entry). e ∷ xs) (late_own k es all.1))

-- worlds that began as the same
began_same : (z n : worlds.Shown) → n.opening ≡ z.opening → n.slots ≡ z.slots → n.workers ≡ z.workers → began n ≡ began z
began_same z n opening slots workers = ap (λ (o : Opening). record { opening = o; slots = n.slots; workers = n.workers }) opening ∙ ap (λ (x : TableId). record { opening = z.opening; slots = x; workers = n.workers }) slots
    ∙ ap (λ (k : ℕ). record { opening = z.opening; slots = z.slots; workers = k }) workers

pub bare_is : (n : worlds.Shown) (o : Opening) (h : List Entry) → n.opening ≡ o → n.history ≡ h → worlds.meaning_of n ≡ record { opening = o; history = h; prepared = []; room = Nothing }
bare_is n o h opening history = ap (λ (x : Opening). record { opening = x; history = n.history; prepared = []; room = Nothing }) opening ∙ ap (λ (es : List Entry). record { opening = o; history = es; prepared = []; room = Nothing }) history

-- ---- with the turn

module _ (s : SeatOfLock) (z : worlds.Shown) (is : IsIdleSeat s) (continues : Continues log_of began by_of s z) where
  pub origin_of_turn : began z ≡ origin_of s.origin
  origin_of_turn = some_is (began z) (origin_of s.origin) (sym continues.origin_is ∙ is.origin)

  -- what it had not seen is of others
  pub others_between : own_of s.number continues.seen.0 ≡ []
  others_between =
      let between = continues.seen.0 in
      no_more s.mine (own_of s.number between)
      (ap (λ (xs : List Entry). xs ++ own_of s.number between) (sym is.own) ∙ sym (given_by-append by_of s.number s.seen between)
      ∙ ap (own_of s.number) (sym continues.seen.1) ∙ continues.mine)

-- what `give` asks for
pub log_grows : {s t : SeatOfLock} {hand : Hand} {z m n : worlds.Shown} {by : ℕ} → Visit s t hand z m n by → Extends by_of t.number t.seen n.history
log_grows {s} {t} {hand} {z} {m} {n} {by} v =
    let learnt = v.learns.learnt in
    let here : Extends by_of by z.history n.history = record {
      added = learnt ++ v.grew.added;
      goes_on = v.grew.history ∙ ap (λ (es : List Entry). es ++ v.grew.added) v.learns.history ∙ append_assoc z.history learnt v.grew.added;
      own = All-append (λ (e : Entry). e.by ≡ by) learnt v.grew.added (late_by by learnt v.learns.late) v.grew.own;
    } in
    subst (λ (x : SeatOfLock). Extends by_of x.number x.seen n.history) (sym v.taken) (subst (λ (k : ℕ). Extends by_of k z.history n.history) v.number here)

mine_after : (s t : SeatOfLock) (h after mine added : List Entry) → t ≡ at_turn s h → after ≡ h ++ added → ((es : List Entry) → after ≡ t.seen ++ es → mine ≡ t.mine ++ es) → mine ≡ s.mine ++ added
mine_after s t h after mine added taken grown told = let own = told added (rw taken grown) in rw taken at own

-- ---- after it

-- the seat shows this now, and that when it had the turn and had recorded what it learnt of
pub record Done (old new : Shown) (m n : worlds.Shown) (by : ℕ) : Type 0 where
  pub now : Shown
  pub turn : Turn old now new
  pub here : worlds.meaning_of m ≡ meaning_of now
  pub there : worlds.meaning_of n ≡ meaning_of new
  pub number : by ≡ old.number

-- what is said of the worlds is said of the seat
pub moved : {old new : Shown} {m n : worlds.Shown} {by : ℕ} (d : Done old new m n by) (P : Meaning → Meaning → ℕ → Type 0) → P (worlds.meaning_of m) (worlds.meaning_of n) by
    → P (meaning_of d.now) (meaning_of new) old.number
moved {old} {new} {m} {n} {by} d P p =
    let here = subst (λ (x : Meaning). P x (worlds.meaning_of n) by) d.here p in
    let there = subst (λ (y : Meaning). P (meaning_of d.now) y by) d.there here in
    subst (λ (k : ℕ). P (meaning_of d.now) (meaning_of new) k) d.number there

module _ {s t u : SeatOfLock} {before : Hand} {z m n : worlds.Shown} {by : ℕ} {l : LockId} (v : Visit s t before z m n by) (idle : IsIdle l u) (number : u.number ≡ t.number) (origin : u.origin ≡ t.origin)
    (seen : u.seen ≡ n.history) (mine : (added : List Entry) → n.history ≡ t.seen ++ added → u.mine ≡ t.mine ++ added) where
  pub number_is : u.number ≡ s.number
  number_is = number ∙ ap (λ (x : SeatOfLock). x.number) v.taken

  pub origin_is : u.origin ≡ s.origin
  origin_is = origin ∙ ap (λ (x : SeatOfLock). x.origin) v.taken

  pub history_is : n.history ≡ z.history ++ (v.learns.learnt ++ v.grew.added)
  history_is = v.grew.history ∙ ap (λ (es : List Entry). es ++ v.grew.added) v.learns.history ∙ append_assoc z.history v.learns.learnt v.grew.added

  pub mine_is : u.mine ≡ s.mine ++ (v.learns.learnt ++ v.grew.added)
  mine_is = mine_after s t z.history n.history u.mine (v.learns.learnt ++ v.grew.added) v.taken history_is mine

  pub learnt_own : own_of s.number v.learns.learnt ≡ v.learns.learnt
  learnt_own = let same = sym v.number in rw same (late_own by v.learns.learnt v.learns.late)

  pub added_own : own_of s.number v.grew.added ≡ v.grew.added
  added_own = given_by-own by_of s.number v.grew.added (let same = sym v.number in rw same v.grew.own)

  pub began_is : began n ≡ origin_of u.origin
  began_is = began_same z n (v.grew.opening ∙ v.learns.same.opening) (v.grew.slots ∙ v.learns.same.slots) (v.grew.workers ∙ v.learns.same.workers) ∙ origin_of_turn s z v.is v.continues
      ∙ ap origin_of (sym origin_is)

  abbrev pub now : Shown
  now = record { lock = id_of s.lock (origin_of s.origin); opening = m.opening; number = s.number; seen = m.history; mine = s.mine ++ v.learns.learnt; hand = before }

  pub opening_there : m.opening ≡ (origin_of s.origin).opening
  opening_there = v.learns.same.opening ∙ ap (λ (o : Origin). o.opening) (origin_of_turn s z v.is v.continues)

  pub workers_there : m.workers ≡ (origin_of s.origin).workers
  workers_there = v.learns.same.workers ∙ ap (λ (o : Origin). o.workers) (origin_of_turn s z v.is v.continues)

  pub looks : Looks (view s before) now
  looks = record {
    lock = refl;
    opening = opening_there;
    number = refl;
    hand = refl;
    between = v.continues.seen.0;
    learnt = v.learns.learnt;
    seen = v.learns.history ∙ ap (λ (es : List Entry). es ++ v.learns.learnt) v.continues.seen.1 ∙ append_assoc s.seen v.continues.seen.0 v.learns.learnt;
    others = others_between s z v.is v.continues;
    late = subst (λ (k : ℕ). AllByRecursion (IsLate k) v.learns.learnt) v.number v.learns.late;
    mine = refl;
    own = ap (own_of s.number) v.learns.history ∙ given_by-append by_of s.number z.history v.learns.learnt ∙ ap (λ (es : List Entry). es ++ own_of s.number v.learns.learnt) v.continues.mine
        ∙ ap (λ (es : List Entry). s.mine ++ es) learnt_own;
    opened = λ tick is. subst (λ (k : ℕ). IsOpen (meaning_of now) (record tick { worker = k })) v.number (v.opened tick is);
    keeps = subst (λ (w : ℕ). Keeps w m.opening m.history) workers_there v.learns.keeps;
  }

  pub keeps_there : Keeps (origin_of u.origin).workers (origin_of u.origin).opening u.seen
  keeps_there = subst (λ (h : List Entry). Keeps (origin_of u.origin).workers (origin_of u.origin).opening h) (sym seen) (subst (λ (o : Origin). Keeps o.workers o.opening n.history) began_is v.keeps)

  pub adds : {after : Hand} → s.lock ≡ l → Adds now (view u after) v.grew.added
  adds own = record {
    lock = ap (λ (x : LockId). id_of x (origin_of u.origin)) (idle.0 ∙ sym own) ∙ ap (λ (o : Option Origin). id_of s.lock (origin_of o)) origin_is;
    opening = sym (ap (λ (o : Origin). o.opening) began_is) ∙ v.grew.opening;
    number = number_is;
    seen = seen ∙ v.grew.history;
    mine = mine_is ∙ sym (append_assoc s.mine v.learns.learnt v.grew.added);
    own = added_own;
    keeps = keeps_there;
  }

  pub done_here : {after : Hand} → s.lock ≡ l → Done (view s before) (view u after) m n by
  done_here {after} own = record {
    now = now;
    turn = record { looks = looks; added = v.grew.added; adds = adds {after = after} own };
    here = refl;
    there = bare_is n (origin_of u.origin).opening u.seen (ap (λ (o : Origin). o.opening) began_is) (sym seen);
    number = v.number;
  }

  pub done : {after : Hand} {old : Shown} → view s before ≡ old → old.lock.lock ≡ l → Done old (view u after) m n by
  done {after} {old} is own = subst (λ (x : Shown). Done x (view u after) m n by) is (done_here {after = after} (ap (λ (x : Shown). x.lock.lock) is ∙ own))

  -- the seat is again one that is idle
  pub idle_seat : IsIdleSeat u
  idle_seat = record {
    idle = idle.1;
    origin = origin_is ∙ v.is.origin ∙ ap (λ (o : Option Origin). Some (origin_of o)) (sym origin_is);
    own = ap (λ (k : ℕ). own_of k u.seen) number_is ∙ ap (own_of s.number) (seen ∙ history_is) ∙ given_by-append by_of s.number z.history (v.learns.learnt ++ v.grew.added)
        ∙ ap (λ (es : List Entry). es ++ own_of s.number (v.learns.learnt ++ v.grew.added)) v.continues.mine
        ∙ ap (λ (es : List Entry). s.mine ++ es) (given_by-append by_of s.number v.learns.learnt v.grew.added ∙ ap (λ (es : List Entry). es ++ own_of s.number v.grew.added) learnt_own
        ∙ ap (λ (es : List Entry). v.learns.learnt ++ es) added_own) ∙ sym mine_is;
  }

  -- what was seen of the world was seen of what the seat has seen
  pub sight_there : (sight : Sight) → IsSight n.opening n.history sight → HasSight (origin_of u.origin) u sight
  sight_there sight is = subst (λ (h : List Entry). IsSight (origin_of u.origin).opening h sight) (sym seen) (subst (λ (o : Origin). IsSight o.opening n.history sight) began_is is)

  -- and the invariant of a seat holds again
  pub seat_with : (after : Hand) (sight : Sight) → IsSight n.opening n.history sight → HasHand (origin_of s.origin) s.number after
      → IsSeat (origin_of u.origin) u × HasHand (origin_of u.origin) u.number after × HasSight (origin_of u.origin) u sight
  seat_with after sight is has =
      let here : HasHand (origin_of s.origin) u.number after = subst (λ (k : ℕ). HasHand (origin_of s.origin) k after) (sym number_is) has in
      (idle_seat, subst (λ (o : Option Origin). HasHand (origin_of o) u.number after) (sym origin_is) here, sight_there sight is)

  pub seat_again : (after : Hand) (sight : Sight) → IsSight n.opening n.history sight → after ≡ before → HasHand (origin_of s.origin) s.number before
      → IsSeat (origin_of u.origin) u × HasHand (origin_of u.origin) u.number after × HasSight (origin_of u.origin) u sight
  seat_again after sight is same has = seat_with after sight is (subst (λ (h : Hand). HasHand (origin_of s.origin) s.number h) (sym same) has)

-- ---- what a call comes to

-- what the lock and the worker's hand tell at the beginning of a turn: the seat s took its turn and was then t; the world was z, and y once the seat had met it
pub record Begun (s t : SeatOfLock) (hand : Hand) (z y : worlds.Shown) (by : ℕ) : Type 0 where
  pub is : IsIdleSeat s
  pub has : HasHand (origin_of s.origin) by hand
  pub continues : Continues log_of began by_of s z
  pub taken : t ≡ at_turn s z.history
  pub number : by ≡ s.number
  pub meets : Meets z y hand

pub begun : {s t : SeatOfLock} {state : worlds.Shown} {by : ℕ} (hand took : Hand) (z y : worlds.Shown) → IsIdleSeat s → HasHand (origin_of s.origin) s.number hand → z ≡ state
    → Continues log_of began by_of s state → t ≡ at_turn s state.history → by ≡ s.number → took ≡ hand → Meets z y took → Begun s t hand z y by
begun {s} {t} {state} {by} hand took z y is has lent continues taken number same met = record {
  is = is;
  has = rw number has;
  continues = rw lent continues;
  taken = rw lent taken;
  number = number;
  meets = subst (λ (h : Hand). Meets z y h) same met;
}

pub kept_met : (z y : worlds.Shown) (hand : Hand) → Meets z y hand → IsKept y
kept_met z y None met = met.1
kept_met z y (Some w) met = met.0.keeps

pub visits : {s t : SeatOfLock} {hand : Hand} {z y : worlds.Shown} {by : ℕ} → Begun s t hand z y by → (m n : worlds.Shown) → Learns y m by → Grew m n by → IsKept n → Visit s t hand z m n by
visits {s} {t} {hand} {z} {y} {by} b m n learns grew keeps =
    let l = learnt (origin_of s.origin) hand z y m by b.has b.meets learns in
    record { is = b.is; continues = b.continues; taken = b.taken; number = b.number; learns = l.learns; opened = l.opened; grew = grew; keeps = keeps }
