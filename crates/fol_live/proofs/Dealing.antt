-- The seats of a world and the seats of its lock.
use Rattle.std.proofs.Common.{◌≡◌, ◌<◌, ◌≤◌, ◌+◌, ◌-◌, ℕ, zero, suc, refl, sym, ◌∙◌, ap, subst, List, [], ◌∷◌, ◌++◌, length, arith, append-nil, Some}
use Rattle.std.specs.Prelude.{slice_get, Option, None, false}
use Rattle.std.specs.Option.{unwrap_or}
use Rattle.std.specs.List.{AllByRecursion}
use Rattle.atomic_table.specs.Seated.{TableId}
use Rattle.fol_model.specs.declared.openings.Opening.{Opening}
use Rattle.fol_lock.specs.Seat.{LockId}
use Rattle.fol_lock.specs.Seat as locks
use Rattle.fol_slots.specs.Shown.{AreNew, Worker, new_worker}
use Rattle.fol_offers.specs.Offered.{Offered}
use Rattle.fol_live.specs.declared.origin.Origin.{Origin}
use Rattle.fol_live.specs.Seat.{HasHand, HasSight, Shown, origin_of}
use Rattle.fol_live.specs.Seats.{AreFresh, AreNewSeats, DealsAll, new_hand, newcomer}
use Rattle.fol_live.specs.Shown as worlds
use Rattle.fol_live.proofs.Taken.{Hand, IsIdleSeat, SeatOfLock, began, id_of, view}

-- ---- lists whose elements are known by their place

abbrev pub AreFrom : {X : Type 0} → (ℕ → X) → ℕ → List X → Type 0
AreFrom f k [] = Unit {0}
AreFrom f k (x ∷ xs) = (x ≡ f k) × AreFrom f (suc k) xs

from_get : {X : Type 0} (f : ℕ → X) (k : ℕ) (xs : List X) → ((j : ℕ) → j < length xs → slice_get xs j ≡ Some (f (k + j))) → AreFrom f k xs
from_get f k [] each = tt
from_get f k (x ∷ xs) each =
    let first : Some x ≡ Some (f (k + 0)) = each zero (omega arith) in
    let here : k + 0 ≡ k = omega arith in (
      ap (λ (o : Option _). unwrap_or o x) first ∙ ap f here,
      from_get f (suc k) xs (λ j low. let there : k + suc j ≡ suc k + j = omega arith in each (suc j) (omega (arith, low)) ∙ ap (λ (i : ℕ). Some (f i)) there),
    )

get_from : {X : Type 0} (f : ℕ → X) (k : ℕ) (xs : List X) → AreFrom f k xs → (j : ℕ) → j < length xs → slice_get xs j ≡ Some (f (k + j))
get_from f k [] are j low = absurd (omega (arith, low))
get_from f k (x ∷ xs) are zero low = let here : k ≡ k + 0 = omega arith in ap Some are.0 ∙ ap (λ (i : ℕ). Some (f i)) here
get_from f k (x ∷ xs) are (suc j) low = let there : suc k + j ≡ k + suc j = omega arith in get_from f (suc k) xs are.1 j (omega (arith, low)) ∙ ap (λ (i : ℕ). Some (f i)) there

-- ---- each seat of the lock with what it gets

abbrev pub first_of : List (Worker Offered) → Hand
first_of [] = None
first_of (w ∷ ws) = Some w

abbrev pub rest_of : List (Worker Offered) → List (Worker Offered)
rest_of [] = []
rest_of (w ∷ ws) = ws

-- the first of these seats gets this, and each other one the next worker
abbrev pub paired : Hand → List SeatOfLock → List (Worker Offered) → List Shown
paired hand [] ws = []
paired hand (s ∷ ss) ws = view s hand ∷ paired (first_of ws) ss (rest_of ws)

-- a seat of the lock that has seen nothing may be the seat with this hand
pub record CanSit (s : SeatOfLock) (hand : Hand) : Type 0 where
  pub idle : IsIdleSeat s
  pub has : HasHand (origin_of s.origin) s.number hand
  pub sight : HasSight (origin_of s.origin) s (record { front = 0; none_owing = false })

abbrev pub CanAllSit : Hand → List SeatOfLock → List (Worker Offered) → Type 0
CanAllSit hand [] ws = Unit {0}
CanAllSit hand (s ∷ ss) ws = CanSit s hand × CanAllSit (first_of ws) ss (rest_of ws)

-- the worker holds nothing
pub record IsFree (w : Worker Offered) : Type 0 where
  pub slot : w.slot ≡ None
  pub claimed : w.claimed ≡ None

length_paired : (hand : Hand) (ss : List SeatOfLock) (ws : List (Worker Offered)) → length (paired hand ss ws) ≡ length ss
length_paired hand [] ws = refl
length_paired hand (s ∷ ss) ws = ap suc (length_paired (first_of ws) ss (rest_of ws))

module _ (lock : LockId) (o : Origin) where
  abbrev seat_at : ℕ → SeatOfLock
  seat_at n = locks.newcomer lock n o

  abbrev worker_at : ℕ → Worker Offered
  worker_at n = new_worker o.slots n

  abbrev shown_at : ℕ → Shown
  shown_at n = newcomer (id_of lock o) o.opening n

  shown_first : (k : ℕ) (s : SeatOfLock) (hand : Hand) → s ≡ seat_at k → hand ≡ new_hand (id_of lock o) k → view s hand ≡ shown_at k
  shown_first k s hand seat has = rw (seat, has) refl

  sits_new : o.slots.slots ≡ 1820 → (k : ℕ) → CanSit (seat_at k) (new_hand (id_of lock o) k)
  sits_new sized zero = record { idle = record { idle = refl; origin = refl; own = refl }; has = refl; sight = record { front = refl; none_owing = λ never. absurd (cc) } }
  sits_new sized (suc n) = record {
    idle = record { idle = refl; origin = refl; own = refl };
    has = record { sized = sized; slots = refl; number_is = refl; some = omega arith };
    sight = record { front = refl; none_owing = λ never. absurd (cc) };
  }

  sits_first : o.slots.slots ≡ 1820 → (k : ℕ) (s : SeatOfLock) (hand : Hand) → s ≡ seat_at k → hand ≡ new_hand (id_of lock o) k → CanSit s hand
  sits_first sized k s hand seat has = rw (seat, has) (sits_new sized k)

  all_shown : (k : ℕ) (hand : Hand) (ss : List SeatOfLock) (ws : List (Worker Offered)) → AreFrom seat_at k ss → AreFrom worker_at (suc k) ws → hand ≡ new_hand (id_of lock o) k
      → length ss ≤ suc (length ws) → AreFrom shown_at k (paired hand ss ws)
  all_shown k hand [] ws seats workers has few = tt
  all_shown k hand (s ∷ []) ws seats workers has few = (shown_first k s hand seats.0 has, tt)
  all_shown k hand (s ∷ (t ∷ ss)) [] seats workers has few = absurd (omega (arith, few))
  all_shown k hand (s ∷ (t ∷ ss)) (w ∷ ws) seats workers has few =
      (shown_first k s hand seats.0 has, all_shown (suc k) (Some w) (t ∷ ss) ws seats.1 workers.1 (ap Some workers.0) (omega (arith, few)))

  all_sit : o.slots.slots ≡ 1820 → (k : ℕ) (hand : Hand) (ss : List SeatOfLock) (ws : List (Worker Offered)) → AreFrom seat_at k ss → AreFrom worker_at (suc k) ws → hand ≡ new_hand (id_of lock o) k
      → length ss ≤ suc (length ws) → CanAllSit hand ss ws
  all_sit sized k hand [] ws seats workers has few = tt
  all_sit sized k hand (s ∷ []) ws seats workers has few = (sits_first sized k s hand seats.0 has, tt)
  all_sit sized k hand (s ∷ (t ∷ ss)) [] seats workers has few = absurd (omega (arith, few))
  all_sit sized k hand (s ∷ (t ∷ ss)) (w ∷ ws) seats workers has few =
      (sits_first sized k s hand seats.0 has, all_sit sized (suc k) (Some w) (t ∷ ss) ws seats.1 workers.1 (ap Some workers.0) (omega (arith, few)))

  all_free : (k : ℕ) (ws : List (Worker Offered)) → AreFrom worker_at k ws → AllByRecursion IsFree ws
  all_free k [] are = tt
  all_free k (w ∷ ws) are = (let e = are.0 in rw e (record { slot = refl; claimed = refl }), all_free (suc k) ws are.1)

  seats_from : (count : ℕ) (seats : List SeatOfLock) → locks.AreNew lock o count seats → AreFrom seat_at 0 seats
  seats_from count seats new = from_get seat_at 0 seats (λ j low. let many = new.as_many in let here : j ≡ 0 + j = omega arith in
      new.each j (omega (arith, low, many)) ∙ ap (λ (i : ℕ). Some (seat_at i)) here)

  workers_from : (count : ℕ) (workers : List (Worker Offered)) → AreNew o.slots count workers → AreFrom worker_at 1 workers
  workers_from count workers new = from_get worker_at 1 workers (λ j low. let many = new.count_is in let here : j + 1 ≡ 1 + j = omega arith in
      new.each j (omega (arith, low, many)) ∙ ap (λ (i : ℕ). Some (worker_at i)) here)

  pub are_dealt : (count : ℕ) (seats : List SeatOfLock) (workers : List (Worker Offered)) → locks.AreNew lock o (count + 1) seats → AreNew o.slots count workers
      → AreFrom shown_at 0 (paired None seats workers)
  are_dealt count seats workers new free =
      let s = new.as_many in
      let w = free.count_is in
      all_shown 0 None seats workers (seats_from (count + 1) seats new) (workers_from count workers free) refl (omega (arith, s, w))

-- what is dealt so is what is promised
pub deals_all : (seats : List SeatOfLock) (workers : List (Worker Offered)) (dealt : List Shown) → dealt ≡ paired None seats workers → DealsAll seats workers dealt
deals_all seats workers dealt is lock o count new free = rw is (record {
  as_many = length_paired None seats workers ∙ new.as_many;
  each = λ n low. let many = new.as_many in let l = length_paired None seats workers in let here : 0 + n ≡ n = omega arith in
      get_from (shown_at lock o) 0 (paired None seats workers) (are_dealt lock o count seats workers new free) n (omega (arith, low, many, l)) ∙ ap (λ (i : ℕ). Some (shown_at lock o i)) here;
})

pub fresh_sit : (seats : List SeatOfLock) (workers : List (Worker Offered)) → AreFresh seats workers → CanAllSit None seats workers
fresh_sit seats workers fresh =
    let s = fresh.new_seats.as_many in
    let w = fresh.new_workers.count_is in
    all_sit fresh.lock fresh.origin fresh.sized 0 None seats workers (seats_from fresh.lock fresh.origin (fresh.count + 1) seats fresh.new_seats)
    (workers_from fresh.lock fresh.origin fresh.count workers fresh.new_workers) refl (omega (arith, s, w))

pub fresh_free : (seats : List SeatOfLock) (workers : List (Worker Offered)) → AreFresh seats workers → AllByRecursion IsFree workers
fresh_free seats workers fresh = all_free fresh.lock fresh.origin 1 workers (workers_from fresh.lock fresh.origin fresh.count workers fresh.new_workers)

-- nothing is left to deal
pub all_dealt : (dealt whole : List Shown) (hand : Hand) (left : List SeatOfLock) (ws : List (Worker Offered)) → length left ≡ 0 → dealt ++ paired hand left ws ≡ whole → dealt ≡ whole
all_dealt dealt whole hand [] ws none e = sym (append-nil dealt) ∙ e
all_dealt dealt whole hand (x ∷ left) ws none e = absurd (omega (arith, none))

pub none_left : (ws : List (Worker Offered)) → length ws ≡ 0 → ws ≡ []
none_left [] none = refl
none_left (w ∷ ws) none = absurd (omega (arith, none))

-- the seats of a world that is started
pub starts : (lock : LockId) (slots : TableId) (opening : Opening) (callers count : ℕ) (z : worlds.Shown) (seats : List SeatOfLock) (workers : List (Worker Offered)) (dealt : List Shown)
    → z ≡ worlds.first opening slots (callers - 1) → 0 < callers → count ≡ callers → locks.AreNew lock (began z) callers seats → AreNew slots (callers - 1) workers
    → DealsAll seats workers dealt → AreNewSeats (record { lock = lock; slots = slots; workers = count - 1 }) opening callers dealt
starts lock slots opening callers count z seats workers dealt world some counted new free deals =
    let more : callers - 1 + 1 ≡ callers = omega (arith, some) in
    let o : Origin = began (worlds.first opening slots (callers - 1)) in
    let of_lock : locks.AreNew lock o callers seats = subst (λ (w : worlds.Shown). locks.AreNew lock (began w) callers seats) world new in
    let all : AreNewSeats (id_of lock o) opening (callers - 1 + 1) dealt = deals lock o (callers - 1) (subst (λ (n : ℕ). locks.AreNew lock o n seats) (sym more) of_lock) free in
    rw counted (subst (λ (n : ℕ). AreNewSeats (id_of lock o) opening n dealt) more all)
