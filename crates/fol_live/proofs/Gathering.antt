-- The seats of a world that is closed, the seats of its lock, and what is left when each offered tick was called back.
use Rattle.std.proofs.Common.{◌≡◌, ◌<◌, ℕ, refl, sym, ◌∙◌, ap, subst, List, [], ◌∷◌, ◌++◌, length, map, arith, append-nil, append_assoc, Contains, All, true, false, true≢false}
use Rattle.std.specs.Prelude.{Result, Ok, Err, IfOk, IfErr, OnOk, None}
use Rattle.std.specs.List.{AllByRecursion}
use Rattle.std.proofs.lemmas.Bool.{eq-eqb}
use Rattle.std.proofs.lemmas.List.Elements.{All-append, All-nil, All-cons, All-head, All-tail}
use Rattle.fol_model.specs.declared.openings.Opening.{Opening}
use Rattle.fol_model.specs.declared.closings.Closing.{Closing}
use Rattle.fol_model.specs.declared.events.Entry.{Entry}
use Rattle.fol_model.specs.declared.events.Event.{Event}
use Rattle.fol_model.specs.declared.events.Event.TheVariants.{Load, Unload, Post, PhaseOpen, Begin, End, PhaseClose, Finish, Stop}
use Rattle.fol_model.specs.declared.regions.State.TheVariants.{Dead, Ticking}
use Rattle.fol_model.specs.Counting.{some_below}
use Rattle.fol_model.specs.GridNumbers.{IsGrid}
use Rattle.fol_model.specs.OpenTick.{is_begin}
use Rattle.fol_model.specs.Outputs.{Outputs}
use Rattle.fol_model.specs.Rules.{Rules}
use Rattle.fol_model.specs.Run.{Run, after_all, world}
use Rattle.fol_model.specs.World.{start}
use Rattle.fol_laws.proofs.LongerRuns.{world_more}
use Rattle.fol_laws.proofs.NumbersBelow.{some_below-is}
use Rattle.fol_laws.proofs.OwnedRuns.{began_ticks}
use Rattle.fol_laws.proofs.RuleLaws.{rules_hold}
use Rattle.fol_core.specs.Answers.{Faults, is_ticking_in}
use Rattle.fol_core.specs.Meaning.{Meaning, world_of}
use Rattle.fol_core.specs.declared.answers.CloseFault.{CloseFault}
use Rattle.fol_core.specs.declared.answers.CloseFault.TheVariants as faults
use Rattle.fol_lock.specs.Seat.{Continues, IsIdle}
use Rattle.fol_lock.specs.Seat as locks
use Rattle.fol_seat_laws.specs.Signed.{is_start}
use Rattle.fol_live.specs.Kept.{Keeps}
use Rattle.fol_live.specs.Seat.{LiveId, Shown}
use Rattle.fol_live.specs.Seats.{AreOf, ClosesAll, ClosingFault, Knows, numbers_of}
use Rattle.fol_live.specs.Shown as worlds
use Rattle.fol_live.specs.Turns.{IsLate, Learns}
use Rattle.fol_live.proofs.Keeping.{keeps_first}
use Rattle.fol_live.proofs.Taken.{Hand, IsIdleSeat, SeatOfLock, began, by_of, log_of, origin_of_turn, view}

-- a seat, but for what it has of the slots
abbrev pub bare : Shown → Shown
bare s = record { lock = s.lock; opening = s.opening; number = s.number; seen = s.seen; mine = s.mine; hand = None }

-- a seat of the lock as such a seat
abbrev pub plain : SeatOfLock → Shown
plain s = view s None

pub all_taken : (inner : List SeatOfLock) (left seats : List Shown) → length left ≡ 0 → map plain inner ++ map bare left ≡ map bare seats → map plain inner ≡ map bare seats
all_taken inner [] seats none e = sym (append-nil (map plain inner)) ∙ e
all_taken inner (x ∷ left) seats none e = absurd (omega (arith, none))

took_is : (inner : List SeatOfLock) (s : SeatOfLock) (hand : Hand) (left : List Shown) → map plain (inner ++ s ∷ []) ++ map bare left ≡ map plain inner ++ map bare (view s hand ∷ left)
took_is [] s hand left = refl
took_is (y ∷ inner) s hand left = ap (λ (xs : List Shown). plain y ∷ xs) (took_is inner s hand left)

-- one seat more is taken
pub took : (inner : List SeatOfLock) (s : SeatOfLock) (hand : Hand) (x : Shown) (left whole : List Shown) → view s hand ≡ x → map plain inner ++ map bare (x ∷ left) ≡ whole
    → map plain (inner ++ s ∷ []) ++ map bare left ≡ whole
took inner s hand x left whole is e = took_is inner s hand left ∙ ap (λ (y : Shown). map plain inner ++ map bare (y ∷ left)) is ∙ e

pub idle_more : (inner : List SeatOfLock) (s : SeatOfLock) → All IsIdleSeat inner → IsIdleSeat s → All IsIdleSeat (inner ++ s ∷ [])
idle_more inner s all idle = All-append IsIdleSeat inner (s ∷ []) all (All-cons IsIdleSeat s [] idle (All-nil IsIdleSeat))

-- ---- what the lock asks for

abbrev Owned : LiveId → Shown → Type 0
Owned l s = s.lock ≡ l

all_bare : (l : LiveId) (xs : List Shown) → All (λ (s : Shown). s.lock ≡ l) xs → All (Owned l) (map bare xs)
all_bare l [] own = All-nil (Owned l)
all_bare l (x ∷ xs) own =
    All-cons (Owned l) (bare x) (map bare xs) (All-head (λ (s : Shown). s.lock ≡ l) x xs own) (all_bare l xs (All-tail (λ (s : Shown). s.lock ≡ l) x xs own))

idle_here : (l : LiveId) (xs : List SeatOfLock) → All IsIdleSeat xs → All (Owned l) (map plain xs) → All (IsIdle l.lock) xs
idle_here l [] idle own = All-nil (IsIdle l.lock)
idle_here l (x ∷ xs) idle own =
    let first = All-head IsIdleSeat x xs idle in
    let here : (plain x).lock ≡ l = All-head (Owned l) (plain x) (map plain xs) own in
    All-cons (IsIdle l.lock) x xs (ap (λ (i : LiveId). i.lock) here, first.idle) (idle_here l xs (All-tail IsIdleSeat x xs idle) (All-tail (Owned l) (plain x) (map plain xs) own))

plain_numbers : (xs : List SeatOfLock) → locks.numbers_of xs ≡ numbers_of (map plain xs)
plain_numbers [] = refl
plain_numbers (x ∷ xs) = ap (λ (ns : List ℕ). x.number ∷ ns) (plain_numbers xs)

bare_numbers : (xs : List Shown) → numbers_of (map bare xs) ≡ numbers_of xs
bare_numbers [] = refl
bare_numbers (x ∷ xs) = ap (λ (ns : List ℕ). x.number ∷ ns) (bare_numbers xs)

-- ---- what it tells

abbrev Continued : worlds.Shown → SeatOfLock → Type 0
Continued z s = Continues log_of began by_of s z

plain_know : (z : worlds.Shown) (xs : List SeatOfLock) → All IsIdleSeat xs → All (Continued z) xs → All (Knows z.opening z.history) (map plain xs)
plain_know z [] idle all = All-nil (Knows z.opening z.history)
plain_know z (x ∷ xs) idle all =
    let first = All-head (Continued z) x xs all in
    let here = All-head IsIdleSeat x xs idle in
    All-cons (Knows z.opening z.history) (plain x) (map plain xs)
    (record { opening = ap (λ o. o.opening) (origin_of_turn x z here first); seen = first.seen; mine = first.mine; own = here.own })
    (plain_know z xs (All-tail IsIdleSeat x xs idle) (All-tail (Continued z) x xs all))

bare_know : (z : worlds.Shown) (xs : List Shown) → All (Knows z.opening z.history) (map bare xs) → All (Knows z.opening z.history) xs
bare_know z [] all = All-nil (Knows z.opening z.history)
bare_know z (x ∷ xs) all =
    let first = All-head (Knows z.opening z.history) (bare x) (map bare xs) all in
    All-cons (Knows z.opening z.history) x xs (record { opening = first.opening; seen = first.seen; mine = first.mine; own = first.own })
    (bare_know z xs (All-tail (Knows z.opening z.history) (bare x) (map bare xs) all))

module _ (seats : List Shown) (inner : List SeatOfLock) (l : LiveId) (same : map plain inner ≡ map bare seats) (idle : All IsIdleSeat inner) (own : All (λ (s : Shown). s.lock ≡ l) seats) where
  pub all_idle : All (IsIdle l.lock) inner
  all_idle = idle_here l inner idle (rw same (all_bare l seats own))

  pub same_numbers : locks.numbers_of inner ≡ numbers_of seats
  same_numbers = plain_numbers inner ∙ ap numbers_of same ∙ bare_numbers seats

  pub are_of : (w : ℕ) (z : worlds.Shown) → All (Continued z) inner → All (λ (e : Entry). Contains (locks.numbers_of inner) e.by) z.history → Keeps w z.opening z.history
      → AreOf w seats z.opening z.history
  are_of w z all others keeps =
      let P : List ℕ → Type 0 = λ ns. All (λ (e : Entry). Contains ns e.by) z.history in
      record { each = bare_know z seats (rw (← same) (plain_know z inner idle all)); others = subst P same_numbers others; keeps = keeps }

-- the world is that of its seats, of which there is one
pub record IsAtHome (l : LiveId) (z : worlds.Shown) : Type 0 where
  pub slots : z.slots ≡ l.slots
  pub workers : z.workers ≡ l.workers

home_of : (l : LiveId) (z : worlds.Shown) (inner : List SeatOfLock) (seats : List Shown) → map plain inner ≡ map bare seats → 0 < length seats → All IsIdleSeat inner → All (Continued z) inner
    → All (Owned l) (map plain inner) → IsAtHome l z
home_of l z [] [] same some idle all own = absurd (omega (arith, some))
home_of l z [] (s ∷ seats) same some idle all own = absurd (let e = ap length same in omega (arith, e))
home_of l z (x ∷ xs) seats same some idle all own =
    let origin = origin_of_turn x z (All-head IsIdleSeat x xs idle) (All-head (Continued z) x xs all) in
    let here : (plain x).lock ≡ l = All-head (Owned l) (plain x) (map plain xs) own in
    record { slots = ap (λ o. o.slots) origin ∙ ap (λ (i : LiveId). i.slots) here; workers = ap (λ o. o.workers) origin ∙ ap (λ (i : LiveId). i.workers) here }

pub at_home : (l : LiveId) (z : worlds.Shown) (inner : List SeatOfLock) (seats : List Shown) → map plain inner ≡ map bare seats → 0 < length seats → All IsIdleSeat inner → All (Continued z) inner
    → All (λ (s : Shown). s.lock ≡ l) seats → IsAtHome l z
at_home l z inner seats same some idle all own = home_of l z inner seats same some idle all (rw same (all_bare l seats own))

-- ---- Begins at the end

begun_region : (event : Event) → is_start event ≡ true → (r : ℕ) × (is_begin r event ≡ true)
begun_region (Begin worker q) starts = (q, eq-eqb q q refl)
begun_region (Load caller c a) starts = absurd (cc)
begun_region (Unload caller c a) starts = absurd (cc)
begun_region (Post caller c d x a) starts = absurd (cc)
begun_region (PhaseOpen n) starts = absurd (cc)
begun_region (End worker q tick ran accepts) starts = absurd (cc)
begun_region PhaseClose starts = absurd (cc)
begun_region Finish starts = absurd (cc)
begun_region (Stop caller) starts = absurd (cc)

-- behind Begins the region of the last one ticks
last_ticks : (o : Opening) (h : List Entry) (e : Entry) (es : List Entry) (by : ℕ) → AllByRecursion (IsLate by) (e ∷ es) → (r : ℕ) × ((world o (h ++ e ∷ es)).grid.state r ≡ Ticking)
last_ticks o h e [] by late =
    let r = begun_region e.event late.0.begins in
    (r.0, ap (λ w. w.grid.state r.0) (world_more (start o) h e) ∙ began_ticks (after_all (start o) h) e.event r.0 r.1)
last_ticks o h e (f ∷ es) by late =
    let x = last_ticks o (h ++ e ∷ []) f es by late.1 in
    (x.0, subst (λ (fs : List Entry). (world o fs).grid.state x.0 ≡ Ticking) (append_assoc h (e ∷ []) (f ∷ es)) x.1)

-- so that where no region ticks there are none
none_learnt : (o : Opening) (h es : List Entry) (by : ℕ) → IsGrid o.grid → Run o (h ++ es) → AllByRecursion (IsLate by) es
    → some_below (is_ticking_in (world o (h ++ es))) (world o (h ++ es)).grid.next ≡ false → es ≡ []
none_learnt o h [] by grid run late rests = refl
none_learnt o h (e ∷ es) by grid run late rests =
    let all : List Entry = h ++ e ∷ es in
    let last = last_ticks o h e es by late in
    let ticks : (world o all).grid.state last.0 ≡ Ticking = last.1 in
    let rules : Rules (world o all).grid = rules_hold o all [] grid (subst (λ (fs : List Entry). Run o fs) (sym (append-nil all)) run) in
    let below : last.0 < (world o all).grid.next = rules.below_next last.0 (λ dead. let never : Ticking ≡ Dead = sym ticks ∙ dead in cc) in
    let some = some_below-is (is_ticking_in (world o all)) (world o all).grid.next last.0 below (rw ticks refl) in
    absurd (true≢false (sym some ∙ rests))

-- ---- the end

-- the core that is left of a world
pub record Left (w : ℕ) (z : worlds.Shown) (m : Meaning) : Type 0 where
  pub learns : Learns z (record z { history = m.history }) 0
  pub opening : m.opening ≡ z.opening
  pub workers : z.workers ≡ w

module _ {w : ℕ} {z : worlds.Shown} {m : Meaning} (left : Left w z m) where
  all_kept : Keeps w z.opening (z.history ++ left.learns.learnt)
  all_kept = subst (λ (h : List Entry). Keeps w z.opening h) left.learns.history (subst (λ (k : ℕ). Keeps k z.opening m.history) left.workers left.learns.keeps)

  pub kept_before : Keeps w z.opening z.history
  kept_before = keeps_first w z.opening z.history left.learns.learnt all_kept

  -- where no region ticks the history is that of the seats
  same_history : some_below (is_ticking_in (world_of m)) (world_of m).grid.next ≡ false → m.history ≡ z.history
  same_history rests =
      let Rests : Opening → List Entry → Type 0 = λ o h. some_below (is_ticking_in (world o h)) (world o h).grid.next ≡ false in
      let there : Rests z.opening (z.history ++ left.learns.learnt) = subst (λ (h : List Entry). Rests z.opening h) left.learns.history (subst (λ (o : Opening). Rests o m.history) left.opening rests) in
      let none = none_learnt z.opening z.history left.learns.learnt 0 all_kept.grid all_kept.run left.learns.late there in
      left.learns.history ∙ ap (λ (es : List Entry). z.history ++ es) none ∙ append-nil z.history

  pub closes_all : (seats : List Shown) (r : Result Closing CloseFault) → AreOf w seats z.opening z.history → IfOk r (λ c. Outputs m.opening m.history c)
      → OnOk r (some_below (is_ticking_in (world_of m)) (world_of m).grid.next ≡ false) → IfOk r (λ c. ClosesAll w seats c)
  closes_all seats (Ok c) of rows rests =
      let opening = rows.opening in
      let history = rows.history in
      let R : Opening → List Entry → Type 0 = λ o h. Outputs o h c in
      let Rests : Opening → List Entry → Type 0 = λ o h. some_below (is_ticking_in (world o h)) (world o h).grid.next ≡ false in
      let A : Opening → List Entry → Type 0 = λ o h. AreOf w seats o h in
      record {
        of = subst (λ (o : Opening). A o c.history) (sym left.opening ∙ sym opening) (subst (λ (h : List Entry). A z.opening h) (sym (same_history rests) ∙ sym history) of);
        rows = subst (λ (h : List Entry). R c.opening h) (sym history) (subst (λ (o : Opening). R o m.history) (sym opening) rows);
        rests = subst (λ (h : List Entry). Rests c.opening h) (sym history) (subst (λ (o : Opening). Rests o m.history) (sym opening) rests);
      }
  closes_all seats (Err e) of rows rests = tt

  pub closing_fault : (seats : List Shown) (r : Result Closing CloseFault) → AreOf w seats z.opening z.history → IfErr r (Faults (world_of m)) → IfErr r (λ f. ClosingFault w seats f)
  closing_fault seats (Ok c) of cause = tt
  closing_fault seats (Err (faults.Ticking r)) of cause =
      let F : Opening → List Entry → Type 0 = λ o h. Faults (world o h) (faults.Ticking r) in
      record {
        opening = z.opening;
        history = z.history;
        learnt = left.learns.learnt;
        of = of;
        late = left.learns.late;
        keeps = all_kept;
        ticks = subst (λ (h : List Entry). F z.opening h) left.learns.history (subst (λ (o : Opening). F o m.history) left.opening cause);
      }
  closing_fault seats (Err faults.NoMemory) of cause = tt
