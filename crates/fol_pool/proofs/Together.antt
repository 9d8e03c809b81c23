-- All seats together, when the world is closed.
use Rattle.std.proofs.Common.{◌≡◌, ℕ, zero, suc, ◌+◌, ◌<◌, ◌≤◌, refl, sym, ◌∙◌, ap, subst, true, inl, inr, List, [], ◌∷◌, ◌++◌, length, arith, append_assoc, append-nil, All, Contains}
use Rattle.std.specs.Prelude.{◌-◌, Bool, Result, Ok, Err, IfOk, OnOk}
use Rattle.std.specs.List.{AllByRecursion}
use Rattle.std.proofs.lemmas.Bool.{cases_eq}
use Rattle.std.proofs.lemmas.List.{append_cancel_left, map-append}
use Rattle.std.proofs.lemmas.List.Elements.{All-contains, All-from_recursion, Contains-append_left, Contains-append_right, Contains-push, recursion_from_All}
use Rattle.fol_lock.proofs.Logs.{given_by-append}
use Rattle.fol_model.specs.declared.closings.Closing.{Closing}
use Rattle.fol_model.specs.declared.events.Entry.{Entry}
use Rattle.fol_model.specs.declared.events.Event.TheVariants as events
use Rattle.fol_model.specs.declared.openings.Opening.{Opening}
use Rattle.fol_model.specs.declared.scripts.Command.{Command}
use Rattle.fol_model.specs.Legal.{Legal, orders}
use Rattle.fol_model.specs.Outputs.{Outputs}
use Rattle.fol_seat_laws.specs.Signed.{own_of}
use Rattle.fol_seat_laws.specs.Worked.{Called, WasWhole, Worked}
use Rattle.fol_seat_laws.proofs.LegalSeats.{seats_make_legal}
use Rattle.fol_live.specs.Kept.{Keeps}
use Rattle.fol_live.specs.Seat.{LiveId, Shown}
use Rattle.fol_live.specs.Seats.{AreAllSeats, ClosesAll, Knows, newcomer, numbers_of}
use Rattle.fol_pool.specs.Script.{HasFinished}
use Rattle.fol_pool.specs.Team.{AreBack}
use Rattle.fol_pool.specs.Works.{IsBack, SameSeat}
use Rattle.fol_pool.proofs.Going.{begins_both}
use Rattle.fol_pool.proofs.Newcomers.{NewFrom}

all_before : {X : Type 0} (P : X → Type 0) (xs ys : List X) → AllByRecursion P (xs ++ ys) → AllByRecursion P xs
all_before P [] ys all = tt
all_before P (x ∷ xs) ys all = (all.0, all_before P xs ys all.1)

pub all_last : {X : Type 0} (P : X → Type 0) (xs : List X) (y : X) → AllByRecursion P (xs ++ y ∷ []) → P y
all_last P [] y all = all.0
all_last P (x ∷ xs) y all = all_last P xs y all.1

all_more : {X : Type 0} (P : X → Type 0) (xs : List X) (y : X) → AllByRecursion P xs → P y → AllByRecursion P (xs ++ y ∷ [])
all_more P [] y all last = (last, tt)
all_more P (x ∷ xs) y all last = (all.0, all_more P xs y all.1 last)

-- ---- the seats that came back

pub back_more : (gs bs : List Shown) (g b : Shown) → AreBack gs bs → IsBack g b → AreBack (gs ++ g ∷ []) (bs ++ b ∷ [])
back_more [] [] g b all last = (last, tt)
back_more [] (x ∷ bs) g b all last = absurd all
back_more (x ∷ gs) [] g b all last = absurd all
back_more (x ∷ gs) (y ∷ bs) g b all last = (all.0, back_more gs bs g b all.1 last)

pub as_many : (gs bs : List Shown) → AreBack gs bs → length bs ≡ length gs
as_many [] [] all = refl
as_many [] (x ∷ bs) all = absurd all
as_many (x ∷ gs) [] all = absurd all
as_many (x ∷ gs) (y ∷ bs) all = ap suc (as_many gs bs all.1)

-- ---- what each of them shows

module _ (l : LiveId) (o : Opening) where
  locks_back : (n : ℕ) (gs bs : List Shown) → NewFrom l o n gs → AreBack gs bs → AllByRecursion (λ (s : Shown). s.lock ≡ l) bs
  locks_back n [] [] new all = tt
  locks_back n [] (y ∷ bs) new all = absurd all
  locks_back n (x ∷ gs) [] new all = absurd all
  locks_back n (x ∷ gs) (y ∷ bs) new all = (all.0.same.lock ∙ ap (λ (s : Shown). s.lock) new.0, locks_back (suc n) gs bs new.1 all.1)

  numbers_low : (n w : ℕ) (gs bs : List Shown) → NewFrom l o n gs → AreBack gs bs → n + length gs ≤ suc w → AllByRecursion (λ (k : ℕ). k ≤ w) (numbers_of bs)
  numbers_low n w [] [] new all low = tt
  numbers_low n w [] (y ∷ bs) new all low = absurd all
  numbers_low n w (x ∷ gs) [] new all low = absurd all
  numbers_low n w (x ∷ gs) (y ∷ bs) new all low =
      let is : y.number ≡ n = all.0.same.number ∙ ap (λ (s : Shown). s.number) new.0 in
      (omega (arith, is, low), numbers_low (suc n) w gs bs new.1 all.1 (omega (arith, low)))

  has_number : (n k : ℕ) (gs bs : List Shown) → NewFrom l o n gs → AreBack gs bs → n ≤ k → k < n + length gs → Contains (numbers_of bs) k
  has_number n k [] [] new all low high = absurd (omega (arith, low, high))
  has_number n k [] (y ∷ bs) new all low high = absurd all
  has_number n k (x ∷ gs) [] new all low high = absurd all
  has_number n k (x ∷ gs) (y ∷ bs) new all low high = elim (cases_eq n k) [
    | inl same ↦ let is : y.number ≡ k = all.0.same.number ∙ ap (λ (s : Shown). s.number) new.0 ∙ same in (zero, omega arith, is)
    | inr other ↦ Contains-append_right (y.number ∷ []) (numbers_of bs) k (has_number (suc n) k gs bs new.1 all.1 (omega (arith, low, other)) (omega (arith, high)))
  ]

  module _ (w : ℕ) (gs bs : List Shown) (c : Shown) (new : NewFrom l o 1 gs) (many : length gs ≡ w) (all : AreBack gs bs) (caller : SameSeat (newcomer l o 0) c) where
    abbrev seats : List Shown
    seats = bs ++ c ∷ []

    numbers_are : numbers_of seats ≡ numbers_of bs ++ c.number ∷ []
    numbers_are = map-append (λ (s : Shown). s.number) bs (c ∷ [])

    pub all_own : All (λ (s : Shown). s.lock ≡ l) seats
    all_own = All-from_recursion (λ (s : Shown). s.lock ≡ l) seats (all_more (λ (s : Shown). s.lock ≡ l) bs c (locks_back 1 gs bs new all) caller.lock)

    pub all_there : (count : ℕ) → count ≡ w + 1 → AreAllSeats count seats
    all_there count is n low = rw numbers_are (elim (cases_eq n 0) [
      | inl none ↦ let same : c.number ≡ n = caller.number ∙ sym none in subst (λ (k : ℕ). Contains (numbers_of bs ++ c.number ∷ []) k) same (Contains-push (numbers_of bs) c.number)
      | inr some ↦ Contains-append_left (numbers_of bs) (c.number ∷ []) n (has_number 1 n gs bs new all (omega (arith, some)) (omega (arith, low, is, many)))
    ])

    all_low : AllByRecursion (λ (k : ℕ). k ≤ w) (numbers_of seats)
    all_low =
        let zero : c.number ≡ 0 = caller.number in
        rw numbers_are (all_more (λ (k : ℕ). k ≤ w) (numbers_of bs) c.number (numbers_low 1 w gs bs new all (omega (arith, many))) (omega (arith, zero)))

-- ---- what they make together

-- what a worker's seat tells of the whole history
worked_one : (o : Opening) (h : List Entry) (k : ℕ) (g b : Shown) → b.number ≡ k → b.opening ≡ o → IsBack g b → Knows o h b → Worked o h k
worked_one o h k g b number opening back knows =
    let rest = knows.seen.0 in
    let is : h ≡ b.seen ++ rest = knows.seen.1 in
    let both : own_of b.number b.seen ++ own_of b.number rest ≡ own_of b.number b.seen ++ []
    = sym (given_by-append (λ (e : Entry). e.by) b.number b.seen rest) ∙ ap (own_of b.number) (sym is) ∙ knows.mine ∙ sym knows.own ∙ sym (append-nil (own_of b.number b.seen)) in
    let none : own_of b.number rest ≡ [] = append_cancel_left (own_of b.number b.seen) (own_of b.number rest) [] both in
    let whole : WasWhole o b.seen k = (let w = back.works.whole in rw (opening, number) at w) in
    record {
      whole = record {
        seen = whole.seen;
        rest = whole.rest ++ rest;
        is = (let seen = whole.is in is ∙ ap (λ (es : List Entry). es ++ rest) seen ∙ append_assoc whole.seen whole.rest rest);
        behind = begins_both k whole.rest rest whole.behind (rw (← number, none) tt);
        ticks = whole.ticks;
      };
      calm = (let mine = knows.mine in rw (← number, mine) back.works.calm.calm);
    }

module _ (l : LiveId) (o : Opening) (h : List Entry) where
  worked_each : (n k : ℕ) (gs bs : List Shown) → NewFrom l o n gs → AreBack gs bs → AllByRecursion (Knows o h) bs → n ≤ k → k < n + length gs → Worked o h k
  worked_each n k [] [] new all knows low high = absurd (omega (arith, low, high))
  worked_each n k [] (y ∷ bs) new all knows low high = absurd all
  worked_each n k (x ∷ gs) [] new all knows low high = absurd all
  worked_each n k (x ∷ gs) (y ∷ bs) new all knows low high = elim (cases_eq n k) [
    | inl same ↦
        let number : y.number ≡ k = all.0.same.number ∙ ap (λ (s : Shown). s.number) new.0 ∙ same in
        let opening : y.opening ≡ o = all.0.same.opening ∙ ap (λ (s : Shown). s.opening) new.0 in
        worked_one o h k x y number opening all.0 knows.0
    | inr other ↦ worked_each (suc n) k gs bs new.1 all.1 knows.1 (omega (arith, low, other)) (omega (arith, high))
  ]

-- and the caller's
called_all : (o : Opening) (h : List Entry) (c : Shown) (script : List Command) → HasFinished c script → Knows o h c → Called h script
called_all o h c script done knows =
    let rest = knows.seen.0 in
    let is : h ≡ c.seen ++ rest = knows.seen.1 in
    let seen = done.seen in
    let zero = done.zero in
    let mine : own_of 0 h ≡ c.mine = rw zero at knows.mine in
    record {
      seen = done.before;
      rest = rest;
      is = is ∙ ap (λ (es : List Entry). es ++ rest) seen ∙ append_assoc done.before ((record { by = 0; event = events.Finish }) ∷ []) rest;
      commands = ap orders mine ∙ done.orders;
      calls = rw mine done.calls;
    }

low_entries : (w : ℕ) (ns : List ℕ) (es : List Entry) → AllByRecursion (λ (k : ℕ). k ≤ w) ns → AllByRecursion (λ (e : Entry). Contains ns e.by) es → AllByRecursion (λ (e : Entry). e.by ≤ w) es
low_entries w ns [] low all = tt
low_entries w ns (e ∷ es) low all = (All-contains (λ (k : ℕ). k ≤ w) ns e.by (All-from_recursion (λ (k : ℕ). k ≤ w) ns low) all.0, low_entries w ns es low all.1)

module _ (l : LiveId) (o : Opening) (w : ℕ) (bs : List Shown) (c : Shown) (r : Closing) (caller : SameSeat (newcomer l o 0) c) (closes : ClosesAll w (bs ++ c ∷ []) r) where
  known : AllByRecursion (Knows r.opening r.history) (bs ++ c ∷ [])
  known = recursion_from_All (Knows r.opening r.history) (bs ++ c ∷ []) closes.of.each

  opening_is : r.opening ≡ o
  opening_is = (all_last (Knows r.opening r.history) bs c known).opening ∙ caller.opening

  here : AllByRecursion (Knows o r.history) (bs ++ c ∷ [])
  here = subst (λ (p : Opening). AllByRecursion (Knows p r.history) (bs ++ c ∷ [])) opening_is known

  keeps : Keeps w o r.history
  keeps = rw opening_is at closes.of.keeps

  pub outputs_together : Outputs o r.history r
  outputs_together = subst (λ (p : Opening). Outputs p r.history r) opening_is closes.rows

  module _ (gs : List Shown) (script : List Command) (new : NewFrom l o 1 gs) (many : length gs ≡ w) (all : AreBack gs bs) (done : HasFinished c script) where
    low : AllByRecursion (λ (e : Entry). e.by ≤ w) r.history
    low = low_entries w (numbers_of (bs ++ c ∷ [])) r.history (all_low l o w gs bs c new many all caller)
        (recursion_from_All (λ (e : Entry). Contains (numbers_of (bs ++ c ∷ [])) e.by) r.history closes.of.others)

    pub legal_together : Legal o script w r.history
    legal_together =
        seats_make_legal o script w r.history keeps.grid keeps.run keeps.signed low keeps.turns.below
        (called_all o r.history c script done (all_last (Knows o r.history) bs c here))
        (λ k some high. worked_each l o r.history 1 k gs bs new all (all_before (Knows o r.history) bs (c ∷ []) here) some (omega (arith, many, high)))

-- what an answer with a closing comes to, where so many seats were dealt
pub legal_answer : {E : Type 0} (l : LiveId) (o : Opening) (w count : ℕ) (gs bs : List Shown) (c : Shown) (script : List Command) (finished : Bool) (r : Result Closing E) → count ≡ w + 1
    → NewFrom l o 1 gs → length gs ≡ w → AreBack gs bs → SameSeat (newcomer l o 0) c → (finished ≡ true → HasFinished c script) → OnOk r (finished ≡ true)
    → IfOk r (λ k. ClosesAll (count - 1) (bs ++ c ∷ []) k) → IfOk r (λ k. Legal o script w k.history)
legal_answer l o w count gs bs c script finished (Ok k) dealt new many all caller done ok closes =
    let same : count - 1 ≡ w = omega (arith, dealt) in
    legal_together l o w bs c k caller (rw same at closes) gs script new many all (done ok)
legal_answer l o w count gs bs c script finished (Err e) dealt new many all caller done ok closes = tt

pub outputs_answer : {E : Type 0} (l : LiveId) (o : Opening) (w : ℕ) (bs : List Shown) (c : Shown) (r : Result Closing E) → SameSeat (newcomer l o 0) c
    → IfOk r (λ k. ClosesAll w (bs ++ c ∷ []) k) → IfOk r (λ k. Outputs o k.history k)
outputs_answer l o w bs c (Ok k) caller closes = outputs_together l o w bs c k caller closes
outputs_answer l o w bs c (Err e) caller closes = tt
