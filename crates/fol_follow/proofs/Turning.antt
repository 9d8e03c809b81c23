-- A turn of a seat, from what the lock and the ledger say of it.
use Rattle.std.proofs.Common.{◌≡◌, ℕ, refl, sym, ◌∙◌, ap, subst, List, [], ◌∷◌, ◌++◌, arith, append-nil}
use Rattle.std.specs.Prelude.{All, Contains, Some, Result, Ok, Err, IfOk, OnErr, false}
use Rattle.std.specs.declared.alloc.AllocError.{AllocError}
use Rattle.std.proofs.lemmas.List.Elements.{All-nil, All-cons, All-head, All-tail}
use Rattle.fol_model.specs.declared.openings.Opening.{Opening}
use Rattle.fol_data.specs.declared.tick.Tick.{Tick}
use Rattle.fol_lock.specs.Log.{Extends}
use Rattle.fol_lock.specs.Seat.{LockId, Continues, IsIdle, at_turn, numbers_of}
use Rattle.fol_follow.specs.declared.entries.EntityAt.{EntityAt}
use Rattle.fol_follow.specs.declared.entries.Asked.{Asked}
use Rattle.fol_follow.specs.declared.entries.BookEvent.{BookEvent}
use Rattle.fol_follow.specs.declared.entries.BookEvent.TheVariants.{Ask, Visit}
use Rattle.fol_follow.specs.declared.entries.BookEntry.{BookEntry}
use Rattle.fol_follow.specs.declared.entries.BookClosing.{BookClosing}
use Rattle.fol_follow.specs.declared.entries.Visiting.{Visiting}
use Rattle.fol_follow.specs.declared.entries.Visiting.TheVariants.{Made, Again}
use Rattle.fol_follow.specs.Meaning.{Meaning, Records, Stays, VisitRecords}
use Rattle.fol_follow.specs.Visits.{AreLeft, IsRun, answer_to, book_after}
use Rattle.fol_follow.specs.Calls.{Asks, Closes, Knows, SeatShown, Turn, VisitTold, Visits, by_of, entry}

abbrev pub log_of : Meaning → List BookEntry
log_of m = m.history

abbrev pub origin_of : Meaning → Opening
origin_of m = m.opening

-- the history went on by these entries of the seat k
pub record Grew (m n : Meaning) (k : ℕ) (added : List BookEntry) : Type 0 where
  pub opening : n.opening ≡ m.opening
  pub history : n.history ≡ m.history ++ added
  pub own : All (λ (e : BookEntry). e.by ≡ k) added

pub grew_none : (m n : Meaning) (k : ℕ) → Stays m n → Grew m n k []
grew_none m n k stays = record { opening = stays.opening; history = stays.history ∙ sym (append-nil m.history); own = All-nil (λ (e : BookEntry). e.by ≡ k) }

pub grew_one : (m n : Meaning) (k : ℕ) (event : BookEvent) → Records m n k event → Grew m n k (entry k event ∷ [])
grew_one m n k event records = record { opening = records.opening; history = records.history; own = All-cons (λ (e : BookEntry). e.by ≡ k) (entry k event) [] refl (All-nil (λ (e : BookEntry). e.by ≡ k)) }

-- some entries, by which it grew
pub record Grows (m n : Meaning) (k : ℕ) : Type 0 where
  pub added : List BookEntry
  pub grew : Grew m n k added

-- what `give` asks for
pub log_grows : (s t : SeatShown) (m n : Meaning) (by : ℕ) → t ≡ at_turn s m.history → by ≡ s.number → Grows m n by → Extends by_of t.number t.seen n.history
log_grows s t m n by taken number grows =
    let k = sym number in
    rw (taken, k) (record { added = grows.added; goes_on = grows.grew.history; own = grows.grew.own })

module _ (s t u : SeatShown) (m n : Meaning) (by : ℕ) (l : LockId) (continues : Continues log_of origin_of by_of s m) (taken : t ≡ at_turn s m.history) (number : by ≡ s.number)
    (before : IsRun m.opening m.history) (run : IsRun n.opening n.history) (own : s.lock ≡ l) (idle : IsIdle l u) (number_is : u.number ≡ t.number) (origin : u.origin ≡ t.origin) (seen : u.seen ≡ n.history)
    (mine : (added : List BookEntry) → n.history ≡ t.seen ++ added → u.mine ≡ t.mine ++ added) where
  abbrev pub turn : (added : List BookEntry) → Grew m n by added → Turn s u
  turn added grew = record {
    opening = m.opening;
    origin = continues.origin_is;
    found = m.history;
    begins = continues.seen;
    own = continues.mine;
    added = added;
    lock = idle.0 ∙ sym own;
    number = number_is ∙ ap (λ (x : SeatShown). x.number) taken;
    same_origin = origin ∙ ap (λ (x : SeatShown). x.origin) taken;
    idle = idle.1;
    seen = seen ∙ grew.history;
    mine = (let all = mine added (grew.history ∙ ap (λ (x : List BookEntry). x ++ added) (sym (ap (λ (x : SeatShown). x.seen) taken))) in all ∙ ap (λ (x : SeatShown). x.mine ++ added) taken);
    before = before;
    run = (let o = sym grew.opening in rw (o, seen) run);
  }

  pub asks : (entity delay : ℕ) (r : Result Asked AllocError) → IfOk r (λ a. a ≡ answer_to m.opening (book_after m.history) entity) → IfOk r (λ a. Records m n by (Ask entity delay a)) → OnErr r (Stays m n)
      → Asks s u entity delay r
  asks entity delay (Ok a) answer recorded refused = record {
    turn = turn (entry by (Ask entity delay a) ∷ []) (grew_one m n by (Ask entity delay a) recorded);
    answer = answer;
    recorded = ap (λ (k : ℕ). entry k (Ask entity delay a) ∷ []) number;
    refused = tt;
  }
  asks entity delay (Err e) answer recorded refused = record { turn = turn [] (grew_none m n by refused); answer = tt; recorded = tt; refused = refl }

  pub visits : (tick : Tick) (r : Result Visiting AllocError) → IfOk r (λ a. VisitRecords m n by tick a) → OnErr r (Stays m n) → Visits s u tick r
  visits tick (Ok (Made vs)) recorded refused = record {
    turn = turn (entry by (Visit tick.region tick.begun recorded.1.0 vs) ∷ []) (grew_one m n by (Visit tick.region tick.begun recorded.1.0 vs) recorded.1.2);
    told = (recorded.0, (recorded.1.0, recorded.1.1, ap (λ (k : ℕ). entry k (Visit tick.region tick.begun recorded.1.0 vs) ∷ []) number));
    refused = tt;
  }
  visits tick (Ok Again) recorded refused = record { turn = turn [] (grew_none m n by recorded.1); told = (recorded.0, refl); refused = tt }
  visits tick (Err e) recorded refused = record { turn = turn [] (grew_none m n by refused); told = tt; refused = refl }

-- how the history grew, by each call
pub ask_grows : (m n : Meaning) (k entity delay : ℕ) (r : Result Asked AllocError) → IfOk r (λ a. Records m n k (Ask entity delay a)) → OnErr r (Stays m n) → Grows m n k
ask_grows m n k entity delay (Ok a) recorded refused = record { added = _; grew = grew_one m n k (Ask entity delay a) recorded }
ask_grows m n k entity delay (Err e) recorded refused = record { added = []; grew = grew_none m n k refused }

pub visit_grows : (m n : Meaning) (k : ℕ) (tick : Tick) (r : Result Visiting AllocError) → IfOk r (λ a. VisitRecords m n k tick a) → OnErr r (Stays m n) → Grows m n k
visit_grows m n k tick (Ok (Made vs)) recorded refused = record { added = _; grew = grew_one m n k (Visit tick.region tick.begun recorded.1.0 vs) recorded.1.2 }
visit_grows m n k tick (Ok Again) recorded refused = record { added = []; grew = grew_none m n k recorded.1 }
visit_grows m n k tick (Err e) recorded refused = record { added = []; grew = grew_none m n k refused }

-- ---- what the turn lends
pub lent_continues : (s : SeatShown) (state m : Meaning) → m ≡ state → Continues log_of origin_of by_of s state → Continues log_of origin_of by_of s m
lent_continues s state m lent continues = rw lent continues

pub lent_taken : (s t : SeatShown) (state m : Meaning) → m ≡ state → t ≡ at_turn s state.history → t ≡ at_turn s m.history
lent_taken s t state m lent taken = rw lent taken

-- ---- the end
all_know : (m : Meaning) (h : List BookEntry) (seats : List SeatShown) → h ≡ m.history → All (λ (s : SeatShown). Continues log_of origin_of by_of s m) seats → All (Knows m.opening h) seats
all_know m h [] same all = All-nil (Knows m.opening h)
all_know m h (s ∷ seats) same all =
    let first = All-head (λ (s : SeatShown). Continues log_of origin_of by_of s m) s seats all in
    All-cons (Knows m.opening h) s seats (record { origin = first.origin_is; seen = rw same first.seen; mine = rw same first.mine })
    (all_know m h seats same (All-tail (λ (s : SeatShown). Continues log_of origin_of by_of s m) s seats all))

pub closes : (seats : List SeatShown) (m : Meaning) (c : BookClosing) → All (λ (s : SeatShown). Continues log_of origin_of by_of s m) seats → All (λ (e : BookEntry). Contains (numbers_of seats) e.by) m.history
    → c.history ≡ m.history → IsRun m.opening m.history → AreLeft (book_after m.history).asks c.left → Closes seats c
closes seats m c all others same run left = record {
  opening = m.opening;
  each = all_know m c.history seats same all;
  others = rw same others;
  run = rw same run;
  left = rw same left;
}
