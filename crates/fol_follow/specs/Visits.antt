-- Visits: which histories a book may have.
use Rattle.std.specs.Prelude.{ℕ, ◌≡◌, ◌+◌, ◌-◌, ◌≤◌, Bool, true, false, ◌&&◌, ◌||◌, nat_eq, if◌then◌else◌, List, [], ◌∷◌, Option, Some, None}
use Rattle.std.specs.Option.{option_map, is_some}
use Rattle.std.specs.List.{find, list_any}
use Rattle.std.specs.List.Sorted.{IsStrictlySortedBy}
use Rattle.std.specs.Ordering.{nat_cmp}
use Rattle.std.specs.declared.cmp.Ordering.{Ordering}
use Rattle.fol_model.specs.declared.places.BlockPos.{BlockPos}
use Rattle.fol_model.specs.declared.openings.Opening.{Opening}
use Rattle.fol_model.specs.ActionStep.{at_id}
use Rattle.fol_follow.specs.declared.entries.EntityAt.{EntityAt}
use Rattle.fol_follow.specs.declared.entries.Visit as rows
use Rattle.fol_follow.specs.declared.entries.Waiting.{Waiting}
use Rattle.fol_follow.specs.declared.entries.Asked.{Asked}
use Rattle.fol_follow.specs.declared.entries.Asked.TheVariants.{Queued, Unknown}
use Rattle.fol_follow.specs.declared.entries.BookEvent.{BookEvent}
use Rattle.fol_follow.specs.declared.entries.BookEvent.TheVariants.{Ask, Visit}
use Rattle.fol_follow.specs.declared.entries.BookEntry.{BookEntry}
use Rattle.fol_follow.specs.Here.{AreKnown, is_known, place_in}

-- an ask that is queued: it is visited in the visit that is this many visits of its entity away
pub record Pending : Type 0 where
  pub entity : ℕ
  pub rest : ℕ

-- what stands after a history: the queued asks by number, the next number, and of which ticks there was a visit
pub record State : Type 0 where
  pub asks : ℕ → Option Pending
  pub next : ℕ
  pub made : ℕ → ℕ → Bool

abbrev pub start : State
start = record { asks = λ n. None; next = 1; made = λ r b. false }

-- ---- a visit

-- the rest of an ask whose entity is there is lowered by one, and at 0 it is queued no more
abbrev pub lowered : List EntityAt → Option Pending → Option Pending
lowered here None = None
lowered here (Some p) = if is_some (place_in here p.entity) then (if nat_eq (p.rest - 1) 0 then None else Some (record { entity = p.entity; rest = p.rest - 1 })) else Some p

abbrev pub visit_at : ℕ → ℕ → BlockPos → rows.Visit
visit_at n entity b = record { number = n; entity = entity; at = b }

-- the visit that an ask of this number gets, where its rest is lowered to 0
abbrev pub visit_due : List EntityAt → ℕ → Option Pending → Option rows.Visit
visit_due here n None = None
visit_due here n (Some p) = if nat_eq (p.rest - 1) 0 then option_map (visit_at n p.entity) (place_in here p.entity) else None

-- the visit of a number, in a list
abbrev pub visit_in : List rows.Visit → ℕ → Option rows.Visit
visit_in vs n = find (λ (v : rows.Visit). nat_eq v.number n) vs

abbrev pub by_number : rows.Visit → rows.Visit → Ordering
by_number a b = nat_cmp a.number b.number

abbrev pub same_number : rows.Visit → rows.Visit → Bool
same_number a b = nat_eq a.number b.number

-- just the visits that are due, in order of number
pub record AreVisits (asks : ℕ → Option Pending) (here : List EntityAt) (visits : List rows.Visit) : Type 0 where
  pub order : IsStrictlySortedBy by_number visits
  pub each : (n : ℕ) → visit_in visits n ≡ visit_due here n (asks n)

-- ---- a run

abbrev pub after : State → BookEvent → State
after s (Ask entity delay (Queued n)) = record s { asks = at_id s.asks n (Some (record { entity = entity; rest = delay })); next = s.next + 1 }
after s (Ask entity delay Unknown) = s
after s (Visit region begun here visits) = record s { asks = λ n. lowered here (s.asks n); made = λ r b. (nat_eq region r && nat_eq begun b) || s.made r b }

abbrev pub answer_to : Opening → State → ℕ → Asked
answer_to o s entity = if is_known o entity then Queued s.next else Unknown

-- where an event is allowed
abbrev pub Allowed : Opening → State → BookEvent → Type 0
Allowed o s (Ask entity delay answer) = (1 ≤ delay) × (delay ≤ 1000000) × (answer ≡ answer_to o s entity)
Allowed o s (Visit region begun here visits) = (s.made region begun ≡ false) × AreKnown o here × AreVisits s.asks here visits

abbrev pub after_all : State → List BookEntry → State
after_all s [] = s
after_all s (e ∷ es) = after_all (after s e.event) es

abbrev pub RunFrom : Opening → State → List BookEntry → Type 0
RunFrom o s [] = Unit {0}
RunFrom o s (e ∷ es) = Allowed o s e.event × RunFrom o (after s e.event) es

-- what stands after the entries
abbrev pub book_after : List BookEntry → State
book_after es = after_all start es

-- each entry is allowed where it stands
abbrev pub IsRun : Opening → List BookEntry → Type 0
IsRun o es = RunFrom o start es

-- ---- what is asked of a history

abbrev pub is_visit_of : ℕ → ℕ → BookEvent → Bool
is_visit_of r b (Ask entity delay answer) = false
is_visit_of r b (Visit region begun here visits) = nat_eq region r && nat_eq begun b

-- it holds a visit of the tick of this region that begun at this place
abbrev pub has_visit : List BookEntry → ℕ → ℕ → Bool
has_visit es r b = list_any (λ (e : BookEntry). is_visit_of r b e.event) es

abbrev pub waiting_at : ℕ → Pending → Waiting
waiting_at n p = record { number = n; entity = p.entity; rest = p.rest }

abbrev pub waiting_in : List Waiting → ℕ → Option Waiting
waiting_in ws n = find (λ (w : Waiting). nat_eq w.number n) ws

-- just the asks that are still queued, in order of number
pub record AreLeft (asks : ℕ → Option Pending) (left : List Waiting) : Type 0 where
  pub order : IsStrictlySortedBy (λ (a b : Waiting). nat_cmp a.number b.number) left
  pub each : (n : ℕ) → waiting_in left n ≡ option_map (waiting_at n) (asks n)
