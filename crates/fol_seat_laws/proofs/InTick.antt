-- A worker in a tick has the tick of that region open, which ends by an entry of that worker alone.
use Rattle.std.proofs.Common.{◌≡◌, ℕ, refl, sym, ◌∙◌, ap, subst, true, false, inl, inr, List, [], ◌∷◌, ◌++◌, append_assoc, append-nil, IsTrue}
use Rattle.std.specs.Prelude.{◌≢◌, ◌⊎◌, nat_eq}
use Rattle.std.proofs.lemmas.Bool.{cases_Bool, true≢false, eq-eqb, eqb-true}
use Rattle.fol_model.specs.declared.openings.Opening.{Opening}
use Rattle.fol_model.specs.declared.regions.State.TheVariants.{Ticking}
use Rattle.fol_model.specs.declared.events.Entry.{Entry}
use Rattle.fol_model.specs.declared.events.Event.{Event}
use Rattle.fol_model.specs.declared.events.Event.TheVariants.{Load, Unload, Post, PhaseOpen, Begin, End, PhaseClose, Finish, Stop}
use Rattle.fol_model.specs.declared.tasks.Ran.{Ran}
use Rattle.fol_model.specs.declared.tasks.Task.{Task}
use Rattle.fol_model.specs.OpenTick.{NoEnd, is_end}
use Rattle.fol_model.specs.QueuedTask.{begun}
use Rattle.fol_model.specs.World.{World, due}
use Rattle.fol_model.specs.Run.{Allowed, RunFrom, after, after_all}
use Rattle.fol_model.specs.Legal.{Doing, IsTurn, asking, idle, load_outcome, ticking, turn, unload_outcome, worker_of}
use Rattle.fol_laws.proofs.OwnedRuns.{began_ticks, untouched_along}
use Rattle.fol_laws.proofs.WholeRuns.{Good, good_after}
use Rattle.fol_seat_laws.specs.InTurn.{AreInTurn, NoneOpen}
use Rattle.fol_seat_laws.specs.Signed.{is_start}
use Rattle.fol_seat_laws.specs.Turns.{Turns}
use Rattle.fol_seat_laws.proofs.Ticking.{begun_worker, end_worker}
use Rattle.fol_seat_laws.proofs.Turning.{turned}

-- ---- the worker's last Begin

-- the tick of r that worker k began is open after the history
pub record Opened (k r : ℕ) (h : List Entry) : Type 0 where
  pub before : List Entry
  pub begin : Entry
  pub since : List Entry
  pub is : h ≡ before ++ begin ∷ since
  pub begins : begin.event ≡ Begin k r
  pub runs_on : NoEnd r since

no_end_more : (r : ℕ) (es : List Entry) (e : Entry) → NoEnd r es → is_end r e.event ≡ false → NoEnd r (es ++ e ∷ [])
no_end_more r [] e none other = (other, tt)
no_end_more r (x ∷ es) e none other = (none.0, no_end_more r es e none.1 other)

opened_more : (k r : ℕ) (h : List Entry) (e : Entry) → Opened k r h → is_end r e.event ≡ false → Opened k r (h ++ e ∷ [])
opened_more k r h e was other = record {
  before = was.before;
  begin = was.begin;
  since = was.since ++ e ∷ [];
  is = ap (λ (es : List Entry). es ++ e ∷ []) was.is ∙ append_assoc was.before (was.begin ∷ was.since) (e ∷ []);
  begins = was.begins;
  runs_on = no_end_more r was.since e was.runs_on other;
}

-- a Begin of a worker, by its region
pub start_is : (k : ℕ) (v : Event) → is_start v ≡ true → worker_of v ≡ k → (r : ℕ) × (v ≡ Begin k r)
start_is k (Load caller c a) starts mine = absurd (cc)
start_is k (Unload caller c a) starts mine = absurd (cc)
start_is k (Post caller c d x a) starts mine = absurd (cc)
start_is k (PhaseOpen n) starts mine = absurd (cc)
start_is k (Begin worker r) starts mine = (r, ap (λ (j : ℕ). Begin j r) mine)
start_is k (End worker r tick ran accepts) starts mine = absurd (cc)
start_is k PhaseClose starts mine = absurd (cc)
start_is k Finish starts mine = absurd (cc)
start_is k (Stop caller) starts mine = absurd (cc)

-- where Begins come in turn, a worker that has a tick open begins none
pub none_begins : (k r : ℕ) (h before : List Entry) (e : Entry) (es : List Entry) → AreInTurn h → h ≡ before ++ e ∷ es → Opened k r before → is_start e.event ≡ true → worker_of e.event ≢ k
none_begins k r h before e es in_turn is now starts mine =
    let begin = start_is k e.event starts mine in
    in_turn before e es k begin.0 is begin.1 now.before now.begin now.since r now.is now.begins now.runs_on

-- ---- in a tick

-- the tick of r is open after the history, and in the world there
pub record InTick (k r : ℕ) (h : List Entry) (w : World) : Type 0 where
  pub opened : Opened k r h
  pub ticks : w.grid.state r ≡ Ticking
  pub worker : w.worker r ≡ k

-- what a worker is at tells which tick it has open
abbrev pub IsAt : ℕ → List Entry → World → Doing → Type 0
IsAt k h w idle = Unit {0}
IsAt k h w (ticking r ds told) = InTick k r h w

-- an entry that is no End of the tick's region
pub tick_more : (o : Opening) (k r : ℕ) (h : List Entry) (w : World) (e : Entry) → Good o w → w.finished ≡ false → Allowed w e.event → is_end r e.event ≡ false → InTick k r h w
    → InTick k r (h ++ e ∷ []) (after w e.event)
tick_more o k r h w e good free allowed other t =
    let u = untouched_along o w (e ∷ []) [] r good t.ticks (other, tt) (free, allowed, tt) in
    record { opened = opened_more k r h e t.opened other; ticks = u.ticks; worker = u.worker ∙ t.worker }

-- an entry that is not of the worker ends none of its ticks
pub other_ends : (k r : ℕ) (w : World) (e : Entry) → Allowed w e.event → w.worker r ≡ k → nat_eq (worker_of e.event) k ≡ false → is_end r e.event ≡ false
other_ends k r w e allowed worker other = elim (cases_Bool (is_end r e.event)) [
  | inl ends ↦ let end = end_worker w r e.event ends allowed in absurd (true≢false (sym (eq-eqb (worker_of e.event) k (end.1 ∙ worker)) ∙ other))
  | inr none ↦ none
]

module _ (o : Opening) (k : ℕ) (h : List Entry) (w : World) (e : Entry) (good : Good o w) (free : w.finished ≡ false) (allowed : Allowed w e.event) where
  at_other : (d : Doing) → nat_eq (worker_of e.event) k ≡ false → IsAt k h w d → IsAt k (h ++ e ∷ []) (after w e.event) d
  at_other idle other at = tt
  at_other (ticking r ds told) other at = tick_more o k r h w e good free allowed (other_ends k r w e allowed at.worker other) at

  begins_tick : (j r : ℕ) → e.event ≡ Begin j r → j ≡ k → InTick k r (h ++ e ∷ []) (after w e.event)
  begins_tick j r is mine = record {
    opened = record {
      before = h;
      begin = e;
      since = [];
      is = refl;
      begins = is ∙ ap (λ (i : ℕ). Begin i r) mine;
      runs_on = tt;
    };
    ticks = rw is (began_ticks w (Begin j r) r (eq-eqb r r refl));
    worker = rw is (begun_worker w j r ∙ mine);
  }

  at_own : (d : Doing) (v : Event) → e.event ≡ v → worker_of v ≡ k → IsTurn d v → IsAt k h w d → IsAt k (h ++ e ∷ []) (after w e.event) (turn w d v)
  at_own idle (Begin j r) is mine ok at = begins_tick j r is mine
  at_own (ticking r (t ∷ ts) told) (Load j c a) is mine ok at = tick_more o k r h w e good free allowed (rw is refl) at
  at_own (ticking r (t ∷ ts) told) (Unload j c a) is mine ok at = tick_more o k r h w e good free allowed (rw is refl) at
  at_own (ticking r [] told) (End j q tick ran accepts) is mine ok at = tt
  at_own d v is mine ok at = absurd ok

  at_after : (d : Doing) → (IsTrue (nat_eq (worker_of e.event) k) → IsTurn d e.event) → IsAt k h w d → IsAt k (h ++ e ∷ []) (after w e.event) (turned k w d e)
  at_after d ok at = elim (cases_Bool (nat_eq (worker_of e.event) k)) [
    | inl own ↦ rw own (at_own d e.event refl (eqb-true (worker_of e.event) k own) (ok own) at)
    | inr other ↦ rw other (at_other d other at)
  ]

-- along all that was seen
pub at_along : (o : Opening) (k : ℕ) (seen h es rest : List Entry) (w : World) (d f : Doing) → seen ≡ h ++ es → Good o w → RunFrom w (es ++ rest) → IsAt k h w d → Turns k w d es f
    → IsAt k seen (after_all w es) f
at_along o k seen h [] rest w d f is good run at t = rw (is, append-nil, ← t) at
at_along o k seen h (e ∷ es) rest w d f is good run at t =
    at_along o k seen (h ++ e ∷ []) es rest (after w e.event) (turned k w d e) f (is ∙ sym (append_assoc h (e ∷ []) es)) (good_after o w e.event good run.1) run.2
    (at_after o k h w e good run.0 run.1 d t.0 at) t.1

-- ---- a turn in a tick

-- the turn leaves the worker in the tick
pub record GoesOn (r : ℕ) (ds : List Task) (told : List Ran) (v : Event) : Type 0 where
  pub asks : List Task
  pub tells : List Ran
  pub turns : (w : World) → turn w (ticking r ds told) v ≡ ticking r asks tells
  pub other : is_end r v ≡ false

-- the turn is the End of the tick
pub record Ends (r : ℕ) (ds : List Task) (told : List Ran) (v : Event) : Type 0 where
  pub turns : (w : World) → turn w (ticking r ds told) v ≡ idle
  pub ends : is_end r v ≡ true

pub turn_in_tick : (r : ℕ) (ds : List Task) (told : List Ran) (v : Event) → IsTurn (ticking r ds told) v → GoesOn r ds told v ⊎ Ends r ds told v
turn_in_tick r (t ∷ ts) told (Load k c a) ok = inl (record {
  asks = ts;
  tells = told ++ (record { number = t.number; outcome = load_outcome a }) ∷ [];
  turns = λ w. refl;
  other = refl;
})
turn_in_tick r (t ∷ ts) told (Unload k c a) ok = inl (record {
  asks = ts;
  tells = told ++ (record { number = t.number; outcome = unload_outcome a }) ∷ [];
  turns = λ w. refl;
  other = refl;
})
turn_in_tick r [] told (End k q tick ran accepts) ok = inr (record { turns = λ w. refl; ends = eq-eqb q r ok.0 })
turn_in_tick r ds told v ok = absurd ok

-- ---- whole ticks

-- a worker whose tick is not ended is not at nothing
still_ticks : (k : ℕ) (w : World) (r : ℕ) (ds : List Task) (told : List Ran) (es : List Entry) → NoEnd r es → Turns k w (ticking r ds told) es idle → ⊥
still_ticks k w r ds told [] none t = absurd (cc)
still_ticks k w r ds told (e ∷ es) none t = elim (cases_Bool (nat_eq (worker_of e.event) k)) [
  | inl own ↦ elim (turn_in_tick r ds told e.event (t.0 own)) [
    | inl on ↦ still_ticks k (after w e.event) r on.asks on.tells es none.1 (rw (own, on.turns w) at t.1)
    | inr over ↦ true≢false (sym over.ends ∙ none.0)
  ]
  | inr other ↦ still_ticks k (after w e.event) r ds told es none.1 (rw other at t.1)
]

tick_begun : (k j r : ℕ) (w v : World) (d : Doing) (es : List Entry) → IsTurn d (Begin j r) → NoEnd r es → Turns k v (turn w d (Begin j r)) es idle → ⊥
tick_begun k j r w v idle es ok none t = still_ticks k v r (asking (due (begun w j r) r)) [] es none t
tick_begun k j r w v (ticking q [] told) es ok none t = absurd ok
tick_begun k j r w v (ticking q (x ∷ ds) told) es ok none t = absurd ok

none_left : (k r : ℕ) (w : World) (d : Doing) (before : List Entry) (e : Entry) (since : List Entry) → e.event ≡ Begin k r → NoEnd r since → Turns k w d (before ++ e ∷ since) idle → ⊥
none_left k r w d [] e since begins none t =
    let own : nat_eq (worker_of e.event) k ≡ true = eq-eqb (worker_of e.event) k (ap worker_of begins) in
    let later : Turns k (after w e.event) (turn w d e.event) since idle = rw own at t.1 in
    let ok : IsTurn d e.event = t.0 own in
    tick_begun k k r w (after w e.event) d since (rw begins at ok) none (subst (λ (v : Event). Turns k (after w e.event) (turn w d v) since idle) begins later)
none_left k r w d (x ∷ before) e since begins none t = none_left k r (after w x.event) (turned k w d x) before e since begins none t.1

pub none_open : (k : ℕ) (w : World) (h : List Entry) → Turns k w idle h idle → NoneOpen k h
none_open k w h t before e since r is begins none = none_left k r w idle before e since begins none (rw is at t)
