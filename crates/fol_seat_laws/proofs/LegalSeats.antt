-- All seats together tell that the history is legal.
use Rattle.std.proofs.Common.{◌≡◌, ℕ, ◌≤◌, refl, sym, ◌∙◌, ap, arith, true, false, inl, inr, List, [], ◌∷◌, ◌++◌, IsTrue}
use Rattle.std.specs.Prelude.{◌≢◌, nat_eq, nat_le}
use Rattle.std.specs.List.{AllByRecursion, list_all}
use Rattle.std.proofs.lemmas.List.{append-nil}
use Rattle.std.proofs.lemmas.Bool.{cases_eq, true≢false, eq-eqb, ne_eqb, le-leb, and_from}
use Rattle.fol_model.specs.declared.openings.Opening.{Opening}
use Rattle.fol_model.specs.declared.scripts.Command.{Command}
use Rattle.fol_model.specs.declared.regions.State.TheVariants.{Ticking}
use Rattle.fol_model.specs.declared.events.Entry.{Entry}
use Rattle.fol_model.specs.declared.events.Event.{Event}
use Rattle.fol_model.specs.declared.events.Event.TheVariants.{Load, Unload, Post, PhaseOpen, Begin, End, PhaseClose, Finish, Stop}
use Rattle.fol_model.specs.GridNumbers.{IsGrid}
use Rattle.fol_model.specs.World.{start}
use Rattle.fol_model.specs.Run.{Run, RunFrom, after, after_all, world}
use Rattle.fol_model.specs.Legal.{Legal, Order, idle, is_of, orders, orders_of, worker_of, WholeTicks}
use Rattle.fol_model.specs.OpenTick.{is_begin}
use Rattle.fol_laws.proofs.OwnedRuns.{owned}
use Rattle.fol_core.proofs.FinishedRuns.{not_finished}
use Rattle.fol_seat_laws.specs.InTurn.{NoneOpen}
use Rattle.fol_seat_laws.specs.Signed.{IsBegunBelow, IsSigned, is_phase, is_call, is_named, is_start, is_stop, own_of}
use Rattle.fol_seat_laws.specs.Turns.{Turns}
use Rattle.fol_seat_laws.specs.Worked.{Called, Worked, SeatsMakeLegal}
use Rattle.fol_seat_laws.proofs.OwnEntries.{own_first, own_next}
use Rattle.fol_seat_laws.proofs.Stopping.{all_running, after_both, run_behind, nothing_behind}
use Rattle.fol_seat_laws.proofs.LateTurns.{stays_idle}
use Rattle.fol_seat_laws.proofs.Turning.{turns_whole}

abbrev IsCalm : Entry → Type 0
IsCalm e = is_phase e.event ≡ false

abbrev IsCall : Entry → Type 0
IsCall e = is_call e.event ≡ true

-- who is no caller opens and closes no phase, and who is ends no tick
pub record Kind (w : ℕ) (e : Entry) : Type 0 where
  pub low : e.by ≤ w
  pub signed : IsSigned e
  pub begun : IsBegunBelow w e
  pub calm : e.by ≢ 0 → IsCalm e
  pub call : e.by ≡ 0 → IsCall e

kinds : (w : ℕ) (es : List Entry) → AllByRecursion IsSigned es → AllByRecursion (λ e. e.by ≤ w) es → AllByRecursion (IsBegunBelow w) es
    → ((k : ℕ) → 1 ≤ k → k ≤ w → AllByRecursion IsCalm (own_of k es)) → AllByRecursion IsCall (own_of 0 es) → AllByRecursion (Kind w) es
kinds w [] signed few begun calm calls = tt
kinds w (e ∷ es) signed few begun calm calls = (
  record {
    low = few.0;
    signed = signed.0;
    begun = begun.0;
    calm = λ other. (own_first IsCalm e.by e es refl (calm e.by (omega arith) few.0)).0;
    call = λ own. (own_first IsCall 0 e es own calls).0;
  },
  kinds w es signed.1 few.1 begun.1 (λ k low high. own_next IsCalm k e es (calm k low high)) (own_next IsCall 0 e es calls),
)

-- ---- the commands

-- an entry of another seat is no order
no_order : (w : ℕ) (e : Entry) (v : Event) → e.event ≡ v → Kind w e → e.by ≢ 0 → orders_of v ≡ []
no_order w e (Load caller c a) is kind other = let s : caller ≡ e.by = ap worker_of (sym is) ∙ kind.signed (ap is_named is) in let t : nat_eq caller 0 ≡ false = ne_eqb caller 0 (λ z. other (sym s ∙ z)) in rw t refl
no_order w e (Unload caller c a) is kind other = let s : caller ≡ e.by = ap worker_of (sym is) ∙ kind.signed (ap is_named is) in let t : nat_eq caller 0 ≡ false = ne_eqb caller 0 (λ z. other (sym s ∙ z)) in rw t refl
no_order w e (Post caller c d x a) is kind other = let s : caller ≡ e.by = ap worker_of (sym is) ∙ kind.signed (ap is_named is) in let t : nat_eq caller 0 ≡ false = ne_eqb caller 0 (λ z. other (sym s ∙ z)) in rw t refl
no_order w e (PhaseOpen n) is kind other = let never : true ≡ false = ap is_phase (sym is) ∙ kind.calm other in absurd (cc)
no_order w e (Begin worker r) is kind other = refl
no_order w e (End worker r tick ran accepts) is kind other = refl
no_order w e PhaseClose is kind other = let never : true ≡ false = ap is_phase (sym is) ∙ kind.calm other in absurd (cc)
no_order w e Finish is kind other = refl
no_order w e (Stop caller) is kind other = refl

orders_own : (w : ℕ) (es : List Entry) → AllByRecursion (Kind w) es → orders es ≡ orders (own_of 0 es)
orders_own w [] kinds = refl
orders_own w (e ∷ es) kinds = elim (cases_eq e.by 0) [
  | inl own ↦ let t : nat_eq e.by 0 ≡ true = eq-eqb e.by 0 own in rw t (ap (λ (os : List Order). orders_of e.event ++ os) (orders_own w es kinds.1))
  | inr other ↦
      let t : nat_eq e.by 0 ≡ false = ne_eqb e.by 0 other in
      rw t (ap (λ (os : List Order). os ++ orders es) (no_order w e e.event refl kinds.0 other) ∙ orders_own w es kinds.1)
]

-- ---- the workers

module _ (w : ℕ) (e : Entry) (kind : Kind w e) where
  some : is_call e.event ≡ false → 1 ≤ e.by
  some none = elim (cases_eq e.by 0) [
    | inl zero ↦ absurd (true≢false (sym (kind.call zero) ∙ none))
    | inr other ↦ omega arith
  ]

  of_worker : (k : ℕ) → k ≡ e.by → is_call e.event ≡ false → (nat_le 1 k ≡ true) × (nat_le k w ≡ true)
  of_worker k is none = let a = some none in let b = kind.low in (le-leb 1 k (omega arith), le-leb k w (omega arith))

  of_caller : (k : ℕ) → k ≡ e.by → nat_le k w ≡ true
  of_caller k is = let b = kind.low in le-leb k w (omega arith)

is_one : (w : ℕ) (e : Entry) (v : Event) → e.event ≡ v → Kind w e → is_stop v ≡ false → is_of w v ≡ true
is_one w e (Load caller c a) is kind go = of_caller w e kind caller (ap worker_of (sym is) ∙ kind.signed (ap is_named is))
is_one w e (Unload caller c a) is kind go = of_caller w e kind caller (ap worker_of (sym is) ∙ kind.signed (ap is_named is))
is_one w e (Post caller c d x a) is kind go = of_caller w e kind caller (ap worker_of (sym is) ∙ kind.signed (ap is_named is))
is_one w e (PhaseOpen n) is kind go = le-leb 0 w (omega arith)
is_one w e (Begin worker r) is kind go =
    let begun = kind.begun (ap is_start is) in
    let same : worker ≡ worker_of e.event = ap worker_of (sym is) in
    and_from (nat_le 1 worker) (nat_le worker w) (le-leb 1 worker (omega (arith, begun.some, same))) (le-leb worker w (omega (arith, begun.low, same)))
is_one w e (End worker r tick ran accepts) is kind go =
    let both = of_worker w e kind worker (ap worker_of (sym is) ∙ kind.signed (ap is_named is)) (ap is_call is) in
    and_from (nat_le 1 worker) (nat_le worker w) both.0 both.1
is_one w e PhaseClose is kind go = le-leb 0 w (omega arith)
is_one w e Finish is kind go = le-leb 0 w (omega arith)
is_one w e (Stop caller) is kind go = absurd (cc)

all_of : (w : ℕ) (es : List Entry) → AllByRecursion (Kind w) es → AllByRecursion (λ e. is_stop e.event ≡ false) es → IsTrue (list_all (λ e. is_of w e.event) es)
all_of w [] kinds go = refl
all_of w (e ∷ es) kinds go = let one : is_of w e.event ≡ true = is_one w e e.event refl kinds.0 go.0 in rw one (all_of w es kinds.1 go.1)

-- ---- all of it

abbrev finish : Entry
finish = record { by = 0; event = Finish }

module _ (o : Opening) (script : List Command) (w : ℕ) (h : List Entry) (grid : IsGrid o.grid) (run : Run o h) (signed : AllByRecursion IsSigned h)
    (few : AllByRecursion (λ e. e.by ≤ w) h) (begun : AllByRecursion (IsBegunBelow w) h) (called : Called h script) (worked : (k : ℕ) → 1 ≤ k → k ≤ w → Worked o h k) where
  at_finish : RunFrom (world o called.seen) (finish ∷ called.rest)
  at_finish = let whole : Run o (called.seen ++ finish ∷ called.rest) = rw called.is at run in run_behind (start o) called.seen (finish ∷ called.rest) whole

  ends : h ≡ called.seen ++ finish ∷ []
  ends = called.is ∙ ap (λ (es : List Entry). called.seen ++ finish ∷ es) (nothing_behind (after (world o called.seen) Finish) called.rest refl at_finish.2)

  running : (world o h).stopped ≡ false
  running = rw (ends, after_both (start o) called.seen (finish ∷ [])) at_finish.1.1

  finished : (world o h).finished ≡ true
  finished = rw (ends, after_both (start o) called.seen (finish ∷ [])) refl

  all_kinds : AllByRecursion (Kind w) h
  all_kinds = kinds w h signed few begun (λ k low high. (worked k low high).calm) called.calls

  -- the history is finished, so no region ticks any more, and each Begin has its End
  none_open_now : (k : ℕ) → NoneOpen k h
  none_open_now k before e since r is begins none =
      let e_is : is_begin r e.event ≡ true = rw begins (eq-eqb r r refl) in
      let mid : Run o (before ++ e ∷ (since ++ [])) = rw (append-nil since, ← is) run in
      let u = owned o before since [] e r grid e_is none mid in
      let ticks : (world o h).grid.state r ≡ Ticking = rw (is, after_both (start o) before (e ∷ since)) u.ticks in
      true≢false (sym finished ∙ not_finished o h grid run r ticks)

  whole_ticks : (k : ℕ) → 1 ≤ k → k ≤ w → WholeTicks k (start o) idle h
  whole_ticks k low high =
      let did = (worked k low high).whole in
      let go : (after_all (world o did.seen) did.rest).stopped ≡ false = rw (did.is, after_both (start o) did.seen did.rest) at running in
      let seen = did.ticks (all_running (world o did.seen) did.rest go).0 in
      turns_whole k (start o) idle h (stays_idle o k h did.seen did.rest did.is grid run signed low did.behind seen (none_open_now k))

  legal : Legal o script w h
  legal = record {
    run = run;
    commands = orders_own w h all_kinds ∙ called.commands;
    workers = all_of w h all_kinds (all_running (start o) h running).1;
    ticks = whole_ticks;
    others = called.seen;
    by = 0;
    finish = ends;
  }

pub seats_make_legal : SeatsMakeLegal
seats_make_legal = legal
