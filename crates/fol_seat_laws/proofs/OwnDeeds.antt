-- What the seat of a worker recorded besides Begins, among entries of others.
use Rattle.std.proofs.Common.{◌≡◌, ℕ, ◌≤◌, refl, sym, ◌∙◌, true, false, inl, inr, List, [], ◌∷◌, ◌++◌, append_assoc}
use Rattle.std.specs.Prelude.{nat_eq, not, filter}
use Rattle.std.specs.List.{AllByRecursion}
use Rattle.std.proofs.lemmas.Bool.{cases_Bool, true≢false, eq-eqb, eqb-true}
use Rattle.fol_model.specs.declared.openings.Opening.{Opening}
use Rattle.fol_model.specs.declared.regions.State.TheVariants.{Ticking}
use Rattle.fol_model.specs.declared.events.Entry.{Entry}
use Rattle.fol_model.specs.declared.events.Event.{Event}
use Rattle.fol_model.specs.declared.events.Event.TheVariants.{Load, Unload, Post, PhaseOpen, Begin, End, PhaseClose, Finish, Stop}
use Rattle.fol_model.specs.declared.tasks.Ran.{Ran}
use Rattle.fol_model.specs.declared.tasks.Task.{Task}
use Rattle.fol_model.specs.OpenTick.{NoEnd, is_end}
use Rattle.fol_model.specs.World.{World}
use Rattle.fol_model.specs.Run.{RunFrom, after}
use Rattle.fol_model.specs.Legal.{Doing, IsTurn, idle, ticking, worker_of}
use Rattle.fol_laws.proofs.OwnedRuns.{began_ticks, untouched_along}
use Rattle.fol_laws.proofs.WholeRuns.{Good, good_after}
use Rattle.fol_seat_laws.specs.InTurn.{AreInTurn, NoneOpen}
use Rattle.fol_seat_laws.specs.Late.{OnlyBegins}
use Rattle.fol_seat_laws.specs.Signed.{IsSigned, deeds_of, is_named, is_start, own_of}
use Rattle.fol_seat_laws.specs.Turns.{Turns}
use Rattle.fol_seat_laws.proofs.InTick.{InTick, none_begins, other_ends, start_is, tick_more, turn_in_tick}
use Rattle.fol_seat_laws.proofs.OwnEntries.{own_first, own_next}
use Rattle.fol_seat_laws.proofs.Ticking.{begun_worker, end_worker}
use Rattle.fol_seat_laws.proofs.Turning.{IsOfOther, other_worker}

abbrev IsStart : Entry → Type 0
IsStart e = is_start e.event ≡ true

abbrev IsDeed : Entry → Type 0
IsDeed e = is_start e.event ≡ false

deeds : (es : List Entry) → AllByRecursion IsDeed (filter (λ (e : Entry). not (is_start e.event)) es)
deeds [] = tt
deeds (e ∷ es) = elim (cases_Bool (is_start e.event)) [ inl starts ↦ rw starts (deeds es) | inr deed ↦ rw deed (deed, deeds es) ]

no_deeds : (es : List Entry) → AllByRecursion IsStart es → filter (λ (e : Entry). not (is_start e.event)) es ≡ []
no_deeds [] all = refl
no_deeds (e ∷ es) all = let starts = all.0 in rw starts (no_deeds es all.1)

pub none_of_begins : (k : ℕ) (es : List Entry) → OnlyBegins k es → deeds_of k es ≡ []
none_of_begins k es all = no_deeds (own_of k es) all

-- an entry of the worker that is no Begin is one of its seat
own_deed : (k : ℕ) (e : Entry) → 1 ≤ k → IsSigned e → worker_of e.event ≡ k → is_start e.event ≡ false → e.by ≡ k
own_deed k e some signed mine deed = elim (cases_Bool (nat_eq e.by k)) [
  | inl own ↦ eqb-true e.by k own
  | inr other ↦
      let past = other_worker k e some signed (λ starts. absurd (true≢false (sym starts ∙ deed))) (λ own. true≢false (sym (eq-eqb e.by k own) ∙ other)) in
      absurd (true≢false (sym (eq-eqb (worker_of e.event) k mine) ∙ past))
]

-- an entry of no turn of the worker, in front of what its seat recorded
deeds_past : (k : ℕ) (v : World) (d f : Doing) (e : Entry) (es : List Entry) → nat_eq (worker_of e.event) k ≡ false → Turns k v d (deeds_of k (e ∷ es)) f → (u : World) × Turns k u d (deeds_of k es) f
deeds_past k v d f e es other t = elim (cases_Bool (nat_eq e.by k)) [
  | inl own ↦ elim (cases_Bool (is_start e.event)) [
    | inl starts ↦ (v, rw (own, starts) at t)
    | inr deed ↦ let more = rw (own, deed) at t in (after v e.event, rw other at more.1)
  ]
  | inr free ↦ (v, rw free at t)
]

idle_turn : (v : Event) → IsTurn idle v → is_start v ≡ true
idle_turn (Begin k r) ok = refl
idle_turn v ok = absurd ok

-- a worker at nothing stays so, where it records no Begin
idle_on : (k : ℕ) (v : World) (f : Doing) (es : List Entry) → AllByRecursion IsDeed es → Turns k v idle es f → f ≡ idle
idle_on k v f [] all t = sym t
idle_on k v f (e ∷ es) all t = elim (cases_Bool (nat_eq (worker_of e.event) k)) [
  | inl own ↦ absurd (true≢false (sym (idle_turn e.event (t.0 own)) ∙ all.0))
  | inr other ↦ idle_on k (after v e.event) f es all.1 (rw other at t.1)
]

-- a Begin names nobody who has to record it
unnamed : (v : Event) → is_start v ≡ true → is_named v ≡ true → ⊥
unnamed (Begin k r) starts named = absurd (cc)
unnamed (Load k c a) starts named = absurd (cc)
unnamed (Unload k c a) starts named = absurd (cc)
unnamed (Post k c d x a) starts named = absurd (cc)
unnamed (PhaseOpen n) starts named = absurd (cc)
unnamed (End k r tick ran accepts) starts named = absurd (cc)
unnamed PhaseClose starts named = absurd (cc)
unnamed Finish starts named = absurd (cc)
unnamed (Stop k) starts named = absurd (cc)

never_idle : (r : ℕ) (ds : List Task) (told : List Ran) → ticking r ds told ≡ idle → ⊥
never_idle r ds told same = absurd (cc)

module _ (o : Opening) (k : ℕ) (h : List Entry) (some : 1 ≤ k) where
  -- ---- in a tick

  pub deeds_on : (before es : List Entry) (w v : World) (r q : ℕ) (ds left : List Task) (told so_far : List Ran) → AreInTurn h → h ≡ before ++ es → Good o w → RunFrom w es → AllByRecursion IsSigned es
      → InTick k r before w → Turns k v (ticking r ds told) (deeds_of k es) (ticking q left so_far) → Turns k w (ticking r ds told) es (ticking q left so_far)
  deeds_on before [] w v r q ds left told so_far in_turn is good run signed at t = t
  deeds_on before (e ∷ es) w v r q ds left told so_far in_turn is good run signed at t =
      let next : h ≡ (before ++ e ∷ []) ++ es = is ∙ sym (append_assoc before (e ∷ []) es) in
      let later = good_after o w e.event good run.1 in
      elim (cases_Bool (nat_eq (worker_of e.event) k)) [
        | inl own ↦
            let mine : worker_of e.event ≡ k = eqb-true (worker_of e.event) k own in
            let deed : is_start e.event ≡ false = (elim (cases_Bool (is_start e.event)) [
              | inl starts ↦ absurd (none_begins k r h before e es in_turn is at.opened starts mine)
              | inr deed ↦ deed
            ]) in
            let by : nat_eq e.by k ≡ true = eq-eqb e.by k (own_deed k e some signed.0 mine deed) in
            let both = rw (by, deed) at t in
            elim (turn_in_tick r ds told e.event (both.0 own)) [
              | inl on ↦
                  rw (own, on.turns w) (
                    (λ mine. both.0 own),
                    deeds_on (before ++ e ∷ []) es (after w e.event) (after v e.event) r q on.asks left on.tells so_far in_turn next later run.2 signed.1
                        (tick_more o k r before w e good run.0 run.1 on.other at) (rw (own, on.turns v) at both.1),
                  )
              | inr over ↦ absurd (never_idle q left so_far (idle_on k (after v e.event) (ticking q left so_far) (deeds_of k es) (deeds (own_of k es)) (rw (own, over.turns v) at both.1)))
            ]
        | inr other ↦
            let rest = deeds_past k v (ticking r ds told) (ticking q left so_far) e es other t in
            rw other (
              (λ mine. absurd (cc)),
              deeds_on (before ++ e ∷ []) es (after w e.event) rest.0 r q ds left told so_far in_turn next later run.2 signed.1
                  (tick_more o k r before w e good run.0 run.1 (other_ends k r w e run.1 at.worker other) at) rest.1,
            )
      ]

  -- ---- at nothing

  -- what only Begins of the seat follow has no End
  no_end_behind : (es : List Entry) (w : World) (r : ℕ) → Good o w → RunFrom w es → w.grid.state r ≡ Ticking → w.worker r ≡ k → AllByRecursion IsSigned es → OnlyBegins k es → NoEnd r es
  no_end_behind [] w r good run ticks worker signed all = tt
  no_end_behind (e ∷ es) w r good run ticks worker signed all = elim (cases_Bool (is_end r e.event)) [
    | inl ends ↦
        let end = end_worker w r e.event ends run.1 in
        let starts = (own_first IsStart k e es (sym (signed.0 end.0) ∙ end.1 ∙ worker) all).0 in
        absurd (unnamed e.event starts end.0)
    | inr other ↦
        let u = untouched_along o w (e ∷ []) es r good ticks (other, tt) run in
        (other, no_end_behind es (after w e.event) r (good_after o w e.event good run.1) run.2 u.ticks (u.worker ∙ worker) signed.1 (own_next IsStart k e es all))
  ]

  begin_runs_on : (e : Entry) (es : List Entry) (w : World) (r : ℕ) → e.event ≡ Begin k r → Good o w → RunFrom w (e ∷ es) → AllByRecursion IsSigned es → OnlyBegins k es → NoEnd r es
  begin_runs_on e es w r is good run signed all =
      let ticks : (after w e.event).grid.state r ≡ Ticking = rw is (began_ticks w (Begin k r) r (eq-eqb r r refl)) in
      let worker : (after w e.event).worker r ≡ k = rw is (begun_worker w k r) in
      no_end_behind es (after w e.event) r (good_after o w e.event good run.1) run.2 ticks worker signed all

  -- so none of it is of the worker, where the worker has no tick open
  pub none_is_of : (before es : List Entry) (w : World) → h ≡ before ++ es → NoneOpen k h → Good o w → RunFrom w es → AllByRecursion IsSigned es → OnlyBegins k es
      → AllByRecursion (IsOfOther k) es
  none_is_of before [] w is none good run signed all = tt
  none_is_of before (e ∷ es) w is none good run signed all =
      let later = good_after o w e.event good run.1 in
      let rest = own_next IsStart k e es all in
      let first : nat_eq (worker_of e.event) k ≡ false = (elim (cases_Bool (nat_eq (worker_of e.event) k)) [
        | inl own ↦
            let mine : worker_of e.event ≡ k = eqb-true (worker_of e.event) k own in
            let starts : is_start e.event ≡ true = (elim (cases_Bool (is_start e.event)) [
              | inl starts ↦ starts
              | inr deed ↦ (own_first IsStart k e es (own_deed k e some signed.0 mine deed) all).0
            ]) in
            let begin = start_is k e.event starts mine in
            absurd (none before e es begin.0 is begin.1 (begin_runs_on e es w begin.0 begin.1 good run signed.1 rest))
        | inr other ↦ other
      ]) in
      (first, none_is_of (before ++ e ∷ []) es (after w e.event) (is ∙ sym (append_assoc before (e ∷ []) es)) none later run.2 signed.1 rest)
