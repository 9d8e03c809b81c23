-- How a seat goes on.
use Rattle.std.proofs.Common.{◌≡◌, ℕ, refl, sym, ◌∙◌, subst, inl, inr, Bool, true, false, List, [], ◌∷◌, ◌++◌, append_assoc, append-nil}
use Rattle.std.specs.Prelude.{Result, Ok, Err, nat_eq}
use Rattle.std.specs.List.{AllByRecursion}
use Rattle.std.specs.Result.{OnErr, OnOk, is_err}
use Rattle.std.proofs.lemmas.Bool.{cases_Bool, or_cases, true≢false}
use Rattle.fol_lock.proofs.Logs.{given_by-append}
use Rattle.fol_model.specs.declared.openings.Opening.{Opening}
use Rattle.fol_model.specs.declared.events.Entry.{Entry}
use Rattle.fol_model.specs.declared.events.Event.{Event}
use Rattle.fol_model.specs.declared.events.Event.TheVariants as events
use Rattle.fol_model.specs.World.{start}
use Rattle.fol_model.specs.Run.{after_all, world}
use Rattle.fol_laws.proofs.LongerRuns.{world_more}
use Rattle.fol_laws.proofs.SortedRows.{all_append}
use Rattle.fol_core.specs.Answers.{is_over}
use Rattle.fol_core.specs.Meaning.{Stays, world_of}
use Rattle.fol_seat_laws.specs.Late.{OnlyBegins}
use Rattle.fol_seat_laws.specs.Signed.{is_phase, is_start, own_of}
use Rattle.fol_seat_laws.specs.Worked.{WasWhole}
use Rattle.fol_seat_laws.proofs.Stopping.{after_both, all_running}
use Rattle.fol_live.specs.Calls.{AsksForEnd, Stops, Turn}
use Rattle.fol_live.specs.Goes.{Does, Goes, deeds, does_both, does_looks}
use Rattle.fol_live.specs.Seat.{Shown, meaning_of}
use Rattle.fol_live.specs.Turned.{Looks}
use Rattle.fol_live.specs.Turns.{IsLate}
use Rattle.fol_live.proofs.Hosted.{open_now}
use Rattle.fol_live.proofs.OwnTurns.{goes_still, goes_turn}
use Rattle.fol_pool.specs.Works.{Calm, IsBack, IsStuck, Rests, SameSeat, Works}

pub stopped_before : (o : Opening) (h rest : List Entry) → (world o (h ++ rest)).stopped ≡ false → (world o h).stopped ≡ false
stopped_before o h rest go = let whole : (after_all (world o h) rest).stopped ≡ false = rw (← after_both (start o) h rest) go in (all_running (world o h) rest whole).0

-- ---- answers

pub went_well : {P E : Type 0} (r : Result (Unit {0}) E) → is_err r ≡ false → OnOk r P → P
went_well (Ok x) well h = h
went_well (Err e) well h = absurd (cc)

pub went_wrong : {P E : Type 0} (r : Result (Unit {0}) E) → is_err r ≡ true → OnErr r P → P
went_wrong (Ok x) wrong h = absurd (cc)
went_wrong (Err e) wrong h = h

-- ---- entries

-- what holds of each Begin, and of each other one of the entries, holds of all
pub all_of : (P : Entry → Type 0) → ((e : Entry) → is_start e.event ≡ true → P e) → (es : List Entry) → AllByRecursion P (deeds es) → AllByRecursion P es
all_of P begins [] all = tt
all_of P begins (e ∷ es) all = elim (cases_Bool (is_start e.event)) [
  | inl starts ↦ (begins e starts, all_of P begins es (rw starts at all))
  | inr deed ↦ let both = rw deed at all in (both.0, all_of P begins es both.1)
]

pub calm_start : (v : Event) → is_start v ≡ true → is_phase v ≡ false
calm_start (events.Begin k r) starts = refl
calm_start (events.Load k c a) starts = refl
calm_start (events.Unload k c a) starts = refl
calm_start (events.Post k c d x a) starts = refl
calm_start (events.PhaseOpen n) starts = absurd (cc)
calm_start (events.End k r t ran accepts) starts = refl
calm_start events.PhaseClose starts = absurd (cc)
calm_start events.Finish starts = absurd (cc)
calm_start (events.Stop k) starts = refl

abbrev pub IsStart : Entry → Type 0
IsStart e = is_start e.event ≡ true

pub late_starts : (k : ℕ) (es : List Entry) → AllByRecursion (IsLate k) es → AllByRecursion IsStart es
late_starts k [] all = tt
late_starts k (e ∷ es) all = (all.0.begins, late_starts k es all.1)

abbrev pub IsCalm : Entry → Type 0
IsCalm e = is_phase e.event ≡ false

pub starts_calm : (es : List Entry) → AllByRecursion IsStart es → AllByRecursion IsCalm es
starts_calm [] all = tt
starts_calm (e ∷ es) all = (calm_start e.event all.0, starts_calm es all.1)

pub own_starts : (k : ℕ) (es : List Entry) → AllByRecursion IsStart es → OnlyBegins k es
own_starts k [] all = tt
own_starts k (e ∷ es) all = elim (cases_Bool (nat_eq e.by k)) [
  | inl own ↦ rw own (all.0, own_starts k es all.1)
  | inr other ↦ rw other (own_starts k es all.1)
]

pub begins_both : (k : ℕ) (xs ys : List Entry) → OnlyBegins k xs → OnlyBegins k ys → OnlyBegins k (xs ++ ys)
begins_both k xs ys a b =
    rw (given_by-append (λ (e : Entry). e.by) k xs ys) (all_append IsStart (own_of k xs) (own_of k ys) a b)

-- whoever did nothing but Begins
pub only_begins : (s u : Shown) → (d : Does s u []) → OnlyBegins s.number d.goes.rest
only_begins s u d =
    let none = d.deeds_are in
    subst (AllByRecursion IsStart) (sym d.goes.own_is) (all_of IsStart (λ e starts. starts) d.own (rw none tt))

pub looks_begin : (s now : Shown) → (l : Looks s now) → OnlyBegins s.number (l.between ++ l.learnt)
looks_begin s now l =
    let none = l.others in
    begins_both s.number l.between l.learnt (rw none tt) (own_starts s.number l.learnt (late_starts s.number l.learnt l.late))

-- ---- the same seat

pub same_self : (s : Shown) → SameSeat s s
same_self s = record { lock = refl; opening = refl; number = refl }

pub back_self : (s : Shown) → Works s → IsBack s s
back_self s works = record { same = same_self s; works = works }

pub same_then : (s t u : Shown) → SameSeat s t → SameSeat t u → SameSeat s u
same_then s t u a b = record { lock = b.lock ∙ a.lock; opening = b.opening ∙ a.opening; number = b.number ∙ a.number }

pub same_turn : (s now u : Shown) → Turn s now u → SameSeat s u
same_turn s now u t = record {
  lock = t.adds.lock ∙ t.looks.lock;
  opening = t.adds.opening ∙ t.looks.opening;
  number = t.adds.number ∙ t.looks.number;
}

pub back_then : (s t u : Shown) → IsBack s t → SameSeat t u → Works u → IsBack s u
back_then s t u back same works = record { same = same_then s t u back.same same; works = works }

-- ---- a worker's seat

pub calm_goes : (s u : Shown) (own : List Entry) → Calm s → Goes s u own → AllByRecursion IsCalm own → Calm u
calm_goes s u own calm g none = record {
  some = (let n = g.number in rw n calm.some);
  keeps = g.keeps calm.keeps;
  own = (let n = g.number in rw (n, g.seen, given_by-append (λ (e : Entry). e.by) s.number s.seen g.rest, calm.own, g.own_is) (sym g.mine));
  calm = rw g.mine (all_append IsCalm s.mine own calm.calm none);
}

pub calm_does : (s u : Shown) (ds : List Entry) → Calm s → Does s u ds → AllByRecursion IsCalm ds → Calm u
calm_does s u ds calm d none =
    let are = d.deeds_are in
    calm_goes s u d.own calm d.goes (all_of IsCalm (λ e starts. calm_start e.event starts) d.own (rw are none))

pub whole_does : (s u : Shown) → WasWhole s.opening s.seen s.number → Does s u [] → WasWhole u.opening u.seen u.number
whole_does s u whole d =
    let g = d.goes in
    let opening = g.opening in
    let number = g.number in
    let seen = g.seen in
    rw (opening, number, seen) (record {
      seen = whole.seen;
      rest = whole.rest ++ g.rest;
      is = (let is = whole.is in rw is (append_assoc whole.seen whole.rest g.rest));
      behind = begins_both s.number whole.rest g.rest whole.behind (only_begins s u d);
      ticks = whole.ticks;
    })

pub works_does : (s u : Shown) → Works s → Does s u [] → Works u
works_does s u works d = record { calm = calm_does s u [] works.calm d tt; whole = whole_does s u works.whole d }

-- a turn in which it recorded nothing but Begins
pub does_still : (s now u : Shown) → Turn s now u → Stays (meaning_of now) (meaning_of u) → Does s u []
does_still s now u t same =
    let still : Does now u [] = record { own = []; goes = goes_still s now u t same.history; deeds_are = refl } in
    does_both s now u [] [] (does_looks s now t.looks) still

-- a turn in which it recorded one event besides
pub does_one : (s now u : Shown) (v : Event) → Turn s now u → u.seen ≡ now.seen ++ (record { by = s.number; event = v }) ∷ [] → is_start v ≡ false
    → Does s u ((record { by = s.number; event = v }) ∷ [])
does_one s now u v t seen deed =
    let e : Entry = record { by = s.number; event = v } in
    let one : Does now u (e ∷ []) = record { own = e ∷ []; goes = goes_turn s now u (e ∷ []) t seen; deeds_are = rw deed refl } in
    does_both s now u [] (e ∷ []) (does_looks s now t.looks) one

-- it asked whether the history is over
pub asked_rests : (s u : Shown) (over : Bool) → Rests s → AsksForEnd s u over → Rests u
asked_rests s u over rests did = record {
  works = works_does s u rests.works (does_still s did.now u did.turn did.same);
  free = (let hand = did.hand in rw hand rests.free);
}

-- ---- giving up

-- after a Stop nothing is asked of its ticks
no_ticks : (u : Shown) → Calm u → (world u.opening u.seen).stopped ≡ true → Works u
no_ticks u calm stopped = record {
  calm = calm;
  whole = record { seen = u.seen; rest = []; is = sym (append-nil u.seen); behind = tt; ticks = λ go. absurd (true≢false (sym stopped ∙ go)) };
}

-- of a seat that holds a tick: the history was not finished
pub stop_holds : (s u : Shown) → IsStuck s → Stops s u → Works u
stop_holds s u stuck did = elim (cases_Bool (is_over (world_of (meaning_of did.now)))) [
  | inl over ↦
      let same = rw over at did.recorded in
      let stopped : (world_of (meaning_of did.now)).stopped ≡ true = elim (or_cases (world_of (meaning_of did.now)).finished (world_of (meaning_of did.now)).stopped over) [
        | inl finished ↦ absurd (true≢false (sym finished ∙ open_now s did.now did.turn.looks stuck.holds))
        | inr stopped ↦ stopped
      ] in
      let opening = did.turn.adds.opening in
      let seen = same.history in
      let still : Does s u [] = does_both s did.now u [] [] (does_looks s did.now did.turn.looks) (record { own = []; goes = goes_still s did.now u did.turn seen; deeds_are = refl }) in
      no_ticks u (calm_does s u [] stuck.calm still tt) (rw (opening, seen) stopped)
  | inr going ↦
      let one = rw going at did.recorded in
      let e : Entry = record { by = s.number; event = events.Stop s.number } in
      let seen = one.history in
      no_ticks u (calm_does s u (e ∷ []) stuck.calm (does_one s did.now u (events.Stop s.number) did.turn seen refl) (refl, tt))
      (rw (seen, world_more (start u.opening) did.now.seen e) refl)
]
