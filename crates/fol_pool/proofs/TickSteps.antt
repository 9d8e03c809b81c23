-- A tick of a worker, from its claim to its End.
use Rattle.std.proofs.Common.{◌≡◌, ℕ, refl, ◌∙◌, ap, subst, inl, inr, true, false, List, [], ◌∷◌, ◌++◌, filter, length, map, append_assoc, Some, None}
use Rattle.std.specs.Prelude.{◌+◌, nat_eq, Ok, Err, IsSome}
use Rattle.std.specs.Global.{Box}
use Rattle.std.specs.List.{AllByRecursion, list_any}
use Rattle.std.proofs.lemmas.Bool.{eq-eqb}
use Rattle.fol_model.specs.ActionStep.{plain_of}
use Rattle.fol_model.specs.declared.openings.Opening.{Opening}
use Rattle.fol_model.specs.declared.events.Entry.{Entry}
use Rattle.fol_model.specs.declared.events.Event.TheVariants.{End}
use Rattle.fol_model.specs.declared.tasks.Ran.{Ran}
use Rattle.fol_model.specs.declared.tasks.Task.{Task}
use Rattle.fol_model.specs.declared.events.Accept.{Accept}
use Rattle.fol_model.specs.End.{answers, run_down, ticked}
use Rattle.fol_model.specs.QueuedTask.{begun}
use Rattle.fol_model.specs.World.{start}
use Rattle.fol_model.specs.Run.{world}
use Rattle.fol_model.specs.Legal.{asking, idle, ticking}
use Rattle.fol_laws.proofs.OutcomeLaws.{due_tasks_rise}
use Rattle.fol_chunks.specs.Contents.{flat_of, is_recorded}
use Rattle.fol_data.specs.declared.tick.Tick.{Tick}
use Rattle.fol_tick.specs.Calls.{HostCall, action_called, hosted, told}
use Rattle.fol_tick.specs.Calls as calls
use Rattle.fol_tick.specs.Runs.{Finishes, Runs}
use Rattle.fol_world.specs.AtEnd.{end_event}
use Rattle.fol_core.specs.Meaning.{world_of}
use Rattle.fol_offers.specs.PassedTicks.{quiet_entries}
use Rattle.fol_tick_laws.proofs.BegunTicks.{due_is}
use Rattle.fol_tick_laws.proofs.FinishedTicks.{all_ran, all_served}
use Rattle.fol_tick_laws.proofs.ToldAgain.{told_again}
use Rattle.fol_tick_laws.specs.OpenTicks.{IsOpen}
use Rattle.fol_offers.specs.Fit.{IsFitTick}
use Rattle.fol_laws.proofs.SortedRows.{all_append}
use Rattle.fol_seat_laws.specs.Signed.{deeds_of, is_phase}
use Rattle.fol_seat_laws.specs.Turns.{Turns}
use Rattle.fol_seat_laws.specs.Worked.{WasWhole}
use Rattle.fol_seat_laws.proofs.LateTicks.{late_turn}
use Rattle.fol_seat_laws.proofs.LateTurns.{deeds_go_on, stays_in_tick}
use Rattle.fol_seat_laws.proofs.Turning.{turned, turns_more}
use Rattle.fol_live.specs.Calls.{Claims, Misses, PassesOn, Releases}
use Rattle.fol_live.specs.Goes.{Hosts, Serves, deeds, does_both, does_looks, entries_of}
use Rattle.fol_live.specs.Kept.{Keeps}
use Rattle.fol_live.specs.Seat.{Shown, held, held_in, meaning_of}
use Rattle.fol_live.specs.Turned.{Looks}
use Rattle.fol_live.specs.Turns.{IsLate}
use Rattle.fol_live.proofs.HeldTicks.{claimed_held, run_held}
use Rattle.fol_live.proofs.Hosted.{still_holds}
use Rattle.fol_live.proofs.OwnTurns.{goes_turn}
use Rattle.fol_pool.specs.Works.{Calm, HasRun, Holds, IsStuck, Rests, SameSeat}
use Rattle.fol_pool.proofs.Asked.{turns_asked}
use Rattle.fol_pool.proofs.Going.{IsCalm, IsStart, begins_both, calm_does, calm_goes, does_still, late_starts, looks_begin, own_starts, starts_calm, stopped_before}
use Rattle.fol_pool.proofs.QuietTurns.{quiet_calm, whole_passed}

-- ---- the claim

pub claim_same : (s u : Shown) (tick : Tick) → Claims s u tick → SameSeat s u
claim_same s u tick did = let is = did.same in rw is (record { lock = refl; opening = refl; number = refl })

pub claim_holds : (s u : Shown) (tick : Tick) → Rests s → Claims s u tick → Holds u tick
claim_holds s u tick rests did = record {
  works = (let is = did.same in rw is (record { calm = record { some = rests.works.calm.some; keeps = rests.works.calm.keeps; own = rests.works.calm.own; calm = rests.works.calm.calm }; whole = rests.works.whole }));
  out = claimed_held s u tick did;
}

pub miss_same : (s u : Shown) → Misses s u → SameSeat s u
miss_same s u did = let is = did.is in rw is (record { lock = refl; opening = refl; number = refl })

pub miss_rests : (s u : Shown) → Rests s → Misses s u → Rests u
miss_rests s u rests did =
    let after = did.misses.misses.is in
    let was = did.was in
    let free : held_in (Some did.after) ≡ None = rw after (rw was at rests.free) in
    let is = did.is in
    rw is (record {
      works = record { calm = record { some = rests.works.calm.some; keeps = rests.works.calm.keeps; own = rests.works.calm.own; calm = rests.works.calm.calm }; whole = rests.works.whole };
      free = free;
    })

-- ---- the Begin, whoever recorded it

module _ (s now : Shown) (tick : Tick) (holds : Holds s tick) (looks : Looks s now) where
  abbrev offered : Tick
  offered = record holds.out.offered { worker = s.number }

  whole : WasWhole now.opening s.seen s.number
  whole = let o = looks.opening in rw o holds.works.whole

  -- with its turn the worker is in its tick
  pub turns_begun : (world now.opening now.seen).stopped ≡ false → Turns now.number (start now.opening) idle now.seen (ticking tick.region (asking tick.due) [])
  turns_begun go =
      let opened : IsOpen (meaning_of now) offered = looks.opened holds.out.offered holds.out.holds in
      let behind = looks.between ++ looks.learnt in
      let cut : now.seen ≡ whole.seen ++ (whole.rest ++ behind)
      = looks.seen ∙ ap (λ (es : List Entry). es ++ behind) whole.is ∙ append_assoc whole.seen whole.rest behind in
      let begins = begins_both s.number whole.rest behind whole.behind (looks_begin s now looks) in
      let before : Turns s.number (start now.opening) idle whole.seen idle
      = whole.ticks (stopped_before now.opening whole.seen (whole.rest ++ behind) (rw cut at go)) in
      let t : Turns s.number (start now.opening) idle now.seen (ticking offered.region (asking offered.due) [])
      = late_turn now.opening s.number now.seen whole.seen (whole.rest ++ behind) cut looks.keeps.grid looks.keeps.run looks.keeps.signed looks.keeps.turns.turns holds.works.calm.some
      begins before offered refl opened.made opened.is.of in
      let number = looks.number in
      let is = holds.out.is in
      rw (number, is) t

-- ---- the run

calls_calm : (k : ℕ) (xs : List HostCall) → AllByRecursion (λ (e : Entry). is_phase e.event ≡ false) (entries_of k xs)
calls_calm k [] = tt
calls_calm k (calls.loaded c a ∷ xs) = (refl, calls_calm k xs)
calls_calm k (calls.unloaded c a ∷ xs) = (refl, calls_calm k xs)

pub hosts_calm : (s u : Shown) (xs : List HostCall) → Calm s → Hosts s xs u → Calm u
hosts_calm s u xs calm (inl none) = let same = none.1 in rw same calm
hosts_calm s u xs calm (inr did) =
    let both = does_both s did.now u [] (entries_of s.number xs) (does_looks s did.now did.looks) did.does in
    calm_does s u (entries_of s.number xs) calm both (calls_calm s.number xs)

hosts_holds : (s u : Shown) (xs : List HostCall) → IsSome (held s) → Hosts s xs u → IsSome (held u)
hosts_holds s u xs holds (inl none) = let same = none.1 in rw same holds
hosts_holds s u xs holds (inr did) = still_holds s u did.hand holds

-- a tick that was offered, whoever runs it, and what came of it
module _ (offered done : Tick) (k : ℕ) (xs : List HostCall) (fit : IsFitTick offered) (fin : Finishes (record offered { worker = k }) done xs) where
  fin_offered : Finishes offered (record done { worker = offered.worker }) xs
  fin_offered = record {
    same = record {
      worker = refl;
      region = fin.same.region;
      begun = fin.same.begun;
      chunks = fin.same.chunks;
      due = fin.same.due;
      counter = fin.same.counter;
      owed = fin.same.owed;
      queues = fin.same.queues;
    };
    moved = fin.moved;
    next = fin.next;
    served = fin.served;
    stage = fin.stage;
  }

  pub served_is : map action_called xs ≡ map (λ t. plain_of t.action) (hosted offered.due)
  served_is = all_served fit.opening fit.history 0 offered.region offered (record done { worker = offered.worker }) xs fit.is fin_offered

  pub told_is : filter (λ (x : Ran). list_any (λ (y : Ran). nat_eq y.number x.number) (told (hosted offered.due) xs)) done.log.ran ≡ told (hosted offered.due) xs
  told_is =
      let w = world fit.opening fit.history in
      let ran : done.log.ran ≡ _ = all_ran fit.opening fit.history 0 offered.region offered (record done { worker = offered.worker }) xs fit.is fin_offered in
      let same = due_is w 0 offered.region (length fit.history) offered fit.is in
      rw ran (told_again (is_recorded offered.chunks) (flat_of offered.body.chunks) offered.due xs (rw same (due_tasks_rise (begun w 0 offered.region) offered.region)) served_is)

none_told : (ts : List Task) → [] ≡ map (λ t. plain_of t.action) ts → ts ≡ []
none_told [] none = refl
none_told (t ∷ ts) none = absurd (cc)

module _ (s u : Shown) (tick done : Tick) (xs : List HostCall) (holds : Holds s tick) (fin : Finishes tick done xs) where
  abbrev offer : Tick
  offer = holds.out.offered

  is_offer : tick ≡ record offer { worker = s.number }
  is_offer = holds.out.is

  fin_offer : Finishes (record offer { worker = s.number }) done xs
  fin_offer = rw is_offer at fin

  served : map action_called xs ≡ map (λ t. plain_of t.action) (hosted tick.due)
  served = rw is_offer (served_is offer done s.number xs holds.out.fit fin_offer)

  again : filter (λ (x : Ran). list_any (λ (y : Ran). nat_eq y.number x.number) (told (hosted tick.due) xs)) done.log.ran ≡ told (hosted tick.due) xs
  again = rw is_offer (told_is offer done s.number xs holds.out.fit fin_offer)

  -- where no task asked for a call, it has not had a turn
  turns_alone : xs ≡ [] → (now : Shown) → Looks s now → (world now.opening now.seen).stopped ≡ false
      → Turns now.number (start now.opening) idle now.seen (ticking done.region [] (told (hosted tick.due) xs))
  turns_alone none now looks go =
      let region = fin.same.region in
      let no_task : hosted tick.due ≡ [] = none_told (hosted tick.due) (rw none at served) in
      let begun : Turns now.number (start now.opening) idle now.seen (ticking tick.region (hosted tick.due) []) = turns_begun s now tick holds looks go in
      rw (region, no_task) (rw no_task at begun)

  module _ (did : Serves s xs u) where
    -- the worker behind its calls
    turns_called : (world u.opening u.seen).stopped ≡ false → Turns u.number (start u.opening) idle u.seen (ticking tick.region [] (told (hosted tick.due) xs))
    turns_called go =
        let now = did.now in
        let g = did.does.goes in
        let seen = g.seen in
        let opening = g.opening in
        let k = s.number in
        let same : now.number ≡ k = did.looks.number in
        let here : (world now.opening (now.seen ++ g.rest)).stopped ≡ false = rw (opening, seen) at go in
        let at_begin : Turns k (start now.opening) idle now.seen (ticking tick.region (asking tick.due) [])
        = rw same at (turns_begun s now tick holds did.looks (stopped_before now.opening now.seen g.rest here)) in
        let own : deeds_of k g.rest ≡ entries_of k xs = rw same at (ap deeds g.own_is ∙ did.does.deeds_are) in
        let asked : Turns k (start now.opening) (ticking tick.region (asking tick.due) []) (entries_of k xs) (ticking tick.region [] (told (hosted tick.due) xs))
        = turns_asked k (start now.opening) tick.region (hosted tick.due) xs [] served in
        let keeps = rw (opening, seen) at (g.keeps did.looks.keeps) in
        let on : Turns k (start now.opening) idle (now.seen ++ g.rest) (ticking tick.region [] (told (hosted tick.due) xs))
        = deeds_go_on now.opening k (now.seen ++ g.rest) now.seen g.rest refl keeps.grid keeps.run keeps.signed keeps.turns.turns holds.works.calm.some tick.region (asking tick.due) [] []
        (told (hosted tick.due) xs) (entries_of k xs) (start now.opening) at_begin own asked in
        let number = g.number in
        rw (number, same, opening, seen) on

    -- and with its next turn
    turns_after : (now : Shown) → Looks u now → (world now.opening now.seen).stopped ≡ false
        → Turns now.number (start now.opening) idle now.seen (ticking done.region [] (told (hosted tick.due) xs))
    turns_after now looks go =
        let region = fin.same.region in
        let number = looks.number in
        let opening = looks.opening in
        let seen = looks.seen in
        let behind = looks.between ++ looks.learnt in
        let some = (hosts_calm s u xs holds.works.calm (inr did)).some in
        let keeps = looks.keeps in
        let before : Turns u.number (start now.opening) idle u.seen (ticking tick.region [] (told (hosted tick.due) xs))
        = rw opening (turns_called (stopped_before u.opening u.seen behind (rw (opening, seen) at go))) in
        let t = stays_in_tick now.opening u.number now.seen u.seen behind looks.seen keeps.grid keeps.run keeps.signed keeps.turns.turns some
        (looks_begin u now looks) tick.region [] (told (hosted tick.due) xs) before in
        rw (region, number) t

  turns_ran : Hosts s xs u → (now : Shown) → Looks u now → (world now.opening now.seen).stopped ≡ false
      → Turns now.number (start now.opening) idle now.seen (ticking done.region [] (told (hosted tick.due) xs))
  turns_ran (inl none) now looks go = turns_alone none.0 now (let same = none.1 in rw same at looks) go
  turns_ran (inr did) now looks go = turns_after did now looks go

  pub run_ran : Hosts s xs u → HasRun u done
  run_ran did = record {
    calm = hosts_calm s u xs holds.works.calm did;
    out = run_held s u tick done xs holds.out fin did;
    told = told (hosted tick.due) xs;
    again = again;
    ticks = turns_ran did;
  }

-- the same, said of what is the same
pub hosts_to : (a s b u : Shown) (xs : List HostCall) → a ≡ s → u ≡ b → Hosts a xs b → Hosts s xs u
hosts_to a s b u xs taken given g = rw given (rw taken at g)

-- a run of a tick, between the seat that its host took and the one that it gave back
pub came_to_run : (s a b u : Shown) (tick done : Tick) → a ≡ s → u ≡ b → Holds s tick → (xs : List HostCall) × Hosts a xs b × Finishes tick done xs → HasRun u done
came_to_run s a b u tick done taken given holds ok = run_ran s u tick done ok.0 holds ok.2 (hosts_to a s b u ok.0 taken given ok.1)

holds_some : (s : Shown) (tick : Tick) → held s ≡ Some tick → IsSome (held s)
holds_some s tick is = rw is refl

pub came_to_stuck : (s a b u : Shown) (tick done : Tick) → a ≡ s → u ≡ b → Holds s tick → (xs : List HostCall) × Hosts a xs b × Runs tick done xs → IsStuck u
came_to_stuck s a b u tick done taken given holds err =
    let did = hosts_to a s b u err.0 taken given err.1 in
    record { calm = hosts_calm s u err.0 holds.works.calm did; holds = hosts_holds s u err.0 (holds_some s holds.out.offered holds.out.holds) did }

-- ---- the End

end_turns : (o : Opening) (h : List Entry) (k j r t : ℕ) (told ran : List Ran) (accepts : List Accept) → j ≡ k
    → filter (λ (x : Ran). list_any (λ (y : Ran). nat_eq y.number x.number) told) ran ≡ told
    → Turns k (start o) idle h (ticking r [] told) → Turns k (start o) idle (h ++ (record { by = j; event = End j r t ran accepts }) ∷ []) idle
end_turns o h k j r t told ran accepts mine again before =
    let e : Entry = record { by = j; event = End j r t ran accepts } in
    let own : nat_eq j k ≡ true = eq-eqb j k mine in
    let more : Turns k (start o) idle (h ++ e ∷ []) (turned k (world o h) (ticking r [] told) e)
    = turns_more k (start o) idle (ticking r [] told) h e before (λ mine. (refl, again)) in
    rw own at more

-- the same, said of what is the same
keeps_to : (w : ℕ) (o p : Opening) (h g : List Entry) → p ≡ o → g ≡ h → Keeps w p g → Keeps w o h
keeps_to w o p h g opening seen keeps = rw (opening, seen) at keeps

whole_to : (o p : Opening) (h g : List Entry) (k j : ℕ) → p ≡ o → g ≡ h → j ≡ k → WasWhole o h k → WasWhole p g j
whole_to o p h g k j opening seen number whole = rw (opening, seen, number) whole

module _ (s u : Shown) (tick : Tick) (most n : ℕ) (ran : HasRun s tick) (did : Releases s u tick most (Ok n)) where
  abbrev now : Shown
  now = did.now

  abbrev k : ℕ
  k = s.number

  mine : tick.worker ≡ k
  mine = ran.out.same.worker ∙ ran.out.ran.same.worker

  abbrev end : Entry
  end = record { by = tick.worker; event = end_event (world_of (meaning_of now)) tick.worker tick.region tick.log.ran }

  abbrev passed : PassesOn did.ended u most
  passed = did.passed

  -- what stands behind the End
  abbrev quiet : List Entry
  quiet = quiet_entries k passed.passes.ticks

  seen_is : u.seen ≡ ((now.seen ++ end ∷ []) ++ passed.learnt) ++ quiet
  seen_is =
      let passes : u.seen ≡ passed.now.seen ++ quiet = subst (λ (j : ℕ). u.seen ≡ passed.now.seen ++ quiet_entries j passed.passes.ticks) did.number passed.passes.history in
      passes ∙ ap (λ (es : List Entry). es ++ quiet) (passed.seen ∙ ap (λ (es : List Entry). es ++ passed.learnt) did.recorded.history)

  late : AllByRecursion (IsLate k) passed.learnt
  late = subst (λ (j : ℕ). AllByRecursion (IsLate j) passed.learnt) did.number passed.late

  -- the worker is at nothing behind the End
  turns_ended : (world now.opening (now.seen ++ end ∷ [])).stopped ≡ false → Turns k (start now.opening) idle (now.seen ++ end ∷ []) idle
  turns_ended go =
      let w = world_of (meaning_of now) in
      let before : Turns k (start now.opening) idle now.seen (ticking tick.region [] ran.told)
      = subst (λ (j : ℕ). Turns j (start now.opening) idle now.seen (ticking tick.region [] ran.told)) did.turn.looks.number
      (ran.ticks now did.turn.looks (stopped_before now.opening now.seen (end ∷ []) go)) in
      end_turns now.opening now.seen k tick.worker tick.region (w.tick tick.region + 1) ran.told tick.log.ran
      (answers (run_down w tick.region tick.log.ran) (ticked w tick.region tick.log.ran).wishes) mine ran.again before

  starts : AllByRecursion IsStart passed.learnt
  starts = late_starts k passed.learnt late

  whole_ended : WasWhole u.opening u.seen u.number
  whole_ended =
      let number = did.turn.adds.number ∙ did.turn.looks.number in
      let opening = did.turn.adds.opening in
      let all = ((now.seen ++ end ∷ []) ++ passed.learnt) ++ quiet in
      let keeps : Keeps u.lock.workers now.opening all = keeps_to u.lock.workers now.opening u.opening all u.seen opening seen_is did.turn.adds.keeps in
      whole_to now.opening u.opening all u.seen k u.number opening seen_is number
      (whole_passed now.opening k u.lock.workers (now.seen ++ end ∷ []) passed.learnt ran.calm.some (own_starts k passed.learnt starts) turns_ended passed.passes.ticks keeps)

  ended_calm : Calm u
  ended_calm =
      let rest = end ∷ (passed.learnt ++ quiet) in
      let seen : u.seen ≡ now.seen ++ rest = seen_is ∙ append_assoc (now.seen ++ end ∷ []) passed.learnt quiet ∙ append_assoc now.seen (end ∷ []) (passed.learnt ++ quiet) in
      let calm : AllByRecursion IsCalm rest = (
        refl,
        all_append IsCalm passed.learnt quiet (starts_calm passed.learnt starts) (quiet_calm k passed.passes.ticks),
      ) in
      let at_turn : Calm now = calm_does s now [] ran.calm (does_looks s now did.turn.looks) tt in
      calm_goes now u rest at_turn (goes_turn s now u rest did.turn seen) calm

  pub end_rests : Rests u
  end_rests = record { works = record { calm = ended_calm; whole = whole_ended }; free = did.free }

pub release_fails : (s u : Shown) (tick : Tick) (back : Box Tick) (most : ℕ) → HasRun s tick → Releases s u tick most (Err back) → IsStuck u
release_fails s u tick back most ran did = record {
  calm = calm_does s u [] ran.calm (does_still s did.now u did.turn did.refused) tt;
  holds = still_holds s u did.kept (holds_some s ran.out.offered ran.out.holds);
}
