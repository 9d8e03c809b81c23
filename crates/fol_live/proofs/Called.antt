-- Each call of a shared world, from what the world behind the lock did.
use Rattle.std.proofs.Common.{◌≡◌, ℕ, refl, sym, ◌∙◌, ap, subst, length, None}
use Rattle.std.specs.Prelude.{Bool, Result, Ok, Err, IfOk, IfErr, OnErr}
use Rattle.std.specs.List.{AllByRecursion}
use Rattle.std.specs.Global.{Box}
use Rattle.std.specs.declared.alloc.AllocError.{AllocError}
use Rattle.fol_model.specs.declared.places.ChunkPos.{ChunkPos}
use Rattle.fol_model.specs.declared.events.Loaded.{Loaded}
use Rattle.fol_model.specs.declared.events.Unloaded.{Unloaded}
use Rattle.fol_model.specs.declared.actions.Action.{Action}
use Rattle.fol_model.specs.Outputs.{owner_rows}
use Rattle.fol_data.specs.declared.tick.Tick.{Tick}
use Rattle.fol_core.specs.declared.answers.Posting.{Posting}
use Rattle.fol_core.specs.declared.answers.Close.{Close}
use Rattle.fol_core.specs.declared.answers.Finish.{Finish}
use Rattle.fol_core.specs.Answers.{CloseRecords, FinishRecords, LoadRecords, PostRecords, StopRecords, UnloadRecords, close_result, finish_result, is_over, load_result, post_result, unload_result}
use Rattle.fol_world.specs.AtEnd.{end_event}
use Rattle.fol_core.specs.Meaning.{Meaning, Records, Stays, world_of}
use Rattle.fol_core.specs.Ticks.{SameTick}
use Rattle.fol_offers.specs.PassedTicks.{PassesMany}
use Rattle.fol_live.specs.declared.answers.LivePhase.{LivePhase}
use Rattle.fol_live.specs.declared.answers.Owners.{Owners}
use Rattle.fol_live.specs.Calls.{AsksForEnd, Closes, Finishes, ListsOwners, Loads, Opens, PassesOn, Posts, Releases, Stops, Unloads}
use Rattle.fol_live.specs.Results.{LivePhaseRecords, live_phase_result}
use Rattle.fol_live.specs.Seat.{Shown, held, meaning_of}
use Rattle.fol_live.specs.Shown as worlds
use Rattle.fol_live.specs.Turns.{EndsAndPasses, IsLate}
use Rattle.fol_live.specs.Turns as turns
use Rattle.fol_live.proofs.Taken.{Done, bare_is, moved}

module _ {old new : Shown} {m n : worlds.Shown} {by : ℕ} (d : Done old new m n by) (hand : new.hand ≡ old.hand) where
  abbrev before : Meaning
  before = worlds.meaning_of m

  abbrev after : Meaning
  after = worlds.meaning_of n

  pub lists_owners : (r : Result Owners AllocError) → Stays before after → IfOk r (λ o. o.front ≡ length n.history) → IfOk r (λ o. o.rows.items ≡ owner_rows (world_of after)) → ListsOwners old new r
  lists_owners r same front rows = record {
    now = d.now;
    turn = d.turn;
    hand = hand;
    same = moved d (λ a b k. Stays a b) same;
    front = moved d (λ a b k. IfOk r (λ x. x.front ≡ length b.history)) front;
    rows = moved d (λ a b k. IfOk r (λ x. x.rows.items ≡ owner_rows (world_of b))) rows;
  }

  pub loads : (c : ChunkPos) (r : Result Loaded AllocError) → IfOk r (λ a. a ≡ load_result (world_of before) c) → IfOk r (λ a. LoadRecords before after by c a) → OnErr r (Stays before after)
      → Loads old new c r
  loads c r answer recorded refused = record {
    now = d.now;
    turn = d.turn;
    hand = hand;
    answer = moved d (λ a b k. IfOk r (λ x. x ≡ load_result (world_of a) c)) answer;
    recorded = moved d (λ a b k. IfOk r (λ x. LoadRecords a b k c x)) recorded;
    refused = moved d (λ a b k. OnErr r (Stays a b)) refused;
  }

  pub unloads : (c : ChunkPos) (r : Result Unloaded AllocError) → IfOk r (λ a. a ≡ unload_result (world_of before) c) → IfOk r (λ a. UnloadRecords before after by c a)
      → OnErr r (Stays before after) → Unloads old new c r
  unloads c r answer recorded refused = record {
    now = d.now;
    turn = d.turn;
    hand = hand;
    answer = moved d (λ a b k. IfOk r (λ x. x ≡ unload_result (world_of a) c)) answer;
    recorded = moved d (λ a b k. IfOk r (λ x. UnloadRecords a b k c x)) recorded;
    refused = moved d (λ a b k. OnErr r (Stays a b)) refused;
  }

  pub posts : (c : ChunkPos) (delay : ℕ) (action : Action) (r : Result Posting Action) → IfOk r (λ a. a ≡ post_result (world_of before) c action)
      → IfOk r (λ a. PostRecords before after by c delay action a) → IfErr r (λ a. a ≡ action) → OnErr r (Stays before after) → Posts old new c delay action r
  posts c delay action r answer recorded back refused = record {
    now = d.now;
    turn = d.turn;
    hand = hand;
    answer = moved d (λ a b k. IfOk r (λ x. x ≡ post_result (world_of a) c action)) answer;
    recorded = moved d (λ a b k. IfOk r (λ x. PostRecords a b k c delay action x)) recorded;
    back = back;
    refused = moved d (λ a b k. OnErr r (Stays a b)) refused;
  }

  pub opens : (ticks : ℕ) (r : Result LivePhase AllocError) → IfOk r (λ a. a ≡ live_phase_result (world_of before) ticks) → IfOk r (λ a. LivePhaseRecords before after by ticks a)
      → OnErr r (Stays before after) → Opens old new ticks r
  opens ticks r answer recorded refused = record {
    now = d.now;
    turn = d.turn;
    hand = hand;
    answer = moved d (λ a b k. IfOk r (λ x. x ≡ live_phase_result (world_of a) ticks)) answer;
    recorded = moved d (λ a b k. IfOk r (λ x. LivePhaseRecords a b k ticks x)) recorded;
    refused = moved d (λ a b k. OnErr r (Stays a b)) refused;
  }

  pub closes : (r : Result Close AllocError) → IfOk r (λ a. a ≡ close_result (world_of before)) → IfOk r (λ a. CloseRecords before after by a) → OnErr r (Stays before after) → Closes old new r
  closes r answer recorded refused = record {
    now = d.now;
    turn = d.turn;
    hand = hand;
    answer = moved d (λ a b k. IfOk r (λ x. x ≡ close_result (world_of a))) answer;
    recorded = moved d (λ a b k. IfOk r (λ x. CloseRecords a b k x)) recorded;
    refused = moved d (λ a b k. OnErr r (Stays a b)) refused;
  }

  pub finishes : (r : Result Finish AllocError) → IfOk r (λ a. a ≡ finish_result (world_of before)) → IfOk r (λ a. FinishRecords before after by a) → OnErr r (Stays before after)
      → Finishes old new r
  finishes r answer recorded refused = record {
    now = d.now;
    turn = d.turn;
    hand = hand;
    answer = moved d (λ a b k. IfOk r (λ x. x ≡ finish_result (world_of a))) answer;
    recorded = moved d (λ a b k. IfOk r (λ x. FinishRecords a b k x)) recorded;
    refused = moved d (λ a b k. OnErr r (Stays a b)) refused;
  }

  pub stops : StopRecords before after by (is_over (world_of before)) → Stops old new
  stops recorded = record { now = d.now; turn = d.turn; hand = hand; recorded = moved d (λ a b k. StopRecords a b k (is_over (world_of a))) recorded }

  pub asks : (over : Bool) → Stays before after → over ≡ is_over (world_of after) → AsksForEnd old new over
  asks over same answer = record {
    now = d.now;
    turn = d.turn;
    hand = hand;
    same = moved d (λ a b k. Stays a b) same;
    answer = moved d (λ a b k. over ≡ is_over (world_of b)) answer;
  }

-- ---- a tick that was given back

module _ {E : Type 0} {old new : Shown} {y n : worlds.Shown} {answer : Result ℕ E} (tick : Tick) (most : ℕ) (e : EndsAndPasses y n tick most answer) (d : Done old new e.ends.now n tick.worker) where
  -- what the seat would show behind the End
  abbrev pub ended : Shown
  ended = record d.now { seen = e.ended.history }

  worker_now : tick.worker ≡ d.now.number
  worker_now = d.number ∙ sym d.turn.looks.number

  opening_now : e.ended.opening ≡ d.now.opening
  opening_now = e.ends.same.opening ∙ ap (λ (x : Meaning). x.opening) d.here

  pub ends_here : Records (worlds.meaning_of e.ends.now) (worlds.meaning_of e.ended) tick.worker (end_event (world_of (worlds.meaning_of e.ends.now)) tick.worker tick.region tick.log.ran)
      → Records (meaning_of d.now) (meaning_of ended) tick.worker (end_event (world_of (meaning_of d.now)) tick.worker tick.region tick.log.ran)
  ends_here r =
      let here = subst (λ (x : Meaning). Records x (worlds.meaning_of e.ended) tick.worker (end_event (world_of x) tick.worker tick.region tick.log.ran)) d.here r in
      subst (λ (x : Meaning). Records (meaning_of d.now) x tick.worker (end_event (world_of (meaning_of d.now)) tick.worker tick.region tick.log.ran))
      (bare_is e.ended d.now.opening e.ended.history opening_now refl) here

  pub passes_here : turns.PassesOn e.ended n tick.worker most → PassesOn ended new most
  passes_here p =
      let there : Shown = record d.now { seen = p.now.history } in
      let here = subst (λ (x : Meaning). PassesMany x (worlds.meaning_of n) tick.worker p.count) (bare_is p.now d.now.opening p.now.history (p.learns.same.opening ∙ opening_now) refl) p.passes in
      let both = subst (λ (x : Meaning). PassesMany (meaning_of there) x tick.worker p.count) d.there here in
      record {
        now = there;
        learnt = p.learns.learnt;
        late = subst (λ (k : ℕ). AllByRecursion (IsLate k) p.learns.learnt) worker_now p.learns.late;
        seen = p.learns.history;
        opening = refl;
        count = p.count;
        few = p.few;
        passes = subst (λ (k : ℕ). PassesMany (meaning_of there) (meaning_of new) k p.count) worker_now both;
      }

  pub released : (length : ℕ) → answer ≡ Ok length → held new ≡ None → Releases old new tick most (Ok length)
  released length is free = record {
    now = d.now;
    turn = d.turn;
    ended = ended;
    number = d.turn.looks.number;
    told = rw is at e.ends.told;
    recorded = ends_here (rw is at e.ends.recorded);
    passed = passes_here (rw is at e.passed);
    free = free;
    back = tt;
    kept = tt;
    refused = tt;
  }

  pub refused : (error : E) (left : Box Tick) → answer ≡ Err error → SameTick tick left.value → new.hand ≡ old.hand → Releases old new tick most (Err left)
  refused error left is same hand =
      let stays : Stays (worlds.meaning_of e.ends.now) (worlds.meaning_of e.ended) = rw is at e.ends.refused in
      let none : n ≡ e.ended = rw is at e.refused in
      record {
        now = d.now;
        turn = d.turn;
        ended = ended;
        number = d.turn.looks.number;
        told = tt;
        recorded = tt;
        passed = tt;
        free = tt;
        back = same;
        kept = hand;
        refused = moved d (λ a b k. Stays a b) (subst (λ (s : worlds.Shown). Stays (worlds.meaning_of e.ends.now) (worlds.meaning_of s)) (sym none) stays);
      }
