-- The steps of a replay as its code makes them, each in the place of its worker.
use Rattle.std.proofs.Common.{◌≡◌, ℕ, ◌<◌, ◌≤◌, refl, sym, ◌∙◌, ap, subst, arith, true, false, Some, None, List, [], ◌∷◌, length, drop, get_or, set, IsTrue}
use Rattle.std.specs.Prelude.{◌≢◌, ◌↔◌, ◌-◌, Bool, IfOk, Option, Result, Ok, Err, is_some, suc, zero, slice_get, vec_len}
use Rattle.std.specs.List.{filter_map}
use Rattle.std.specs.declared.alloc.AllocError.{AllocError}
use Rattle.std.proofs.lemmas.Bool.{le-leb, leb-true}
use Rattle.std.proofs.lemmas.List.{append-nil}
use Rattle.std.proofs.lemmas.Option.{get_or_from_slice_get, slice_get_read}
use Rattle.fol_model.specs.ActionStep.{plain_of}
use Rattle.fol_model.specs.Rules.{Rules}
use Rattle.fol_model.specs.Run.{Run}
use Rattle.fol_model.specs.declared.places.ChunkPos.{ChunkPos}
use Rattle.fol_model.specs.declared.events.Event.{Event}
use Rattle.fol_model.specs.declared.events.Event.TheVariants as events
use Rattle.fol_model.specs.declared.events.Loaded.{Loaded}
use Rattle.fol_model.specs.declared.events.Loaded.TheVariants as loads
use Rattle.fol_model.specs.declared.events.Unloaded.{Unloaded}
use Rattle.fol_model.specs.declared.events.Unloaded.TheVariants as unloads
use Rattle.fol_model.specs.declared.events.Accept.{Accept}
use Rattle.fol_model.specs.declared.tasks.Ran.{Ran}
use Rattle.fol_model.specs.declared.tasks.Task.{Task}
use Rattle.fol_laws.proofs.WholeRuns.{good_run}
use Rattle.fol_model.specs.Legal.{Doing, IsTurn, idle, ticking}
use Rattle.fol_model.specs.declared.actions.Action.{Action}
use Rattle.fol_tick.specs.Calls.{HostCall, hosted}
use Rattle.fol_tick.specs.ListAnswers.{Answers}
use Rattle.fol_tick.specs.Runs.{Finishes, MayRun}
use Rattle.fol_tick.specs.declared.list_host.HostAnswer.{HostAnswer}
use Rattle.fol_tick.specs.declared.list_host.HostAnswer.TheVariants as answers
use Rattle.fol_core.specs.Answers.{Begins}
use Rattle.fol_world.specs.AtEnd.{end_event}
use Rattle.fol_core.specs.Ticks.{IsOut}
use Rattle.fol_tick_laws.proofs.OpenTicks.{may_run_open, out_when_run}
use Rattle.fol_data.specs.declared.tick.Tick.{Tick}
use Rattle.fol_core.specs.Meaning.{Meaning, Stays, is_prepared, world_of}
use Rattle.fol_core.specs.Meaning as meaning
use Rattle.fol_core.specs.declared.answers.BeginAnswer.TheVariants.{Got}
use Rattle.fol_check.specs.Asks.{ask_in, told_by}
use Rattle.fol_check.specs.Asked.{IsAt, doing_at, doing_in}
use Rattle.fol_check.specs.Next.{IsNext}
use Rattle.fol_check.specs.Standing.{EndsWith, Goes, HasAsked, Notes, Records, Stands, Went}
use Rattle.fol_check.specs.declared.asks.Ask.{Ask}
use Rattle.fol_check.specs.declared.asks.Ask.TheVariants as asks
use Rattle.fol_check.specs.declared.asks.Open.{Open}
use Rattle.fol_check.specs.declared.replay.Replay.{Replay}
use Rattle.fol_check.proofs.Calling.{called, load_asked, load_call, load_is_answer, unload_asked, unload_call, unload_is_answer}
use Rattle.fol_check.proofs.Growing.{Grows, next_is}
use Rattle.fol_check.proofs.Answering.{as_many, few_answers}
use Rattle.fol_check.proofs.Following.{none_left}
use Rattle.fol_check.proofs.Ticking.{begun_next, end_next, end_told, end_turn, own_event}

-- what was read from a list
pub read_at : {X : Type 0} (xs : List X) (i : ℕ) (x d : X) → i < length xs → x ≡ get_or xs i x → get_or xs i d ≡ x
read_at xs i x d low e = get_or_from_slice_get xs i x d (slice_get_read xs (length xs) i x refl low e)

pub rules_of : (s : Replay) → Stands s → Rules (world_of s.core).grid
rules_of s st = (good_run s.core.opening s.core.history [] st.grid (rw append-nil st.run)).sound.rules

pub none_is : (o : Option Open) → is_some o ≡ false → o ≡ None
none_is None h = refl
none_is (Some p) h = absurd (cc)

-- ---- the asks of a worker

pub has_asked : (s : Replay) (worker : ℕ) (ask : Ask) (p : Open) (b : Bool) → 0 < worker → worker ≤ 64 → get_or s.workers.items (worker - 1) None ≡ Some p
    → (IsTrue b ↔ (slice_get p.asks.items (length p.answers.items) ≡ Some ask)) → IsTrue b ↔ HasAsked s worker ask
has_asked s worker ask p b some most at test = (
  (λ passed. record { within = most; place = worker - 1; own = omega arith; held = p; at = at; asked = test.0 passed }),
  (λ has. test.1 (
      let place : has.place ≡ worker - 1 = let own' = has.own in omega arith in
      let there : get_or s.workers.items (worker - 1) None ≡ Some has.held = rw place at has.at in
      let same : p ≡ has.held = cc in
      rw same has.asked)),
)

pub none_asked : (s : Replay) (worker : ℕ) (ask : Ask) → get_or s.workers.items (worker - 1) None ≡ None → HasAsked s worker ask → ⊥
none_asked s worker ask at has =
    let place : has.place ≡ worker - 1 = let own' = has.own in omega arith in
    let there : get_or s.workers.items (worker - 1) None ≡ Some has.held = rw place at has.at in
    cc

pub load_not_asked : (s : Replay) (worker : ℕ) (c : ChunkPos) (a : Loaded) (b : Bool) → Stands s → 0 < worker → (IsTrue b ↔ HasAsked s worker (asks.Load c)) → b ≡ false
    → IsNext s (events.Load worker c a) → ⊥
load_not_asked s zero c a b st some test not is = absurd (omega arith)
load_not_asked s (suc k) c a b st some test not is = let passed : b ≡ true = test.1 (load_asked s k c a st is) in let never : false ≡ true = sym not ∙ passed in cc

pub unload_not_asked : (s : Replay) (worker : ℕ) (c : ChunkPos) (a : Unloaded) (b : Bool) → Stands s → 0 < worker → (IsTrue b ↔ HasAsked s worker (asks.Unload c)) → b ≡ false
    → IsNext s (events.Unload worker c a) → ⊥
unload_not_asked s zero c a b st some test not is = absurd (omega arith)
unload_not_asked s (suc k) c a b st some test not is = let passed : b ≡ true = test.1 (unload_asked s k c a st is) in let never : false ≡ true = sym not ∙ passed in cc

-- the core recorded a call of a worker, and its tick keeps the answer
pub record Kept (s t : Replay) : Type 0 where
  pub script : t.script ≡ s.script
  pub next : t.next ≡ s.next
  pub workers : t.workers ≡ s.workers

pub load_kept : (s t u : Replay) (worker : ℕ) (c : ChunkPos) (a : Loaded) → Stands s → Kept s t → meaning.Records s.core t.core worker (events.Load worker c a) → Notes t u worker (answers.Load a)
    → Run u.core.opening u.core.history → HasAsked s worker (asks.Load c) → a ≢ loads.Over → Records s u (events.Load worker c a)
load_kept s t u zero c a st kept records notes run has on = let own' = has.own in absurd (omega arith)
load_kept s t u (suc k) c a st kept records notes run has on =
    let most = has.within in
    let low : k < 64 = omega arith in
    let g : Grows s u (events.Load (suc k) c a) = record {
      opening = ap (λ (m : Meaning). m.opening) notes.core ∙ records.opening;
      history = ap (λ (m : Meaning). m.history) notes.core ∙ records.history;
      prepared = ap is_prepared notes.core ∙ records.prepared;
      run = run;
      script = notes.script ∙ kept.script;
    } in
    called s u (events.Load (suc k) c a) k (asks.Load c) (answers.Load a) st g refl (load_call k c a (load_is_answer a on)) t kept.workers notes low has (notes.next ∙ kept.next) (le-leb (suc k) 64 most)

pub unload_kept : (s t u : Replay) (worker : ℕ) (c : ChunkPos) (a : Unloaded) → Stands s → Kept s t → meaning.Records s.core t.core worker (events.Unload worker c a) → Notes t u worker (answers.Unload a)
    → Run u.core.opening u.core.history → HasAsked s worker (asks.Unload c) → a ≢ unloads.Over → Records s u (events.Unload worker c a)
unload_kept s t u zero c a st kept records notes run has on = let own' = has.own in absurd (omega arith)
unload_kept s t u (suc k) c a st kept records notes run has on =
    let most = has.within in
    let low : k < 64 = omega arith in
    let g : Grows s u (events.Unload (suc k) c a) = record {
      opening = ap (λ (m : Meaning). m.opening) notes.core ∙ records.opening;
      history = ap (λ (m : Meaning). m.history) notes.core ∙ records.history;
      prepared = ap is_prepared notes.core ∙ records.prepared;
      run = run;
      script = notes.script ∙ kept.script;
    } in
    called s u (events.Unload (suc k) c a) k (asks.Unload c) (answers.Unload a) st g refl (unload_call k c a (unload_is_answer a on)) t kept.workers notes low has (notes.next ∙ kept.next) (le-leb (suc k) 64 most)

-- ---- a Begin

pub begun_kept : (s u : Replay) (m : Meaning) (worker k r : ℕ) (p : Open) → worker ≡ suc k → k < 64 → Stands s → Stays s.core m → Begins m u.core worker worker r (Got p.tick)
    → get_or s.workers.items k None ≡ None → p.asks.items ≡ filter_map (λ (t : Task). ask_in (plain_of t.action)) p.tick.due → p.answers.items ≡ []
    → Run u.core.opening u.core.history → u.script ≡ s.script → u.next ≡ s.next → u.workers.items ≡ set s.workers.items k (Some p) → vec_len u.workers ≡ 64
    → Records s u (events.Begin worker r)
begun_kept s u m worker k r p own low st stays begins idles same_asks none run script next items count =
    let mine : Begins m u.core (suc k) (suc k) r (Got p.tick) = rw own at begins in
    let g : Grows s u (events.Begin (suc k) r) = record {
      opening = mine.3.opening ∙ stays.opening;
      history = mine.3.history ∙ (let same = stays.history in rw same refl);
      prepared = mine.3.prepared ∙ stays.prepared;
      run = run;
      script = script;
    } in
    let P : ℕ → Type 0 = λ n. Records s u (events.Begin n r) in
    subst P (sym own) (begun_next s u m k r p st g low stays mine idles same_asks none next items count)

-- ---- an End

pub end_needs : (s : Replay) (worker k region t : ℕ) (ran : List Ran) (accepts : List Accept) (p : Open) → worker ≡ suc k → k < 64 → Stands s → get_or s.workers.items k None ≡ Some p
    → IsNext s (events.End worker region t ran accepts) → (region ≡ p.tick.region) × (length p.answers.items ≡ length p.asks.items)
end_needs s worker k region t ran accepts p own low st there is =
    let turn : IsTurn (doing_in p) (events.End worker region t ran accepts) = rw there at (is.turn k low own) in
    let parts = end_turn worker p.tick.region region t (drop (length p.answers.items) (hosted p.tick.due)) (told_by (hosted p.tick.due) p.answers.items) ran accepts turn in
    let at : IsAt s.core (suc k) (Some p) = rw there at (st.workers k low) in
    let many = as_many p.asks.items (hosted p.tick.due) at.tick.asks in
    let few = few_answers p.asks.items p.answers.items at.tick.answers in
    let all = none_left (hosted p.tick.due) [] (length p.answers.items) refl (sym parts.0) in
    (parts.1, omega arith)

pub may_end : (s : Replay) (k : ℕ) (p : Open) → k < 64 → Stands s → get_or s.workers.items k None ≡ Some p → MayRun p.tick
may_end s k p low st there =
    let at : IsAt s.core (suc k) (Some p) = rw there at (st.workers k low) in
    may_run_open s.core p.tick st.grid st.run at.tick.is_open

pub is_out : (s : Replay) (k : ℕ) (p : Open) (done : Tick) (xs : List HostCall) → k < 64 → Stands s → get_or s.workers.items k None ≡ Some p → Finishes p.tick done xs → IsOut s.core done
is_out s k p done xs low st there fin =
    let at : IsAt s.core (suc k) (Some p) = rw there at (st.workers k low) in
    out_when_run s.core p.tick done xs at.tick.is_open fin

module _ (s u : Replay) (k t : ℕ) (ran : List Ran) (accepts : List Accept) (p : Open) (done : Tick) (xs : List HostCall) (left : List HostAnswer) (low : k < 64) (st : Stands s)
    (there : get_or s.workers.items k None ≡ Some p) (many : length p.answers.items ≡ length p.asks.items) (given : Answers p.answers.items xs left) (fin : Finishes p.tick done xs)
    (recorded : meaning.Records s.core u.core done.worker (end_event (world_of s.core) done.worker done.region done.log.ran)) (run : Run u.core.opening u.core.history)
    (script : u.script ≡ s.script) (next : u.next ≡ s.next) (items : u.workers.items ≡ set s.workers.items k None) (count : vec_len u.workers ≡ 64) where
  same_event : end_event (world_of s.core) done.worker done.region done.log.ran ≡ end_event (world_of s.core) (suc k) p.tick.region done.log.ran
  same_event = own_event s u k p st low there many done xs left given fin recorded run

  goes_by : (b : Bool) → (IsTrue b ↔ EndsWith (end_event (world_of s.core) done.worker done.region done.log.ran) t ran accepts) → Goes s u (events.End (suc k) p.tick.region t ran accepts) b
  goes_by true test =
      let same = same_event in
      let R : Event → Type 0 = λ e. EndsWith e t ran accepts in
      end_next s u k p st low there many done xs left given fin recorded run t ran accepts (subst R same (test.0 refl)) script next items count
  goes_by false test = λ is.
      let same = same_event in
      let told : EndsWith (end_event (world_of s.core) done.worker done.region done.log.ran) t ran accepts
      = let R : Event → Type 0 = λ e. EndsWith e t ran accepts in
      subst R (sym same) (end_told s u k p st low there many done xs left given fin recorded run t ran accepts is) in
      let never : false ≡ true = test.1 told in
      cc

  pub end_goes : (worker region : ℕ) (b : Bool) → worker ≡ suc k → region ≡ p.tick.region
      → (IsTrue b ↔ EndsWith (end_event (world_of s.core) done.worker done.region done.log.ran) t ran accepts) → Goes s u (events.End worker region t ran accepts) b
  end_goes worker region b own same test =
      let P : ℕ → Type 0 = λ n. Goes s u (events.End n region t ran accepts) b in
      let Q : ℕ → Type 0 = λ r. Goes s u (events.End (suc k) r t ran accepts) b in
      subst P (sym own) (subst Q (sym same) (goes_by b test))

-- ---- one step

-- what may not come next makes no beginning of a history
pub went_of : (s u : Replay) (e f : Event) (r : Result Bool AllocError) → f ≡ e → Stands s → IfOk r (λ b. Goes s u e b) → IfOk r (λ b. Went s u f b)
went_of s u e f (Err x) same st goes = tt
went_of s u e f (Ok true) same st goes = rw same goes
went_of s u e f (Ok false) same st goes = rw same (λ so. goes (next_is s e st so))

-- ---- a post

pub no_turn : (k : ℕ) (c : ChunkPos) (d : ℕ) (a : Action) (x : Accept) (doing : Doing) → IsTurn doing (events.Post k c d a x) → ⊥
no_turn k c d a x idle turn = turn
no_turn k c d a x (ticking r [] told) turn = turn
no_turn k c d a x (ticking r (t ∷ ts) told) turn = turn

-- no worker posts
pub post_by_none : (s : Replay) (caller : ℕ) (c : ChunkPos) (d : ℕ) (a : Action) (x : Accept) → 0 < caller → IsNext s (events.Post caller c d a x) → ⊥
post_by_none s zero c d a x some is = absurd (omega arith)
post_by_none s (suc k) c d a x some is =
    let most = leb-true (suc k) 64 is.worker in
    no_turn (suc k) c d a x (doing_at (get_or s.workers.items k None)) (is.turn k (omega arith) refl)
