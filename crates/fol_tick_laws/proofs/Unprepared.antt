-- A core in which no region is prepared, or one alone.
use Rattle.std.proofs.Common.{◌≡◌, ℕ, refl, sym, ◌∙◌, ap, Bool, true, false, inl, inr}
use Rattle.std.specs.Prelude.{Result, Ok, Err, IfOk, OnErr}
use Rattle.std.proofs.lemmas.Bool.{cases_eq, false_from_ne_true, true≢false}
use Rattle.fol_model.specs.declared.actions.Action.{Action}
use Rattle.fol_model.specs.declared.events.Loaded.{Loaded}
use Rattle.fol_model.specs.declared.events.Loaded.TheVariants as loads
use Rattle.fol_model.specs.declared.events.Event.{Event}
use Rattle.fol_model.specs.declared.events.Unloaded.{Unloaded}
use Rattle.fol_model.specs.declared.events.Unloaded.TheVariants as unloads
use Rattle.fol_model.specs.declared.places.ChunkPos.{ChunkPos}
use Rattle.fol_model.specs.ActionStep.{at_id}
use Rattle.fol_model.specs.GridNumbers.{IsGrid}
use Rattle.fol_laws.specs.LateBegin.{is_stop, load_touches, post_touches, touches, unload_touches}
use Rattle.fol_laws.proofs.FunctionsChanged.{at_here, at_other}
use Rattle.fol_core.specs.declared.answers.BeginAnswer.{BeginAnswer}
use Rattle.fol_core.specs.declared.answers.BeginAnswer.TheVariants.{Got, NotReady, NotOwing, Over}
use Rattle.fol_core.specs.declared.answers.Close.{Close}
use Rattle.fol_core.specs.declared.answers.Close.TheVariants as closes
use Rattle.fol_core.specs.declared.answers.Phase.{Phase}
use Rattle.fol_core.specs.declared.answers.Phase.TheVariants as phases
use Rattle.fol_core.specs.declared.answers.Posting.{Posting}
use Rattle.fol_core.specs.declared.answers.Posting.TheVariants as postings
use Rattle.fol_core.specs.Answers.{Begins, CloseRecords, LoadRecords, PhaseRecords, PostRecords, UnloadRecords}
use Rattle.fol_core.specs.Ahead.{NonePrepared, Spares}
use Rattle.fol_core.specs.Meaning.{Meaning, Records, Stays, is_prepared, world_of}
use Rattle.fol_tick_laws.specs.OpenTicks.{KeepsUntouched}
use Rattle.fol_tick_laws.specs.Touching.{IsAlone}
use Rattle.fol_tick_laws.proofs.OpenTicks.{untouched_more, untouched_same}

-- it is one still where the same regions are prepared
pub still_none : (m n : Meaning) → is_prepared n ≡ is_prepared m → NonePrepared m → NonePrepared n
still_none m n same none r = ap (λ (p : ℕ → Bool). p r) same ∙ none r

-- whatever is touched, no prepared region is
pub spares_all : (m : Meaning) (touched : ℕ → Bool) → NonePrepared m → Spares m touched
spares_all m touched none r is = absurd (let never : false ≡ true = sym (none r) ∙ is in cc)

-- ---- what a call leaves of a core whose grid is within its limits, and in which no region is prepared
abbrev pub IsCalm : Meaning → Type 0
IsCalm m = IsGrid m.opening.grid × NonePrepared m

pub calm_as : (m n : Meaning) → n.opening ≡ m.opening → is_prepared n ≡ is_prepared m → IsCalm m → IsCalm n
calm_as m n opening prepared calm = (rw opening calm.0, still_none m n prepared calm.1)

pub calm_loaded : (m n : Meaning) (k : ℕ) (c : ChunkPos) (a : Loaded) → LoadRecords m n k c a → IsCalm m → IsCalm n
calm_loaded m n k c loads.Counted did calm = calm_as m n did.opening did.prepared calm
calm_loaded m n k c (loads.Full present wanted) did calm = calm_as m n did.opening did.prepared calm
calm_loaded m n k c loads.Over did calm = calm_as m n did.opening did.prepared calm

pub calm_posted : (m n : Meaning) (k : ℕ) (c : ChunkPos) (d : ℕ) (x : Action) (r : Result Posting Action) → IfOk r (λ a. PostRecords m n k c d x a) → OnErr r (Stays m n) → IsCalm m → IsCalm n
calm_posted m n k c d x (Ok (postings.Posted number)) did stays calm = calm_as m n did.opening did.prepared calm
calm_posted m n k c d x (Ok (postings.Full present wanted)) did stays calm = calm_as m n did.opening did.prepared calm
calm_posted m n k c d x (Ok (postings.Over y)) did stays calm = calm_as m n did.opening did.prepared calm
calm_posted m n k c d x (Err back) did stays calm = calm_as m n stays.opening stays.prepared calm

pub calm_phased : (m n : Meaning) (k ticks : ℕ) (a : Phase) → PhaseRecords m n k ticks a → IsCalm m → IsCalm n
calm_phased m n k ticks phases.Opened did calm = calm_as m n did.opening did.prepared calm
calm_phased m n k ticks phases.InPhase did calm = calm_as m n did.opening did.prepared calm
calm_phased m n k ticks phases.Over did calm = calm_as m n did.opening did.prepared calm

pub calm_closed : (m n : Meaning) (k : ℕ) (a : Close) → CloseRecords m n k a → IsCalm m → IsCalm n
calm_closed m n k closes.Closed did calm = calm_as m n did.opening did.prepared calm
calm_closed m n k (closes.NotYet r) did calm = calm_as m n did.opening did.prepared calm
calm_closed m n k closes.NoPhase did calm = calm_as m n did.opening did.prepared calm
calm_closed m n k closes.Over did calm = calm_as m n did.opening did.prepared calm

pub calm_begun : (m n : Meaning) (by k r : ℕ) (a : BeginAnswer) → Begins m n by k r a → IsCalm m → IsCalm n
calm_begun m n by k r (Got tick) begins calm = calm_as m n begins.3.opening begins.3.prepared calm
calm_begun m n by k r (NotReady state) begins calm = calm_as m n begins.3.opening begins.3.prepared calm
calm_begun m n by k r NotOwing begins calm = calm_as m n begins.3.opening begins.3.prepared calm
calm_begun m n by k r Over begins calm = calm_as m n begins.1.opening begins.1.prepared calm

-- ---- a core in which one region is prepared
pub alone_prepared : (m n : Meaning) (r : ℕ) → NonePrepared m → is_prepared n ≡ at_id (is_prepared m) r true → IsAlone n r
alone_prepared m n r none one = record {
  prepared = ap (λ (p : ℕ → Bool). p r) one ∙ at_here (is_prepared m) r true;
  only = λ q is. elim (cases_eq q r) [
    | inl e ↦ e
    | inr d ↦ absurd (true≢false (sym is ∙ ap (λ (p : ℕ → Bool). p q) one ∙ at_other (is_prepared m) r true q d ∙ none q))
  ];
}

pub none_left : (m n : Meaning) (r : ℕ) → IsAlone m r → is_prepared n ≡ at_id (is_prepared m) r false → NonePrepared n
none_left m n r alone gone q = elim (cases_eq q r) [
  | inl e ↦ ap (λ (p : ℕ → Bool). p q) gone ∙ ap (at_id (is_prepared m) r false) e ∙ at_here (is_prepared m) r false
  | inr d ↦ ap (λ (p : ℕ → Bool). p q) gone ∙ at_other (is_prepared m) r false q d ∙ false_from_ne_true (is_prepared m q) (λ is. d (alone.only q is))
]

-- a region that was prepared and then learnt leaves none
pub none_learnt : (m n o : Meaning) (r : ℕ) → NonePrepared m → is_prepared n ≡ at_id (is_prepared m) r true → is_prepared o ≡ at_id (is_prepared n) r false → NonePrepared o
none_learnt m n o r none one gone = none_left n o r (alone_prepared m n r none one) gone

-- the one region is still prepared alone, and untouched where it was
abbrev pub IsLeft : Meaning → Meaning → ℕ → Type 0
IsLeft m n r = IsAlone n r × KeepsUntouched m n r

alone_same : (m n : Meaning) (r : ℕ) → is_prepared n ≡ is_prepared m → IsAlone m r → IsAlone n r
alone_same m n r same alone = record {
  prepared = ap (λ (p : ℕ → Bool). p r) same ∙ alone.prepared;
  only = λ q is. alone.only q (sym (ap (λ (p : ℕ → Bool). p q) same) ∙ is);
}

left_more : (m n : Meaning) (by r : ℕ) (event : Event) → Records m n by event → touches (world_of m) r event ≡ false → is_stop event ≡ false → IsAlone m r → IsLeft m n r
left_more m n by r event records calm goes alone = (alone_same m n r records.prepared alone, untouched_more m n by r event records calm goes)

left_same : (m n : Meaning) (r : ℕ) → n.opening ≡ m.opening → n.history ≡ m.history → is_prepared n ≡ is_prepared m → IsAlone m r → IsLeft m n r
left_same m n r opening history prepared alone = (alone_same m n r prepared alone, untouched_same m n r opening history)

pub left_loaded : (m n : Meaning) (k : ℕ) (c : ChunkPos) (a : Loaded) (r : ℕ) → LoadRecords m n k c a → load_touches (world_of m).grid c r ≡ false → IsAlone m r → IsLeft m n r
left_loaded m n k c loads.Counted r did calm alone = left_more m n k r _ did calm refl alone
left_loaded m n k c (loads.Full present wanted) r did calm alone = left_more m n k r _ did calm refl alone
left_loaded m n k c loads.Over r did calm alone = left_same m n r did.opening did.history did.prepared alone

pub left_unloaded : (m n : Meaning) (k : ℕ) (c : ChunkPos) (a : Unloaded) (r : ℕ) → UnloadRecords m n k c a → unload_touches (world_of m) c r ≡ false → IsAlone m r → IsLeft m n r
left_unloaded m n k c unloads.Lowered r did calm alone = left_more m n k r _ did calm refl alone
left_unloaded m n k c unloads.NoTicket r did calm alone = left_more m n k r _ did calm refl alone
left_unloaded m n k c unloads.Over r did calm alone = left_same m n r did.opening did.history did.prepared alone

pub left_posted : (m n : Meaning) (k : ℕ) (c : ChunkPos) (d : ℕ) (x : Action) (a : Result Posting Action) (r : ℕ) → IfOk a (λ p. PostRecords m n k c d x p) → OnErr a (Stays m n)
    → post_touches (world_of m).grid c r ≡ false → IsAlone m r → IsLeft m n r
left_posted m n k c d x (Ok (postings.Posted number)) r did stays calm alone = left_more m n k r _ did calm refl alone
left_posted m n k c d x (Ok (postings.Full present wanted)) r did stays calm alone = left_more m n k r _ did calm refl alone
left_posted m n k c d x (Ok (postings.Over y)) r did stays calm alone = left_same m n r did.opening did.history did.prepared alone
left_posted m n k c d x (Err back) r did stays calm alone = left_same m n r stays.opening stays.history stays.prepared alone
