-- What a list of answers tells of the tasks that ask.
use Rattle.std.proofs.Common.{◌≡◌, ℕ, ◌≤◌, refl, ◌∙◌, ap, arith, Some, List, [], ◌∷◌, ◌++◌, map, length, drop}
use Rattle.std.specs.Prelude.{suc, zero, slice_get}
use Rattle.std.specs.List.{cons_option, filter_map}
use Rattle.fol_model.specs.ActionStep.{plain_of}
use Rattle.fol_model.specs.declared.actions.Action.{Action}
use Rattle.fol_model.specs.declared.actions.Action.TheVariants as action
use Rattle.fol_model.specs.declared.places.ChunkPos.{ChunkPos}
use Rattle.fol_model.specs.declared.events.Loaded.{Loaded}
use Rattle.fol_model.specs.declared.events.Loaded.TheVariants as loads
use Rattle.fol_model.specs.declared.events.Unloaded.{Unloaded}
use Rattle.fol_model.specs.declared.events.Unloaded.TheVariants as unloads
use Rattle.fol_model.specs.declared.tasks.Ran.{Ran}
use Rattle.fol_model.specs.declared.tasks.Task.{Task}
use Rattle.fol_model.specs.Legal.{load_outcome, unload_outcome}
use Rattle.fol_tick.specs.Calls.{HostCall, action_called, hosted, load_call, outcome_of_load, outcome_of_unload, told, unload_call}
use Rattle.fol_tick.specs.ListAnswers.{Answers, load_answer, unload_answer}
use Rattle.fol_tick.specs.ListAnswers as served
use Rattle.fol_tick.specs.declared.list_host.HostAnswer.{HostAnswer}
use Rattle.fol_tick.specs.declared.list_host.HostAnswer.TheVariants as answers
use Rattle.fol_check.specs.Asks.{AreAnswers, IsAnswerTo, action_asked, ask_in, outcome_answered, told_by}
use Rattle.fol_check.specs.declared.asks.Ask.{Ask}
use Rattle.fol_check.specs.declared.asks.Ask.TheVariants as asks

-- the plain actions of these tasks
abbrev pub plains : List Task → List Action
plains ts = map (λ (t : Task). plain_of t.action) ts

-- ---- one answer more

pub answers_with : (ks : List Ask) (hs : List HostAnswer) (a : Ask) (h : HostAnswer) → AreAnswers ks hs → slice_get ks (length hs) ≡ Some a → IsAnswerTo a h → AreAnswers ks (hs ++ h ∷ [])
answers_with [] [] a h are at is = absurd (cc)
answers_with (b ∷ ks) [] a h are at is = let same : b ≡ a = cc in (rw same is, tt)
answers_with [] (x ∷ hs) a h are at is = are
answers_with (b ∷ ks) (x ∷ hs) a h are at is = (are.0, answers_with ks hs a h are.1 at is)

pub told_with : (ts : List Task) (hs : List HostAnswer) (t : Task) (h : HostAnswer) → slice_get ts (length hs) ≡ Some t
    → told_by ts (hs ++ h ∷ []) ≡ told_by ts hs ++ (record { number = t.number; outcome = outcome_answered h }) ∷ []
told_with [] [] t h at = absurd (cc)
told_with (u ∷ ts) [] t h at = let same : u ≡ t = cc in rw same refl
told_with [] (x ∷ hs) t h at = absurd (cc)
told_with (u ∷ ts) (x ∷ hs) t h at = ap (λ (xs : List Ran). (record { number = u.number; outcome = outcome_answered x }) ∷ xs) (told_with ts hs t h at)

-- ---- the asks of some tasks

ask_is : (a : Action) (k : Ask) → ask_in a ≡ Some k → action_asked k ≡ a
ask_is (action.Set at id) k e = absurd (cc)
ask_is (action.Copy at to) k e = absurd (cc)
ask_is (action.Load c) k e = let same : asks.Load c ≡ k = cc in rw (← same) refl
ask_is (action.Unload c) k e = let same : asks.Unload c ≡ k = cc in rw (← same) refl
ask_is (action.Post c d inner) k e = absurd (cc)
ask_is (action.Send id to) k e = absurd (cc)
ask_is (action.Arrive x) k e = absurd (cc)
ask_is (action.Every p left inner) k e = absurd (cc)

-- one task in front
one_ask : (a : Action) (t : Task) (ts : List Task) (ks : List Ask) → plain_of t.action ≡ a → map action_asked ks ≡ plains (hosted ts)
    → map action_asked (cons_option (ask_in (plain_of t.action)) ks) ≡ plains (hosted (t ∷ ts))
one_ask (action.Set at id) t ts ks e rest = rw e rest
one_ask (action.Copy at to) t ts ks e rest = rw e rest
one_ask (action.Load c) t ts ks e rest = rw (e, e) (ap (λ (xs : List Action). action.Load c ∷ xs) rest)
one_ask (action.Unload c) t ts ks e rest = rw (e, e) (ap (λ (xs : List Action). action.Unload c ∷ xs) rest)
one_ask (action.Post c d inner) t ts ks e rest = rw e rest
one_ask (action.Send id to) t ts ks e rest = rw e rest
one_ask (action.Arrive x) t ts ks e rest = rw e rest
one_ask (action.Every p left inner) t ts ks e rest = rw e rest

pub asks_are : (ts : List Task) → map action_asked (filter_map (λ (t : Task). ask_in (plain_of t.action)) ts) ≡ plains (hosted ts)
asks_are [] = refl
asks_are (t ∷ ts) = one_ask (plain_of t.action) t ts (filter_map (λ (u : Task). ask_in (plain_of u.action)) ts) refl (asks_are ts)

-- the task of an ask
pub record AskedBy (ts : List Task) (n : ℕ) (a : Ask) : Type 0 where
  pub task : Task
  pub at : slice_get ts n ≡ Some task
  pub plain : plain_of task.action ≡ action_asked a

pub asked_by : (ks : List Ask) (ts : List Task) (n : ℕ) (a : Ask) → map action_asked ks ≡ plains ts → slice_get ks n ≡ Some a → AskedBy ts n a
asked_by [] ts n a e at = absurd (cc)
asked_by (b ∷ ks) [] n a e at = absurd (cc)
asked_by (b ∷ ks) (t ∷ ts) zero a e at = let same : b ≡ a = cc in record { task = t; at = refl; plain = rw (← same) (cc) }
asked_by (b ∷ ks) (t ∷ ts) (suc n) a e at = let rest = asked_by ks ts n a (cc) at in record { task = rest.task; at = rest.at; plain = rest.plain }

same_ask : (a b : Ask) → action_asked a ≡ action_asked b → a ≡ b
same_ask (asks.Load c) (asks.Load d) e = cc
same_ask (asks.Load c) (asks.Unload d) e = absurd (cc)
same_ask (asks.Unload c) (asks.Load d) e = absurd (cc)
same_ask (asks.Unload c) (asks.Unload d) e = cc

-- the ask of a task
pub ask_at : (ks : List Ask) (ts : List Task) (n : ℕ) (t : Task) (a : Ask) → map action_asked ks ≡ plains ts → slice_get ts n ≡ Some t → plain_of t.action ≡ action_asked a → slice_get ks n ≡ Some a
ask_at [] [] n t a e at plain = absurd (cc)
ask_at [] (u ∷ ts) n t a e at plain = absurd (cc)
ask_at (b ∷ ks) [] n t a e at plain = absurd (cc)
ask_at (b ∷ ks) (u ∷ ts) zero t a e at plain =
    let same : u ≡ t = cc in
    let own : action_asked b ≡ plain_of u.action = cc in
    ap Some (same_ask b a (own ∙ ap (λ (x : Task). plain_of x.action) same ∙ plain))
ask_at (b ∷ ks) (u ∷ ts) (suc n) t a e at plain = ask_at ks ts n t a (cc) at plain

pub as_many : (ks : List Ask) (ts : List Task) → map action_asked ks ≡ plains ts → length ks ≡ length ts
as_many [] [] e = refl
as_many [] (t ∷ ts) e = absurd (cc)
as_many (a ∷ ks) [] e = absurd (cc)
as_many (a ∷ ks) (t ∷ ts) e = ap suc (as_many ks ts (cc))

pub few_answers : (ks : List Ask) (hs : List HostAnswer) → AreAnswers ks hs → length hs ≤ length ks
few_answers ks [] are = omega arith
few_answers [] (h ∷ hs) are = absurd are
few_answers (a ∷ ks) (h ∷ hs) are = let rest = few_answers ks hs are.1 in omega arith

-- ---- what the calls of a list of answers tell

same_load : (a : Loaded) → outcome_of_load a ≡ load_outcome a
same_load loads.Counted = refl
same_load (loads.Full present wanted) = refl
same_load loads.Over = refl

same_unload : (a : Unloaded) → outcome_of_unload a ≡ unload_outcome a
same_unload unloads.Lowered = refl
same_unload unloads.NoTicket = refl
same_unload unloads.Over = refl

-- all asks of the tasks have these answers
record Whole (ts : List Task) (ks : List Ask) (hs : List HostAnswer) : Type 0 where
  are : AreAnswers ks hs
  many : length hs ≡ length ks
  asked : map action_asked ks ≡ plains ts

abbrev Tells : List HostAnswer → List HostCall → Type 0
Tells hs xs = (ts : List Task) (ks : List Ask) → Whole ts ks hs → map action_called xs ≡ plains ts → told ts xs ≡ told_by ts hs

tell_none : (hs : List HostAnswer) → Tells hs []
tell_none [] [] ks w called = refl
tell_none [] (t ∷ ts) ks w called = absurd (cc)
tell_none (h ∷ hs) [] ks w called = refl
tell_none (h ∷ hs) (t ∷ ts) ks w called = absurd (cc)

tell_load : (c : ChunkPos) (hs : List HostAnswer) (xs : List HostCall) → Tells (drop 1 hs) xs → Tells hs (load_call c (load_answer hs) ++ xs)
tell_load c [] xs again [] ks w called = refl
tell_load c [] xs again (t ∷ ts) [] w called = let asked = w.asked in absurd (cc)
tell_load c [] xs again (t ∷ ts) (a ∷ ks) w called = let many = w.many in absurd (omega arith)
tell_load c (h ∷ hs) xs again ts [] w called = absurd w.are
tell_load c (h ∷ hs) xs again [] (a ∷ ks) w called = let asked = w.asked in absurd (cc)
tell_load c (answers.Load x ∷ hs) xs again (t ∷ ts) (asks.Load d ∷ ks) w called =
    let asked : action.Load d ∷ map action_asked ks ≡ plains (t ∷ ts) = w.asked in
    let many = w.many in
    let rest = again ts ks (record { are = w.are.1; many = omega arith; asked = cc }) (cc) in
    let same = same_load x in
    rw (rest, same) refl
tell_load c (answers.Load x ∷ hs) xs again (t ∷ ts) (asks.Unload d ∷ ks) w called = absurd w.are.0
tell_load c (answers.Unload x ∷ hs) xs again (t ∷ ts) (asks.Load d ∷ ks) w called = absurd w.are.0
tell_load c (answers.Unload x ∷ hs) xs again (t ∷ ts) (asks.Unload d ∷ ks) w called =
    let asked : action.Unload d ∷ map action_asked ks ≡ plains (t ∷ ts) = w.asked in
    let loaded : action.Load c ∷ map action_called xs ≡ plains (t ∷ ts) = called in
    absurd (cc)
tell_load c (answers.NoMemory ∷ hs) xs again (t ∷ ts) (asks.Load d ∷ ks) w called = absurd w.are.0
tell_load c (answers.NoMemory ∷ hs) xs again (t ∷ ts) (asks.Unload d ∷ ks) w called = absurd w.are.0

tell_unload : (c : ChunkPos) (hs : List HostAnswer) (xs : List HostCall) → Tells (drop 1 hs) xs → Tells hs (unload_call c (unload_answer hs) ++ xs)
tell_unload c [] xs again [] ks w called = refl
tell_unload c [] xs again (t ∷ ts) [] w called = let asked = w.asked in absurd (cc)
tell_unload c [] xs again (t ∷ ts) (a ∷ ks) w called = let many = w.many in absurd (omega arith)
tell_unload c (h ∷ hs) xs again ts [] w called = absurd w.are
tell_unload c (h ∷ hs) xs again [] (a ∷ ks) w called = let asked = w.asked in absurd (cc)
tell_unload c (answers.Unload x ∷ hs) xs again (t ∷ ts) (asks.Unload d ∷ ks) w called =
    let asked : action.Unload d ∷ map action_asked ks ≡ plains (t ∷ ts) = w.asked in
    let many = w.many in
    let rest = again ts ks (record { are = w.are.1; many = omega arith; asked = cc }) (cc) in
    let same = same_unload x in
    rw (rest, same) refl
tell_unload c (answers.Unload x ∷ hs) xs again (t ∷ ts) (asks.Load d ∷ ks) w called = absurd w.are.0
tell_unload c (answers.Load x ∷ hs) xs again (t ∷ ts) (asks.Unload d ∷ ks) w called = absurd w.are.0
tell_unload c (answers.Load x ∷ hs) xs again (t ∷ ts) (asks.Load d ∷ ks) w called =
    let asked : action.Load d ∷ map action_asked ks ≡ plains (t ∷ ts) = w.asked in
    let unloaded : action.Unload c ∷ map action_called xs ≡ plains (t ∷ ts) = called in
    absurd (cc)
tell_unload c (answers.NoMemory ∷ hs) xs again (t ∷ ts) (asks.Load d ∷ ks) w called = absurd w.are.0
tell_unload c (answers.NoMemory ∷ hs) xs again (t ∷ ts) (asks.Unload d ∷ ks) w called = absurd w.are.0

tells : (hs left : List HostAnswer) (xs : List HostCall) → Answers hs xs left → Tells hs xs
tells hs left xs (served.none answers) = tell_none answers
tells hs left xs (served.load c answers rest calls more) = tell_load c answers calls (tells (drop 1 answers) left calls more)
tells hs left xs (served.unload c answers rest calls more) = tell_unload c answers calls (tells (drop 1 answers) left calls more)

-- a host with these answers tells each task that asks its own
pub told_is : (ts : List Task) (ks : List Ask) (hs left : List HostAnswer) (xs : List HostCall) → AreAnswers ks hs → length hs ≡ length ks → map action_asked ks ≡ plains ts
    → map action_called xs ≡ plains ts → Answers hs xs left → told ts xs ≡ told_by ts hs
told_is ts ks hs left xs are many asked called given = tells hs left xs given ts ks (record { are = are; many = many; asked = asked }) called
