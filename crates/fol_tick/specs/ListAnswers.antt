-- A host that gives the answers of a list.
use Rattle.std.specs.Prelude.{Bool, true, false, List, [], ◌∷◌, ◌++◌, drop, Result, Ok, Err, alloc_error}
use Rattle.std.proofs.Common.{subst, sym, append_assoc}
use Rattle.std.specs.declared.alloc.AllocError.{AllocError}
use Rattle.fol_model.specs.declared.places.ChunkPos.{ChunkPos}
use Rattle.fol_model.specs.declared.events.Loaded.{Loaded}
use Rattle.fol_model.specs.declared.events.Loaded.TheVariants as loaded
use Rattle.fol_model.specs.declared.events.Unloaded.{Unloaded}
use Rattle.fol_model.specs.declared.events.Unloaded.TheVariants as unloaded
use Rattle.fol_tick.specs.Calls.{HostCall, load_call, unload_call}
use Rattle.fol_tick.specs.declared.list_host.HostAnswer.{HostAnswer}
use Rattle.fol_tick.specs.declared.list_host.HostAnswer.TheVariants.{Load, Unload, NoMemory}

-- the answer is not `Over`
abbrev pub is_answer : HostAnswer → Bool
is_answer (Load loaded.Over) = false
is_answer (Unload unloaded.Over) = false
is_answer _ = true

-- a load gets the next answer, and `Counted` at the end of the list or where the answer is one to an unload
abbrev pub load_answer : List HostAnswer → Result Loaded AllocError
load_answer [] = Ok loaded.Counted
load_answer (Load answer ∷ more) = Ok answer
load_answer (Unload answer ∷ more) = Ok loaded.Counted
load_answer (NoMemory ∷ more) = Err alloc_error

-- an unload gets the next answer, and `Lowered` at the end of the list or where the answer is one to a load
abbrev pub unload_answer : List HostAnswer → Result Unloaded AllocError
unload_answer [] = Ok unloaded.Lowered
unload_answer (Load answer ∷ more) = Ok unloaded.Lowered
unload_answer (Unload answer ∷ more) = Ok answer
unload_answer (NoMemory ∷ more) = Err alloc_error

-- calls that the first list answered one after another, until the second list was left
pub data Answers : List HostAnswer → List HostCall → List HostAnswer → Type 0 where
  none : (answers : List HostAnswer) → Answers answers [] answers
  load : (c : ChunkPos) (answers left : List HostAnswer) (calls : List HostCall) → Answers (drop 1 answers) calls left → Answers answers (load_call c (load_answer answers) ++ calls) left
  unload : (c : ChunkPos) (answers left : List HostAnswer) (calls : List HostCall) → Answers (drop 1 answers) calls left → Answers answers (unload_call c (unload_answer answers) ++ calls) left

pub answers_follow : (a b c : List HostAnswer) (xs ys : List HostCall) → Answers a xs b → Answers b ys c → Answers a (xs ++ ys) c
answers_follow a b c xs ys (none answers) h = h
answers_follow a b c xs ys (load k answers left calls t) h =
    let P : List HostCall → Type 0 = λ zs. Answers answers zs c in
    subst P (sym (append_assoc (load_call k (load_answer answers)) calls ys)) (load k answers c (calls ++ ys) (answers_follow (drop 1 answers) left c calls ys t h))
answers_follow a b c xs ys (unload k answers left calls t) h =
    let P : List HostCall → Type 0 = λ zs. Answers answers zs c in
    subst P (sym (append_assoc (unload_call k (unload_answer answers)) calls ys)) (unload k answers c (calls ++ ys) (answers_follow (drop 1 answers) left c calls ys t h))
