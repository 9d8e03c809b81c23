-- One call of a host that gives the answers of a list.
use Rattle.std.proofs.Common.{◌≡◌, List, [], sym, subst, drop, append-nil}
use Rattle.std.specs.Prelude.{Result}
use Rattle.std.specs.declared.alloc.AllocError.{AllocError}
use Rattle.fol_model.specs.declared.places.ChunkPos.{ChunkPos}
use Rattle.fol_model.specs.declared.events.Loaded.{Loaded}
use Rattle.fol_model.specs.declared.events.Unloaded.{Unloaded}
use Rattle.fol_tick.specs.Calls.{HostCall, load_call, unload_call}
use Rattle.fol_tick.specs.ListAnswers.{load_answer, unload_answer, Answers, none, load, unload}
use Rattle.fol_tick.specs.declared.list_host.HostAnswer.{HostAnswer}

last : (answers left : List HostAnswer) → left ≡ drop 1 answers → Answers (drop 1 answers) [] left
last answers left e = let P : List HostAnswer → Type 0 = λ zs. Answers (drop 1 answers) [] zs in subst P (sym e) (none (drop 1 answers))

pub one_load : (c : ChunkPos) (answers left : List HostAnswer) (r : Result Loaded AllocError) → r ≡ load_answer answers → left ≡ drop 1 answers → Answers answers (load_call c r) left
one_load c answers left r e d =
    let P : List HostCall → Type 0 = λ zs. Answers answers zs left in
    let Q : Result Loaded AllocError → Type 0 = λ z. Answers answers (load_call c z) left in
    subst Q (sym e) (subst P (append-nil (load_call c (load_answer answers))) (load c answers left [] (last answers left d)))

pub one_unload : (c : ChunkPos) (answers left : List HostAnswer) (r : Result Unloaded AllocError) → r ≡ unload_answer answers → left ≡ drop 1 answers → Answers answers (unload_call c r) left
one_unload c answers left r e d =
    let P : List HostCall → Type 0 = λ zs. Answers answers zs left in
    let Q : Result Unloaded AllocError → Type 0 = λ z. Answers answers (unload_call c z) left in
    subst Q (sym e) (subst P (append-nil (unload_call c (unload_answer answers))) (unload c answers left [] (last answers left d)))
