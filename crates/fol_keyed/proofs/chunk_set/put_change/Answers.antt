use Rattle.std.proofs.Common.{◌≡◌, ◌+◌, ◌++◌, ◌∷◌, [], List, take, drop, refl, sym, ◌∙◌, ap, arith, append_assoc, length-drop, length-take}
use Rattle.std.proofs.lemmas.List.{append-nil, take_all}
use Rattle.fol_model.specs.declared.places.ChunkPos.{ChunkPos}
use Rattle.fol_keyed.specs.ChunkSets.{unless_there}
use Rattle.fol_keyed.proofs.OneMore.{recorded_between, recorded_where}
use Rattle.fol_keyed.proofs.Pending.{gap_back, gap_front, known_back, known_front}
use Rattle.fol_keyed.proofs.chunk_set.put_change.Goals as goal

pub returns-in-Ok-clause-rest : goal.returns-in-Ok-clause-rest
returns-in-Ok-clause-rest c =
    let xs = c.args.list.now in
    take_all _ (drop (c.in-Ok.i + 1) xs) (omega (arith, length-drop (c.in-Ok.i + 1) xs)) ∙ sym (known_back xs c.args.c c.in-Ok.i c.requires.order c.in-Ok.ensures.0 c.in-Ok.ensures.1)

pub returns-in-Ok-clause-out : goal.returns-in-Ok-clause-out
returns-in-Ok-clause-out c =
    let xs = c.args.list.now in
    let out = c.args.out.now.items in
    let ok = c.extend_from_slice.ensures.succeeds (omega (arith, c.requires.room, c.in-Ok.ensures.0, length-take c.in-Ok.i xs)) in
    let added : c.extend_from_slice.new.self.items ≡ out ++ take c.in-Ok.i xs = rw ok at c.extend_from_slice.ensures.items in
    let none : unless_there xs c.args.c ≡ [] = rw (recorded_where xs c.in-Ok.i c.args.c c.in-Ok.ensures.0 c.in-Ok.ensures.1) refl in
    added
    ∙ ap (λ (l : List ChunkPos). out ++ l) (sym (append-nil (take c.in-Ok.i xs)))
    ∙ (λ k. out ++ (sym (known_front xs c.args.c c.in-Ok.i c.requires.order c.in-Ok.ensures.0 c.in-Ok.ensures.1) k ++ sym none k))

pub returns-in-Err-clause-rest : goal.returns-in-Err-clause-rest
returns-in-Err-clause-rest c =
    let xs = c.args.list.now in
    take_all _ (drop c.in-Err.i xs) (omega (arith, length-drop c.in-Err.i xs)) ∙ sym (gap_back xs c.args.c c.in-Err.i c.in-Err.ensures.0 c.in-Err.ensures.1)

pub returns-in-Err-clause-out : goal.returns-in-Err-clause-out
returns-in-Err-clause-out c =
    let xs = c.args.list.now in
    let out = c.args.out.now.items in
    let i = c.in-Err.i in
    let ok = c.extend_from_slice-in-Err.ensures.succeeds (omega (arith, c.requires.room, c.in-Err.ensures.0, length-take i xs)) in
    let added : c.extend_from_slice-in-Err.new.self.items ≡ out ++ take i xs = rw ok at c.extend_from_slice-in-Err.ensures.items in
    let one : unless_there xs c.args.c ≡ c.args.c ∷ [] = rw (recorded_between xs i c.args.c c.in-Err.ensures.1) refl in
    c.push_reserved.ensures.items
    ∙ ap (λ (l : List ChunkPos). l ++ c.args.c ∷ []) added
    ∙ append_assoc out (take i xs) (c.args.c ∷ [])
    ∙ (λ k. out ++ (sym (gap_front xs c.args.c i c.in-Err.ensures.0 c.in-Err.ensures.1) k ++ sym one k))
