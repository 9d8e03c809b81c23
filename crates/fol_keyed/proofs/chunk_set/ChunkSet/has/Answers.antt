use Rattle.std.proofs.Common.{◌≡◌, [], List, sym, ◌∙◌, ap, arith, Bool, true, false, not, ◌||◌, ◌&&◌, refl}
use Rattle.std.specs.Vec.{vec_len}
use Rattle.std.proofs.lemmas.Bool.{eqb-true}
use Rattle.std.proofs.lemmas.List.{nil_from_length}
use Rattle.fol_model.specs.declared.places.ChunkPos.{ChunkPos}
use Rattle.fol_keyed.specs.Members.{is_listed}
use Rattle.fol_keyed.proofs.Pending.{changed_has, changed_nothing, list_in_order}
use Rattle.fol_keyed.proofs.chunk_set.ChunkSet.has.Goals as goal

pub of-requires : goal.of-requires
of-requires c = rw c.deref.ensures.value (list_in_order c.self.inside.list.items c.self.inside.changes.items _ c.self.invariant (rw (← c.self.view_is) at c.requires))

pub returns-then-is_empty : goal.returns-then-is_empty
returns-then-is_empty c =
    let none : vec_len c.self.inside.changes ≡ 0 = eqb-true _ _ (sym c.is_empty.ensures ∙ c.if-is_empty.true) in
    let nothing : c.self.inside.changes.items ≡ [] = nil_from_length _ (omega (arith, none)) in
    let chunks = c.of.ensures ∙ c.deref.ensures.value ∙ (sym (changed_nothing _ _ nothing) ∙ c.self.view_is) in
    c.has-stood.ensures ∙ ap (λ (l : List ChunkPos). is_listed l c.args.c) chunks

differ : (a b : Bool) → not (mathlib.Core.Bool.beq a b) ≡ ((a && not b) || (not a && b))
differ true true = refl
differ true false = refl
differ false true = refl
differ false false = refl

pub returns : goal.returns
returns c =
    let stood = c.has-stood.ensures ∙ ap (λ (l : List ChunkPos). is_listed l c.args.c) (c.of.ensures ∙ c.deref.ensures.value) in
    let waits = c.has.ensures ∙ ap (λ (l : List ChunkPos). is_listed l c.args.c) (c.of-2.ensures ∙ c.deref-2.ensures.value) in
    differ c.has-stood.result c.has.result
    ∙ ap (λ a. (a && not c.has.result) || (not a && c.has.result)) stood
    ∙ ap (λ b. (is_listed c.self.inside.list.items c.args.c && not b) || (not (is_listed c.self.inside.list.items c.args.c) && b)) waits
    ∙ sym (changed_has c.self.inside.list.items c.self.inside.changes.items c.self.invariant.changes_rise c.args.c)
    ∙ ap (λ (l : List ChunkPos). is_listed l c.args.c) c.self.view_is
