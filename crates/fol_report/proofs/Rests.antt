-- The words that are left of a line: there are some.
use Rattle.std.proofs.Common.{◌<◌, List, [], ◌∷◌, ◌++◌, length, flat_map, ap, arith}
use Rattle.std.specs.Bool.{◌==◌}
use Rattle.std.specs.Prelude.{◌≡◌, ◌≢◌, false}
use Rattle.fol_model.specs.LineWords.{Word}
use Rattle.std.proofs.lemmas.List.{length-append}
use Rattle.fol_model.specs.declared.actions.Action.{Action}
use Rattle.fol_model.specs.declared.actions.Action.TheVariants.{Set, Copy, Load, Unload, Post, Send, Arrive, Every}
use Rattle.fol_model.specs.declared.events.Accept.{Accept}
use Rattle.fol_model.specs.declared.events.Accept.TheVariants as accept
use Rattle.fol_model.specs.ReportWords.{accept_words, action_words}

pub action_some : (a : Action) → 0 < length (action_words a)
unfolding action_words
action_some (Set at id) = omega arith
action_some (Copy at to) = omega arith
action_some (Load chunk) = omega arith
action_some (Unload chunk) = omega arith
action_some (Post chunk delay inner) = omega arith
action_some (Send entity to) = omega arith
action_some (Arrive entity) = omega arith
action_some (Every period left inner) = omega arith

pub answers_some : (answers : List Accept) → (length answers == 0) ≡ false → flat_map accept_words answers ≢ []
answers_some [] some none = cc
answers_some (accept.Posted number ∷ later) some none = omega (arith, ap length none)
answers_some (accept.Full present wanted ∷ later) some none = omega (arith, ap length none)

pub some_behind : (before later : List Word) (w : Word) → before ++ w ∷ later ≢ []
some_behind before later w none = omega (arith, ap length none, length-append before (w ∷ later))
