-- A legal history stays legal where there may be more workers.
use Rattle.std.specs.Prelude.{ℕ, ◌≤◌, List}
use Rattle.fol_model.specs.declared.openings.Opening.{Opening}
use Rattle.fol_model.specs.declared.scripts.Command.{Command}
use Rattle.fol_model.specs.declared.events.Entry.{Entry}
use Rattle.fol_model.specs.Legal.{Legal}

-- a legal history of w workers is one of v workers, where v is at least w
abbrev pub LegalOfMore : Type 0
LegalOfMore = (o : Opening) (script : List Command) (w v : ℕ) (es : List Entry) → w ≤ v → Legal o script w es → Legal o script v es
