-- The begin of a tick: a Ready region becomes Ticking.
use Rattle.std.specs.Prelude.{ℕ}
use Rattle.fol_model.specs.declared.regions.State.TheVariants.{Ticking}
use Rattle.fol_model.specs.GridState.{GridState, with_state}

unfoldable pub begin : GridState → ℕ → GridState
begin g r = record g { state = with_state g.state r Ticking }
