-- What is left of an output.
use Rattle.std.specs.Prelude.{ℕ, List, ◌++◌, flat_map}
use Rattle.fol_io.specs.declared.left.Left.{Left}

-- the bytes in a row, and those of the parts behind them
abbrev pub left_of : Left → List ℕ
left_of left = left.row.now ++ flat_map (λ part. part.items) left.parts.now
