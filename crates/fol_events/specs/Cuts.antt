-- Bytes without the end of a line.
use Rattle.std.specs.Prelude.{ℕ, Bool, List, ◌==◌, not}
use Rattle.std.specs.List.{list_all}

abbrev pub has_no_feed : List ℕ → Bool
has_no_feed bytes = list_all (λ b. not (b == 10)) bytes
