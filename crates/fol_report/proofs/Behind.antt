-- Texts that are put in a page behind another text.
use Rattle.std.proofs.Common.{◌≡◌, ℕ, append_assoc, List, ◌++◌}

-- two texts that were put in a page
pub both_behind : (out page one two head last whole : List ℕ) → one ≡ page ++ head → two ≡ one ++ last → whole ≡ head ++ last → out ++ two ≡ out ++ page ++ whole
both_behind out page one two head last whole e f k = rw (f, e, k) (simp append_assoc)
