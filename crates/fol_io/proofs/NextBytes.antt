-- The next bytes of what is left.
use Rattle.std.proofs.Common.{◌≡◌, ℕ, ◌+◌, ◌-◌, ◌≤◌, List, [], ◌++◌, length, take, drop, sym, ap, ◌∙◌, append_assoc, arith}
use Rattle.std.proofs.lemmas.List.{append-nil, drop_all, drop_at, length-take-le, take-append-drop, take_all, take_at}
use Rattle.std.proofs.lemmas.Slice.{take-put_mid}
use borrow.Rule.Slice.PartMut.{put_mid}

-- bytes in front of others that are the first n of all
pub front_full : (n : ℕ) (head left all : List ℕ) → head ++ left ≡ all → length head ≡ n → (left ≡ drop n all) × (head ≡ take n all)
front_full n head left all is long = (sym (ap (drop n) (sym is) ∙ drop_at head left n long), sym (ap (take n) (sym is) ∙ take_at head left n long))

-- bytes that are all, of which there are at most n
pub front_short : (n : ℕ) (head left all : List ℕ) → head ++ left ≡ all → left ≡ [] → length head ≤ n → (left ≡ drop n all) × (head ≡ take n all)
front_short n head left all is none few =
    let whole : head ≡ all = sym (ap (λ t. head ++ t) none ∙ append-nil head) ∙ is in
    let fits : length all ≤ n = omega (arith, ap length whole, few) in
    (none ∙ sym (drop_all n all fits), whole ∙ sym (take_all n all fits))

-- the next bytes of a row behind those that were taken before
pub taken_more : (len count : ℕ) (carry next row later rest all : List ℕ) → take len carry ++ (row ++ rest) ≡ all → len ≤ length carry → count ≤ length row → next ≡ take count row → later ≡ drop count row
    → take (len + count) (put_mid len (len + count - len) carry next) ++ (later ++ rest) ≡ all
taken_more len count carry next row later rest all is room within piece behind =
    let taken = take-put_mid len (len + count - len) carry next (len + count) (omega (arith, ap length piece, length-take-le count row within)) room in
    ap (λ t. t ++ (later ++ rest)) (taken ∙ ap (λ t. take len carry ++ t) piece)
    ∙ append_assoc (take len carry) (take count row) (later ++ rest)
    ∙ ap (λ t. take len carry ++ t) (sym (append_assoc (take count row) later rest) ∙ ap (λ t. t ++ rest) (ap (λ t. take count row ++ t) behind ∙ take-append-drop count row))
    ∙ is
