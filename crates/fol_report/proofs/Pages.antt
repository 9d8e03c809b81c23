-- A text that grows at its end in a row of bytes.
use Rattle.std.proofs.Common.{◌≡◌, ℕ, ◌+◌, ◌≤◌, List, ◌++◌, ◌∙◌, ap, sym, take, drop, length, arith, length-take-le, take_at}
use Rattle.std.proofs.Math.Seq.{take-append-add}
use Rattle.std.proofs.lemmas.List.{take-append-drop}

-- the text once a word was written behind it
pub written_behind : (len end : ℕ) (old new word rest : List ℕ) → len + length word ≡ end → len ≤ length new
    → drop len new ≡ word ++ rest → take len new ≡ take len old → take end new ≡ take len old ++ word
written_behind len end old new word rest h l written before =
    let front = take len new in
    let long : length front + length word ≡ end = omega (arith, length-take-le len new l) in
    ap (take end) (sym (take-append-drop len new))
    ∙ ap (λ n. take n (front ++ drop len new)) (sym long)
    ∙ take-append-add front (drop len new) (length word)
    ∙ ap (λ t. front ++ take (length word) t) written
    ∙ ap (λ t. front ++ t) (take_at word rest (length word) (λ i. length word))
    ∙ ap (λ t. t ++ word) before
