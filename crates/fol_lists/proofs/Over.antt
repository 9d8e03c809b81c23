-- Elements that are written over others, within the places of one list.
use Rattle.std.proofs.Common.{◌≡◌, ◌≢◌, ℕ, ◌+◌, ◌-◌, ◌≤◌, ◌<◌, sym, ◌∙◌, ap, arith, inl, inr, List, [], ◌++◌, length, get_or, take, drop, append_assoc, length-append, length-take-le}
use Rattle.std.specs.Prelude.{slice_set}
use Rattle.std.specs.List.{All, slice_range}
use Rattle.std.proofs.lemmas.List.{drop-drop, drop_at, ext_get_or, get_or-map, get_or-set_other, get_or-set_same, length-map, length-set, take-append-drop, take-append-le, take_all}
use Rattle.std.proofs.lemmas.Bool.{cases_eq}
use Rattle.fol_lists.specs.declared.spans.Span.{Span}
use Rattle.fol_lists.specs.Spans.{AreApart, IsSpan, piece_of, pieces_of}
use Rattle.fol_lists.proofs.Pieces.{piece-front, piece_at, range_joined}

-- others from the place a up to b
abbrev pub over : {T : Type 0} → List T → ℕ → ℕ → List T → List T
over cells a b ys = take a cells ++ (ys ++ drop (b - a) (drop a cells))

module _ {T : Type 0} (cells : List T) (a b : ℕ) (ys : List T) (l : a ≤ b) (m : b ≤ length cells) (e : length ys ≡ b - a) where
  head_long : length (take a cells) ≡ a
  head_long = length-take-le a cells (omega (arith, l, m))

  over_before : (span : Span) → span.from ≤ span.to → span.to ≤ a → piece_of (over cells a b ys) span ≡ piece_of cells span
  over_before span u v =
      let within : span.to ≤ length (take a cells) = omega (arith, v, head_long) in
      piece-front (take a cells) (ys ++ drop (b - a) (drop a cells)) span u within
      ∙ sym (piece-front (take a cells) (drop a cells) span u within)
      ∙ ap (λ cs. piece_of cs span) (take-append-drop a cells)

  over_rest : drop b (over cells a b ys) ≡ drop b cells
  over_rest =
      let at : a + (b - a) ≡ b = omega (arith, l) in
      ap (drop b) (sym (append_assoc (take a cells) ys (drop (b - a) (drop a cells))))
      ∙ drop_at (take a cells ++ ys) (drop (b - a) (drop a cells)) b (omega (arith, head_long, e, l, length-append (take a cells) ys))
      ∙ drop-drop (b - a) a cells ∙ ap (λ k. drop k cells) at

  over_behind : (span : Span) → b ≤ span.from → piece_of (over cells a b ys) span ≡ piece_of cells span
  over_behind span u =
      let at : b + (span.from - b) ≡ span.from = omega (arith, u) in
      let far : (cs : List T) → drop (span.from - b) (drop b cs) ≡ drop span.from cs = λ cs. drop-drop (span.from - b) b cs ∙ ap (λ k. drop k cs) at in
      ap (take (span.to - span.from)) (sym (far (over cells a b ys)) ∙ ap (drop (span.from - b)) over_rest ∙ far cells)

  pub over_at : slice_range (over cells a b ys) a b ≡ ys
  over_at =
      ap (take (b - a)) (drop_at (take a cells) (ys ++ drop (b - a) (drop a cells)) a head_long)
      ∙ take-append-le (b - a) ys (drop (b - a) (drop a cells)) (omega (arith, e)) ∙ take_all (b - a) ys (omega (arith, e))

  module _ (spans : List Span) (n : ℕ) (u : n < length spans) (d : Span) (fit : All (IsSpan (length cells)) spans) (h : AreApart spans) (from : (get_or spans n d).from ≤ a)
      (to : b ≤ (get_or spans n d).end) where
    other_kept : (k : ℕ) → k < length spans → k ≢ n → piece_of (over cells a b ys) (get_or spans k d) ≡ piece_of cells (get_or spans k d)
    other_kept k v other = elim (h.apart k n d v u other) [
      | inl x ↦ over_before (get_or spans k d) (fit k d v).rising (omega (arith, x, from, (fit k d v).free))
      | inr x ↦ over_behind (get_or spans k d) (omega (arith, x, to))
    ]

    -- one list is what its span holds now, and the others stay
    pub pieces_over : (s : Span) (zs : List T) → piece_of (over cells a b ys) s ≡ zs → pieces_of (over cells a b ys) (slice_set spans n s) ≡ slice_set (pieces_of cells spans) n zs
    pieces_over s zs p = ext_get_or [] (pieces_of (over cells a b ys) (slice_set spans n s)) (slice_set (pieces_of cells spans) n zs)
        (omega (arith, length-map (slice_set spans n s) (piece_of (over cells a b ys)), length-set spans n s, length-map spans (piece_of cells), length-set (pieces_of cells spans) n zs))
        (λ k i.
        let in_set : k < length (slice_set spans n s) = omega (arith, i, length-map (slice_set spans n s) (piece_of (over cells a b ys))) in
        let in_spans : k < length spans = omega (arith, in_set, length-set spans n s) in
        let now : get_or (pieces_of (over cells a b ys) (slice_set spans n s)) k [] ≡ piece_of (over cells a b ys) (get_or (slice_set spans n s) k d) =
        get_or-map (piece_of (over cells a b ys)) (slice_set spans n s) k d [] in_set in
        elim (cases_eq k n) [
          | inl x ↦
              now ∙ ap (λ j. piece_of (over cells a b ys) (get_or (slice_set spans n s) j d)) x ∙ ap (piece_of (over cells a b ys)) (get_or-set_same spans n s d u) ∙ p
              ∙ sym (ap (λ j. get_or (slice_set (pieces_of cells spans) n zs) j []) x ∙ get_or-set_same (pieces_of cells spans) n zs [] (omega (arith, u, length-map spans (piece_of cells))))
          | inr x ↦
              now ∙ ap (piece_of (over cells a b ys)) (get_or-set_other spans n k s d x) ∙ other_kept k in_spans x
              ∙ sym (get_or-set_other (pieces_of cells spans) n k zs [] x ∙ get_or-map (piece_of cells) spans k d [] in_spans)
        ])

    -- more elements in the free places behind a list
    pub pieces_filled : (s : Span) → a ≡ (get_or spans n d).to → s.from ≡ (get_or spans n d).from → s.to ≡ b
        → pieces_of (over cells a b ys) (slice_set spans n s) ≡ slice_set (pieces_of cells spans) n (get_or (pieces_of cells spans) n [] ++ ys)
    pieces_filled s begin first last =
        let span = get_or spans n d in
        let rising = (fit n d u).rising in
        let front : slice_range (over cells a b ys) span.from a ≡ piece_of cells span =
        ap (slice_range (over cells a b ys) span.from) begin ∙ over_before span rising (omega (arith, begin)) in
        let whole : piece_of (over cells a b ys) s ≡ piece_of cells span ++ ys =
        (λ i. slice_range (over cells a b ys) (first i) (last i)) ∙ sym (range_joined (over cells a b ys) span.from a b from l)
        ∙ (λ i. front i ++ over_at i) in
        pieces_over s (get_or (pieces_of cells spans) n [] ++ ys) (whole ∙ ap (λ ps. ps ++ ys) (sym (piece_at cells spans n u d)))
