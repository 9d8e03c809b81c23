-- How far an output has come that is put in pieces.
use Rattle.std.proofs.Common.{◌≡◌, ℕ, ◌+◌, ◌*◌, ◌<◌, ◌⊎◌, inl, inr, refl, sym, ap, ◌∙◌, List, ◌++◌, length, take, drop, append_assoc, Option, arith}
use Rattle.std.specs.Prelude.{◌≢◌, []}
use Rattle.std.proofs.lemmas.List.{append-nil, drop_all, length-append, length-take-le, nil_from_length, take-append-drop}
use Rattle.std.proofs.lemmas.Bool.{cases_lt}
use Rattle.fol_io.specs.Counts.{raised}
use Rattle.fol_io.specs.Sink.{Received, ReceivedInPieces, ReceivedPrefix, piece_size}
use Rattle.fol_io.proofs.Received.{Received-after, Received-none, ReceivedPrefix-after}

-- all bytes but those that are left were received in whole pieces, of which the last may be the end of the bytes; the sink counted each of them
pub record AtPiece (all left : List ℕ) (before now : Option (List ℕ)) (puts later : ℕ) : Type 0 where
  pub sent : List ℕ
  pub split : sent ++ left ≡ all
  pub received : Received before now sent
  pub whole : ℕ
  pub place : (length sent ≡ piece_size * whole) ⊎ (left ≡ [])
  pub counted : raised 1 later ≡ raised (whole + 1) puts

raised-again : (k p : ℕ) → raised 1 (raised k p) ≡ raised (k + 1) p
raised-again k p = omega arith

pub some_left : (left : List ℕ) → left ≢ [] → 0 < length left
some_left left some = elim (cases_lt 0 (length left)) [ inl more ↦ more | inr none ↦ absurd (some (nil_from_length left (omega (arith, none)))) ]

next_place : (sent left : List ℕ) (whole : ℕ) → length sent ≡ piece_size * whole → (length (sent ++ take piece_size left) ≡ piece_size * (whole + 1)) ⊎ (drop piece_size left ≡ [])
next_place sent left whole at =
    elim (cases_lt (length left) piece_size) [
      | inl short ↦ inr (drop_all piece_size left (omega (arith, short)))
      | inr long ↦ inl (omega (arith, at, long, length-append sent (take piece_size left), length-take-le piece_size left long))
    ]

pub AtPiece-begin : (all : List ℕ) (before : Option (List ℕ)) (puts : ℕ) → AtPiece all all before before puts puts
AtPiece-begin all before puts = record { sent = []; split = refl; received = Received-none before; whole = 0; place = inl refl; counted = refl }

-- what is left, seen after a step that leaves all of it
pub AtPiece-same : (all left same : List ℕ) (before now : Option (List ℕ)) (puts later : ℕ) → same ≡ left → AtPiece all left before now puts later → AtPiece all same before now puts later
AtPiece-same all left same before now puts later e at = rw e at

-- bytes in a row are not empty, whatever is behind them
pub some_row : (row rest : List ℕ) → 0 < length row → row ++ rest ≢ []
some_row row rest some none = omega (arith, some, ap length none, length-append row rest)

module _ (all left : List ℕ) (before mid : Option (List ℕ)) (puts mid_puts : ℕ) (at : AtPiece all left before mid puts mid_puts) where
  -- with nothing left all bytes were received
  pub AtPiece-end : left ≡ [] → Received before mid all
  AtPiece-end none =
      let whole : at.sent ≡ all = sym (ap (λ t. at.sent ++ t) none ∙ append-nil at.sent) ∙ at.split in
      rw whole at at.received

  -- bytes of which some are left are not empty
  pub AtPiece-some : left ≢ [] → all ≢ []
  AtPiece-some some none = let l = some_left left some in omega (arith, l, ap length at.split, ap length none, length-append at.sent left)

  at_whole : left ≢ [] → length at.sent ≡ piece_size * at.whole
  at_whole some = elim at.place [ inl whole ↦ whole | inr none ↦ absurd (some none) ]

  -- the next piece
  pub AtPiece-next : (now : Option (List ℕ)) (later : ℕ) → left ≢ [] → Received mid now (take piece_size left) → later ≡ raised 1 mid_puts → AtPiece all (drop piece_size left) before now puts later
  AtPiece-next now later some piece counts = record {
    sent = at.sent ++ take piece_size left;
    split = append_assoc at.sent (take piece_size left) (drop piece_size left) ∙ ap (λ t. at.sent ++ t) (take-append-drop piece_size left) ∙ at.split;
    received = Received-after before mid now at.sent (take piece_size left) at.received piece;
    whole = at.whole + 1;
    place = next_place at.sent left at.whole (at_whole some);
    counted = ap (raised 1) (counts ∙ at.counted) ∙ raised-again (at.whole + 1) puts;
  }

  -- a piece that fails: the sink received some of its bytes
  pub ReceivedInPieces-failed : (now : Option (List ℕ)) (later : ℕ) → left ≢ [] → ReceivedPrefix mid now (take piece_size left) → later ≡ raised 1 mid_puts → ReceivedInPieces before now puts later all
  ReceivedInPieces-failed now later some piece counts =
      let prefix = ReceivedPrefix-after before mid now piece_size at.sent left all at.split at.received piece in
      let whole = at_whole some in
      record {
        whole = at.whole;
        next = omega (arith, whole, some_left left some, ap length at.split, length-append at.sent left);
        more = prefix.0;
        prefix = prefix.1;
        received = rw (ap (λ (k : ℕ). take (k + prefix.0) all) whole) at prefix.2;
        counted = counts ∙ at.counted;
      }

-- bytes of which some are left, seen after a step that leaves all of it, are not empty
pub some_of_all : (all left same : List ℕ) (before now : Option (List ℕ)) (puts later : ℕ) → same ≡ left → AtPiece all left before now puts later → same ≢ [] → all ≢ []
some_of_all all left same before now puts later e at some = AtPiece-some all same before now puts later (AtPiece-same all left same before now puts later e at) some
