-- From how the drawing of a closing ends to how a run ends.
use Rattle.std.proofs.Common.{◌≡◌, ℕ, List}
use Rattle.std.specs.Prelude.{Option, Some}
use Rattle.fol_model.specs.declared.openings.Opening.{Opening}
use Rattle.fol_model.specs.Texts.{IsWorldText}
use Rattle.fol_io.specs.Shelf.{IsHeld}
use Rattle.fol_map.specs.Runs.{Came, Course, FilesCame, FilesEnd, IsDrawn, IsDrawnOver, Outcome, PutEnds, ReportEnds, TextsEnd, names_in}
use Rattle.fol_map.specs.declared.endings.Ending.{Ending}
use Rattle.fol_map.specs.declared.endings.Ending.TheVariants.{Written, Words, World, ReadFault, WriteFault, NoMemory, TooLong, Report}

pub put_weaker : (P Q : List ℕ → Type 0) → ((b : List ℕ) → P b → Q b) → (before now : Option (List ℕ)) (f l p q : ℕ) (e : Ending) → PutEnds P before now f l p q e → PutEnds Q before now f l p q e
put_weaker P Q w before now f l p q Written h = (h.0, w h.0 h.1, h.2)
put_weaker P Q w before now f l p q WriteFault h = (h.0, w h.0 h.1, h.2, h.3)
put_weaker P Q w before now f l p q NoMemory h = h
put_weaker P Q w before now f l p q Words h = absurd h
put_weaker P Q w before now f l p q (World line cause) h = absurd h
put_weaker P Q w before now f l p q ReadFault h = absurd h
put_weaker P Q w before now f l p q TooLong h = absurd h
put_weaker P Q w before now f l p q (Report line) h = absurd h

pub report_ends : (o : Opening) (report : List ℕ) (before now : Option (List ℕ)) (f l p q : ℕ) (e : Ending) → PutEnds (IsDrawn o report) before now f l p q e → ReportEnds o report before now f l p q e
report_ends o report before now f l p q Written h = h
report_ends o report before now f l p q WriteFault h = h
report_ends o report before now f l p q NoMemory h = h
report_ends o report before now f l p q Words h = absurd h
report_ends o report before now f l p q (World line cause) h = absurd h
report_ends o report before now f l p q ReadFault h = absurd h
report_ends o report before now f l p q TooLong h = absurd h
report_ends o report before now f l p q (Report line) h = absurd h

-- a picture over the opening is one over its text
over : (world report : List ℕ) (o : Opening) → IsWorldText world o → (b : List ℕ) → IsDrawn o report b → IsDrawnOver world report b
over world report o t b d = record { opening = o; text = t; drawn = d }

pub texts_end : (world report : List ℕ) (o : Opening) → IsWorldText world o → (before now : Option (List ℕ)) (f l p q : ℕ) (e : Ending) → ReportEnds o report before now f l p q e → TextsEnd world report before now f l p q e
texts_end world report o t before now f l p q Written h = put_weaker (IsDrawn o report) (IsDrawnOver world report) (over world report o t) before now f l p q Written h
texts_end world report o t before now f l p q WriteFault h = put_weaker (IsDrawn o report) (IsDrawnOver world report) (over world report o t) before now f l p q WriteFault h
texts_end world report o t before now f l p q NoMemory h = h
texts_end world report o t before now f l p q Words h = absurd h
texts_end world report o t before now f l p q (World line cause) h = absurd h
texts_end world report o t before now f l p q ReadFault h = absurd h
texts_end world report o t before now f l p q TooLong h = absurd h
texts_end world report o t before now f l p q (Report line) h = (record { opening = o; text = t; bad = h.0 }, h.1)

-- the drawing of the texts of two files
pub files_end : (v : Course) (world report wb rb : List ℕ) → IsHeld (v.held world) wb → IsHeld (v.held report) rb → (e : Ending) → TextsEnd wb rb v.received v.received_later v.write_faults v.write_faults_later v.puts v.puts_later e → FilesEnd v world report e
files_end v world report wb rb hw hr Written h = record { world_bytes = wb; report_bytes = rb; world_held = hw; report_held = hr; ends = h }
files_end v world report wb rb hw hr WriteFault h = record { world_bytes = wb; report_bytes = rb; world_held = hw; report_held = hr; ends = h }
files_end v world report wb rb hw hr NoMemory h = h
files_end v world report wb rb hw hr Words h = absurd h
files_end v world report wb rb hw hr (World line cause) h = record { world_bytes = wb; report_bytes = rb; world_held = hw; report_held = hr; ends = h }
files_end v world report wb rb hw hr ReadFault h = absurd h
files_end v world report wb rb hw hr TooLong h = absurd h
files_end v world report wb rb hw hr (Report line) h = record { world_bytes = wb; report_bytes = rb; world_held = hw; report_held = hr; ends = h }

came : (v : Course) (world report : List ℕ) → names_in v.words ≡ Some (record { world = world; report = report }) → (e : Ending) → FilesCame v world report e → Came v e
came v world report w e h = record {
  world = h.world_bytes;
  report = h.report_bytes;
  inputs = record { names = record { world = world; report = report; command = w }; world_held = h.world_held; report_held = h.report_held };
  ends = h.ends;
}

-- the work on the files that the words name
pub run_ends : (v : Course) (world report : List ℕ) → names_in v.words ≡ Some (record { world = world; report = report }) → (e : Ending) → FilesEnd v world report e → Outcome v e
run_ends v world report w Written h = came v world report w Written h
run_ends v world report w WriteFault h = came v world report w WriteFault h
run_ends v world report w NoMemory h = h
run_ends v world report w Words h = absurd h
run_ends v world report w (World line cause) h = came v world report w (World line cause) h
run_ends v world report w ReadFault h = record { names = record { world = world; report = report; command = w }; fact = h.fact; nothing = h.nothing }
run_ends v world report w TooLong h = record { names = record { world = world; report = report; command = w }; fact = h.fact; nothing = h.nothing }
run_ends v world report w (Report line) h = came v world report w (Report line) h
