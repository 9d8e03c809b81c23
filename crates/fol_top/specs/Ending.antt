-- The status of each ending.
use Rattle.std.specs.Prelude.{ℕ, None, Some}
use Rattle.fol_model.specs.declared.causes.Cause.{Cause}
use Rattle.fol_top.specs.declared.ending.Status.{Status}
use Rattle.fol_top.specs.declared.ending.Ending.{Ending}
use Rattle.fol_top.specs.declared.ending.Ending.TheVariants.{Written, Words, World, Script, ReadFault, WriteFault, NoMemory, TooLong, ReportText, ReportEvent, ReportState}

abbrev pub plain : ℕ → Status
plain code = record { code = code; line = 0; cause = None }

abbrev pub bad_line : ℕ → ℕ → Cause → Status
bad_line code line cause = record { code = code; line = line; cause = Some cause }

abbrev pub numbered : ℕ → ℕ → Status
numbered code number = record { code = code; line = number; cause = None }

abbrev pub status_of : Ending → Status
status_of Written = plain 0
status_of Words = plain 2
status_of (World line cause) = bad_line 3 line cause
status_of (Script line cause) = bad_line 4 line cause
status_of ReadFault = plain 5
status_of WriteFault = plain 6
status_of NoMemory = plain 7
status_of TooLong = plain 8
status_of (ReportText line) = numbered 10 line
status_of (ReportEvent number) = numbered 11 number
status_of (ReportState line) = numbered 12 line
