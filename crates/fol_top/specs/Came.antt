-- What holds of each ending of a run.
use Rattle.std.specs.Prelude.{◌≡◌, Some, None}
use Rattle.fol_io.specs.Counts.{Rose}
use Rattle.fol_top.specs.Command.{Request, request_in}
use Rattle.fol_top.specs.Inputs.{Faulted, Overlong}
use Rattle.fol_top.specs.Report.{BadScript, BadWorld, Judged, Written as WrittenWhole, WrittenInPart}
use Rattle.fol_top.specs.Outcome.{Course}
use Rattle.fol_top.specs.declared.ending.Ending.{Ending}
use Rattle.fol_top.specs.declared.ending.Ending.TheVariants.{Written, Words, World, Script, ReadFault, WriteFault, NoMemory, TooLong, ReportText, ReportEvent, ReportState}
use Rattle.fol_check.specs.declared.verdicts.Verdict.TheVariants as verdicts

abbrev pub Came : Course → Ending → Type 0
Came v Written = WrittenWhole v.words v.held v.received v.received_later
Came v Words = (request_in v.words ≡ None) × (v.received_later ≡ v.received)
Came v (World line cause) = BadWorld v.words v.held line (Some cause) × (v.received_later ≡ v.received)
Came v (Script line cause) = BadScript v.words v.held line (Some cause) × (v.received_later ≡ v.received)
Came v ReadFault = Faulted v.words v.held v.faults v.faults_later v.reads v.reads_later × (v.received_later ≡ v.received)
Came v WriteFault = WrittenInPart v.words v.held v.received v.received_later v.puts v.puts_later × Rose v.write_faults v.write_faults_later
Came v NoMemory = (request : Request) × (request_in v.words ≡ Some request) × (v.received_later ≡ v.received)
Came v TooLong = Overlong v.words v.held v.taken v.taken_later v.reads v.reads_later × (v.received_later ≡ v.received)
Came v (ReportText line) = Judged v.words v.held (verdicts.Text line) × (v.received_later ≡ v.received)
Came v (ReportEvent number) = Judged v.words v.held (verdicts.Event number) × (v.received_later ≡ v.received)
Came v (ReportState line) = Judged v.words v.held (verdicts.State line) × (v.received_later ≡ v.received)
