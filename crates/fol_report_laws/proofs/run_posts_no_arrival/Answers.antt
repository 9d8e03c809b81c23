use Rattle.fol_report_laws.proofs.NoArrivals.{run_posts_no_arrival}
use Rattle.fol_report_laws.proofs.run_posts_no_arrival.Goals as goal

pub returns : goal.returns
returns c = run_posts_no_arrival
