-- `report` meets its contract: what parsing answered decides which lines. Assumes nothing.
use Rattle.reporting.proofs.ReportLaws.{refused_report, block_report, report_put}
use Rattle.reporting.proofs.report.Goals as goal

pub returns-in-Err : goal.returns-in-Err
returns-in-Err c = let all_clauses = report_put _ _ _ _ _ (refused_report _ _ c.parse.ensures.answer c.in-Err.r c.in-Err.is) (c.put_refusal.ensures.next, c.put_refusal.ensures.out) in record { length = all_clauses.0; out = all_clauses.1.0; fits = all_clauses.1.1 }

pub returns-in-Ok : goal.returns-in-Ok
returns-in-Ok c = let all_clauses = report_put _ _ _ _ _ (block_report _ _ c.parse.ensures.answer c.in-Ok.b.w c.in-Ok.b.h c.in-Ok.b.east c.in-Ok.is) (c.put_input.ensures.next, c.put_input.ensures.out) in record { length = all_clauses.0; out = all_clauses.1.0; fits = all_clauses.1.1 }
