use Rattle.std.proofs.Common.{rules}
use Rattle.sheet.proofs.Runs.{ran_over}
use Rattle.sheet.proofs.run.run_laid_out.Goals as goal

pub returns : goal.returns
returns g c = λ by gives.
    let r = c.run.ensures in
    let w = c.new-sheet.ensures in
    ran_over _ _ _ c.args.cells.now _ c.args.work.now _ c.new-sheet.result c.run.new.self _ _ w.stands w.long w.beyond r.kept (search rules) r.rest (r.law by gives)
