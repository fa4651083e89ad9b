use Rattle.std.proofs.Common.{◌-◌, arith}
use Rattle.sheet.proofs.Fronts.{part_is}
use Rattle.sheet.proofs.Sheet.front_cells.Goals as goal

pub returns : goal.returns
returns g c = part_is c.args.self.now.cells.now (c.covering-n.result - 0) (omega (arith, c.covering-n.ensures))
