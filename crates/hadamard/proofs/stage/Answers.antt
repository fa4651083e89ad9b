use Rattle.std.proofs.Common.{◌≡◌, arith}
use Rattle.hadamard.proofs.stage.Goals as goal

pub cross_blocks-requires : goal.cross_blocks-requires
cross_blocks-requires g c = let e : c.args.half ≡ 1 = omega arith in rw e at c.requires

pub cross_blocks-requires-in-2 : goal.cross_blocks-requires-in-2
cross_blocks-requires-in-2 g c = let e : c.args.half ≡ 2 = omega arith in rw e at c.requires

pub cross_blocks-requires-in-4 : goal.cross_blocks-requires-in-4
cross_blocks-requires-in-4 g c = let e : c.args.half ≡ 4 = omega arith in rw e at c.requires
