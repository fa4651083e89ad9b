use Rattle.std.proofs.Common.{◌+◌, ◌*◌, ◌<◌, length, sym, arith, rules}
use lib.Arith.{digits_lt}
use Rattle.std.proofs.lemmas.List.{get_or-map}
use Rattle.group_finder.proofs.choices.Lists.at.Goals as goal

pub offset_bounds-self-q : goal.offset_bounds-self-q
offset_bounds-self-q g c =
    let s = c.args.self.now in
    let l = s.long in
    let d : c.args.q * s.span + c.args.t < (s.count + 2) * s.span = digits_lt c.requires.0 c.requires.1 in
    let h : c.args.q * s.span + c.args.t < length s.readings.now = omega arith in
    search rules

pub returns-clause-sized : goal.returns-clause-sized
returns-clause-sized g c =
    let s = c.args.self.now in
    let l = s.long in
    let d : c.args.q * s.span + c.args.t < (s.count + 2) * s.span = digits_lt c.requires.0 c.requires.1 in
    sym (get_or-map g.R.Reading.size s.readings.now (c.args.q * s.span + c.args.t) c.index-self-q.result 0 (omega arith))
