use Rattle.std.proofs.Common.{◌<◌, ◌≤◌, List, length, take, map, arith, sym, subst, ap, ◌∙◌}
use Rattle.dpx_base.specs.declared.sym.Sym.{Sym}
use Rattle.dpx_align.proofs.Answered.{some_group}
use Rattle.dpx_align.proofs.Taking.{size_lengthened, len_lengthened, even_lengthened, level_lengthened, holds_on}
use Rattle.dpx_align.proofs.Taking.{length-decoded}
use Rattle.dpx_align.proofs.Taking.{enough}
use Rattle.dpx_align.specs.Lock.{sr_group, lane_of}
use Rattle.dpx_align.specs.Search.{Even, Level, Holds, lengthened, decoded}
use Rattle.dpx_align.proofs.deskew.Deskew.take.Goals as goal

pub invariant_of-self : goal.invariant_of-self
invariant_of-self c =
    let old = c.args.self.now.rings in
    let rows = decoded c.args.rows.now.rows in
    let n = c.args.count in
    let lanes_there : length c.args.self.now.rings ≤ length (decoded c.args.rows.now.rows) =
    omega (arith, length-decoded c.args.rows.now.rows, c.requires.rows) in
    let rows_there = enough c.args.self.now.rings c.args.rows.now.rows c.args.count c.requires.rows c.requires.clocks in
    let k = c.push_rows.ensures in
    let size = size_lengthened old rows n in
    let z = c.args.self.now.lanes.0 in
    record {
      lanes = subst (λ (x : List (List Sym)). (0 < length x) × (length x ≤ 4)) (sym k)
          (omega (arith, c.args.self.now.lanes, size), omega (arith, c.args.self.now.lanes, size));
      even = λ f. subst (λ (x : List (List Sym)). Even x) (sym k)
          (even_lengthened old rows n z lanes_there rows_there (c.args.self.now.even f));
      level = subst (λ (x : List (List Sym)). Level x) (sym k)
          (level_lengthened old rows n lanes_there rows_there c.args.self.now.level);
      count = omega (
        arith,
        ap (λ (x : List (List Sym)). length (lane_of x 0)) k,
        len_lengthened old rows n 0 z lanes_there (rows_there 0 z),
        c.args.self.now.count,
      );
      few = c.requires.few;
    }

pub returns-clause-state : goal.returns-clause-state
returns-clause-state c lanes h =
    let group = sr_group c.args.self.now.enhanced in
    let rows = decoded c.args.rows.now.rows in
    let n = c.args.count in
    let lanes_there : length c.args.self.now.rings ≤ length (decoded c.args.rows.now.rows) =
    omega (arith, length-decoded c.args.rows.now.rows, c.requires.rows) in
    let rows_there = enough c.args.self.now.rings c.args.rows.now.rows c.args.count c.requires.rows c.requires.clocks in
    subst (λ (x : List (List Sym)). Holds c.args.self.now.locked group
    (lengthened lanes (map (λ row. take n row) rows)) x c.args.self.now.given) (sym c.push_rows.ensures)
    (holds_on c.args.self.now.locked group lanes c.args.self.now.rings rows c.args.self.now.given n
    (some_group c.args.self.now.enhanced) lanes_there rows_there h)

pub returns-clause-lanes : goal.returns-clause-lanes
returns-clause-lanes c =
    ap length c.push_rows.ensures ∙ size_lengthened c.args.self.now.rings (decoded c.args.rows.now.rows) c.args.count
